-- Document 01, 'Numbers returned when a call declines', 16: what writing a number into any buffer gives and leaves there.
-- Assumes nothing.
use Rattle.std.specs.Prelude.{Bool, List, [], ◌∷◌, ◌++◌, ℕ, ltb, length, drop, Result, Ok, Err}
use Rattle.std.proofs.Math.Option.{Option, none, some}
use Rattle.rule.specs.declared.Refusal.{Refusal}
use Rattle.rule.specs.declared.Refusal.TheVariants.{BufferShort}
use Rattle.rule.specs.Refusals.{number_of, first_of}
use Rattle.numbers.specs.Groups.{octets_of}

abbrev pub write_order : ℕ → ℕ → List (Bool × Refusal)
write_order n room = (ltb room (length (octets_of n)), BufferShort) ∷ []

-- document 01's number (0: accepted), how many octets are written, and the buffer as it is left
pub record Writing : Type 0 where
  pub number : ℕ
  pub count : ℕ
  pub buffer : List ℕ

abbrev pub writing : Option Refusal → ℕ → List ℕ → Writing
writing none n b = record { number = 0; count = length (octets_of n); buffer = octets_of n ++ drop (length (octets_of n)) b }
writing (some r) n b = record { number = number_of r; count = 0; buffer = b }

-- what is written stands at the front of the buffer, and the rest stays
unfoldable pub write_number : ℕ → List ℕ → Writing
write_number n b = writing (first_of (write_order n (length b))) n b

-- the number and the values of an answer, with the buffer
abbrev pub writing_of : Result ℕ Refusal → List ℕ → Writing
writing_of (Ok k) b = record { number = 0; count = k; buffer = b }
writing_of (Err r) b = record { number = number_of r; count = 0; buffer = b }
