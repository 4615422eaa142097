-- Document 01, 'The list and its octets' (17.7.22) and, of 'Numbers returned when a call declines', the orders of Read and Write: what reading any
-- octets with any stated length gives, and what writing any record into any buffer gives and leaves there.
-- Where 01 narrows the standard: the operation is SetGateStates alone, and an interval is at least 1.
-- Assumes nothing.
use Rattle.std.specs.Prelude.{◌≡◌, Bool, not, List, [], ◌∷◌, ◌++◌, ℕ, zero, suc, ◌+◌, ◌*◌, ◌/◌, ◌%◌, ltb, eqb, length, get_or, drop, Result, Ok, Err}
use Rattle.std.proofs.Math.Option.{Option, none, some}
use Rattle.rule.specs.declared.Refusal.{Refusal}
use Rattle.rule.specs.declared.Refusal.TheVariants.{CutShort, Operation, LengthOctet, ZeroInterval, ListLength, BufferShort}
use Rattle.rule.specs.Refusals.{number_of, first_of}
use Rattle.rule.specs.Orders.{length_offered, has_zero_interval}
use Rattle.rule.specs.Entries.{Entry}
use Rattle.gatelist.specs.declared.GateList.{GateList}
use Rattle.octets.specs.declared.ReadError.{ReadError}
use Rattle.gatelist.specs.Coding.{list_from, list_of, encode_list, empty_list}

-- an entry is seven octets: operation 0, length 5, gate octet, interval in ns as four octets, most significant first

abbrev pub entry_octets : Entry → List ℕ
entry_octets e =
    let v : ℕ = e.interval in
    0 ∷ 5 ∷ e.octet ∷ v / 16_777_216 % 256 ∷ v / 65_536 % 256 ∷ v / 256 % 256 ∷ v % 256 ∷ []

unfoldable pub octets_of : List Entry → List ℕ
octets_of [] = []
octets_of (e ∷ l) = entry_octets e ++ octets_of l

abbrev pub interval_at : List ℕ → ℕ → ℕ
interval_at s at = get_or s at 0 * 16_777_216 + get_or s (at + 1) 0 * 65_536 + get_or s (at + 2) 0 * 256 + get_or s (at + 3) 0

-- entry k of the octets
abbrev pub entry_at : List ℕ → ℕ → Entry
entry_at s k = record { octet = get_or s (7 * k + 2) 0; interval = interval_at s (7 * k + 3) }

-- Read: 5 for the length; per entry 1 (two header octets), 2, 3, 1 (five octets), 4; at last 5. Each with its place

abbrev pub stated_order : ℕ → List (Bool × Refusal)
stated_order n = (not (length_offered n), ListLength) ∷ []

abbrev pub entry_order : List ℕ → ℕ → List (Bool × Refusal)
entry_order s at =
    (ltb (length s) (at + 2), CutShort) ∷ (not (eqb (get_or s at 0) 0), Operation) ∷ (not (eqb (get_or s (at + 1) 0) 5), LengthOctet)
    ∷ (ltb (length s) (at + 7), CutShort) ∷ (eqb (interval_at s (at + 3)) 0, ZeroInterval) ∷ []

abbrev pub surplus_order : List ℕ → ℕ → List (Bool × Refusal)
surplus_order s at = (ltb at (length s), ListLength) ∷ []

abbrev pub refused_at : ℕ → Option Refusal → Option (Refusal × ℕ) → Option (Refusal × ℕ)
refused_at at none next = next
refused_at at (some r) next = some (r, at)

-- from entry i on, with n still to come
unfoldable pub refusal_from : List ℕ → ℕ → ℕ → Option (Refusal × ℕ)
refusal_from s i zero = refused_at (7 * i) (first_of (surplus_order s (7 * i))) none
refusal_from s i (suc n) = refused_at (7 * i) (first_of (entry_order s (7 * i))) (refusal_from s (suc i) n)

unfoldable pub read_refusal : List ℕ → ℕ → Option (Refusal × ℕ)
read_refusal s n = refused_at 0 (first_of (stated_order n)) (refusal_from s 0 n)

-- what is read: document 01's number (0: accepted), the refusal's place, and the list; that of a refused reading is the list of all zeros
pub record Reading : Type 0 where
  pub number : ℕ
  pub place : ℕ
  pub list : GateList

abbrev pub reading : Option (Refusal × ℕ) → GateList → Reading
reading none l = record { number = 0; place = 0; list = l }
reading (some x) l = record { number = number_of x.0; place = x.1; list = empty_list }

unfoldable pub read_list : List ℕ → ℕ → Reading
read_list s n = reading (read_refusal s n) (encode_list (list_from (entry_at s) 0 n))

-- the number and the values of an answer; with a refusal comes no list, which stands for the list of all zeros
abbrev pub reading_of : Result GateList ReadError → Reading
reading_of (Ok l) = record { number = 0; place = 0; list = l }
reading_of (Err e) = record { number = number_of e.refusal; place = e.place; list = empty_list }

-- what `read` promises of its answer
abbrev pub Reads : List ℕ → ℕ → Result GateList ReadError → Type 0
Reads s n r = reading_of r ≡ read_list s n

-- Write: 5, 4, 16; what is written stands at the front of the buffer, and the rest stays
abbrev pub write_order : GateList → ℕ → List (Bool × Refusal)
write_order l room =
    (not (length_offered l.len), ListLength) ∷ (has_zero_interval (list_of l), ZeroInterval) ∷ (ltb room (7 * l.len), BufferShort) ∷ []

-- document 01's number (0: accepted), how many octets are written, and the buffer as it is left
pub record Writing : Type 0 where
  pub number : ℕ
  pub count : ℕ
  pub buffer : List ℕ

abbrev pub writing : Option Refusal → GateList → List ℕ → Writing
writing none l b = record { number = 0; count = 7 * l.len; buffer = octets_of (list_of l) ++ drop (7 * l.len) b }
writing (some r) l b = record { number = number_of r; count = 0; buffer = b }

unfoldable pub write_list : GateList → List ℕ → Writing
write_list l b = writing (first_of (write_order l (length b))) l b

-- the number and the values of an answer, with the buffer
abbrev pub writing_of : Result ℕ Refusal → List ℕ → Writing
writing_of (Ok n) b = record { number = 0; count = n; buffer = b }
writing_of (Err r) b = record { number = number_of r; count = 0; buffer = b }

-- what `write` promises of its answer and of the buffer's content b' afterwards
abbrev pub Writes : GateList → List ℕ → Result ℕ Refusal → List ℕ → Type 0
Writes l b r b' = writing_of r b' ≡ write_list l b
