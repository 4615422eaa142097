-- What the conversion of a refusal to its number and `first` promise, and the answer that an order of tests comes to.
-- Assumes nothing.
use Rattle.std.specs.Prelude.{◌≡◌, Bool, cond, ℕ, Ok, Err}
use Rattle.std.proofs.Math.Option.{Option, none, some}
use Rattle.rule.specs.declared.Refusal.{Refusal}
use Rattle.rule.specs.Refusals.{number_of, Answer}

-- what a refusal's number is, as `u8::from` gives it
abbrev pub Numbers : Refusal → ℕ → Type 0
Numbers r n = n ≡ number_of r

-- an act is done, or refused
abbrev pub answer_of : Option Refusal → Answer
answer_of none = Ok tt
answer_of (some r) = Err r

-- one test of an order, and the answer of the tests behind it
unfoldable pub first_answer : Bool → Refusal → Answer → Answer
first_answer test r rest = cond test (Err r) rest

-- what `first` promises of its answer
abbrev pub First : Bool → Refusal → Answer → Answer → Type 0
First test r rest a = a ≡ first_answer test r rest
