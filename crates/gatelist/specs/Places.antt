-- What the loops over the 128 places of a list find, one array at a time, and what the check of a list tells; the list with its unused places set to zero.
-- Assumes nothing.
use Rattle.std.specs.Prelude.{◌≡◌, Bool, not, ◌&&◌, ◌||◌, List, ℕ, ltb, eqb, length, get_or, take}
use Rattle.rule.specs.Limits.{largest_list}
use Rattle.gatelist.specs.declared.GateList.{GateList}
use Rattle.gatelist.specs.Coding.{padded}
use Rattle.gatelist.specs.Sound.{list_formed}

-- the unused places of a record set to zero
unfoldable pub cleaned_list : GateList → GateList
cleaned_list l = record { octets = padded (take l.len l.octets); intervals = padded (take l.len l.intervals); len = l.len }

-- the lengths that the arrays' types give
pub record Places (l : GateList) : Type 0 where
  pub octets : length l.octets ≡ largest_list
  pub intervals : length l.intervals ≡ largest_list

-- the place k, with n in use, is no used place with the interval 0
unfoldable pub used_ok : List ℕ → ℕ → ℕ → Bool
used_ok is n k = not (ltb k n && eqb (get_or is k 0) 0)

-- the place k, with n in use, is no unused place with something else than 0
unfoldable pub rest_ok : List ℕ → ℕ → ℕ → Bool
rest_ok xs n k = ltb k n || eqb (get_or xs k 0) 0

-- the answer of the check, with what the record's type says of its arrays
pub record Checked (l : GateList) (there answer : Bool) : Type 0 where
  pub found : answer ≡ list_formed there l
  pub places : Places l

-- that holds of the default of a type that has one
abbrev pub TestsNone : {A : Type 0} → (A → Type 0) → (A → Type 0) → Type 0
TestsNone {A} is_default P = (none : A) → ((x : A) → is_default x → x ≡ none) → P none
