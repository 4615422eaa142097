-- Document 01, the sentence on 14, as far as it concerns a list record: a present list has 1 to 128 entries, used intervals not 0, unused places 0;
-- an absent one is all zeros.
-- Assumes nothing.
use Rattle.std.specs.Prelude.{Bool, true, cond, not, ◌&&◌, List, ℕ, zero, suc, ltb, eqb, get_or}
use Rattle.rule.specs.Limits.{largest_list}
use Rattle.rule.specs.Orders.{length_offered}
use Rattle.gatelist.specs.declared.GateList.{GateList}

-- p holds of every number below n
unfoldable pub every_below : (ℕ → Bool) → ℕ → Bool
every_below p zero = true
every_below p (suc n) = every_below p n && p n

-- the place k, with n in use
unfoldable pub place_ok : List ℕ → List ℕ → ℕ → ℕ → Bool
place_ok os is n k = cond (ltb k n) (not (eqb (get_or is k 0) 0)) (eqb (get_or is k 0) 0 && eqb (get_or os k 0) 0)

unfoldable pub places_ok : GateList → Bool
places_ok l = every_below (place_ok l.octets l.intervals l.len) largest_list

unfoldable pub list_ok : GateList → Bool
list_ok l = length_offered l.len && places_ok l

-- no entry, and every place unused
unfoldable pub list_none : GateList → Bool
list_none l = eqb l.len 0 && places_ok l

-- a list that is there, or an absent one
unfoldable pub list_formed : Bool → GateList → Bool
list_formed there l = cond there (list_ok l) (list_none l)
