-- `gatelist::all_none` meets its contract: the loop's invariant is that `clear` says it of the places so far.
-- Assumes nothing.
use Rattle.std.proofs.Common.{◌≡◌, take}
use Rattle.std.specs.List.{list_all}
use Rattle.gatelist.proofs.all_none.Given as goal

abbrev pub invariant-loop-x : goal.invariant-loop-x
invariant-loop-x g l = l.clear ≡ list_all (λ x. g.T.PartialEq.eq x l.none) (take l.x-index l.places)
