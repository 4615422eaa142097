-- `numbers::put` meets its contract: the loop's invariant is that the first groups stand at the front of the buffer, the rest's are to come, and behind
-- them the buffer is as it was; the measure is the rest.
-- Assumes nothing.
use Rattle.numbers.proofs.Writing.{Filling}
use Rattle.numbers.proofs.put.Given as goal

abbrev pub invariant-loop-rest : goal.invariant-loop-rest
invariant-loop-rest l = Filling l.n l.initial.out l.out l.rest l.i

abbrev pub decreases-loop-rest : goal.decreases-loop-rest
decreases-loop-rest l = l.rest
