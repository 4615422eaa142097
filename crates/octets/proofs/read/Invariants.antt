-- `octets::read` meets its contract: the loop's invariant.
-- Assumes nothing.
use Rattle.octets.proofs.Reading.{Midway}
use Rattle.octets.proofs.read.Given as goal

abbrev pub invariant-loop-i : goal.invariant-loop-i
invariant-loop-i l = Midway l.octets l.len l.gates l.intervals l.i
