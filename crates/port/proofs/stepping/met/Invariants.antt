-- `port::stepping::met` meets its contract. The loop's invariant: the changes before place i are behind, and no closed gate was met.
-- Assumes nothing.
use Rattle.std.proofs.Common.{◌≤◌}
use Rattle.port.proofs.Reading.{Back}
use Rattle.port.proofs.stepping.met.Given as goal

abbrev pub invariant-loop-i : goal.invariant-loop-i
invariant-loop-i l = (l.i ≤ l.reached.written) × Back l.f l.octet l.clock l.reached.at l.reached.written l.instants l.octets l.i l.from l.shown
