-- The proof of the cycle of calls {read_up_to}: the measure is what is left of the octets.
-- Assumes nothing.
use Rattle.std.proofs.Common.{◌-◌, length}
use Rattle.numbers.proofs.+read_up_to.Given as goal

abbrev pub decreases-read_up_to : goal.decreases-read_up_to
decreases-read_up_to l = length l.s.now - l.at
