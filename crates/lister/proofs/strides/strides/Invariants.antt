-- `lister::strides::strides` meets its contract: the loop's invariant is that the strides so far are one way, whose lines have so many octets; the measure is what
-- is left of the way.
-- Assumes nothing.
use Prim.Native.Nat.{◌-◌}
use Rattle.lister.specs.Pages.{clock_of, ListedUpTo}
use Rattle.lister.proofs.strides.strides.Given as goal

abbrev pub invariant-loop-rest : goal.invariant-loop-rest
invariant-loop-rest l = ListedUpTo l.fn.span l.rest l.octets

abbrev pub decreases-loop-rest : goal.decreases-loop-rest
decreases-loop-rest l = l.rest.end - clock_of l.rest.port
