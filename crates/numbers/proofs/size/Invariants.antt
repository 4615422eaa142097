-- `numbers::size` meets its contract: the loop's invariant is that k octets and those of the rest, less one, are the number's; the measure is the rest.
-- Assumes nothing.
use mathlib.Core.Path.{◌≡◌}
use Prim.Native.Nat.{◌+◌, ◌≤◌}
use lib.ListN.{length}
use Rattle.numbers.specs.Groups.{octets_of}
use Rattle.numbers.proofs.size.Given as goal

abbrev pub invariant-loop-rest : goal.invariant-loop-rest
invariant-loop-rest l = (l.k + length (octets_of l.rest) ≡ 1 + length (octets_of l.n)) × (l.k + l.rest ≤ l.n + 1)

abbrev pub decreases-loop-rest : goal.decreases-loop-rest
decreases-loop-rest l = l.rest
