-- `text::stream::take_all` meets its contract: the loop's invariant is that the octets taken lie in the buffer, which keeps its length; the measure is the room that is
-- left.
-- Assumes nothing.
use mathlib.Core.Path.{◌≡◌}
use Prim.Native.Nat.{◌≤◌, ◌-◌}
use lib.ListN.{length}
use Rattle.text.proofs.stream.take_all.Given as goal

abbrev pub invariant-loop-used : goal.invariant-loop-used
invariant-loop-used g l = (l.used ≤ length l.initial.out) × (length l.out ≡ length l.initial.out)

abbrev pub decreases-loop-used : goal.decreases-loop-used
decreases-loop-used g l = length l.initial.out - l.used
