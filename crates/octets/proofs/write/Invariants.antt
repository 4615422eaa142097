-- `octets::write` meets its contract: the loop's invariant is that the octets of the first i entries stand at the front of the buffer and the rest is as
-- it was.
-- Assumes nothing.
use mathlib.Core.Path.{◌≡◌}
use mathlib.Core.List.{◌++◌}
use Prim.Native.Nat.{◌*◌}
use lib.ListN.{drop}
use Rattle.gatelist.specs.Coding.{entries_from}
use Rattle.octets.specs.Octets.{octets_of}
use Rattle.octets.proofs.write.Given as goal

abbrev pub invariant-loop-i : goal.invariant-loop-i
invariant-loop-i l = l.buffer ≡ octets_of (entries_from l.list.octets l.list.intervals 0 l.i) ++ drop (7 * l.i) l.initial.buffer
