-- `frames::choosing::asked` meets its contract. The loop's invariant: what the heads before k come to (`Asks`).
-- Assumes nothing.
use Rattle.std.proofs.Common.{◌≡◌, length}
use Rattle.frames.specs.Choosing.{Asks}
use Rattle.frames.proofs.choosing.asked.Given as goal

abbrev pub invariant-loop-k : goal.invariant-loop-k
invariant-loop-k l = (length l.each ≡ 8) × Asks l.fn.heads l.speed l.t l.k l.wanted l.last l.each
