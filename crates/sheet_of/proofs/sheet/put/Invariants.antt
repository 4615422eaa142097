-- `sheet_of::sheet::put` is safe: each number ends in the buffer, which keeps its length.
-- Assumes nothing.
use Rattle.std.proofs.Common.{◌≡◌, ◌≤◌, length}
use Rattle.sheet_of.proofs.sheet.put.Given as goal

abbrev pub invariant-loop-n : goal.invariant-loop-n
invariant-loop-n l = (l.at ≤ length l.out) × (length l.out ≡ length l.fn.out)
