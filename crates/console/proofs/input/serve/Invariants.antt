-- `console::input::serve` is safe: what is not answered begins within what is taken, which lies in the buffer.
-- Assumes nothing.
use Rattle.std.proofs.Common.{◌≡◌, ◌≤◌, length}
use Rattle.console.proofs.input.serve.Given as goal

abbrev pub invariant-loop : goal.invariant-loop
invariant-loop g l = (l.begun ≤ l.used) × (l.used ≤ 1048576) × (length l.taken ≡ 1048577)
