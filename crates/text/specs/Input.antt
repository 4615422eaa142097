-- What taking octets of standard input answers: how many octets of the buffer are taken, no fewer than before and no more than it has; or that a read failed.
-- Which octets come, and whether a read fails, no contract can say.
-- Assumes nothing.
use Rattle.std.specs.Prelude.{ℕ, ◌≤◌, max, Result, Ok, Err}
use Rattle.std.specs.declared.io.Error.{Error}

abbrev pub Takes : ℕ → ℕ → Result ℕ Error → Type 0
Takes used room (Ok n) = (used ≤ n) × (n ≤ max used room)
Takes used room (Err _) = Unit {0}
