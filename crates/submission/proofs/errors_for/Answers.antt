-- `submission::errors_for` meets its contract: the count goes up, or stays.
-- Assumes nothing.
use Rattle.std.proofs.Common.{sym}
use Rattle.rule.specs.Timetable.{raise}
use Rattle.submission.specs.Placement.{errors_for}
use Rattle.submission.proofs.errors_for.Goals as goal

pub returns-then-base-x : goal.returns-then-base-x
unfolding errors_for raise
returns-then-base-x c = sym (rw c.if-base-x.true)

pub returns : goal.returns
unfolding errors_for
returns c = sym (rw c.if-base-x.false)
