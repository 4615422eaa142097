-- `timetable::Times::last_start` meets its contract: the later of the start that covers the change and the one after the submission.
-- Assumes nothing.
use Rattle.std.proofs.Common.{◌∙◌, arith}
use Rattle.timetable.proofs.Beginnings.{last_covers, last-next}
use Rattle.timetable.proofs.Times.last_start.Goals as goal

pub returns-then-running-covers : goal.returns-then-running-covers
returns-then-running-covers c =
    λ l. last_covers c.args.self l c.saturating_sub-before.result c.plain_start-running.result c.plain_start-covers.result c.saturating_sub-before.ensures c.plain_start-running.ensures
    (rw c.saturating_sub.ensures at c.plain_start-covers.ensures) c.if-running-covers.true _ c.min.ensures

pub returns : goal.returns
returns c =
    λ l. last-next c.args.self l c.saturating_sub-before.result c.plain_start-running.result c.plain_start-covers.result c.saturating_sub-before.ensures c.plain_start-running.ensures
    (rw c.saturating_sub.ensures at c.plain_start-covers.ensures) c.if-running-covers.false _ (c.min-2.ensures ∙ omega (arith, c.saturating_add.ensures))
