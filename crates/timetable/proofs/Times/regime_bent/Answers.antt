-- `timetable::Times::regime_bent` meets its contract: the last old cycle has begun, or not.
-- Assumes nothing.
use Rattle.std.proofs.Common.{[]}
use Rattle.timetable.proofs.Spans.{last-is, bent_last, bent_early}
use Rattle.timetable.proofs.Times.regime_bent.Goals as goal

pub returns : goal.returns
returns c =
    let x = c.args.self in
    bent_last x c.args.t c.last_start-last.result (last-is x c.args.t _ (c.last_start-last.ensures [])) c.if-t-last.false _ c.saturating_sub.ensures

pub returns-then-t-last : goal.returns-then-t-last
returns-then-t-last c =
    let x = c.args.self in
    bent_early x c.args.t c.last_start-last.result (last-is x c.args.t _ (c.last_start-last.ensures [])) c.if-t-last.true _
    c.plain_to.ensures
