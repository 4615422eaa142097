-- `timetable::cursor::entry_from` meets its contract: the last entry stops with the cycle, another one at its end or with the cycle.
-- Assumes nothing.
use Rattle.std.proofs.Common.{◌∙◌, arith}
use Rattle.timetable.proofs.Cursors.{enters_last, enters_rest}
use Rattle.timetable.proofs.cursor.entry_from.Goals as goal

pub returns-then-last : goal.returns-then-last
returns-then-last c =
    enters_last _ _ _ _ _ _ (c.min.ensures ∙ omega (arith, c.saturating_sub.ensures)) c.if-last.true

pub returns-else-last : goal.returns-else-last
returns-else-last c =
    enters_rest _ _ _ _ _ _ (c.min.ensures ∙ omega (arith, c.saturating_sub.ensures)) c.if-last.false _ _ c.wide.ensures.0 (omega (arith, c.min-stop.ensures, c.saturating_add.ensures))
