-- `timetable::Times::regime_waiting` meets its contract: one law for each way out.
-- Assumes nothing.
use Rattle.timetable.proofs.Spans.{waiting_installed, waiting_bent, waiting-before}
use Rattle.timetable.proofs.Times.regime_waiting.Goals as goal

pub returns-then-self-t : goal.returns-then-self-t
returns-then-self-t c =
    waiting_installed _ _ c.if-self-t.true _ c.plain_to.ensures

pub returns-then-self-eq1 : goal.returns-then-self-eq1
returns-then-self-eq1 c =
    waiting_bent _ _ c.if-self-t.false c.if-self-eq1.true _ c.regime_bent.ensures

pub returns : goal.returns
returns c =
    waiting-before _ _ c.if-self-t.false c.if-self-eq1.false _ c.standing_to.ensures
