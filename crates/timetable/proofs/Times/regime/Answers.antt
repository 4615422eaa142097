-- `timetable::Times::regime` meets its contract: one law for each way out.
-- Assumes nothing.
use Rattle.timetable.proofs.Spans.{rules_off, rules_waiting, rules_standing, rules_operating}
use Rattle.timetable.proofs.Times.regime.Goals as goal

pub returns-then-self-ne1 : goal.returns-then-self-ne1
returns-then-self-ne1 c =
    rules_off _ _ c.if-self-ne1.true _ c.standing_to.ensures

pub returns-then-self-eq1 : goal.returns-then-self-eq1
returns-then-self-eq1 c =
    rules_waiting _ _ c.if-self-ne1.false c.if-self-eq1.true _ c.regime_waiting.ensures

pub returns-then-self-ne1-2 : goal.returns-then-self-ne1-2
returns-then-self-ne1-2 c =
    rules_standing _ _ c.if-self-ne1.false c.if-self-eq1.false c.if-self-ne1-2.true _ c.standing_to-then-self-ne1-2.ensures

pub returns : goal.returns
returns c =
    rules_operating _ _ c.if-self-ne1.false c.if-self-eq1.false c.if-self-ne1-2.false _ c.plain_to.ensures
