-- `course::Walk::walk_span` meets its contract: the standing octet is passed, and a list that rules is walked.
-- Assumes nothing.
use Rattle.course.proofs.BySpans.{span_flat, span_reportable, span_walks}
use Rattle.course.proofs.Walk.walk_span.Goals as goal

pub invariant_of-leg : goal.invariant_of-leg
invariant_of-leg c =
    let a = c.args in
    record { reportable = span_reportable a.g.now a.t a.span c.requires.ahead c.in-Some.which c.in-Some.is _ c.list.ensures c.requires.fine }

pub returns-in-None-clause-walked : goal.returns-in-None-clause-walked
returns-in-None-clause-walked c =
    let a = c.args in
    span_flat a.g.now a.t a.span c.requires.ahead c.in-None.is a.self.now c.pass.result c.pass.new.self c.pass.ensures.passed

pub returns-in-Some-clause-walked : goal.returns-in-Some-clause-walked
returns-in-Some-clause-walked c =
    let a = c.args in
    span_walks a.g.now a.t a.span c.requires.ahead c.in-Some.which c.in-Some.is _ c.list.ensures a.self.now c.walk_ruled.result c.walk_ruled.new.self c.walk_ruled.ensures.walked
