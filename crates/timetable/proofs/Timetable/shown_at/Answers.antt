-- `timetable::Timetable::shown_at` meets its contract: the standing octet, or the list of the span that rules at t is read from its start.
-- Assumes nothing.
use Rattle.std.proofs.Common.{ap, ◌∙◌}
use Rattle.rule.specs.Entries.{octet_at}
use Rattle.gatelist.specs.Coding.{list_of}
use Rattle.timetable.specs.Coding.{decode}
use Rattle.timetable.proofs.Spans.{shown-flat, shown_listed, list_by}
use Rattle.timetable.proofs.Timetable.shown_at.Goals as goal

pub returns-in-None : goal.returns-in-None
unfolding decode
returns-in-None c =
    shown-flat c.args.self.now.times _ _ c.args.t c.regime-span.result c.regime-span.ensures c.in-None.is

pub returns-in-Some : goal.returns-in-Some
unfolding decode
returns-in-Some c =
    shown_listed c.args.self.now.times _ _ c.args.t c.regime-span.result c.regime-span.ensures c.in-Some.which c.in-Some.is c.saturating_sub-offset.result _ c.saturating_sub-offset.ensures
    (c.octet_at.ensures ∙ ap (λ l. octet_at l c.saturating_sub-offset.result) (ap list_of c.list.ensures ∙ list_by c.args.self.now c.in-Some.which))
