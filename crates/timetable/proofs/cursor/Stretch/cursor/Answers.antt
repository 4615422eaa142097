-- `timetable::cursor::Stretch::cursor` meets its contract: the entry found, if it is the last one, stops with the cycle, another one at its end or with the cycle.
-- Assumes nothing.
use Rattle.std.proofs.Common.{refl, ap, ◌∙◌, arith}
use Rattle.gatelist.specs.Lookup.{place_at}
use Rattle.timetable.proofs.Cursors.{cursor_last, cursor_rest}
use Rattle.timetable.proofs.cursor.Stretch.cursor.Goals as goal

pub returns-then-last : goal.returns-then-last
returns-then-last c =
    let s = c.args.self in
    cursor_last s.list.intervals.now s.list.len s.period s.base s.from c.entry_at-place.result
    (c.entry_at-place.ensures ∙ ap (place_at s.list.intervals.now s.list.len) c.saturating_sub.ensures) _ refl _ c.saturating_sub-2.ensures c.if-last.true

pub returns-else-last : goal.returns-else-last
returns-else-last c =
    let s = c.args.self in
    cursor_rest s.list.intervals.now s.list.len s.period s.base s.from c.entry_at-place.result
    (c.entry_at-place.ensures ∙ ap (place_at s.list.intervals.now s.list.len) c.saturating_sub.ensures) _ refl _ c.saturating_sub-2.ensures c.if-last.false _
    (omega (arith, c.min-stop.ensures, c.saturating_add.ensures))
