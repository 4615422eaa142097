-- `timetable::cursor::Stretch::advance` meets its contract: one law for each way out.
-- Assumes nothing.
use Rattle.std.proofs.Common.{refl, arith}
use Rattle.timetable.proofs.Cursors.{advances_wrap, advances_on}
use Rattle.timetable.proofs.cursor.Stretch.advance.Goals as goal

pub returns-then-c : goal.returns-then-c
returns-then-c c =
    let g = c.args in
    advances_wrap g.self.list.intervals.now g.self.list.len g.self.period g.c _ (omega arith) _ refl
    c.entry_from.ensures

pub returns : goal.returns
returns c =
    let g = c.args in
    advances_on g.self.list.intervals.now g.self.list.len g.self.period g.c _ (omega arith) _ refl
    c.entry_from-2.ensures
