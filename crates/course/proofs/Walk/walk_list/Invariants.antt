-- `course::Walk::walk_list` meets its contract. The loop's invariant: a cursor on its way to the edge, and all changes before it written. The
-- measure: what is left of the stretch from the cursor on.
-- Assumes nothing.
use Rattle.std.proofs.Common.{◌-◌}
use Rattle.course.specs.Journey.{SameLoans}
use Rattle.course.specs.Stretch.{Keeps}
use Rattle.course.proofs.Walk.walk_list.Given as goal

abbrev pub invariant-loop-s : goal.invariant-loop-s
invariant-loop-s l = Keeps l.octets l.s.list.intervals.now l.s.list.len l.s.period l.edge l.initial.c l.initial.self l.c l.self
    × SameLoans l.initial.self l.self

abbrev pub decreases-loop-s : goal.decreases-loop-s
decreases-loop-s l = l.edge - l.c.from
