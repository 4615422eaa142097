-- `course::periods::repeat_later` meets its contract. The loop's invariant: the places from n to before i are written. The measure: the places that are left.
-- Assumes nothing.
use Rattle.std.proofs.Common.{◌-◌, ◌≤◌}
use Rattle.course.specs.Period.{WrittenAgain, later}
use Rattle.course.proofs.periods.repeat_later.Given as goal

abbrev pub invariant-loop-i : goal.invariant-loop-i
invariant-loop-i l = ((l.n ≤ l.i) × (l.i ≤ l.end)) × WrittenAgain (later l.time) l.count l.n l.i l.initial.instants l.instants

abbrev pub decreases-loop-i : goal.decreases-loop-i
decreases-loop-i l = l.end - l.i
