-- `course::periods::repeat` meets its contract. The loop's invariant: all is written up to before `done`, and the next places are those of so many rounds
-- before (`Doubles`). The measure: the places that are left.
-- Assumes nothing.
use Rattle.std.proofs.Common.{◌-◌}
use Rattle.course.proofs.Doubling.{Doubles}
use Rattle.course.proofs.periods.repeat.Given as goal

abbrev pub invariant-loop-done : goal.invariant-loop-done
invariant-loop-done l = Doubles l.count l.period l.n l.end l.initial.instants l.initial.octets l.size l.time l.done l.instants l.octets

abbrev pub decreases-loop-done : goal.decreases-loop-done
decreases-loop-done l = l.end - l.done
