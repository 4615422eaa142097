-- `course::Walk::walk_to` meets its contract. The loop's invariant: every change before t is written. The measure: the instants left to the goal.
-- Assumes nothing.
use Rattle.std.proofs.Common.{◌+◌, ◌-◌, ◌<◌, ◌≤◌}
use Rattle.course.specs.Journey.{SameLoans, Written, journey_of}
use Rattle.course.proofs.Walk.walk_to.Given as goal

abbrev pub invariant-loop-t : goal.invariant-loop-t
invariant-loop-t l = ((l.g.times.clock < l.t) × (l.t ≤ l.goal + 1))
    × (Written (journey_of l.g l.goal l.initial.self.instants.now l.initial.self.octets.now) (l.t - 1) l.self × SameLoans l.initial.self l.self)

abbrev pub decreases-loop-t : goal.decreases-loop-t
decreases-loop-t l = l.goal + 1 - l.t
