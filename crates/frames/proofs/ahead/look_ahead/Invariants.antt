-- `frames::ahead::look_ahead` meets its contract. The loop's invariant: what is known of the gates before t. The measure: the instants left to last.
-- Assumes nothing.
use Rattle.std.proofs.Common.{◌-◌, ◌≤◌}
use Rattle.rule.specs.Timetable.{shown}
use Rattle.timetable.specs.Coding.{decode}
use Rattle.frames.specs.Ahead.{Tells}
use Rattle.frames.proofs.ahead.look_ahead.Given as goal

abbrev pub invariant-loop-t : goal.invariant-loop-t
invariant-loop-t l = (l.g.times.clock ≤ l.t) × Tells (shown (decode l.g)) l.g.times.clock l.t l.wanted l.ends l.known

abbrev pub decreases-loop-t : goal.decreases-loop-t
decreases-loop-t l = l.last - l.t
