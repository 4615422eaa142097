-- A timetable alone as a machine: the laws of gates are proved over it, and a port's gates run as it does.
-- Assumes nothing.
use Rattle.std.specs.Prelude.{ℕ, eqb}
use Rattle.rule.specs.Machine.{Machine}
use Rattle.rule.specs.Timetable.{Timetable, shown_now, tick}
use Rattle.rule.specs.Acts.{GateAct, perform_gates}
use Rattle.rule.specs.Orders.{accepts_gates, accepts_goal}

abbrev pub timetable_machine : Machine
timetable_machine = record {
  State = Timetable;
  Out = ℕ;
  Act = GateAct;
  clock = λ p. p.clock;
  tick = tick;
  now = shown_now;
  same = eqb;
  accepts = accepts_gates;
  perform = perform_gates;
  accepts_goal = accepts_goal;
}
