-- A port as a machine: document 01's acts and orders.
-- Assumes nothing.
use Rattle.std.specs.Prelude.{ℕ, eqb}
use Rattle.rule.specs.Machine.{Machine}
use Rattle.rule.specs.Timetable.{shown_now}
use Rattle.rule.specs.Port.{Port, port_tick}
use Rattle.rule.specs.Acts.{Act, perform}
use Rattle.rule.specs.Orders.{accepts, accepts_goal}

abbrev pub machine : Machine
machine = record {
  State = Port;
  Out = ℕ;
  Act = Act;
  clock = λ p. p.gates.clock;
  tick = port_tick;
  now = λ p. shown_now p.gates;
  same = eqb;
  accepts = accepts;
  perform = perform;
  accepts_goal = λ goal p. accepts_goal goal p.gates;
}
