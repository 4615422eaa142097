-- A tick is one instant and an act takes no time: of a timetable and of a port.
-- Assumes nothing.
use mathlib.Core.Path.{◌≡◌, refl}
use Prim.Native.Nat.{suc}
use Rattle.rule.specs.Timetable.{Timetable, tick}
use Rattle.rule.specs.Port.{Port, port_tick}
use Rattle.rule.specs.Acts.{GateAct, on, off, standing, submit, strict, submitted, perform_gates, Act, gates, transmit, perform}
use Rattle.rule.specs.Machines.{machine}
use Rattle.rule.specs.TimetableMachine.{timetable_machine}
use Rattle.rule.proofs.Cut.{Lawful}

clock-gates : (a : GateAct) (p : Timetable) → (perform_gates a p).clock ≡ p.clock
unfolding submitted
clock-gates on p = refl
clock-gates off p = refl
clock-gates (standing octet) p = refl
clock-gates (submit x) p = refl
clock-gates (strict x) p = refl

clock-tick : (p : Timetable) → (tick p).clock ≡ suc p.clock
unfolding tick
clock-tick p = refl

pub clock-perform : (a : Act) (p : Port) → (perform a p).gates.clock ≡ p.gates.clock
unfolding perform
clock-perform (gates a) p = clock-gates a p.gates
clock-perform (transmit heads speed) p = refl

port_tick_lem : (p : Port) → (port_tick p).gates.clock ≡ suc p.gates.clock
unfolding port_tick
port_tick_lem p = refl

pub timetable_lawful : Lawful timetable_machine
timetable_lawful = record { clock-tick = clock-tick; clock-perform = clock-gates }

pub lawful : Lawful machine
lawful = record { clock-tick = port_tick_lem; clock-perform = clock-perform }
