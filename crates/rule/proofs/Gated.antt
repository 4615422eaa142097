-- A port's gates go as their timetable alone would: time, changes and any series of calls (`run-gates`), with the acts on the gates taken out of the
-- port's. So what is proved of a timetable holds of the gates of a port.
-- Assumes nothing.
use mathlib.Core.Path.{◌≡◌, refl, ap, sym, ◌∙◌}
use mathlib.Core.Bool.{Bool, true, false, cond}
use mathlib.Core.List.{List, [], ◌∷◌, ◌++◌, reverse, reverse_aux}
use Prim.Native.Nat.{ℕ, zero, suc, ◌-◌}
use lib.Dec.{eqb}
use Rattle.rule.specs.Timetable.{Timetable, shown_now, tick}
use Rattle.rule.specs.Port.{Port, port_tick}
use Rattle.rule.specs.Acts.{GateAct, Act, gates, transmit, perform_gates, perform}
use Rattle.rule.specs.Orders.{accepts_gates, accepts, accepts_goal}
use Rattle.rule.specs.Machine.{onward, ticks, noted, log, reach, Outcome}
use Rattle.rule.specs.Series.{Call, step, attempt, with_act, elapsed, run}
use Rattle.rule.specs.Machines.{machine}
use Rattle.rule.specs.TimetableMachine.{timetable_machine}
use Rattle.rule.specs.Frames.{gate_acts}

-- time

pub tick-gates : (p : Port) → (port_tick p).gates ≡ tick p.gates
unfolding port_tick tick
tick-gates p = refl

pub ticks-gates : (n : ℕ) (p : Port) → (ticks machine n p).gates ≡ ticks timetable_machine n p.gates
unfolding ticks
ticks-gates zero p = refl
ticks-gates (suc n) p = ticks-gates n (port_tick p) ∙ ap (ticks timetable_machine n) (tick-gates p)

noted-gates : (b : Bool) (p : Port) (l : List (ℕ × ℕ)) → noted machine b p l ≡ noted timetable_machine b p.gates l
unfolding noted
noted-gates true p l = refl
noted-gates false p l = refl

pub log-gates : (n : ℕ) (p : Port) → log machine n p ≡ log timetable_machine n p.gates
unfolding log
log-gates zero p = refl
log-gates (suc n) p =
    noted-gates (eqb (shown_now p.gates) (shown_now (port_tick p).gates)) (port_tick p) (log machine n (port_tick p))
    ∙ ap (noted timetable_machine (eqb (shown_now p.gates) (shown_now (port_tick p).gates)) (port_tick p).gates) (log-gates n (port_tick p))
    ∙ ap (λ q. noted timetable_machine (eqb (shown_now p.gates) (shown_now q)) q (log timetable_machine n q)) (tick-gates p)

onward_as : (b : Bool) (m : ℕ) (f g : ℕ → ℕ) → ((r : ℕ) → f r ≡ g r) → onward b m f ≡ onward b m g
onward_as true m f g e = ap suc (e m)
onward_as false zero f g e = refl
onward_as false (suc r) f g e = ap suc (e r)

pub reach-gates : (n m : ℕ) (p : Port) → reach machine n m p ≡ reach timetable_machine n m p.gates
unfolding reach
reach-gates zero m p = refl
reach-gates (suc n) m p =
    onward_as (eqb (shown_now p.gates) (shown_now (port_tick p).gates)) m (λ r. reach machine n r (port_tick p)) (λ r. reach timetable_machine n r (port_tick p).gates)
    (λ r. reach-gates n r (port_tick p))
    ∙ ap (λ q. onward (eqb (shown_now p.gates) (shown_now q)) m (λ r. reach timetable_machine n r q)) (tick-gates p)

-- calls

abbrev pub gate_calls : List (Call Act) → List (Call GateAct)
gate_calls [] = []
gate_calls (step goal room ∷ cs) = step goal room ∷ gate_calls cs
gate_calls (attempt (gates a) ∷ cs) = attempt a ∷ gate_calls cs
gate_calls (attempt (transmit heads speed) ∷ cs) = gate_calls cs

-- a port's outcome, as far as its gates go
abbrev pub gated : Outcome Port ℕ Act → Outcome Timetable ℕ GateAct
gated o = record { port = o.port.gates; out = o.out; acts = gate_acts o.acts }

elapsed-gates : (goal room : ℕ) (p : Port) → elapsed machine (step goal room) p ≡ elapsed timetable_machine (step goal room) p.gates
unfolding elapsed
elapsed-gates goal room p = ap (λ k. cond (accepts_goal goal p.gates) k 0) (reach-gates (goal - p.gates.clock) room p)

pub run-gates : (cs : List (Call Act)) (p : Port) → run timetable_machine (gate_calls cs) p.gates ≡ gated (run machine cs p)
unfolding run gate_acts perform accepts accepts_gates
run-gates [] p = refl
run-gates (step goal room ∷ cs) p =
    let k : ℕ = elapsed machine (step goal room) p in
    let j : ℕ = elapsed timetable_machine (step goal room) p.gates in
    let e : k ≡ j = elapsed-gates goal room p in
    let q : ticks timetable_machine j p.gates ≡ (ticks machine k p).gates = ap (λ n. ticks timetable_machine n p.gates) (sym e) ∙ sym (ticks-gates k p) in
    let l : log timetable_machine j p.gates ≡ log machine k p = ap (λ n. log timetable_machine n p.gates) (sym e) ∙ sym (log-gates k p) in
    let r : run timetable_machine (gate_calls cs) (ticks timetable_machine j p.gates) ≡ gated (run machine cs (ticks machine k p)) =
    ap (run timetable_machine (gate_calls cs)) q ∙ run-gates cs (ticks machine k p) in
    λ i. record { port = (r i).port; out = l i ++ (r i).out; acts = (r i).acts }
run-gates (attempt (gates a) ∷ cs) p = go (accepts_gates a p.gates) (run-gates cs (perform (gates a) p)) (run-gates cs p)
  where
    go : (b : Bool) → run timetable_machine (gate_calls cs) (perform_gates a p.gates) ≡ gated (run machine cs (perform (gates a) p))
        → run timetable_machine (gate_calls cs) p.gates ≡ gated (run machine cs p)
        → cond b (with_act p.gates.clock a (run timetable_machine (gate_calls cs) (perform_gates a p.gates))) (run timetable_machine (gate_calls cs) p.gates)
        ≡ gated (cond b (with_act p.gates.clock (gates a) (run machine cs (perform (gates a) p))) (run machine cs p))
    go true x y = ap (with_act p.gates.clock a) x
    go false x y = y
run-gates (attempt (transmit heads speed) ∷ cs) p =
    go (accepts (transmit heads speed) p) (run-gates cs (perform (transmit heads speed) p)) (run-gates cs p)
  where
    go : (b : Bool) → run timetable_machine (gate_calls cs) p.gates ≡ gated (run machine cs (perform (transmit heads speed) p))
        → run timetable_machine (gate_calls cs) p.gates ≡ gated (run machine cs p) → run timetable_machine (gate_calls cs) p.gates
        ≡ gated (cond b (with_act p.gates.clock (transmit heads speed) (run machine cs (perform (transmit heads speed) p))) (run machine cs p))
    go true x y = x
    go false x y = y

-- the acts on the gates, the other way round
gates_onto : (l h : List (ℕ × Act)) → gate_acts (reverse_aux l h) ≡ reverse_aux (gate_acts l) (gate_acts h)
unfolding gate_acts
gates_onto [] h = refl
gates_onto ((t, gates a) ∷ l) h = gates_onto l ((t, gates a) ∷ h)
gates_onto ((t, transmit heads speed) ∷ l) h = gates_onto l ((t, transmit heads speed) ∷ h)

pub gates-reverse : (l : List (ℕ × Act)) → gate_acts (reverse l) ≡ reverse (gate_acts l)
unfolding gate_acts
gates-reverse l = gates_onto l []
