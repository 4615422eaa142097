-- Demand 3 for a timetable and for a port: any series of calls. What they report and leave is read off the accepted acts and the end instant alone
-- (`timetable_demand`, `demand_3`); two series of calls with the same accepted acts, or the same acts tried and refused ones besides, have the same outcome. The octets, the changes
-- and the errors of a port are those of its timetable, with the acts on the gates.
-- Assumes nothing.
use mathlib.Core.Path.{◌≡◌, ap, sym, ◌∙◌, subst}
use mathlib.Core.List.{List, [], reverse}
use Prim.Native.Nat.{ℕ, ◌+◌, ◌^◌, ◌%◌, ◌<◌}
use native.Mathlib.Omega.{arith}
use lib.ListN.{get_or}
use Rattle.rule.specs.Timetable.{Timetable, shown_now, new_timetable}
use Rattle.rule.specs.Port.{Port, new_port}
use Rattle.rule.specs.Acts.{GateAct, Act}
use Rattle.rule.specs.Machine.{ticks, Outcome, replay, Besides}
use Rattle.rule.specs.Series.{Call, run, replay_log, tries}
use Rattle.rule.specs.Machines.{machine}
use Rattle.rule.specs.TimetableMachine.{timetable_machine}
use Rattle.rule.specs.History.{effective, rule_octet, rule_errors, rule_changes}
use Rattle.rule.specs.Frames.{gate_acts, octet_of, rule_overruns}
use Rattle.rule.proofs.Cut.{run-port, run_out, one-outcome, besides_acts}
use Rattle.rule.proofs.Laws.{timetable_lawful, lawful}
use Rattle.rule.proofs.Shown.{now-ticks}
use Rattle.rule.proofs.Gated.{ticks-gates, gate_calls, gated, run-gates, gates-reverse}
use Rattle.rule.proofs.Track.{tracks_new, tracks_run, tracks_shown}
use Rattle.rule.proofs.Replaced.{replaced_changes}
use Rattle.rule.proofs.Overrun.{run-overruns}

-- a timetable
-- acts: the accepted acts with their instants, the oldest first; out: the changes joined end to end; left: the timetable at the end
pub record TimetableDemand (t₀ s₀ : ℕ) (acts : List (ℕ × GateAct)) (out : List (ℕ × ℕ)) (left : Timetable) : Type 0 where
  -- the end and the changes of a run that has no steps, no rooms and no refusals
  pub final : left ≡ replay timetable_machine acts left.clock (new_timetable t₀ s₀)
  pub joined : out ≡ replay_log timetable_machine acts left.clock (new_timetable t₀ s₀)
  -- and, with no timetable in it at all, what the rule reads off the acts: the changes, the octet at the end and at each instant that a step
  -- comes to from there, the error count
  pub changed : out ≡ rule_changes s₀ [] t₀ (reverse (effective (reverse acts))) left.clock
  pub shows : (n : ℕ) → shown_now (ticks timetable_machine n left) ≡ rule_octet s₀ (effective (reverse acts)) (left.clock + n)
  pub errors : left.errors ≡ rule_errors (reverse acts) % 2 ^ 64

pub timetable_demand : (t₀ s₀ : ℕ) (cs : List (Call GateAct))
    → (let o : Outcome Timetable ℕ GateAct = run timetable_machine cs (new_timetable t₀ s₀) in TimetableDemand t₀ s₀ o.acts o.out o.port)
unfolding new_timetable
timetable_demand t₀ s₀ cs =
    let p : Timetable = (run timetable_machine cs (new_timetable t₀ s₀)).port in
    let k = tracks_run cs (tracks_new t₀ s₀) in
    record {
      final = run-port timetable_machine timetable_lawful cs (new_timetable t₀ s₀);
      joined = run_out timetable_machine timetable_lawful cs (new_timetable t₀ s₀);
      changed = replaced_changes s₀ t₀ cs;
      shows = λ n. now-ticks n p ∙ tracks_shown k (p.clock + n) (omega arith);
      errors = k.errors;
    }

-- a port
pub record Demand (t₀ s₀ : ℕ) (acts : List (ℕ × Act)) (out : List (ℕ × ℕ)) (port : Port) : Type 0 where
  pub final : port ≡ replay machine acts port.gates.clock (new_port t₀ s₀)
  pub joined : out ≡ replay_log machine acts port.gates.clock (new_port t₀ s₀)
  pub changed : out ≡ rule_changes s₀ [] t₀ (reverse (effective (gate_acts (reverse acts)))) port.gates.clock
  pub shows : (n : ℕ) → shown_now (ticks machine n port).gates ≡ octet_of s₀ (reverse acts) (port.gates.clock + n)
  pub errors : port.gates.errors ≡ rule_errors (gate_acts (reverse acts)) % 2 ^ 64
  pub overruns : (k : ℕ) → k < 8 → get_or port.overruns k 0 ≡ rule_overruns s₀ k [] acts port.gates.clock % 2 ^ 64

-- its gates are a timetable's
gates_demand : (t₀ s₀ : ℕ) (cs : List (Call Act))
    → (let o : Outcome Timetable ℕ GateAct = gated (run machine cs (new_port t₀ s₀)) in TimetableDemand t₀ s₀ o.acts o.out o.port)
gates_demand t₀ s₀ cs =
    let e : run timetable_machine (gate_calls cs) (new_timetable t₀ s₀) ≡ gated (run machine cs (new_port t₀ s₀)) = unfold new_port in run-gates cs (new_port t₀ s₀) in
    subst (λ (o : Outcome Timetable ℕ GateAct). TimetableDemand t₀ s₀ o.acts o.out o.port) e (timetable_demand t₀ s₀ (gate_calls cs))

pub demand_3 : (t₀ s₀ : ℕ) (cs : List (Call Act))
    → Demand t₀ s₀ (run machine cs (new_port t₀ s₀)).acts (run machine cs (new_port t₀ s₀)).out (run machine cs (new_port t₀ s₀)).port
demand_3 t₀ s₀ cs =
    let o : Outcome Port ℕ Act = run machine cs (new_port t₀ s₀) in
    let d = gates_demand t₀ s₀ cs in
    let r = gates-reverse o.acts in
    record {
      final = run-port machine lawful cs (new_port t₀ s₀);
      joined = run_out machine lawful cs (new_port t₀ s₀);
      changed = d.changed ∙ ap (λ h. rule_changes s₀ [] t₀ (reverse (effective h)) o.port.gates.clock) (sym r);
      shows = λ n. ap shown_now (ticks-gates n o.port) ∙ d.shows n ∙ ap (λ h. rule_octet s₀ (effective h) (o.port.gates.clock + n)) (sym r);
      errors = d.errors ∙ ap (λ h. rule_errors h % 2 ^ 64) (sym r);
      overruns = λ j. run-overruns t₀ s₀ j cs;
    }

-- two series of calls with the same accepted acts at the same instants and the same end
pub same_outcome : (t₀ s₀ : ℕ) (cs ds : List (Call Act))
    → (run machine cs (new_port t₀ s₀)).acts ≡ (run machine ds (new_port t₀ s₀)).acts
    → (run machine cs (new_port t₀ s₀)).port.gates.clock ≡ (run machine ds (new_port t₀ s₀)).port.gates.clock
    → ((run machine cs (new_port t₀ s₀)).port ≡ (run machine ds (new_port t₀ s₀)).port)
    × ((run machine cs (new_port t₀ s₀)).out ≡ (run machine ds (new_port t₀ s₀)).out)
same_outcome t₀ s₀ cs ds = one-outcome machine lawful cs ds (new_port t₀ s₀)

-- and with the same acts tried at the same instants, and refused ones besides: the same are accepted
pub same-tries : (t₀ s₀ : ℕ) (cs ds : List (Call Act)) → Besides (tries machine cs (new_port t₀ s₀)) (tries machine ds (new_port t₀ s₀))
    → (run machine cs (new_port t₀ s₀)).acts ≡ (run machine ds (new_port t₀ s₀)).acts
same-tries t₀ s₀ cs ds = besides_acts machine lawful cs ds (new_port t₀ s₀)
