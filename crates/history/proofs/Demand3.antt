-- Demand 3 over the public calls: a new port, any calls, and anything that their contracts allow (`demand_3`). Two series of calls with the same accepted
-- acts at the same instants and the same end have the same changes and the same record (`same_outcome`). With the same acts tried at the same instants, and
-- besides them any refused ones, looks and steps, the same are accepted (`same-tries`), and the outcome is the same (`refused_besides`).
-- Assumes nothing.
use mathlib.Core.Path.{◌≡◌, ap, sym, ◌∙◌, subst, subst⁻¹}
use mathlib.Core.Bool.{cond}
use mathlib.Core.List.{List, [], ◌∷◌, ◌++◌, reverse}
use mathlib.Core.Option.{none}
use Prim.Native.Nat.{ℕ, ◌+◌, ◌-◌, ◌≤◌, min}
use native.Mathlib.Omega.{arith}
use lib.ListN.{length}
use borrow.Author.Tests.{le-ltb}
use Rattle.std.specs.Prelude.{Ok, Result}
use Rattle.rule.specs.declared.Refusal.{Refusal}
use Rattle.rule.specs.Limits.{largest_instant}
use Rattle.rule.specs.Refusals.{accepted, numbered}
use Rattle.rule.specs.Port as model
use Rattle.rule.specs.Timetable.{shown, shown_now}
use Rattle.rule.specs.Port.{new_port}
use Rattle.rule.specs.Acts as rule
use Rattle.rule.specs.Orders.{look_order, new_order}
use Rattle.rule.specs.Series as series
use Rattle.rule.specs.Machine.{Outcome, ticks, replay, Try, Besides}
use Rattle.rule.specs.Series.{elapsed}
use Rattle.rule.specs.Machines.{machine}
use Rattle.rule.specs.History.{effective, rule_changes}
use Rattle.rule.specs.Frames.{gate_acts, octet_of}
use Rattle.rule.proofs.Soundness.{Sound}
use Rattle.rule.proofs.Cut.{clock-ticks}
use Rattle.rule.proofs.Laws.{lawful}
use Rattle.rule.proofs.Shown.{now-ticks}
use Rattle.rule.proofs.Gated.{ticks-gates}
use Rattle.rule.proofs.Sound.{sound-new}
use Rattle.rule.proofs.Demand3 as port
use Rattle.timetable.specs.Coding as timetable
use Rattle.port.specs.declared.Port.{Port}
use Rattle.port.specs.declared.Acted.{Acted}
use Rattle.port.specs.Coding.{decode, encode}
use Rattle.port.specs.Acts.{look_declines, Looks, Makes}
use Rattle.port.specs.Step.{Steps}
use Rattle.port.proofs.Coding.{decode-encode, formed, clock-encode}
use Rattle.port.proofs.Numbers.{looked_told}
use Rattle.history.specs.Calls.{Call, run}
use Rattle.history.specs.Outcomes.{Event, calls_of, Kept, outcome, tries}
use Rattle.history.specs.Demand.{Idle, Demand}
use Rattle.history.proofs.Modelled.{after_step-is}
use Rattle.history.proofs.Runs.{machine_calls, recorded, run_is, tries-is, sound-run}
use Rattle.history.proofs.Given.{outcome-is, tries_of, tries_are}
use Rattle.history.proofs.Idle.{Whole, whole-encode, unwritten, idle-outcome, idle_between}

-- what a look and a step show of a sound port that shows f from its clock on

module _ (m : model.Port) (s : Sound m) (f : ℕ → ℕ) (g : (n : ℕ) → shown_now (ticks machine n m).gates ≡ f (m.gates.clock + n)) where
  shows-on : (t : ℕ) → m.gates.clock ≤ t → shown m.gates t ≡ f t
  shows-on t h =
      let e : m.gates.clock + (t - m.gates.clock) ≡ t = omega arith in
      ap (shown m.gates) (sym e) ∙ sym (now-ticks (t - m.gates.clock) m.gates) ∙ ap shown_now (sym (ticks-gates (t - m.gates.clock) m))
      ∙ g (t - m.gates.clock)
      ∙ ap f e

  record_shows : (t : ℕ) → (encode m).gates.times.clock ≤ t → shown (decode (encode m)).gates t ≡ f t
  record_shows t h = ap (λ d. shown d.gates t) (decode-encode m) ∙ shows-on t (rw (clock-encode m) at h)

  look-taken : (t : ℕ) → m.gates.clock ≤ t → t ≤ largest_instant → look_declines t (encode m) ≡ none
  unfolding look_declines look_order
  look-taken t h l = rw (formed m s, decode-encode m, le-ltb largest_instant t l, le-ltb t m.gates.clock h)

  record_looks : (t : ℕ) → (encode m).gates.times.clock ≤ t → t ≤ largest_instant → (r : Result ℕ Refusal) → Looks (encode m) t r → r ≡ Ok (f t)
  record_looks t h l r k =
      let e = look-taken t (rw (clock-encode m) at h) l in
      looked_told r (Ok (f t)) (k.number ∙ ap numbered e)
      (k.octet ∙ ap (λ d. cond (accepted d) (shown (decode (encode m)).gates t) 0) e ∙ record_shows t h)

  now-shown : (n : ℕ) → shown (ticks machine n m).gates (ticks machine n m).gates.clock ≡ f (m.gates.clock + n)
  unfolding shown_now
  now-shown n = g n

  record_comes : (goal : ℕ) (at at' os os' : List ℕ) (r : Acted ℕ) → Steps (encode m) goal at at' os os' r
      → shown (decode r.port).gates r.port.gates.times.clock ≡ f r.port.gates.times.clock
  record_comes goal at at' os os' r k =
      let n : ℕ = elapsed machine (series.step goal (min (length at) (length os))) m in
      let e : r.port ≡ encode (ticks machine n m) = k.port ∙ after_step-is m s goal (min (length at) (length os)) in
      let c : r.port.gates.times.clock ≡ m.gates.clock + n =
      ap (λ (q : Port). q.gates.times.clock) e ∙ clock-encode (ticks machine n m) ∙ clock-ticks machine lawful n m in
      ap (λ (q : Port). shown (decode q).gates q.gates.times.clock) e
      ∙ (λ i. shown (decode-encode (ticks machine n m) i).gates (clock-encode (ticks machine n m) i))
      ∙ now-shown n
      ∙ sym (ap f c)

-- the machine's run, its port as a record

recorded_demand : (t₀ s₀ : ℕ) → t₀ ≤ largest_instant → (cs : List Call)
    → Demand t₀ s₀ cs (recorded (series.run machine (machine_calls cs) (new_port t₀ s₀)))
unfolding encode timetable.encode
recorded_demand t₀ s₀ h cs =
    let s : Sound (new_port t₀ s₀) = sound-new t₀ s₀ h in
    let o : Outcome model.Port ℕ rule.Act = series.run machine (machine_calls cs) (new_port t₀ s₀) in
    let d = port.demand_3 t₀ s₀ (machine_calls cs) in
    let z : Sound o.port = sound-run (machine_calls cs) (new_port t₀ s₀) s in
    record {
      given = sym (run_is cs (new_port t₀ s₀) s);
      formed = formed o.port z;
      final = ap encode d.final;
      changed = d.changed;
      shows = record_shows o.port z (octet_of s₀ (reverse o.acts)) d.shows;
      looks = record_looks o.port z (octet_of s₀ (reverse o.acts)) d.shows;
      comes = record_comes o.port z (octet_of s₀ (reverse o.acts)) d.shows;
      errors = d.errors;
      overruns = d.overruns;
      idle = λ e k i. (unwritten e.call (encode o.port) e.back k i, idle-outcome (encode o.port) (whole-encode o.port) e k i);
    }

pub new_is : (t₀ s₀ : ℕ) → t₀ ≤ largest_instant → (r : Acted Unit) → Makes t₀ s₀ r → r.port ≡ encode (new_port t₀ s₀)
unfolding new_order
new_is t₀ s₀ h r k = k.port ∙ rw (le-ltb largest_instant t₀ h)

-- the definitions alone: a run on the record of a new port
pub run_demand : (t₀ s₀ : ℕ) → t₀ ≤ largest_instant → (cs : List Call) → Demand t₀ s₀ cs (run cs (encode (new_port t₀ s₀)))
run_demand t₀ s₀ h cs =
    subst⁻¹ (Demand t₀ s₀ cs) (run_is cs (new_port t₀ s₀) (sound-new t₀ s₀ h)) (recorded_demand t₀ s₀ h cs)

-- and whatever the contracts allow
pub demand_3 : (t₀ s₀ : ℕ) → t₀ ≤ largest_instant → (r : Acted Unit) → Makes t₀ s₀ r → (es : List Event) → Kept r.port es
    → Demand t₀ s₀ (calls_of es) (outcome r.port es)
demand_3 t₀ s₀ h r k es l =
    subst⁻¹ (Demand t₀ s₀ (calls_of es)) (outcome-is r.port es l ∙ ap (run (calls_of es)) (new_is t₀ s₀ h r k)) (run_demand t₀ s₀ h (calls_of es))

-- a call that changes nothing can be left out, wherever it stands
pub idle-left-out : (t₀ s₀ : ℕ) → t₀ ≤ largest_instant → (cs : List Call) (c : Call) → Idle c (run cs (encode (new_port t₀ s₀))).port → (ds : List Call)
    → run (cs ++ c ∷ ds) (encode (new_port t₀ s₀)) ≡ run (cs ++ ds) (encode (new_port t₀ s₀))
idle-left-out t₀ s₀ h cs c i ds =
    let m : model.Port = new_port t₀ s₀ in
    let e = ap (λ (o : Outcome Port ℕ rule.Act). o.port) (run_is cs m (sound-new t₀ s₀ h)) in
    idle_between cs (encode m) (subst⁻¹ Whole e (whole-encode (series.run machine (machine_calls cs) m).port)) c i ds

-- what the acts and the end determine
demand_same : {t₀ s₀ : ℕ} {cs ds : List Call} {o q : Outcome Port ℕ rule.Act} → Demand t₀ s₀ cs o → Demand t₀ s₀ ds q
    → o.acts ≡ q.acts → o.port.gates.times.clock ≡ q.port.gates.times.clock → o ≡ q
demand_same {t₀} {s₀} {cs} {ds} {o} {q} d f a c =
    let p = d.final ∙ (λ i. encode (replay machine (a i) (c i) (new_port t₀ s₀))) ∙ sym f.final in
    let l = d.changed ∙ (λ i. rule_changes s₀ [] t₀ (reverse (effective (gate_acts (reverse (a i))))) (c i)) ∙ sym f.changed in
    λ i. record { port = p i; out = l i; acts = a i }

module _ (t₀ s₀ : ℕ) (h : t₀ ≤ largest_instant) (r : Acted Unit) (k : Makes t₀ s₀ r) (es fs : List Event) (l : Kept r.port es) (m : Kept r.port fs) where
  -- the same accepted acts at the same instants and the same end: the same record and the same changes
  pub same_outcome : (outcome r.port es).acts ≡ (outcome r.port fs).acts
      → (outcome r.port es).port.gates.times.clock ≡ (outcome r.port fs).port.gates.times.clock
      → outcome r.port es ≡ outcome r.port fs
  same_outcome = demand_same (demand_3 t₀ s₀ h r k es l) (demand_3 t₀ s₀ h r k fs m)

  -- the same acts tried at the same instants, and besides them any refused ones, looks and steps, with any rooms: the same are accepted; and if the end
  -- is the same too, so are the record, octets and counts in it, and the changes joined end to end
  acts_are : (gs : List Event) → Kept r.port gs
      → (outcome r.port gs).acts ≡ (series.run machine (machine_calls (calls_of gs)) (new_port t₀ s₀)).acts
  acts_are gs n =
      ap (λ (o : Outcome Port ℕ rule.Act). o.acts)
      ((demand_3 t₀ s₀ h r k gs n).given ∙ run_is (calls_of gs) (new_port t₀ s₀) (sound-new t₀ s₀ h))

  tries_as : (gs : List Event) → Kept r.port gs → tries r.port gs ≡ series.tries machine (machine_calls (calls_of gs)) (new_port t₀ s₀)
  tries_as gs n =
      tries_are r.port gs n ∙ ap (tries_of (calls_of gs)) (new_is t₀ s₀ h r k) ∙ tries-is (calls_of gs) (new_port t₀ s₀) (sound-new t₀ s₀ h)

  besides_as : Besides (tries r.port es) (tries r.port fs)
      → Besides (series.tries machine (machine_calls (calls_of es)) (new_port t₀ s₀)) (series.tries machine (machine_calls (calls_of fs)) (new_port t₀ s₀))
  besides_as b = subst (λ (x : List (Try rule.Act) × List (Try rule.Act)). Besides x.0 x.1) (λ i. (tries_as es l i, tries_as fs m i)) b

  pub same-tries : Besides (tries r.port es) (tries r.port fs) → (outcome r.port es).acts ≡ (outcome r.port fs).acts
  same-tries b =
      acts_are es l ∙ port.same-tries t₀ s₀ (machine_calls (calls_of es)) (machine_calls (calls_of fs)) (besides_as b) ∙ sym (acts_are fs m)

  pub refused_besides : Besides (tries r.port es) (tries r.port fs)
      → (outcome r.port es).port.gates.times.clock ≡ (outcome r.port fs).port.gates.times.clock
      → outcome r.port es ≡ outcome r.port fs
  refused_besides b e = same_outcome (same-tries b) e
