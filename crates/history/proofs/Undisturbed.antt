-- Document 02, Item 8: after any calls on a new port a transmit chooses a frame; until an act is accepted its gate is open at each instant of its sending, and no
-- overrun is counted (`no_overrun`; `no_overrun_lent` for the call that C makes). In order: what an answer says of the port; time after a choice; the calls. An
-- act in the gap behind a frame counts nothing (`gap_act`).
-- Assumes nothing.
use mathlib.Core.Path.{◌≡◌, refl, ap, sym, ◌∙◌, subst, subst⁻¹}
use mathlib.Core.Bool.{Bool, true, false, cond, not, ◌&&◌}
use mathlib.Core.List.{List, [], ◌∷◌}
use mathlib.Core.Option.{Option, none, some}
use Prim.Native.Nat.{ℕ, zero, suc, ◌+◌, ◌-◌, ◌≤◌, ◌<◌}
use native.Mathlib.Omega.{arith}
use lib.Dec.{eqb}
use borrow.Author.Tests.{le-ltb}
use Rattle.std.specs.Prelude.{Some, None, Ok, Err, get_or}
use Rattle.std.specs.Prelude as std
use Rattle.rule.specs.Limits.{largest_instant}
use Rattle.rule.specs.declared.Refusal.{Refusal}
use Rattle.rule.specs.Refusals.{accepted}
use Rattle.rule.specs.Gates.{is_open}
use Rattle.rule.specs.Timetable.{shown, shown_now}
use Rattle.rule.specs.Choice.{qualifies}
use Rattle.rule.specs.Port as model
use Rattle.rule.specs.Port.{new_port}
use Rattle.rule.specs.Acts as rule
use Rattle.rule.specs.Acts.{perform}
use Rattle.rule.specs.Orders.{accepts}
use Rattle.rule.specs.Series as series
use Rattle.rule.specs.Machine.{Outcome, ticks, log, replay}
use Rattle.rule.specs.Series.{replay_log}
use Rattle.rule.specs.Machines.{machine}
use Rattle.rule.specs.History.{changes}
use Rattle.rule.proofs.Soundness.{Sound}
use Rattle.rule.proofs.Cut.{clock-ticks, run-port, run_out}
use Rattle.rule.proofs.Laws.{timetable_lawful, lawful}
use Rattle.rule.proofs.Jump.{marked_no, counted_no, none_of}
use Rattle.rule.proofs.Shown.{shown-ticks}
use Rattle.rule.proofs.Gated.{ticks-gates, log-gates}
use Rattle.rule.proofs.Changes.{log-shown}
use Rattle.rule.proofs.Choice.{Chosen, chosen_is}
use Rattle.rule.proofs.Undisturbed.{OpenFrom, open_chosen, open_ticks}
use Rattle.rule.proofs.Sound.{sound-new}
use Rattle.timetable.specs.Coding as timetable
use Rattle.frames.specs.Decision.{Choice, choice_of, choice_values}
use Rattle.port.specs.declared.Port.{Port}
use Rattle.port.specs.declared.Acted.{Acted}
use Rattle.frames.specs.declared.Sending.{Sending}
use Rattle.port.specs.Coding.{decode, encode}
use Rattle.port.specs.Acts.{declines, after, Makes, Performs}
use Rattle.port.specs.Transmit.{Transmits}
use Rattle.port.proofs.Coding.{decode-encode, clock-encode}
use Rattle.port.proofs.Numbers.{choice_number_lem}
use Rattle.port.proofs.Transmissions.{transmit-perform}
use Rattle.frames.proofs.Unique.{choice_told}
use Rattle.driver.specs.declared.Answer as driver
use Rattle.driver.specs.Lent.{answer_for, Lends}
use Rattle.history.specs.Calls.{run}
use Rattle.history.specs.Outcomes.{Event, calls_of, Kept, outcome}
use Rattle.history.specs.Undisturbed.{ChangeOpen, Undisturbed, Unharmed}
use Rattle.history.proofs.Modelled.{accepted-is, after_is, sound-act}
use Rattle.history.proofs.Runs.{machine_calls, recorded, run_is, sound-run}
use Rattle.history.proofs.Given.{outcome-is}
use Rattle.history.proofs.Demand3.{new_is}

overruns-encode : (m : model.Port) → (encode m).overruns ≡ m.overruns
unfolding encode
overruns-encode m = refl

-- the changes of what is shown

open_changes : (g : ℕ → ℕ) (class last lo n : ℕ) → ((u : ℕ) → lo ≤ u → u < last → is_open (g u) class ≡ true) → ChangeOpen class last (changes g lo n)
unfolding ChangeOpen changes
open_changes g class last lo zero h = tt
open_changes g class last lo (suc n) h = go (eqb (g lo) (g (suc lo))) (open_changes g class last (suc lo) n (λ u a b. h u (omega arith) b))
  where
    go : (b : Bool) → ChangeOpen class last (changes g (suc lo) n)
        → ChangeOpen class last (cond b (changes g (suc lo) n) ((suc lo, g (suc lo)) ∷ changes g (suc lo) n))
    go true k = k
    go false k = (λ b. h (suc lo) (omega arith) b, k)

-- the frame that an answer names

abbrev named : ℕ → ℕ → ℕ → ℕ → model.Frame
named class start last end = record { class = class; start = start; last = last; end = end; counted = false }

module _ (heads : List ℕ) (speed : ℕ) (m : model.Port) (class start last end : ℕ) where
  abbrev begun : Option model.Frame
  begun = (rule.performed (rule.transmit heads speed) m).frame

  -- accepted, and the frame is the port's
  abbrev Begins : Option Refusal → Type 0
  Begins d = (d ≡ none) × (begun ≡ some (named class start last end))

  begins : (d : Option Refusal) → choice_of d begun ≡ Ok (Some (record { class = class; start = start; last = last; end = end })) → Begins d
  begins d e = go d begun (chosen_is heads speed m.gates.clock (shown m.gates)) e
    where
      go : (d : Option Refusal) (r : Option model.Frame)
          → Chosen heads speed m.gates.clock (qualifies heads speed m.gates.clock (shown m.gates)) r
          → choice_of d r ≡ Ok (Some (record { class = class; start = start; last = last; end = end })) → (d ≡ none) × (r ≡ some (named class start last end))
      go (some x) r c q = let z : ◌≡◌ {A = ℕ} 0 1 = cc in absurd (omega arith)
      go none none c q = let z : ◌≡◌ {A = ℕ} 0 1 = cc in absurd (omega arith)
      go none (some f) c q =
          let v = ap choice_values q in
          let x : f.class ≡ class = ap (λ l. get_or l 1 0) v in
          let y : f.start ≡ start = ap (λ l. get_or l 2 0) v in
          let z : f.last ≡ last = ap (λ l. get_or l 3 0) v in
          let w : f.end ≡ end = ap (λ l. get_or l 4 0) v in
          let n : f.counted ≡ false = ap (λ (g : model.Frame). g.counted) c.1 in
          (refl, λ i. some (record { class = x i; start = y i; last = z i; end = w i; counted = n i }))

  begins_lent : (d : Option Refusal)
      → answer_for (choice_of d begun) ≡ record { number = 0; chosen = 1; class = class; start = start; last = last; end = end } → Begins d
  begins_lent d e = begins d (go (choice_of d begun) e)
    where
      go : (a : Choice) → answer_for a ≡ record { number = 0; chosen = 1; class = class; start = start; last = last; end = end } → a ≡ Ok (Some (record { class = class; start = start; last = last; end = end }))
      go (Ok (Some f)) q =
          let x : f.class ≡ class = ap (λ (r : driver.Answer). r.class) q in
          let y : f.start ≡ start = ap (λ (r : driver.Answer). r.start) q in
          let z : f.last ≡ last = ap (λ (r : driver.Answer). r.last) q in
          let w : f.end ≡ end = ap (λ (r : driver.Answer). r.end) q in
          λ i. Ok (Some (record { class = x i; start = y i; last = z i; end = w i }))
      go (Ok None) q = let z = ap (λ (r : driver.Answer). r.chosen) q in absurd (omega (arith, z))
      go (Err r) q = let z = ap (λ (r : driver.Answer). r.chosen) q in absurd (omega (arith, z))

  -- what the contracts say of the answer
  transmit-answer : (r : Acted (std.Option Sending)) → Transmits heads speed (encode m) r → choice_of (declines (rule.transmit heads speed) (encode m)) begun ≡ r.answer
  transmit-answer r k =
      let d : Option Refusal = declines (rule.transmit heads speed) (encode m) in
      let f : Option model.Frame = (rule.performed (rule.transmit heads speed) (decode (encode m))).frame in
      ap (λ (q : model.Port). choice_of d (rule.performed (rule.transmit heads speed) q).frame) (sym (decode-encode m))
      ∙ sym (choice_told r.answer (choice_of d f) (k.number ∙ sym (choice_number_lem d f)) k.values)

  lent_answer : (r : driver.Answer) (p : Port) → Lends heads speed (encode m) r p
      → answer_for (choice_of (declines (rule.transmit heads speed) (encode m)) begun) ≡ r
  lent_answer r p k =
      let d : Option Refusal = declines (rule.transmit heads speed) (encode m) in
      ap (λ (q : model.Port). answer_for (choice_of d (rule.performed (rule.transmit heads speed) q).frame)) (sym (decode-encode m)) ∙ sym k.answer

-- time and calls after the choice: m the port before it

module _ (heads : List ℕ) (speed : ℕ) (m : model.Port) (s : Sound m) (class start last end : ℕ)
    (h : Begins heads speed m class start last end (declines (rule.transmit heads speed) (encode m))) where
  -- the port after it
  sending : model.Port
  sending = record { gates = m.gates; frame = some (named class start last end); overruns = m.overruns }

  accepts_it : accepts (rule.transmit heads speed) m ≡ true
  accepts_it = sym (accepted-is m s (rule.transmit heads speed)) ∙ ap accepted h.0

  performs_it : cond (accepts (rule.transmit heads speed) m) (perform (rule.transmit heads speed) m) m ≡ sending
  unfolding sending
  performs_it =
      ap (λ b. cond b (perform (rule.transmit heads speed) m) m) accepts_it
      ∙ transmit-perform heads speed m
      ∙ ap (λ r. record { gates = m.gates; frame = r; overruns = m.overruns }) h.1

  sound-sending : Sound sending
  sound-sending = subst Sound performs_it (sound-act m s (rule.transmit heads speed))

  after-sending : after (rule.transmit heads speed) (encode m) ≡ encode sending
  after-sending = after_is m s (rule.transmit heads speed) ∙ ap encode performs_it

  stays : (t : ℕ) → m.gates.clock ≤ t → t < last → is_open (shown m.gates t) class ≡ true
  unfolding model.last_octet_at
  stays =
      (subst (OpenFrom (shown m.gates) m.gates.clock) h.1 (open_chosen heads speed m.gates.clock (shown m.gates))).1

  started : start ≡ m.gates.clock
  started =
      ap (λ (f : model.Frame). f.start)
      (subst (Chosen heads speed m.gates.clock (qualifies heads speed m.gates.clock (shown m.gates))) h.1
      (chosen_is heads speed m.gates.clock (shown m.gates))).1

  -- n instants on
  module _ (n : ℕ) where
    later : model.Port
    later = ticks machine n sending

    later-shows : (t : ℕ) → m.gates.clock + n ≤ t → shown later.gates t ≡ shown m.gates t
    unfolding sending later
    later-shows t x = ap (λ g. shown g t) (ticks-gates n sending) ∙ shown-ticks n m.gates t x

    later-clock : later.gates.clock ≡ m.gates.clock + n
    unfolding sending later
    later-clock = clock-ticks machine lawful n sending

    later-log : log machine n sending ≡ changes (shown m.gates) m.gates.clock n
    unfolding sending
    later-log = log-gates n sending ∙ log-shown n m.gates

    later-frame : (later.frame ≡ model.frame_at (m.gates.clock + n) (some (named class start last end))) × (later.overruns ≡ m.overruns)
    unfolding sending later
    later-frame =
        open_ticks n sending sound-sending (subst (OpenFrom (shown m.gates) m.gates.clock) h.1 (open_chosen heads speed m.gates.clock (shown m.gates)))

    undisturbed : Undisturbed class start last end (encode m) (recorded (record { port = later; out = log machine n sending; acts = [] }))
    undisturbed = record {
      sent = λ t x y. ap (λ (d : model.Port). is_open (shown d.gates t) class) (decode-encode m) ∙ stays t (omega (arith, started)) y;
      shows = λ t x y.
          ap (λ (d : model.Port). is_open (shown d.gates t) class) (decode-encode later)
          ∙ ap (λ o. is_open o class) (later-shows t (omega (arith, x, clock-encode later, later-clock)))
          ∙ stays t (omega (arith, x, clock-encode later, later-clock)) y;
      changed = subst⁻¹ (ChangeOpen class last) later-log (open_changes (shown m.gates) class last m.gates.clock n stays);
      frame =
          ap (λ (d : model.Port). d.frame) (decode-encode later) ∙ later-frame.0
          ∙ ap (λ t. model.frame_at t (some (named class start last end))) (sym (clock-encode later ∙ later-clock));
      counts = overruns-encode later ∙ later-frame.1 ∙ sym (overruns-encode m);
    }

  -- any calls that bring no act
  module _ (p : Port) (k : p ≡ encode sending) (es : List Event) (l : Kept p es) (a : (outcome p es).acts ≡ []) where
    ran : Outcome model.Port ℕ rule.Act
    ran = series.run machine (machine_calls (calls_of es)) sending

    outcome_ran : outcome p es ≡ recorded ran
    unfolding ran
    outcome_ran = outcome-is p es l ∙ ap (run (calls_of es)) k ∙ run_is (calls_of es) sending sound-sending

    none_ran : ran.acts ≡ []
    none_ran = ap (λ (o : Outcome Port ℕ rule.Act). o.acts) (sym outcome_ran) ∙ a

    passed : ℕ
    passed = ran.port.gates.clock - m.gates.clock

    ran_as : ran ≡ record { port = later passed; out = log machine passed sending; acts = [] }
    unfolding ran passed later sending replay replay_log
    ran_as =
        let q = run-port machine lawful (machine_calls (calls_of es)) sending ∙ ap (λ h. replay machine h ran.port.gates.clock sending) none_ran in
        let o = run_out machine lawful (machine_calls (calls_of es)) sending ∙ ap (λ h. replay_log machine h ran.port.gates.clock sending) none_ran in
        λ i. record { port = q i; out = o i; acts = none_ran i }

    calls_undisturbed : Undisturbed class start last end (encode m) (outcome p es)
    calls_undisturbed = subst⁻¹ (Undisturbed class start last end (encode m)) (outcome_ran ∙ ap recorded ran_as) (undisturbed passed)

-- any calls on a new port, a transmit that chooses a frame, and any calls of which no act is accepted

module _ (t₀ s₀ : ℕ) (z : t₀ ≤ largest_instant) (r₀ : Acted Unit) (k₀ : Makes t₀ s₀ r₀) (fs : List Event) (l₀ : Kept r₀.port fs)
    (heads : List ℕ) (speed class start last end : ℕ) where
  before : model.Port
  before = (series.run machine (machine_calls (calls_of fs)) (new_port t₀ s₀)).port

  before-is : (outcome r₀.port fs).port ≡ encode before
  unfolding before
  before-is =
      ap (λ (o : Outcome Port ℕ rule.Act). o.port)
      (outcome-is r₀.port fs l₀ ∙ ap (run (calls_of fs)) (new_is t₀ s₀ z r₀ k₀) ∙ run_is (calls_of fs) (new_port t₀ s₀) (sound-new t₀ s₀ z))

  before-sound : Sound before
  unfolding before
  before-sound = sound-run (machine_calls (calls_of fs)) (new_port t₀ s₀) (sound-new t₀ s₀ z)

  pub no_overrun : (r : Acted (std.Option Sending)) → Transmits heads speed (outcome r₀.port fs).port r → r.answer ≡ Ok (Some (record { class = class; start = start; last = last; end = end }))
      → (es : List Event) → Kept r.port es → (outcome r.port es).acts ≡ []
      → Undisturbed class start last end (outcome r₀.port fs).port (outcome r.port es)
  no_overrun r k e es l a =
      subst⁻¹ (λ (q : Port). Undisturbed class start last end q (outcome r.port es)) before-is
      (let d : Transmits heads speed (encode before) r = subst (λ (q : Port). Transmits heads speed q r) before-is k in
      let h = begins heads speed before class start last end (declines (rule.transmit heads speed) (encode before)) (transmit-answer heads speed before class start last end r d ∙ e) in
      calls_undisturbed heads speed before before-sound class start last end h r.port
      (d.port ∙ after-sending heads speed before before-sound class start last end h) es l a)

  pub no_overrun_lent : (r : driver.Answer) (p : Port) → Lends heads speed (outcome r₀.port fs).port r p
      → r ≡ record { number = 0; chosen = 1; class = class; start = start; last = last; end = end }
      → (es : List Event) → Kept p es → (outcome p es).acts ≡ [] → Undisturbed class start last end (outcome r₀.port fs).port (outcome p es)
  no_overrun_lent r p k e es l a =
      subst⁻¹ (λ (q : Port). Undisturbed class start last end q (outcome p es)) before-is
      (let d : Lends heads speed (encode before) r p = subst (λ (q : Port). Lends heads speed q r p) before-is k in
      let h = begins_lent heads speed before class start last end (declines (rule.transmit heads speed) (encode before)) (lent_answer heads speed before class start last end r p d ∙ e) in
      calls_undisturbed heads speed before before-sound class start last end h p
      (d.port ∙ after-sending heads speed before before-sound class start last end h) es l a)

-- an act on the gates of a port whose frame's last octet is out

module _ (a : rule.GateAct) where
  out_still : (m : model.Port) (f : model.Frame) → m.frame ≡ some f → f.last ≤ m.gates.clock
      → ((perform (rule.gates a) m).frame ≡ m.frame) × ((perform (rule.gates a) m).overruns ≡ m.overruns)
  unfolding perform model.last_octet_at
  out_still m f e l =
      let g = rule.perform_gates a m.gates in
      let c = timetable_lawful.clock-perform a m.gates in
      let z : model.overran g.clock (shown_now g) m.frame ≡ false =
      ap (model.overran g.clock (shown_now g)) e
      ∙ ap (λ b. not f.counted && (b && not (is_open (shown_now g) f.class))) (le-ltb g.clock f.last (omega (arith, c, l)))
      ∙ none_of (not f.counted) in (
        ap (λ b. model.marked b m.frame) z ∙ marked_no m.frame,
        ap (λ b. model.counted b m.frame m.overruns) z ∙ counted_no m.frame m.overruns,
      )

  clock_of_lem : (p : Port) → (decode p).gates.clock ≡ p.gates.times.clock
  unfolding decode timetable.decode
  clock_of_lem p = refl

  counts_of : (p : Port) → (decode p).overruns ≡ p.overruns
  unfolding decode
  counts_of p = refl

  pub gap_act : (p : Port) (f : model.Frame) → (decode p).frame ≡ some f → f.last ≤ p.gates.times.clock → (r : Acted Unit) → Performs (rule.gates a) p r
      → Unharmed p r.port
  unfolding after
  gap_act p f e l r k = subst⁻¹ (Unharmed p) k.port (go (accepted (declines (rule.gates a) p)))
    where
      go : (b : Bool) → Unharmed p (cond b (encode (perform (rule.gates a) (decode p))) p)
      go true =
          let m : model.Port = perform (rule.gates a) (decode p) in
          let s = out_still (decode p) f e (omega (arith, l, clock_of_lem p)) in
          record {
            frame = ap (λ (d : model.Port). d.frame) (decode-encode m) ∙ s.0;
            counts = overruns-encode m ∙ s.1 ∙ counts_of p;
          }
      go false = record { frame = refl; counts = refl }
