-- Document 01's own words on a step, said of the record and the buffers that any step allowed by its contract hands back: the first m changes of what is
-- shown are written, places beyond are unchanged, the clock is the goal or stands 1 ns before the next change, and with room it moves on (`step-told`).
-- Two steps are one step with the room that both used, wherever the first is cut (`two_steps`), and so if all changes fit (`two_whole`). In order: over
-- any machine; one step; two steps. Steps that are refused or empty are in `Idle`.
-- Assumes nothing.
use mathlib.Core.Path.{◌≡◌, refl, ap, ap₂, sym, ◌∙◌, subst}
use mathlib.Core.Bool.{Bool, true, false, true≢false}
use mathlib.Core.List.{List, ◌∷◌, ◌++◌, map}
use mathlib.Core.Option.{Option, none, some}
use Prim.Native.Nat.{ℕ, zero, suc, ◌+◌, ◌-◌, ◌≤◌, ◌<◌, min}
use native.Mathlib.Nat.{zero-add, suc-add}
use native.Mathlib.Omega.{arith}
use lib.ListN.{length, take, drop, get_or, length-take, length-map}
use lib.Seq.{drop-append_seam, get_or_at}
use Rattle.std.specs.Prelude.{Ok}
use Rattle.rule.specs.declared.Refusal.{Refusal}
use Rattle.rule.specs.Refusals.{accepted, numbered}
use Rattle.rule.specs.Timetable.{shown}
use Rattle.rule.specs.Port as model
use Rattle.rule.specs.Orders.{accepts_goal}
use Rattle.rule.specs.Machine.{Machine, onward, ticks, noted, log, reach}
use Rattle.rule.specs.Machines.{machine}
use Rattle.rule.specs.History.{changes}
use Rattle.rule.proofs.Cut.{Lawful, clock-ticks, ticks-add, log-add}
use Rattle.rule.proofs.Laws.{lawful}
use Rattle.rule.proofs.Gated.{log-gates}
use Rattle.rule.proofs.Reach.{alike, stepped, moves}
use Rattle.rule.proofs.Changes.{log-shown}
use Rattle.rule.proofs.Orders.{goal_passed}
use Rattle.timetable.specs.Coding as timetable
use Rattle.port.specs.declared.Port.{Port}
use Rattle.port.specs.Record.{well_formed}
use Rattle.port.specs.Coding.{decode, encode}
use Rattle.course.specs.Columns.{into}
use Rattle.port.specs.Step.{step_declines, passes, reported, after_step}
use Rattle.port.proofs.Coding.{decode-encode, clock-encode}
use Rattle.port.proofs.Numbers.{stepped-told}
use Rattle.history.specs.Calls.{step, room}
use Rattle.history.specs.Outcomes.{StepOutcome, Allowed, written}
use Rattle.history.proofs.Given.{step-written}
use Rattle.history.proofs.Idle.{formed-rest}

-- over any machine

module _ (M : Machine) (L : Lawful M) where
  open M use {State, Out, clock, tick, now, same}

  -- k instants, then as far as the room that is left goes
  pub reach-add : (k n m : ℕ) (s : State) → reach M (k + n) (length (log M k s) + m) s ≡ k + reach M n m (ticks M k s)
  unfolding ticks noted log reach
  reach-add zero n m s = ap₂ (λ j r. reach M j r s) (zero-add n) (zero-add m) ∙ sym (zero-add (reach M n m s))
  reach-add (suc k) n m s =
      ap (λ j. reach M j (length (log M (suc k) s) + m) s) (suc-add k n) ∙ go (reach-add k n m (tick s)) (same (now s) (now (tick s))) ∙ sym (suc-add k _)
    where
      go : reach M (k + n) (length (log M k (tick s)) + m) (tick s) ≡ k + reach M n m (ticks M k (tick s)) → (b : Bool)
          → onward b (length (noted M b (tick s) (log M k (tick s))) + m) (λ r. reach M (k + n) r (tick s))
          ≡ suc (k + reach M n m (ticks M k (tick s)))
      go e true = ap suc e
      go e false = ap (λ r. onward false r (λ r. reach M (k + n) r (tick s))) (suc-add (length (log M k (tick s))) m) ∙ ap suc e

  log-changed : (n : ℕ) (s : State) → alike M s ≡ false → log M (suc n) s ≡ (clock (tick s), now (tick s)) ∷ log M n (tick s)
  unfolding alike log noted
  log-changed n s e = rw e

  -- where the room ends, the next change is 1 ns ahead
  pub next_change : (n m : ℕ) (s : State) (d : ℕ × Out) → m < length (log M n s)
      → (get_or (log M n s) m d).0 ≡ suc (clock (ticks M (reach M n m s) s))
  next_change n m s d h =
      let k : ℕ = reach M n m s in
      let q : State = ticks M k s in
      let z = stepped M n m s in
      let j : ℕ = n - suc k in
      let e : n ≡ k + suc j = omega (arith, (z.stops h).0) in
      let f : length (log M k s) ≡ m = ap length z.first ∙ length-take m (log M n s) ∙ omega arith in
      ap (λ l. (get_or l m d).0)
      (ap (λ i. log M i s) e ∙ log-add M L k (suc j) s ∙ ap (λ l. log M k s ++ l) (log-changed j q (z.stops h).1))
      ∙ ap (λ (x : ℕ × Out). x.0) (get_or_at (log M k s) (clock (tick q), now (tick q)) (log M j (tick q)) d m f)
      ∙ L.clock-tick q

-- one step

-- the changes of what is shown, after the clock and up to a goal
abbrev pub changes_to : Port → ℕ → List (ℕ × ℕ)
changes_to p goal = changes (shown (decode p).gates) p.gates.times.clock (goal - p.gates.times.clock)

-- m is the room, l the changes up to the goal, t the clock after the step
pub record StepTold (p : Port) (goal : ℕ) (instants octets : List ℕ) (m : ℕ) (l : List (ℕ × ℕ)) (t : ℕ) (r : StepOutcome) : Type 0 where
  -- the first m are written, instant and octet; places beyond the written ones are unchanged
  pub answer : r.result.answer ≡ Ok (min m (length l))
  pub first : written (step goal instants octets) r ≡ take m l
  pub beyond : (drop (min m (length l)) r.instants ≡ drop (min m (length l)) instants)
      × (drop (min m (length l)) r.octets ≡ drop (min m (length l)) octets)
  -- if all fit, the clock is the goal; if not, it stands 1 ns before the next one
  pub whole : length l ≤ m → t ≡ goal
  pub stops : m < length l → (get_or l m (0, 0)).0 ≡ t + 1
  -- with room for at least one change the clock moves on unless the goal is now
  pub moves : 1 ≤ m → p.gates.times.clock < goal → p.gates.times.clock < t

-- a step that nothing refuses, and what it handed back
pub record Taken (p : Port) (goal : ℕ) (instants octets : List ℕ) (r : StepOutcome) : Type 0 where
  pub accepted : accepted (step_declines goal p) ≡ true
  pub allowed : Allowed (step goal instants octets) p r

-- how far it goes
abbrev far : Port → ℕ → List ℕ → List ℕ → ℕ
far p goal instants octets = reach machine (goal - p.gates.times.clock) (room instants octets) (decode p)

-- in the machine's terms
module _ {p : Port} {goal : ℕ} {instants octets : List ℕ} {r : StepOutcome} (h : Taken p goal instants octets r) where
  passes-far : passes p goal (room instants octets) ≡ far p goal instants octets
  unfolding passes
  passes-far = rw h.accepted

  reported-far : reported p (passes p goal (room instants octets)) ≡ log machine (far p goal instants octets) (decode p)
  unfolding reported
  reported-far = ap (λ k. log machine k (decode p)) passes-far

  written-far : written (step goal instants octets) r ≡ log machine (far p goal instants octets) (decode p)
  written-far = step-written p goal instants octets r h.allowed ∙ reported-far

  port-far : r.result.port ≡ encode (ticks machine (far p goal instants octets) (decode p))
  unfolding after_step
  port-far = h.allowed.port ∙ rw h.accepted (ap (λ k. encode (ticks machine k (decode p))) passes-far)

  clock-far : r.result.port.gates.times.clock ≡ p.gates.times.clock + far p goal instants octets
  unfolding decode timetable.decode
  clock-far = ap (λ (q : Port). q.gates.times.clock) port-far ∙ clock-encode _ ∙ clock-ticks machine lawful (far p goal instants octets) (decode p)

  goal-ahead : p.gates.times.clock ≤ goal
  unfolding step_declines decode timetable.decode accepts_goal
  goal-ahead = (goal_passed goal (decode p).gates (formed-rest (well_formed p) _ h.accepted)).ahead

none_numbered : (d : Option Refusal) → accepted d ≡ true → numbered d ≡ none
none_numbered none e = refl
none_numbered (some r) e = absurd (true≢false (sym e))

column_beyond : (f : ℕ × ℕ → ℕ) (l : List (ℕ × ℕ)) (buf : List ℕ) (n : ℕ) → n ≡ length l → drop n (into (map f l) buf) ≡ drop n buf
unfolding into
column_beyond f l buf n e =
    let z : n ≡ length (map f l) = e ∙ sym (length-map l f) in
    ap (λ k. drop k (map f l ++ drop (length (map f l)) buf)) z ∙ drop-append_seam (map f l) (drop (length (map f l)) buf) ∙ ap (λ k. drop k buf) (sym z)

moves_on : (n m : ℕ) (s : model.Port) → 0 < n → 0 < m → 0 < reach machine n m s
moves_on zero m s h k = absurd (omega arith)
moves_on (suc n) zero s h k = absurd (omega arith)
moves_on (suc n) (suc m) s h k = moves machine n m s

log-told : (p : Port) (goal : ℕ) → log machine (goal - p.gates.times.clock) (decode p) ≡ changes_to p goal
unfolding decode timetable.decode
log-told p goal = log-gates (goal - p.gates.times.clock) (decode p) ∙ log-shown (goal - p.gates.times.clock) (decode p).gates

module _ {p : Port} {goal : ℕ} {instants octets : List ℕ} {r : StepOutcome} (h : Taken p goal instants octets r) where
  stops_told : room instants octets < length (changes_to p goal) → (get_or (changes_to p goal) (room instants octets) (0, 0)).0 ≡ r.result.port.gates.times.clock + 1
  stops_told q =
      let m : ℕ = room instants octets in
      let t : r.result.port.gates.times.clock ≡ (ticks machine (far p goal instants octets) (decode p)).gates.clock =
      ap (λ (x : Port). x.gates.times.clock) (port-far h) ∙ clock-encode _ in
      ap (λ (l : List (ℕ × ℕ)). (get_or l m (0, 0)).0) (sym (log-told p goal))
      ∙ next_change machine lawful (goal - p.gates.times.clock) m (decode p) (0, 0) (subst (λ (l : List (ℕ × ℕ)). m < length l) (sym (log-told p goal)) q)
      ∙ omega (arith, t)

  pub step-told : StepTold p goal instants octets (room instants octets) (changes_to p goal) r.result.port.gates.times.clock r
  step-told =
      let m : ℕ = room instants octets in
      let n : ℕ = goal - p.gates.times.clock in
      let l : List (ℕ × ℕ) = reported p (passes p goal m) in
      let z = stepped machine n m (decode p) in
      let first = z.first ∙ ap (take m) (log-told p goal) in
      let c : length l ≡ min m (length (changes_to p goal)) = ap length (reported-far h ∙ first) ∙ length-take m (changes_to p goal) in
      record {
        answer = stepped-told r.result.answer (Ok (min m (length (changes_to p goal))))
            (h.allowed.number ∙ none_numbered (step_declines goal p) h.accepted)
            (h.allowed.written ∙ c);
        first = written-far h ∙ first;
        beyond = (
          ap (drop (min m (length (changes_to p goal)))) h.allowed.instants ∙ column_beyond (λ (x : ℕ × ℕ). x.0) l instants _ (sym c),
          ap (drop (min m (length (changes_to p goal)))) h.allowed.octets ∙ column_beyond (λ (x : ℕ × ℕ). x.1) l octets _ (sym c),
        );
        whole = λ q. omega (arith, clock-far h, goal-ahead h, z.whole (rw (log-told p goal) q));
        stops = stops_told;
        moves = λ q k. omega (arith, clock-far h, moves_on n m (decode p) (omega arith) (omega arith));
      }

-- two steps

-- a step r to the goal, and a step r₁ to any instant u with a step r₂ from there
module _ {p : Port} {u goal : ℕ} {at os at₁ os₁ at₂ os₂ : List ℕ} {r r₁ r₂ : StepOutcome} (h : Taken p goal at os r) (h₁ : Taken p u at₁ os₁ r₁)
    (h₂ : Taken r₁.result.port goal at₂ os₂ r₂) where
  between : decode r₁.result.port ≡ ticks machine (far p u at₁ os₁) (decode p)
  between = ap decode (port-far h₁) ∙ decode-encode _

  -- if both come to one instant, they leave one record and report the same changes
  pub steps-join : r.result.port.gates.times.clock ≡ r₂.result.port.gates.times.clock
      → (r.result.port ≡ r₂.result.port) × (written (step goal at os) r ≡ written (step u at₁ os₁) r₁ ++ written (step goal at₂ os₂) r₂)
  steps-join c =
      let k₁ : ℕ = far p u at₁ os₁ in
      let k₂ : ℕ = far r₁.result.port goal at₂ os₂ in
      let z : far p goal at os ≡ k₁ + k₂ = omega (arith, c, clock-far h, clock-far h₁, clock-far h₂) in (
        port-far h ∙ ap (λ n. encode (ticks machine n (decode p))) z
            ∙ ap encode (ticks-add machine lawful k₁ k₂ (decode p) ∙ ap (ticks machine k₂) (sym between))
            ∙ sym (port-far h₂),
        written-far h ∙ ap (λ n. log machine n (decode p)) z ∙ log-add machine lawful k₁ k₂ (decode p)
            ∙ ap₂ ◌++◌ (sym (written-far h₁)) (ap (log machine k₂) (sym between) ∙ sym (written-far h₂)),
      )

  -- with as much room in one as both used, or if all changes fit each time
  pub two_steps : room at os ≡ length (written (step u at₁ os₁) r₁) + room at₂ os₂
      → (r.result.port ≡ r₂.result.port) × (written (step goal at os) r ≡ written (step u at₁ os₁) r₁ ++ written (step goal at₂ os₂) r₂)
  two_steps e =
      let k₁ : ℕ = far p u at₁ os₁ in
      let n : ℕ = goal - r₁.result.port.gates.times.clock in
      let a : goal - p.gates.times.clock ≡ k₁ + n = omega (arith, clock-far h₁, goal-ahead h₂) in
      let b : far p goal at os ≡ k₁ + far r₁.result.port goal at₂ os₂ =
      (λ i. reach machine (a i) (e i) (decode p))
      ∙ ap (λ l. reach machine (k₁ + n) (length l + room at₂ os₂) (decode p)) (written-far h₁)
      ∙ reach-add machine lawful k₁ n (room at₂ os₂) (decode p)
      ∙ ap (λ d. k₁ + reach machine n (room at₂ os₂) d) (sym between) in
      steps-join (omega (arith, b, clock-far h, clock-far h₁, clock-far h₂))

  pub two_whole : length (changes_to p goal) ≤ room at os → length (changes_to r₁.result.port goal) ≤ room at₂ os₂
      → (r.result.port ≡ r₂.result.port) × (written (step goal at os) r ≡ written (step u at₁ os₁) r₁ ++ written (step goal at₂ os₂) r₂)
  two_whole a b = steps-join ((step-told h).whole a ∙ sym ((step-told h₂).whole b))
