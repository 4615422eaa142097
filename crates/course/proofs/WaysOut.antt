-- Travel: its order of refusals, a travel that is refused, and one that walks; and what its answer tells the caller (`travels_refused`, `travels_arrives`).
-- Assumes nothing.
use Rattle.std.proofs.Common.{◌≡◌, ℕ, ◌+◌, ◌-◌, ◌≤◌, min, Bool, true, false, cond, not, ◌&&◌, ltb, List, [], ◌∷◌, length, sym, refl, ap, ◌∙◌, ap₂, true≢false, arith, ltb-false}
use mathlib.Core.Path.{subst⁻¹}
use mathlib.Core.Option.{Option, none, some}
use borrow.Author.Tests.{not-false}
use Rattle.rule.specs.Limits.{largest_instant}
use Rattle.rule.specs.declared.Refusal.{Refusal}
use Rattle.rule.specs.declared.Refusal.TheVariants.{MalformedPort, AboveLargest, BeforeClock, StepTooLong}
use Rattle.std.specs.Prelude.{Result, Ok, Err}
use Rattle.rule.specs.Refusals.{first_of, accepted, Answer}
use Rattle.rule.specs.Answers.{answer_of, first_answer}
use Rattle.rule.specs.Timetable as model
use Rattle.rule.specs.Orders.{step_order}
use Rattle.rule.specs.Machine.{log, reach}
use Rattle.rule.specs.TimetableMachine.{timetable_machine}
use Rattle.rule.specs.History.{changes}
use Rattle.rule.proofs.Changes.{log-shown}
use Rattle.rule.proofs.Walk.{reach_by, reach-shown}
use Rattle.rule.proofs.Reach.{stepped}
use Rattle.rule.proofs.Orders.{both}
use Rattle.timetable.specs.declared.Timetable.{Timetable}
use Rattle.timetable.specs.Record.{timetable_formed}
use Rattle.timetable.specs.Coding.{decode}
use Rattle.timetable.specs.Checks.{Fine, Checked}
use Rattle.course.specs.declared.Reached.{Reached}
use Rattle.course.specs.declared.Walk.{Walk}
use Rattle.course.specs.Travel.{travel_declines, passes, reported, course_of, TravelsBy, Travels}
use Rattle.course.specs.Columns.{into, instants_of, octets_of}
use Rattle.course.specs.Journey.{Written, WalkEnds, journey_of, OrderPromise}
use Rattle.course.proofs.ChangesWritten.{written-goal}

-- the order

-- a chain of tests answers what their order declines with
first-answer : (b : Bool) (r : Refusal) (rest : Option Refusal) → first_answer b r (answer_of rest) ≡ answer_of (cond b (some r) rest)
unfolding first_answer
first-answer true r rest = refl
first-answer false r rest = refl

module _ (malformed : Bool) (longest goal clock : ℕ) (far : Bool) (is : far ≡ ltb longest (goal - clock)) where
  pub order_is : (a b c d : Answer) → a ≡ first_answer far StepTooLong (Ok tt) → b ≡ first_answer (ltb goal clock) BeforeClock a
      → c ≡ first_answer (ltb largest_instant goal) AboveLargest b → d ≡ first_answer malformed MalformedPort c → OrderPromise malformed longest goal clock d
  unfolding step_order
  order_is a b c d i j k l m e =
      let f : Option Refusal = cond (ltb longest (goal - m.clock)) (some StepTooLong) none in
      let s : Option Refusal = cond (ltb goal m.clock) (some BeforeClock) f in
      let t : Option Refusal = cond (ltb largest_instant goal) (some AboveLargest) s in
      let p : a ≡ answer_of f = i ∙ ap (λ q. first_answer q StepTooLong (Ok tt)) (is ∙ ap (λ v. ltb longest (goal - v)) (sym e)) ∙ first-answer _ StepTooLong none in
      let q : b ≡ answer_of s = j ∙ ap (λ v. first_answer (ltb goal v) BeforeClock a) (sym e) ∙ ap (first_answer (ltb goal m.clock) BeforeClock) p ∙ first-answer _ BeforeClock f in
      let r : c ≡ answer_of t = k ∙ ap (first_answer (ltb largest_instant goal) AboveLargest) q ∙ first-answer _ AboveLargest s in
      l ∙ ap (first_answer malformed MalformedPort) r ∙ first-answer malformed MalformedPort t

-- what the answer of the order says of a record that was checked

answered : Answer → Option Refusal
answered (Ok _) = none
answered (Err r) = some r

answered_of : (o : Option Refusal) → answered (answer_of o) ≡ o
unfolding answered
answered_of none = refl
answered_of (some r) = refl

module _ (fit : Bool) (longest goal : ℕ) (g : Timetable) (b : Bool) (checked : Checked g b) (a : Answer)
    (order : OrderPromise (not (fit && b)) longest goal g.times.clock a) where
  declines_by : (o : Option Refusal) → answered a ≡ o → travel_declines fit longest goal g ≡ o
  unfolding travel_declines decode
  declines_by o e =
      sym (answered_of _) ∙ sym (ap answered (order (decode g) refl ∙ ap (λ q. answer_of (first_of ((not (fit && q), MalformedPort) ∷ step_order longest goal (decode g)))) checked.is))
      ∙ e

  pub order_refuses : (r : Refusal) → a ≡ Err r → travel_declines fit longest goal g ≡ some r
  unfolding answered
  order_refuses r e = declines_by (some r) (ap answered e)

  order-accepts : a ≡ (Ok tt) → travel_declines fit longest goal g ≡ none
  unfolding answered
  order-accepts e = declines_by none (ap answered e)

-- none of the tests of an accepted travel holds

not_some : (r : Refusal) → some r ≡ none → ⊥
not_some r e = true≢false (sym (ap accepted e))

passed : (b : Bool) (r : Refusal) (rest : Option Refusal) → cond b (some r) rest ≡ none → (b ≡ false) × (rest ≡ none)
passed true r rest e = absurd (not_some r e)
passed false r rest e = (refl, e)

pub record AcceptedTravel (fit : Bool) (goal : ℕ) (g : Timetable) : Type 0 where
  pub formed : fit && timetable_formed g ≡ true
  pub near : goal ≤ largest_instant
  pub ahead : g.times.clock ≤ goal

pub travel-accepted : (fit : Bool) (longest goal : ℕ) (g : Timetable) → travel_declines fit longest goal g ≡ none → AcceptedTravel fit goal g
unfolding travel_declines step_order decode
travel-accepted fit longest goal g e =
    let t₁ = passed (not (fit && timetable_formed g)) MalformedPort _ e in
    let t₂ = passed (ltb largest_instant goal) AboveLargest _ t₁.1 in
    let t₃ = passed (ltb goal g.times.clock) BeforeClock _ t₂.1 in
    record {
      formed = not-false (fit && timetable_formed g) t₁.0;
      near = ltb-false largest_instant goal t₂.0;
      ahead = ltb-false goal g.times.clock t₃.0;
    }

accepted-fine : (fit : Bool) (goal : ℕ) (g : Timetable) → AcceptedTravel fit goal g → (b : Bool) → Checked g b → Fine g
accepted-fine fit goal g k b c = c.fine (c.is ∙ (both fit (timetable_formed g) k.formed).1)

-- what a travel has that the order accepts
pub record Passes (fit : Bool) (longest goal : ℕ) (g : Timetable) : Type 0 where
  pub declines : travel_declines fit longest goal g ≡ none
  pub near : goal ≤ largest_instant
  pub ahead : g.times.clock ≤ goal
  pub fine : Fine g

pub order-passes : (fit : Bool) (longest goal : ℕ) (g : Timetable) (b : Bool) → Checked g b → (a : Answer)
    → OrderPromise (not (fit && b)) longest goal g.times.clock a → a ≡ (Ok tt) → Passes fit longest goal g
order-passes fit longest goal g b c a order e =
    let d = order-accepts fit longest goal g b c a order e in
    let k = travel-accepted fit longest goal g d in
    record { declines = d; near = k.near; ahead = k.ahead; fine = accepted-fine fit goal g k b c }

-- the ways out of `travel`

-- nothing is reported of no instant
none_reported : (g : Timetable) → reported 0 g ≡ []
unfolding reported log
none_reported g = refl

into_none : (buf : List ℕ) → buf ≡ into [] buf
unfolding into
into_none buf = refl

module _ (fit : Bool) (longest goal : ℕ) (g : Timetable) (at at' os os' : List ℕ) where
  abbrev room : ℕ
  room = min (length at) (length os)

  pub travel-stays : (r : Refusal) → travel_declines fit longest goal g ≡ some r → at' ≡ at → os' ≡ os → Travels fit longest goal g at at' os os' (Err r)
  unfolding passes
  travel-stays r e a o =
      let z : passes fit longest goal room g ≡ 0 = rw e in
      subst⁻¹ (λ k. TravelsBy k fit longest goal g at at' os os' (Err r)) z
      (record {
        answer = rw e;
        instants = rw (none_reported g) (a ∙ into_none at);
        octets = rw (none_reported g) (o ∙ into_none os);
        fine = λ q. absurd (not_some r (sym e ∙ q));
      })

  reached : reach timetable_machine (goal - g.times.clock) room (decode g) ≡ reach_by (model.shown (decode g)) g.times.clock (goal - g.times.clock) room
  unfolding decode
  reached = reach-shown (goal - g.times.clock) room (decode g)

  told : (k : ℕ) → changes (model.shown (decode g)) g.times.clock k ≡ reported k g
  unfolding reported decode
  told k = sym (log-shown k (decode g))

  pub travel-goes : travel_declines fit longest goal g ≡ none → Fine g → (n e : ℕ) → WalkEnds (journey_of g goal at os) e n at' os'
      → Travels fit longest goal g at at' os os' (Ok (record { written = n; at = e }))
  unfolding passes
  travel-goes d f n e w =
      let k : ℕ = e - g.times.clock in
      let z : passes fit longest goal room g ≡ k = rw d (reached ∙ w.reaches) in
      let h : e ≡ g.times.clock + k = omega (arith, w.from) in
      subst⁻¹ (λ i. TravelsBy i fit longest goal g at at' os os' (Ok (record { written = n; at = e }))) z
      (record {
        answer = rw d (ap₂ (λ n e. Ok (record { written = n; at = e })) (w.count ∙ ap length (told k)) h);
        instants = w.instants ∙ ap (λ l. into (instants_of l) at) (told k);
        octets = w.octets ∙ ap (λ l. into (octets_of l) os) (told k);
        fine = λ _. f;
      })

  -- the ways out of a walk that leaves this in the buffers: it has come to the goal, or ends before
  module _ (p : Passes fit longest goal g) (w : Walk) (instants : at' ≡ w.instants.now) (octets : os' ≡ w.octets.now) where
    pub travel-ends : (e : Reached) → WalkEnds (journey_of g goal at os) e.at e.written w.instants.now w.octets.now → Travels fit longest goal g at at' os os' (Ok e)
    travel-ends e k = travel-goes p.declines p.fine e.written e.at (rw (instants, octets) k)

    pub travel-comes : Written (journey_of g goal at os) goal w → Travels fit longest goal g at at' os os' (Ok (record { written = w.written; at = goal }))
    travel-comes k =
        travel-ends (record { written = w.written; at = goal })
        (written-goal (journey_of g goal at os) goal w.octet w.written w.instants.now w.octets.now k refl)

-- what an answer says of the order

count_by : Result Reached Refusal → ℕ
count_by (Err r) = 0
count_by (Ok c) = c.written

end_by : Result Reached Refusal → ℕ
end_by (Err r) = 0
end_by (Ok c) = c.at

refusal_by : Result Reached Refusal → Option Refusal
refusal_by (Err r) = some r
refusal_by (Ok c) = none

refusal_by_lem : (o : Option Refusal) (n e : ℕ) → refusal_by (course_of o n e) ≡ o
unfolding refusal_by
refusal_by_lem none n e = refl
refusal_by_lem (some r) n e = refl

declined_by : (fit : Bool) (longest goal : ℕ) (g : Timetable) (at at' os os' : List ℕ) (r : Result Reached Refusal) → Travels fit longest goal g at at' os os' r
    → travel_declines fit longest goal g ≡ refusal_by r
declined_by fit longest goal g at at' os os' r t =
    let k : ℕ = passes fit longest goal (min (length at) (length os)) g in
    sym (refusal_by_lem (travel_declines fit longest goal g) (length (reported k g)) (g.times.clock + k)) ∙ ap refusal_by (sym t.answer)

-- a travel that stays says what it declines with
pub travels_refused : (fit : Bool) (longest goal : ℕ) (g : Timetable) (at at' os os' : List ℕ) (r : Result Reached Refusal) → Travels fit longest goal g at at' os os' r
    → (reason : Refusal) → r ≡ Err reason → travel_declines fit longest goal g ≡ some reason
unfolding refusal_by
travels_refused fit longest goal g at at' os os' r t reason q = declined_by fit longest goal g at at' os os' r t ∙ ap refusal_by q

-- and one that goes was accepted, and is the walk from the clock
pub record Arrives (fit : Bool) (longest goal : ℕ) (g : Timetable) (at at' os os' : List ℕ) (n e : ℕ) : Type 0 where
  pub declines : travel_declines fit longest goal g ≡ none
  pub fine : Fine g
  pub walk : WalkEnds (journey_of g goal at os) e n at' os'

pub travels_arrives : (fit : Bool) (longest goal : ℕ) (g : Timetable) (at at' os os' : List ℕ) (r : Result Reached Refusal) → Travels fit longest goal g at at' os os' r
    → (n e : ℕ) → r ≡ Ok (record { written = n; at = e }) → Arrives fit longest goal g at at' os os' n e
unfolding passes refusal_by count_by end_by
travels_arrives fit longest goal g at at' os os' r t n e q =
    let k : ℕ = passes fit longest goal (min (length at) (length os)) g in
    let d : travel_declines fit longest goal g ≡ none = declined_by fit longest goal g at at' os os' r t ∙ ap refusal_by q in
    let a : Ok (record { written = n; at = e }) ≡ course_of none (length (reported k g)) (g.times.clock + k) = sym q ∙ t.answer ∙ ap (λ o. course_of o (length (reported k g)) (g.times.clock + k)) d in
    let z : k ≡ reach timetable_machine (goal - g.times.clock) (min (length at) (length os)) (decode g) = rw d in
    let y : e ≡ g.times.clock + k = ap end_by a in
    let i : k ≡ e - g.times.clock = omega arith in
    let l : reported k g ≡ changes (model.shown (decode g)) g.times.clock (e - g.times.clock) =
    sym (told fit longest goal g at at' os os' k) ∙ ap (changes (model.shown (decode g)) g.times.clock) i in
    let u = (stepped timetable_machine (goal - g.times.clock) (min (length at) (length os)) (decode g)).within in
    record {
      declines = d;
      fine = t.fine d;
      walk = record {
        from = omega arith;
        upto = omega (arith, (travel-accepted fit longest goal g d).ahead);
        count = ap count_by a ∙ ap length l;
        instants = t.instants ∙ ap (λ v. into (instants_of v) at) l;
        octets = t.octets ∙ ap (λ v. into (octets_of v) os) l;
        reaches = sym (reached fit longest goal g at at' os os') ∙ sym z ∙ i;
      };
    }
