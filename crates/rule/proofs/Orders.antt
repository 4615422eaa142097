-- What a call that is accepted has passed: none of the tests of its order holds. In order: one test; submit; transmit; a step's goal; new and look.
-- Assumes nothing.
use mathlib.Core.Path.{◌≡◌, refl, sym}
use mathlib.Core.Bool.{Bool, true, false, cond, not, ◌&&◌, true≢false}
use mathlib.Core.List.{List}
use mathlib.Core.Option.{Option, none, some}
use Prim.Native.Nat.{ℕ, ◌-◌, ◌≤◌}
use lib.Dec.{ltb}
use lib.ListN.{length}
use borrow.Author.Tests.{ltb-false, not-false}
use Rattle.rule.specs.Limits.{largest_instant, largest_step}
use Rattle.rule.specs.declared.Refusal.{Refusal}
use Rattle.rule.specs.declared.Refusal.TheVariants.{ZeroInterval, ListLength, SwitchedOff, ChangeWaits, CycleTime, AboveLargest, BeforeClock, StepTooLong, HeadLength, Speed, FrameSending}
use Rattle.rule.specs.Refusals.{first_of, accepted}
use Rattle.rule.specs.Cycle.{cycle_offered}
use Rattle.rule.specs.Timetable.{Timetable}
use Rattle.rule.specs.Port.{Port, Frame}
use Rattle.rule.specs.Acts.{Submission, is_some, submit, strict, transmit}
use Rattle.rule.specs.Orders.{any, length_offered, has_zero_interval, speed_offered, head_offered, last_begun, submit_order, transmit_order, step_order, look_order, new_order, accepts_gates, accepts, accepts_goal}

-- one test; two tests at once
passed : (b : Bool) (r : Refusal) (rest : Option Refusal) → accepted (cond b (some r) rest) ≡ true → (b ≡ false) × (accepted rest ≡ true)
passed true r rest e = absurd (true≢false (sym e))
passed false r rest e = (refl, e)

pub both : (a b : Bool) → a && b ≡ true → (a ≡ true) × (b ≡ true)
both true b e = (refl, e)
both false b e = absurd (true≢false (sym e))

pub absent : {A : Type 0} (o : Option A) → is_some o ≡ false → o ≡ none
absent none e = refl
absent (some a) e = absurd (true≢false e)

-- tooLate: what 7 says of the timetable
pub record PassedSubmit (too_late : Bool) (x : Submission) (p : Timetable) : Type 0 where
  pub on : p.on ≡ true
  pub in_time : too_late ≡ false
  pub cycle : cycle_offered x.numerator x.denominator ≡ true
  pub base : x.base ≤ largest_instant
  pub entries : length_offered (length x.list) ≡ true
  pub intervals : has_zero_interval x.list ≡ false

pub order-submit : (too_late : Bool) (x : Submission) (p : Timetable) → accepted (first_of (submit_order too_late x p)) ≡ true → PassedSubmit too_late x p
unfolding submit_order
order-submit too_late x p e =
    let t₁ = passed (not p.on) SwitchedOff _ e in
    let t₂ = passed too_late ChangeWaits _ t₁.1 in
    let t₃ = passed (not (cycle_offered x.numerator x.denominator)) CycleTime _ t₂.1 in
    let t₄ = passed (ltb largest_instant x.base) AboveLargest _ t₃.1 in
    let t₅ = passed (not (length_offered (length x.list))) ListLength _ t₄.1 in
    let t₆ = passed (has_zero_interval x.list) ZeroInterval _ t₅.1 in
    record {
      on = not-false p.on t₁.0;
      in_time = t₂.0;
      cycle = not-false (cycle_offered x.numerator x.denominator) t₃.0;
      base = ltb-false largest_instant x.base t₄.0;
      entries = not-false (length_offered (length x.list)) t₅.0;
      intervals = t₆.0;
    }

pub submit_passed : (x : Submission) (p : Timetable) → accepts_gates (submit x) p ≡ true → PassedSubmit (last_begun p.clock p.operating p.waiting) x p
unfolding accepts_gates
submit_passed x p e = order-submit (last_begun p.clock p.operating p.waiting) x p e

pub strict_passed : (x : Submission) (p : Timetable) → accepts_gates (strict x) p ≡ true → PassedSubmit (is_some p.waiting) x p
unfolding accepts_gates
strict_passed x p e = order-submit (is_some p.waiting) x p e

pub record PassedTransmit (heads : List ℕ) (speed : ℕ) (f : Option Frame) : Type 0 where
  pub speed_offered_lem : speed_offered speed ≡ true
  pub none_sent : f ≡ none
  pub heads_offered : any (λ n. not (head_offered n)) heads ≡ false

pub order_passed : (heads : List ℕ) (speed : ℕ) (f : Option Frame) → accepted (first_of (transmit_order heads speed f)) ≡ true → PassedTransmit heads speed f
unfolding transmit_order
order_passed heads speed f e =
    let t₁ = passed (not (speed_offered speed)) Speed _ e in
    let t₂ = passed (is_some f) FrameSending _ t₁.1 in
    let t₃ = passed (any (λ n. not (head_offered n)) heads) HeadLength _ t₂.1 in
    record { speed_offered_lem = not-false (speed_offered speed) t₁.0; none_sent = absent f t₂.0; heads_offered = t₃.0 }

pub transmit_passed : (heads : List ℕ) (speed : ℕ) (p : Port) → accepts (transmit heads speed) p ≡ true → PassedTransmit heads speed p.frame
unfolding accepts
transmit_passed heads speed p e = order_passed heads speed p.frame e

pub record PassedGoal (goal : ℕ) (p : Timetable) : Type 0 where
  pub reached : goal ≤ largest_instant
  pub ahead : p.clock ≤ goal
  pub short : goal - p.clock ≤ largest_step

pub goal_passed : (goal : ℕ) (p : Timetable) → accepts_goal goal p ≡ true → PassedGoal goal p
unfolding accepts_goal step_order
goal_passed goal p e =
    let t₁ = passed (ltb largest_instant goal) AboveLargest _ e in
    let t₂ = passed (ltb goal p.clock) BeforeClock _ t₁.1 in
    let t₃ = passed (ltb largest_step (goal - p.clock)) StepTooLong _ t₂.1 in
    record {
      reached = ltb-false largest_instant goal t₁.0;
      ahead = ltb-false goal p.clock t₂.0;
      short = ltb-false largest_step (goal - p.clock) t₃.0;
    }

pub new_passed : (t : ℕ) → accepted (first_of (new_order t)) ≡ true → t ≤ largest_instant
unfolding new_order
new_passed t e = ltb-false largest_instant t (passed (ltb largest_instant t) AboveLargest _ e).0

pub look_passed : (t : ℕ) (p : Timetable) → accepted (first_of (look_order t p)) ≡ true → (t ≤ largest_instant) × (p.clock ≤ t)
unfolding look_order
look_passed t p e =
    let t₁ = passed (ltb largest_instant t) AboveLargest _ e in
    (ltb-false largest_instant t t₁.0, ltb-false t p.clock (passed (ltb t p.clock) BeforeClock _ t₁.1).0)
