-- Document 01, 'Numbers returned when a call declines': the order of each call of a port. 14, a malformed record, comes first in all but New; it is a
-- matter of the record (crate `port`), so the orders here are what follows it.
-- Assumes nothing.
use Rattle.std.specs.Prelude.{Bool, true, false, cond, not, ◌&&◌, List, [], ◌∷◌, ℕ, ◌-◌, leb, ltb, eqb, length}
use Rattle.std.proofs.Math.Option.{Option, none, some}
use Rattle.rule.specs.Limits.{largest_list, largest_instant, largest_step, shortest_frame, longest_frame}
use Rattle.rule.specs.declared.Refusal.{Refusal}
use Rattle.rule.specs.declared.Refusal.TheVariants.{ZeroInterval, ListLength, SwitchedOff, ChangeWaits, CycleTime, AboveLargest, BeforeClock, StepTooLong, HeadLength, Speed, FrameSending}
use Rattle.rule.specs.Refusals.{first_of, accepted}
use Rattle.rule.specs.Entries.{Entry}
use Rattle.rule.specs.Cycle.{Config, cycle_offered, start_no, last_no}
use Rattle.rule.specs.Timetable.{Timetable, Waiting}
use Rattle.rule.specs.Port.{Port, Frame}
use Rattle.rule.specs.Acts.{GateAct, on, off, standing, submit, strict, Act, gates, transmit, Submission, is_some}

abbrev pub any : {A : Type 0} → (A → Bool) → List A → Bool
any f [] = false
any f (x ∷ l) = cond (f x) true (any f l)

unfoldable pub length_offered : ℕ → Bool
length_offered n = leb 1 n && leb n largest_list

unfoldable pub has_zero_interval : List Entry → Bool
has_zero_interval l = any (λ (x : Entry). eqb x.interval 0) l

unfoldable pub speed_offered : ℕ → Bool
speed_offered speed = any (eqb speed) (10 ∷ 100 ∷ 1_000 ∷ [])

-- a frame's length; a head length is 0, an empty queue, or that of a frame
unfoldable pub frame_offered : ℕ → Bool
frame_offered n = leb shortest_frame n && leb n longest_frame

unfoldable pub head_offered : ℕ → Bool
head_offered n = cond (eqb n 0) true (frame_offered n)

-- the last old cycle has begun under what waits: it starts before P, and has started by t
unfoldable pub last_begun : ℕ → Option Config → Option Waiting → Bool
last_begun t (some f) (some w) =
    let s : ℕ = start_no f (last_no f w.since w.config.start) in
    ltb s w.config.start && leb s t
last_begun t (some f) none = false
last_begun t none w = false

-- Submit: 6, 7, 8, 9, 5, 4; what 7 says of the timetable is handed in
unfoldable pub submit_order : Bool → Submission → Timetable → List (Bool × Refusal)
submit_order too_late x p =
    (not p.on, SwitchedOff) ∷ (too_late, ChangeWaits) ∷ (not (cycle_offered x.numerator x.denominator), CycleTime)
    ∷ (ltb largest_instant x.base, AboveLargest) ∷ (not (length_offered (length x.list)), ListLength)
    ∷ (has_zero_interval x.list, ZeroInterval) ∷ []

-- Transmit: 13, 17, 12
unfoldable pub transmit_order : List ℕ → ℕ → Option Frame → List (Bool × Refusal)
transmit_order heads speed f =
    (not (speed_offered speed), Speed) ∷ (is_some f, FrameSending) ∷ (any (λ n. not (head_offered n)) heads, HeadLength) ∷ []

-- Duration: 13, 12
unfoldable pub duration_order : ℕ → ℕ → List (Bool × Refusal)
duration_order len speed = (not (speed_offered speed), Speed) ∷ (not (frame_offered len), HeadLength) ∷ []

-- On, off, standing: none
abbrev pub gate_order : GateAct → Timetable → List (Bool × Refusal)
gate_order on p = []
gate_order off p = []
gate_order (standing octet) p = []
gate_order (submit x) p = submit_order (last_begun p.clock p.operating p.waiting) x p
gate_order (strict x) p = submit_order (is_some p.waiting) x p

abbrev pub act_order : Act → Port → List (Bool × Refusal)
act_order (gates a) p = gate_order a p.gates
act_order (transmit heads speed) p = transmit_order heads speed p.frame

-- Step: 9, 10, 11, with the longest step that the call allows. Look: 9, 10. New: 9
unfoldable pub step_order : ℕ → ℕ → Timetable → List (Bool × Refusal)
step_order longest goal p =
    (ltb largest_instant goal, AboveLargest) ∷ (ltb goal p.clock, BeforeClock) ∷ (ltb longest (goal - p.clock), StepTooLong) ∷ []

unfoldable pub look_order : ℕ → Timetable → List (Bool × Refusal)
look_order t p = (ltb largest_instant t, AboveLargest) ∷ (ltb t p.clock, BeforeClock) ∷ []

unfoldable pub new_order : ℕ → List (Bool × Refusal)
new_order t = (ltb largest_instant t, AboveLargest) ∷ []

unfoldable pub accepts_gates : GateAct → Timetable → Bool
accepts_gates a p = accepted (first_of (gate_order a p))

unfoldable pub accepts : Act → Port → Bool
accepts a p = accepted (first_of (act_order a p))

unfoldable pub accepts_goal : ℕ → Timetable → Bool
accepts_goal goal p = accepted (first_of (step_order largest_step goal p))
