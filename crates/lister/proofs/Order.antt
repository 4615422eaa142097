-- The listing's order, refusal by refusal: of a sheet whose list is read, the calls' own orders come to start 9, cycle 8, base 9, end 9, 10, 11, and nothing else
-- (`order-told`). 6 and 7 are ruled out by a port that is switched on and that nothing waits in, 5 and 4 by the list's reading.
-- Assumes nothing.
use mathlib.Core.Path.{◌≡◌, refl, ap, ap₂, ◌∙◌}
use mathlib.Core.Bool.{Bool, true, false, cond, not, true≢false}
use mathlib.Core.List.{List, [], ◌∷◌}
use mathlib.Core.Option.{Option, none, some}
use Prim.Native.Nat.{ℕ, zero, suc, ◌*◌, ◌-◌}
use lib.Dec.{ltb}
use lib.ListN.{length, get_or}
use borrow.Author.Tests.{not-false}
use Rattle.rule.specs.Limits.{largest_instant, largest_step}
use Rattle.rule.specs.declared.Refusal.{Refusal}
use Rattle.rule.specs.declared.Refusal.TheVariants.{CycleTime, AboveLargest, BeforeClock, StepTooLong, ListLength}
use Rattle.rule.specs.Refusals.{first_of}
use Rattle.rule.specs.Entries.{Entry}
use Rattle.rule.specs.Cycle.{cycle_offered}
use Rattle.rule.specs.Timetable.{new_timetable}
use Rattle.rule.specs.Port.{new_port}
use Rattle.rule.specs.Acts.{is_some, perform}
use Rattle.rule.specs.Orders.{last_begun, length_offered, has_zero_interval, submit_order, step_order, new_order}
use Rattle.rule.proofs.Laws.{clock-perform}
use Rattle.gatelist.specs.Coding.{list_from}
use Rattle.octets.specs.Octets.{entry_at, stated_order, entry_order, refused_at, refusal_from, read_refusal}
use Rattle.gatelist.proofs.Coding.{length_from}
use Rattle.sheet.specs.declared.Sheet.{Sheet}
use Rattle.lister.specs.Opening.{list_octets, entries_of, switch_on, submits, made_port, switched_port, submitted_port, calls_order}

-- a list that is read has 1 to 128 entries, and no interval of 0

refused_none : (at : ℕ) (o : Option Refusal) (rest : Option (Refusal × ℕ)) → refused_at at o rest ≡ none → (o ≡ none) × (rest ≡ none)
refused_none at none rest e = (refl, e)
refused_none at (some r) rest e = absurd (some_none (r, at) e)
  where
    some_none : (x : Refusal × ℕ) → some x ≡ none → ⊥
    some_none x q = true≢false (ap is_some q)

-- no test of an order holds
first_none : (l : List (Bool × Refusal)) → first_of l ≡ none → (k : ℕ) → (get_or l k (false, ListLength)).0 ≡ false
first_none [] e k = refl
first_none (x ∷ l) e k = go x.0 refl e k (first_none l)
  where
    go : (b : Bool) → x.0 ≡ b → cond b (some x.1) (first_of l) ≡ none → (k : ℕ)
        → (first_of l ≡ none → (k : ℕ) → (get_or l k (false, ListLength)).0 ≡ false) → (get_or (x ∷ l) k (false, ListLength)).0 ≡ false
    go true q e k ih = absurd (true≢false (ap is_some e))
    go false q e zero ih = q
    go false q e (suc k) ih = ih e k

none_zero : (s : List ℕ) (i n : ℕ) → refusal_from s i n ≡ none → has_zero_interval (list_from (entry_at s) i n) ≡ false
unfolding refusal_from has_zero_interval list_from
none_zero s i zero e = refl
none_zero s i (suc n) e =
    let z = refused_none (7 * i) (first_of (entry_order s (7 * i))) (refusal_from s (suc i) n) e in
    ap₂ (λ a b. cond a true b) (first_none (entry_order s (7 * i)) z.0 4) (none_zero s (suc i) n z.1)

read-valid : (s : List ℕ) (n : ℕ) → read_refusal s n ≡ none
    → (length_offered (length (list_from (entry_at s) 0 n)) ≡ true) × (has_zero_interval (list_from (entry_at s) 0 n) ≡ false)
unfolding read_refusal
read-valid s n e =
    let z = refused_none 0 (first_of (stated_order n)) (refusal_from s 0 n) e in
    let t = first_none (stated_order n) z.0 0 in
    (ap length_offered (length_from (entry_at s) 0 n) ∙ not-false (length_offered n) t, none_zero s 0 n z.1)

-- the port that is submitted to is on, and nothing waits in it

on-is : (h : Sheet) → (switched_port h).gates.on ≡ true
unfolding perform new_port new_timetable
on-is h = refl

not_late : (h : Sheet) → last_begun (switched_port h).gates.clock (switched_port h).gates.operating (switched_port h).gates.waiting ≡ false
unfolding perform new_port new_timetable last_begun
not_late h = refl

clock-submitted : (h : Sheet) (l : List Entry) → (submitted_port h l).gates.clock ≡ h.start
unfolding new_port new_timetable
clock-submitted h l = clock-perform (submits h l) (switched_port h) ∙ clock-perform switch_on (made_port h)

-- start 9, cycle 8, base 9, end 9, 10, 11
abbrev pub told_order : Sheet → List (Bool × Refusal)
told_order h =
    (ltb largest_instant h.start, AboveLargest) ∷ (not (cycle_offered h.numerator h.denominator), CycleTime)
    ∷ (ltb largest_instant h.base, AboveLargest) ∷ (ltb largest_instant h.end, AboveLargest) ∷ (ltb h.end h.start, BeforeClock)
    ∷ (ltb largest_step (h.end - h.start), StepTooLong) ∷ []

pub order-told : (s : List ℕ) (h : Sheet) → read_refusal (list_octets s h) h.length ≡ none
    → first_of (calls_order h (entries_of s h)) ≡ first_of (told_order h)
unfolding calls_order new_order submit_order step_order
order-told s h e =
    let v = read-valid (list_octets s h) h.length e in
    rw (clock-submitted h (entries_of s h), on-is h, not_late h, v.0, v.1)
