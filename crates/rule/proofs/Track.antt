-- The timetable says what the rule reads off the accepted acts, less the replaced submissions: mark, standing octet, what operates and waits; and
-- ConfigChangeError, off all of them (`tracks_run`). In order: one instant more; the octet; the submission that waits taken out; an accepted act; any series
-- of calls. Changes and overruns are in `Changes`, `Replaced` and `Overrun`.
-- Assumes nothing.
use mathlib.Core.Path.{◌≡◌, refl, ap, ap₂, sym, ◌∙◌}
use mathlib.Core.Bool.{Bool, true, false, cond, ◌&&◌, true≢false}
use mathlib.Core.List.{List, [], ◌∷◌, reverse_aux}
use mathlib.Core.Option.{Option, none, some}
use Prim.Native.Nat.{ℕ, zero, suc, ◌^◌, ◌%◌, ◌≤◌}
use native.Mathlib.Nat.{mod-add-mod}
use native.Mathlib.Numerals.{add-one}
use native.Mathlib.Omega.{arith}
use lib.Dec.{leb, ltb}
use borrow.Author.Tests.{leb-true, le-leb}
use Rattle.rule.specs.Cycle.{Config}
use Rattle.rule.specs.Timetable.{Timetable, Waiting, raise, octet_under, shown, operating_at, waiting_at, tick, new_timetable}
use Rattle.rule.specs.Acts.{GateAct, on, off, standing, submit, strict, Submission, is_some, config_of, errors_after, submitted, perform_gates}
use Rattle.rule.specs.Orders.{accepts_gates}
use Rattle.rule.specs.Machine.{ticks, Outcome}
use Rattle.rule.specs.Series.{Call, step, attempt, run, elapsed}
use Rattle.rule.specs.TimetableMachine.{timetable_machine}
use Rattle.rule.specs.History.{History, mark_after, standing_after, submissions_after, mark_of, standing_of, submissions_of, less_by, less_waiting, effective, octet_by, rule_octet, operates, rule_errors}
use Rattle.rule.proofs.Cut.{cases}
use Rattle.rule.proofs.Orders.{strict_passed}

-- what operates and what waits at t, by the submissions: the newest operates if its change instant has come, else the one before it does

unfoldable pub newest : List Waiting → Option Config
newest [] = none
newest (w ∷ l) = some w.config

unfoldable pub operating_of : List Waiting → ℕ → Option Config
operating_of [] t = none
operating_of (w ∷ l) t = cond (leb w.config.start t) (some w.config) (newest l)

unfoldable pub waiting_of : List Waiting → ℕ → Option Waiting
waiting_of [] t = none
waiting_of (w ∷ l) t = cond (leb w.config.start t) none (some w)

pub record Tracks (s₀ : ℕ) (h : History) (p : Timetable) : Type 0 where
  pub mark : p.on ≡ mark_of (effective h)
  pub standing : p.standing ≡ standing_of s₀ (effective h)
  pub operating : p.operating ≡ operating_of (submissions_of (effective h)) p.clock
  pub waiting : p.waiting ≡ waiting_of (submissions_of (effective h)) p.clock
  pub errors : p.errors ≡ rule_errors h % 2 ^ 64

-- time goes on by one instant

next-operating : (l : List Waiting) (t : ℕ) → operating_at (suc t) (operating_of l t) (waiting_of l t) ≡ operating_of l (suc t)
unfolding operating_of waiting_of
next-operating [] t = refl
next-operating (w ∷ l) t = go (leb w.config.start t) refl
  where
    go : (b : Bool) → leb w.config.start t ≡ b
        → operating_at (suc t) (cond b (some w.config) (newest l)) (cond b none (some w)) ≡ cond (leb w.config.start (suc t)) (some w.config) (newest l)
    go true e = rw (le-leb w.config.start (suc t) (omega (arith, leb-true)))
    go false e = refl

next-waiting : (l : List Waiting) (t : ℕ) → waiting_at (suc t) (waiting_of l t) ≡ waiting_of l (suc t)
unfolding waiting_of
next-waiting [] t = refl
next-waiting (w ∷ l) t = go (leb w.config.start t) refl
  where
    go : (b : Bool) → leb w.config.start t ≡ b → waiting_at (suc t) (cond b none (some w)) ≡ cond (leb w.config.start (suc t)) none (some w)
    go true e = rw (le-leb w.config.start (suc t) (omega (arith, leb-true)))
    go false e = refl

pub tracks_tick : {s₀ : ℕ} {h : History} {p : Timetable} → Tracks s₀ h p → Tracks s₀ h (tick p)
unfolding tick
tracks_tick {h = h} {p} k = record {
  mark = k.mark;
  standing = k.standing;
  operating = ap₂ (operating_at (suc p.clock)) k.operating k.waiting ∙ next-operating (submissions_of (effective h)) p.clock;
  waiting = ap (waiting_at (suc p.clock)) k.waiting ∙ next-waiting (submissions_of (effective h)) p.clock;
  errors = k.errors;
}

pub tracks_ticks : {s₀ : ℕ} {h : History} (n : ℕ) {p : Timetable} → Tracks s₀ h p → Tracks s₀ h (ticks timetable_machine n p)
unfolding ticks
tracks_ticks zero k = k
tracks_ticks (suc n) k = tracks_ticks n (tracks_tick k)

-- the octet

octet_by-operating : (st : ℕ) (l : List Waiting) (c t : ℕ) → c ≤ t → octet_under st (operating_of l c) (waiting_of l c) t ≡ octet_by st l t
unfolding operating_of waiting_of newest octet_under octet_by
octet_by-operating st [] c t h = refl
octet_by-operating st (w ∷ l) c t h = go (leb w.config.start c) refl l
  where
    go : (b : Bool) → leb w.config.start c ≡ b → (l : List Waiting)
        → octet_under st (cond b (some w.config) (newest l)) (cond b none (some w)) t ≡ octet_by st (w ∷ l) t
    go true e [] = rw (le-leb w.config.start t (omega (arith, leb-true)))
    go true e (v ∷ l) = rw (le-leb w.config.start t (omega (arith, leb-true)))
    go false e [] = refl
    go false e (v ∷ l) = refl

pub tracks_shown : {s₀ : ℕ} {h : History} {p : Timetable} → Tracks s₀ h p → (t : ℕ) → p.clock ≤ t → shown p t ≡ rule_octet s₀ (effective h) t
unfolding shown rule_octet
tracks_shown {s₀} {h} {p} k t c =
    (λ i. cond (k.mark i) (octet_under (k.standing i) (k.operating i) (k.waiting i) t) (k.standing i))
    ∙ ap (λ n. cond (mark_of (effective h)) n (standing_of s₀ (effective h)))
    (octet_by-operating (standing_of s₀ (effective h)) (submissions_of (effective h)) p.clock t c)

-- the submission that waits taken out

-- of the submissions since the last off
unfoldable pub unwaiting : ℕ → List Waiting → List Waiting
unwaiting t [] = []
unwaiting t (w ∷ l) = cond (leb w.config.start t) (w ∷ l) l

module _ (t : ℕ) where
  pub less_mark : (h : History) → mark_of (less_waiting t h) ≡ mark_of h
  unfolding less_waiting mark_of
  less_mark [] = refl
  less_mark (x ∷ h) = go x.1 (less_mark h)
    where
      either : (b : Bool) (a : GateAct) → mark_after a (mark_of h) ≡ mark_of h → mark_of (cond b ((x.0, a) ∷ h) h) ≡ mark_of h
      either true a e = e
      either false a e = refl

      go : (a : GateAct) → mark_of (less_waiting t h) ≡ mark_of h → mark_of (less_by t x.0 a h (less_waiting t h)) ≡ mark_after a (mark_of h)
      go on e = refl
      go off e = refl
      go (standing o) e = e
      go (submit y) e = either (leb (config_of x.0 y).start t) (submit y) refl
      go (strict y) e = either (leb (config_of x.0 y).start t) (strict y) refl

  pub less_standing : (s₀ : ℕ) (h : History) → standing_of s₀ (less_waiting t h) ≡ standing_of s₀ h
  unfolding less_waiting standing_of
  less_standing s₀ [] = refl
  less_standing s₀ (x ∷ h) = go x.1 (less_standing s₀ h)
    where
      either : (b : Bool) (a : GateAct) → standing_after a (standing_of s₀ h) ≡ standing_of s₀ h → standing_of s₀ (cond b ((x.0, a) ∷ h) h) ≡ standing_of s₀ h
      either true a e = e
      either false a e = refl

      go : (a : GateAct) → standing_of s₀ (less_waiting t h) ≡ standing_of s₀ h
          → standing_of s₀ (less_by t x.0 a h (less_waiting t h)) ≡ standing_after a (standing_of s₀ h)
      go on e = e
      go off e = refl
      go (standing o) e = refl
      go (submit y) e = either (leb (config_of x.0 y).start t) (submit y) refl
      go (strict y) e = either (leb (config_of x.0 y).start t) (strict y) refl

  pub less_submissions : (h : History) → submissions_of (less_waiting t h) ≡ unwaiting t (submissions_of h)
  unfolding less_waiting submissions_of unwaiting
  less_submissions [] = refl
  less_submissions (x ∷ h) = go x.1 (less_submissions h)
    where
      either : (b : Bool) (a : GateAct) (w : Waiting) → submissions_after x.0 a (submissions_of h) ≡ w ∷ submissions_of h
          → submissions_of (cond b ((x.0, a) ∷ h) h) ≡ cond b (w ∷ submissions_of h) (submissions_of h)
      either true a w e = e
      either false a w e = refl

      go : (a : GateAct) → submissions_of (less_waiting t h) ≡ unwaiting t (submissions_of h)
          → submissions_of (less_by t x.0 a h (less_waiting t h)) ≡ unwaiting t (submissions_after x.0 a (submissions_of h))
      go on e = e
      go off e = refl
      go (standing o) e = e
      go (submit y) e = either (leb (config_of x.0 y).start t) (submit y) (record { config = config_of x.0 y; since = x.0 }) refl
      go (strict y) e = either (leb (config_of x.0 y).start t) (strict y) (record { config = config_of x.0 y; since = x.0 }) refl

-- what operates is then the newest
newest-left : (l : List Waiting) (t : ℕ) → operating_of l t ≡ newest (unwaiting t l)
unfolding operating_of unwaiting newest
newest-left [] t = refl
newest-left (w ∷ l) t = go (leb w.config.start t)
  where
    go : (b : Bool) → cond b (some w.config) (newest l) ≡ newest (cond b (w ∷ l) l)
    go true = refl
    go false = refl

-- where nothing waits, it is the newest itself
newest-operates : (l : List Waiting) (t : ℕ) → is_some (waiting_of l t) ≡ false → operating_of l t ≡ newest l
unfolding operating_of waiting_of newest
newest-operates [] t e = refl
newest-operates (w ∷ l) t e = go (leb w.config.start t) e
  where
    go : (b : Bool) → is_some (cond b none (some w)) ≡ false → cond b (some w.config) (newest l) ≡ some w.config
    go true e = refl
    go false e = absurd (true≢false e)

newest-counts : (l : List Waiting) (t : ℕ) → is_some (operating_of l t) ≡ operates l t
unfolding operating_of newest operates
newest-counts [] t = refl
newest-counts (w ∷ []) t = go (leb w.config.start t)
  where
    go : (b : Bool) → is_some (cond b (some w.config) none) ≡ b
    go true = refl
    go false = refl
newest-counts (w ∷ v ∷ l) t = go (leb w.config.start t)
  where
    go : (b : Bool) → is_some (cond b (some w.config) (some v.config)) ≡ true
    go true = refl
    go false = refl

-- an act

-- a Counter64 is a count modulo 2^64
pub raise-mod : (n : ℕ) → raise (n % 2 ^ 64) ≡ suc n % 2 ^ 64
unfolding raise
raise-mod n = mod-add-mod n (2 ^ 64) 1 ∙ ap (λ k. k % 2 ^ 64) (add-one n)

counted-on : (b : Bool) (n : ℕ) → cond b (raise (n % 2 ^ 64)) (n % 2 ^ 64) ≡ cond b (suc n) n % 2 ^ 64
counted-on true n = raise-mod n
counted-on false n = refl

-- ConfigChangeError after a submission
errors-on : {s₀ : ℕ} {h : History} {p : Timetable} (x : Submission) → Tracks s₀ h p
    → errors_after p.clock x p.operating p.errors
    ≡ cond (ltb x.base p.clock && operates (submissions_of (effective h)) p.clock) (suc (rule_errors h)) (rule_errors h) % 2 ^ 64
unfolding errors_after
errors-on {h = h} {p} x k =
    (λ i. errors_after p.clock x (k.operating i) (k.errors i))
    ∙ ap (λ b. cond (ltb x.base p.clock && b) (raise (rule_errors h % 2 ^ 64)) (rule_errors h % 2 ^ 64)) (newest-counts (submissions_of (effective h)) p.clock)
    ∙ counted-on (ltb x.base p.clock && operates (submissions_of (effective h)) p.clock) (rule_errors h)

-- what operates after it, with what operated before it the newest of the submissions that are left
operating-on : (t : ℕ) (x : Submission) (o : Option Config) (l : List Waiting) → o ≡ newest l
    → operating_at t o (some (record { config = config_of t x; since = t })) ≡ operating_of (record { config = config_of t x; since = t } ∷ l) t
unfolding operating_of
operating-on t x o l e = ap (λ q. operating_at t q (some (record { config = config_of t x; since = t }))) e

pub tracks_perform : {s₀ : ℕ} {h : History} {p : Timetable} (a : GateAct) → accepts_gates a p ≡ true → Tracks s₀ h p → Tracks s₀ ((p.clock, a) ∷ h) (perform_gates a p)
unfolding effective mark_of standing_of submissions_of rule_errors operating_of waiting_of submitted
tracks_perform on e k = record { mark = refl; standing = k.standing; operating = k.operating; waiting = k.waiting; errors = k.errors }
tracks_perform off e k = record { mark = refl; standing = k.standing; operating = refl; waiting = refl; errors = k.errors }
tracks_perform (standing o) e k = record { mark = k.mark; standing = refl; operating = k.operating; waiting = k.waiting; errors = k.errors }
tracks_perform {s₀} {h} {p} (submit x) e k =
    let l : List Waiting = submissions_of (effective h) in
    let z = less_submissions p.clock (effective h) in
    record {
      mark = k.mark ∙ sym (less_mark p.clock (effective h));
      standing = k.standing ∙ sym (less_standing p.clock s₀ (effective h));
      operating = operating-on p.clock x p.operating _ (k.operating ∙ newest-left l p.clock ∙ ap newest (sym z));
      waiting = refl;
      errors = errors-on x k;
    }
tracks_perform {s₀} {h} {p} (strict x) e k =
    let l : List Waiting = submissions_of (effective h) in
    let none : is_some (waiting_of l p.clock) ≡ false = ap is_some (sym k.waiting) ∙ (strict_passed x p e).in_time in
    record {
      mark = k.mark;
      standing = k.standing;
      operating = operating-on p.clock x p.operating l (k.operating ∙ newest-operates l p.clock none);
      waiting = refl;
      errors = errors-on x k;
    }

pub tracks_new : (t s₀ : ℕ) → Tracks s₀ [] (new_timetable t s₀)
unfolding new_timetable effective mark_of standing_of submissions_of rule_errors operating_of waiting_of
tracks_new t s₀ = record { mark = refl; standing = refl; operating = refl; waiting = refl; errors = refl }

-- whatever is called: the timetable says what the rule reads off the acts accepted on the way
pub tracks_run : {s₀ : ℕ} (cs : List (Call GateAct)) {h : History} {p : Timetable} → Tracks s₀ h p
    → Tracks s₀ (reverse_aux (run timetable_machine cs p).acts h) (run timetable_machine cs p).port
unfolding run
tracks_run [] k = k
tracks_run (step g m ∷ cs) {p = p} k = tracks_run cs (tracks_ticks (elapsed timetable_machine (step g m) p) k)
tracks_run {s₀} (attempt a ∷ cs) {h} {p} k =
    cases (λ (r : Outcome Timetable ℕ GateAct). Tracks s₀ (reverse_aux r.acts h) r.port) (accepts_gates a p) _ _
    (λ e. tracks_run cs (tracks_perform a e k))
    (λ _. tracks_run cs k)
