-- Document 02, Item 6: a submission that is replaced may be left out of the acts from the beginning, for octets and changes. The law behind it: until the last old
-- cycle begins under it, what is shown is the same with and without what waits (`unseen`). So the changes told at each instant by the acts so far are those of the acts
-- less the replaced submissions (`replaced_changes`). In order: the law; the submission that waits taken out of a history; the acts of a run; what is told.
-- Assumes nothing.
use mathlib.Core.Path.{◌≡◌, refl, ap, ap₂, sym, ◌∙◌, subst, subst⁻¹}
use mathlib.Core.Bool.{Bool, true, false, cond, ◌&&◌, true≢false}
use mathlib.Core.List.{List, [], ◌∷◌, ◌++◌, reverse, reverse_aux}
use mathlib.Core.Option.{Option, none, some}
use Prim.Native.Nat.{ℕ, zero, suc, ◌+◌, ◌-◌, ◌≤◌, ◌<◌}
use native.Mathlib.Omega.{arith}
use lib.Dec.{leb, ltb, eqb}
use borrow.Author.Tests.{leb-true, leb-false, le-leb, lt-leb, lt-ltb}
use Rattle.rule.specs.Entries.{octet_at}
use Rattle.rule.specs.Cycle.{Config, start_no, last_no, plain_start, bent_start, plain_octet, bent_octet}
use Rattle.rule.specs.Timetable.{Timetable, Waiting, octet_under, new_timetable}
use Rattle.rule.specs.Acts.{GateAct, on, off, standing, submit, strict, is_some, config_of}
use Rattle.rule.specs.Orders.{last_begun, accepts_gates}
use Rattle.rule.specs.Machine.{Outcome, ticks}
use Rattle.rule.specs.Series.{Call, step, attempt, run, elapsed}
use Rattle.rule.specs.TimetableMachine.{timetable_machine}
use Rattle.rule.specs.History.{History, mark_of, standing_of, submissions_of, less_waiting, effective, octet_by, rule_octet, changes, rule_changes}
use Rattle.rule.proofs.Cut.{cases, clock-ticks, run_timely}
use Rattle.rule.proofs.Laws.{timetable_lawful}
use Rattle.rule.proofs.Orders.{submit_passed, strict_passed}
use Rattle.rule.proofs.Track.{Tracks, newest, operating_of, waiting_of, unwaiting, less_mark, less_standing, less_submissions, tracks_ticks, tracks_perform, tracks_new}
use Rattle.rule.proofs.Changes.{Ordered, ordered_on, told, told-on, told_rule, chained-told, octet_now, run-changes}

-- the law

late_start : (s P v : ℕ) → v < P → ltb s P && leb s v ≡ false → leb s v ≡ false
late_start s P v h e = go (leb s v) refl
  where
    go : (b : Bool) → leb s v ≡ b → b ≡ false
    go true z = let k = leb-true s v z in absurd (true≢false (sym (ap (λ b. ltb s P && b) z ∙ ap (λ b. b && true) (lt-ltb s P (omega arith))) ∙ e))
    go false z = refl

bent_plain : (f : Config) (w : Waiting) (v : ℕ) → v < w.config.start → last_begun v (some f) (some w) ≡ false
    → bent_octet f w.since w.config.start v ≡ plain_octet f v
unfolding last_begun bent_octet bent_start plain_octet
bent_plain f w v h e =
    let s : ℕ = start_no f (last_no f w.since w.config.start) in
    ap (λ b. octet_at f.list (v - cond b s (plain_start f v))) (late_start s w.config.start v h e)

-- before P, and before the last old cycle has begun under it, what waits is not seen
pub unseen : (st : ℕ) (o : Option Config) (w : Waiting) (v : ℕ) → v < w.config.start → last_begun v o (some w) ≡ false
    → octet_under st o (some w) v ≡ octet_under st o none v
unfolding octet_under
unseen st none w v h e = rw (lt-leb w.config.start v h)
unseen st (some f) w v h e = rw (lt-leb w.config.start v h) (bent_plain f w v h e)

begun_sooner : (t v : ℕ) (o : Option Config) (w : Option Waiting) → v ≤ t → last_begun t o w ≡ false → last_begun v o w ≡ false
unfolding last_begun
begun_sooner t v none w h e = refl
begun_sooner t v (some f) none h e = refl
begun_sooner t v (some f) (some w) h e = go (ltb s P) (leb s v) refl (leb s t) refl e
  where
    P : ℕ
    P = w.config.start

    s : ℕ
    s = start_no f (last_no f w.since P)

    go : (a b : Bool) → leb s v ≡ b → (c : Bool) → leb s t ≡ c → a && c ≡ false → a && b ≡ false
    go false b p c q e = refl
    go true false p c q e = refl
    go true true p c q e = absurd (true≢false (sym (sym q ∙ le-leb s t (omega (arith, leb-true s v p))) ∙ e))

-- the submission that waits, taken out

-- the newest had started by a; each began to wait when the one before it had started; the newest came no later than c
Started : ℕ → List Waiting → Type 0
Started a [] = Unit {0}
Started a (v ∷ l) = v.config.start ≤ a

Linked : List Waiting → Type 0
Linked [] = Unit {0}
Linked (w ∷ l) = Started w.since l × Linked l

Since : ℕ → List Waiting → Type 0
Since c [] = Unit {0}
Since c (w ∷ l) = w.since ≤ c

-- no last old cycle has begun at t under the newest, while it waits
NotBegun : ℕ → List Waiting → Type 0
NotBegun t [] = Unit {0}
NotBegun t (w ∷ l) = t < w.config.start → last_begun t (newest l) (some w) ≡ false

started-on : (a b : ℕ) (l : List Waiting) → a ≤ b → Started a l → Started b l
unfolding Started
started-on a b [] h k = tt
started-on a b (v ∷ l) h k = omega arith

octet-newest : (st v : ℕ) (w : Waiting) (l : List Waiting) → Started v l → v < w.config.start → last_begun v (newest l) (some w) ≡ false
    → octet_by st (w ∷ l) v ≡ octet_by st l v
unfolding Started newest octet_by
octet-newest st v w [] k h e = rw (lt-leb w.config.start v h)
octet-newest st v w (f ∷ []) k h e = rw (lt-leb w.config.start v h, le-leb f.config.start v k) (bent_plain f.config w v h e)
octet-newest st v w (f ∷ g ∷ l) k h e = rw (lt-leb w.config.start v h, le-leb f.config.start v k) (bent_plain f.config w v h e)

octet-left : (st t v : ℕ) (l : List Waiting) → v ≤ t → Since v l → Linked l → NotBegun t l → octet_by st l v ≡ octet_by st (unwaiting t l) v
unfolding unwaiting Since Linked NotBegun
octet-left st t v [] h s k n = refl
octet-left st t v (w ∷ l) h s k n = go (leb w.config.start t) refl
  where
    go : (b : Bool) → leb w.config.start t ≡ b → octet_by st (w ∷ l) v ≡ octet_by st (cond b (w ∷ l) l) v
    go true e = refl
    go false e =
        let z = leb-false w.config.start t e in
        octet-newest st v w l (started-on w.since v l s k.0) (omega arith) (begun_sooner t v (newest l) (some w) h (n z))

changes_cong : (f g : ℕ → ℕ) (lo n : ℕ) → ((v : ℕ) → lo ≤ v → v ≤ lo + n → f v ≡ g v) → changes f lo n ≡ changes g lo n
unfolding changes
changes_cong f g lo zero h = refl
changes_cong f g lo (suc n) h =
    let a = h lo (omega arith) (omega arith) in
    let b = h (suc lo) (omega arith) (omega arith) in
    let r = changes_cong f g (suc lo) n (λ v x y. h v (omega arith) (omega arith)) in
    λ i. cond (eqb (a i) (b i)) (r i) ((suc lo, b i) ∷ r i)

since-on : (c e : ℕ) (l : List Waiting) → c ≤ e → Since c l → Since e l
unfolding Since
since-on c e [] h k = tt
since-on c e (w ∷ l) h k = omega arith

since_ordered : (t₀ c : ℕ) (h : History) → Ordered t₀ c h → Since c (submissions_of h)
unfolding Ordered Since submissions_of
since_ordered t₀ c [] o = tt
since_ordered t₀ c ((u, on) ∷ h) o = since-on u c (submissions_of h) o.0 (since_ordered t₀ u h o.1)
since_ordered t₀ c ((u, off) ∷ h) o = tt
since_ordered t₀ c ((u, standing x) ∷ h) o = since-on u c (submissions_of h) o.0 (since_ordered t₀ u h o.1)
since_ordered t₀ c ((u, submit x) ∷ h) o = o.0
since_ordered t₀ c ((u, strict x) ∷ h) o = o.0

ordered_less : (t t₀ c : ℕ) (h : History) → Ordered t₀ c h → Ordered t₀ c (less_waiting t h)
unfolding Ordered less_waiting
ordered_less t t₀ c [] o = o
ordered_less t t₀ c ((u, on) ∷ h) o = (o.0, ordered_less t t₀ u h o.1)
ordered_less t t₀ c ((u, off) ∷ h) o = o
ordered_less t t₀ c ((u, standing x) ∷ h) o = (o.0, ordered_less t t₀ u h o.1)
ordered_less t t₀ c ((u, submit x) ∷ h) o = cases (Ordered t₀ c) (leb (config_of u x).start t) ((u, submit x) ∷ h) h (λ _. o) (λ _. ordered_on t₀ u c h o.1 o.0)
ordered_less t t₀ c ((u, strict x) ∷ h) o = cases (Ordered t₀ c) (leb (config_of u x).start t) ((u, strict x) ∷ h) h (λ _. o) (λ _. ordered_on t₀ u c h o.1 o.0)

module _ (s₀ t₀ t : ℕ) where
  octet_less : (h : History) (v : ℕ) → v ≤ t → Since v (submissions_of h) → Linked (submissions_of h) → NotBegun t (submissions_of h)
      → rule_octet s₀ h v ≡ rule_octet s₀ (less_waiting t h) v
  unfolding rule_octet
  octet_less h v z s k n =
      ap (λ o. cond (mark_of h) o (standing_of s₀ h)) (octet-left (standing_of s₀ h) t v (submissions_of h) z s k n)
      ∙ (λ i. cond (sym (less_mark t h) i) (octet_by (sym (less_standing t s₀ h) i) (sym (less_submissions t h) i) v) (sym (less_standing t s₀ h) i))

  -- told up to c, the submission that waits at t or not
  abbrev SameTold : History → ℕ → Type 0
  SameTold h c = told (rule_octet s₀) t₀ h c ≡ told (rule_octet s₀) t₀ (less_waiting t h) c

  -- the newest act is no submission, and stays
  kept-told : (x : ℕ × GateAct) (h r : History) (c : ℕ) → c ≤ t → Ordered t₀ c (x ∷ h) → Linked (submissions_of (x ∷ h)) → NotBegun t (submissions_of (x ∷ h))
      → less_waiting t (x ∷ h) ≡ x ∷ r → told (rule_octet s₀) t₀ h x.0 ≡ told (rule_octet s₀) t₀ r x.0
      → told (rule_octet s₀) t₀ (x ∷ h) c ≡ told (rule_octet s₀) t₀ (x ∷ r) c
  unfolding told Ordered
  kept-told x h r c z o k n e f =
      ap₂ (λ a b. a ++ b) f
      (changes_cong (rule_octet s₀ (x ∷ h)) (rule_octet s₀ (x ∷ r)) x.0 (c - x.0)
      (λ v a b. octet_less (x ∷ h) v (omega (arith, o.0)) (since_ordered t₀ v (x ∷ h) (a, o.1)) k n ∙ ap (λ g. rule_octet s₀ g v) e))

  -- the newest act is the submission that waits
  gone_told : (x : ℕ × GateAct) (h : History) (c : ℕ) → c ≤ t → Ordered t₀ c (x ∷ h) → Linked (submissions_of (x ∷ h)) → NotBegun t (submissions_of (x ∷ h))
      → less_waiting t (x ∷ h) ≡ h → told (rule_octet s₀) t₀ (x ∷ h) c ≡ told (rule_octet s₀) t₀ h c
  unfolding told Ordered
  gone_told x h c z o k n e =
      ap (λ l. told (rule_octet s₀) t₀ h x.0 ++ l)
      (changes_cong (rule_octet s₀ (x ∷ h)) (rule_octet s₀ h) x.0 (c - x.0)
      (λ v a b. octet_less (x ∷ h) v (omega (arith, o.0)) (since_ordered t₀ v (x ∷ h) (a, o.1)) k n ∙ ap (λ g. rule_octet s₀ g v) e))
      ∙ sym (told-on (rule_octet s₀) t₀ h x.0 c o.1 o.0)

  less_told : (h : History) (c : ℕ) → c ≤ t → Ordered t₀ c h → Linked (submissions_of h) → NotBegun t (submissions_of h) → SameTold h c
  unfolding less_waiting Ordered submissions_of Linked
  less_told [] c z o k n = refl
  less_told ((u, on) ∷ h) c z o k n = kept-told (u, on) h (less_waiting t h) c z o k n refl (less_told h u (omega (arith, o.0)) o.1 k n)
  less_told ((u, off) ∷ h) c z o k n = refl
  less_told ((u, standing x) ∷ h) c z o k n = kept-told (u, standing x) h (less_waiting t h) c z o k n refl (less_told h u (omega (arith, o.0)) o.1 k n)
  less_told ((u, submit x) ∷ h) c z o k n = go (leb (config_of u x).start t) refl
    where
      go : (b : Bool) → leb (config_of u x).start t ≡ b
          → told (rule_octet s₀) t₀ ((u, submit x) ∷ h) c ≡ told (rule_octet s₀) t₀ (cond b ((u, submit x) ∷ h) h) c
      go true e = refl
      go false e = gone_told (u, submit x) h c z o k n (ap (λ b. cond b ((u, submit x) ∷ h) h) e)
  less_told ((u, strict x) ∷ h) c z o k n = go (leb (config_of u x).start t) refl
    where
      go : (b : Bool) → leb (config_of u x).start t ≡ b
          → told (rule_octet s₀) t₀ ((u, strict x) ∷ h) c ≡ told (rule_octet s₀) t₀ (cond b ((u, strict x) ∷ h) h) c
      go true e = refl
      go false e = gone_told (u, strict x) h c z o k n (ap (λ b. cond b ((u, strict x) ∷ h) h) e)

-- the acts of a run: in the order of their instants, and accepted

-- 7 does not refuse a submission at t, with the submissions l before it
abbrev Taken : ℕ → GateAct → List Waiting → Type 0
Taken t on l = Unit {0}
Taken t off l = Unit {0}
Taken t (standing octet) l = Unit {0}
Taken t (submit x) l = last_begun t (operating_of l t) (waiting_of l t) ≡ false
Taken t (strict x) l = is_some (waiting_of l t) ≡ false

Fair : ℕ → ℕ → History → Type 0
Fair t₀ c [] = t₀ ≤ c
Fair t₀ c (x ∷ h) = (x.0 ≤ c) × (Taken x.0 x.1 (submissions_of (effective h)) × Fair t₀ x.0 h)

fair_on : (t₀ c e : ℕ) (h : History) → c ≤ e → Fair t₀ c h → Fair t₀ e h
unfolding Fair
fair_on t₀ c e [] z f = omega arith
fair_on t₀ c e (x ∷ h) z f = (omega (arith, f.0), f.1)

fair_act : {s₀ : ℕ} {h : History} {p : Timetable} (t₀ : ℕ) (a : GateAct) → accepts_gates a p ≡ true → Tracks s₀ h p → Fair t₀ p.clock h
    → Fair t₀ p.clock ((p.clock, a) ∷ h)
unfolding Fair
fair_act t₀ on e k f = (omega arith, (tt, f))
fair_act t₀ off e k f = (omega arith, (tt, f))
fair_act t₀ (standing o) e k f = (omega arith, (tt, f))
fair_act {p = p} t₀ (submit x) e k f = (omega arith, ((λ i. last_begun p.clock (sym k.operating i) (sym k.waiting i)) ∙ (submit_passed x p e).in_time, f))
fair_act {p = p} t₀ (strict x) e k f = (omega arith, (ap is_some (sym k.waiting) ∙ (strict_passed x p e).in_time, f))

fair_run : {s₀ : ℕ} (t₀ : ℕ) (cs : List (Call GateAct)) {h : History} {p : Timetable} → Tracks s₀ h p → Fair t₀ p.clock h
    → Fair t₀ (run timetable_machine cs p).port.clock (reverse_aux (run timetable_machine cs p).acts h)
unfolding run
fair_run t₀ [] k f = f
fair_run t₀ (step g m ∷ cs) {h} {p} k f =
    let n : ℕ = elapsed timetable_machine (step g m) p in
    fair_run t₀ cs (tracks_ticks n k) (fair_on t₀ p.clock (ticks timetable_machine n p).clock h (omega (arith, clock-ticks timetable_machine timetable_lawful n p)) f)
fair_run t₀ (attempt a ∷ cs) {h} {p} k f =
    cases (λ (r : Outcome Timetable ℕ GateAct). Fair t₀ r.port.clock (reverse_aux r.acts h)) (accepts_gates a p) _ _
    (λ e. fair_run t₀ cs (tracks_perform a e k) (subst (λ t. Fair t₀ t ((p.clock, a) ∷ h)) (sym (timetable_lawful.clock-perform a p)) (fair_act t₀ a e k f)))
    (λ _. fair_run t₀ cs k f)

-- the acts less the replaced submissions

ordered_effective : (t₀ c : ℕ) (h : History) → Fair t₀ c h → Ordered t₀ c (effective h)
unfolding Fair Ordered effective
ordered_effective t₀ c [] f = f
ordered_effective t₀ c ((t, on) ∷ h) f = (f.0, ordered_effective t₀ t h f.1.1)
ordered_effective t₀ c ((t, off) ∷ h) f = (f.0, ordered_effective t₀ t h f.1.1)
ordered_effective t₀ c ((t, standing x) ∷ h) f = (f.0, ordered_effective t₀ t h f.1.1)
ordered_effective t₀ c ((t, submit x) ∷ h) f = (f.0, ordered_less t t₀ t (effective h) (ordered_effective t₀ t h f.1.1))
ordered_effective t₀ c ((t, strict x) ∷ h) f = (f.0, ordered_effective t₀ t h f.1.1)

linked_left : (t : ℕ) (l : List Waiting) → Since t l → Linked l → Started t (unwaiting t l) × Linked (unwaiting t l)
unfolding Since Linked Started unwaiting
linked_left t [] s k = (tt, tt)
linked_left t (w ∷ l) s k =
    cases (λ r. Started t r × Linked r) (leb w.config.start t) (w ∷ l) l
    (λ e. (leb-true w.config.start t e, k))
    (λ _. (started-on w.since t l s k.0, k.1))

none_waits : (t : ℕ) (l : List Waiting) → is_some (waiting_of l t) ≡ false → Started t l
unfolding waiting_of Started
none_waits t [] e = tt
none_waits t (w ∷ l) e = go (leb w.config.start t) refl e
  where
    go : (b : Bool) → leb w.config.start t ≡ b → is_some (cond b none (some w)) ≡ false → w.config.start ≤ t
    go true q z = leb-true w.config.start t q
    go false q z = absurd (true≢false z)

linked_effective : (t₀ c : ℕ) (h : History) → Fair t₀ c h → Linked (submissions_of (effective h))
unfolding Fair effective submissions_of Linked
linked_effective t₀ c [] f = tt
linked_effective t₀ c ((t, on) ∷ h) f = linked_effective t₀ t h f.1.1
linked_effective t₀ c ((t, off) ∷ h) f = tt
linked_effective t₀ c ((t, standing x) ∷ h) f = linked_effective t₀ t h f.1.1
linked_effective t₀ c ((t, submit x) ∷ h) f =
    subst⁻¹ (λ l. Started t l × Linked l) (less_submissions t (effective h))
    (linked_left t (submissions_of (effective h)) (since_ordered t₀ t (effective h) (ordered_effective t₀ t h f.1.1)) (linked_effective t₀ t h f.1.1))
linked_effective t₀ c ((t, strict x) ∷ h) f = (none_waits t (submissions_of (effective h)) f.1.0, linked_effective t₀ t h f.1.1)

not-begun : (t : ℕ) (l : List Waiting) → last_begun t (operating_of l t) (waiting_of l t) ≡ false → NotBegun t l
unfolding NotBegun operating_of waiting_of
not-begun t [] e = tt
not-begun t (w ∷ l) e = λ z. (λ i. last_begun t (cond (sym (lt-leb w.config.start t z) i) (some w.config) (newest l)) (cond (sym (lt-leb w.config.start t z) i) none (some w))) ∙ e

-- what is told by the acts so far is told by the acts less the replaced submissions
told-effective : (s₀ t₀ c : ℕ) (h : History) → Fair t₀ c h → told (octet_now s₀) t₀ h c ≡ told (rule_octet s₀) t₀ (effective h) c
unfolding told Fair effective
told-effective s₀ t₀ c [] f = refl
told-effective s₀ t₀ c ((t, on) ∷ h) f = ap (λ l. l ++ changes (rule_octet s₀ ((t, on) ∷ effective h)) t (c - t)) (told-effective s₀ t₀ t h f.1.1)
told-effective s₀ t₀ c ((t, off) ∷ h) f = ap (λ l. l ++ changes (rule_octet s₀ ((t, off) ∷ effective h)) t (c - t)) (told-effective s₀ t₀ t h f.1.1)
told-effective s₀ t₀ c ((t, standing x) ∷ h) f =
    ap (λ l. l ++ changes (rule_octet s₀ ((t, standing x) ∷ effective h)) t (c - t)) (told-effective s₀ t₀ t h f.1.1)
told-effective s₀ t₀ c ((t, submit x) ∷ h) f =
    ap (λ l. l ++ changes (rule_octet s₀ ((t, submit x) ∷ less_waiting t (effective h))) t (c - t))
    (told-effective s₀ t₀ t h f.1.1
    ∙ less_told s₀ t₀ t (effective h) t (omega arith) (ordered_effective t₀ t h f.1.1) (linked_effective t₀ t h f.1.1)
    (not-begun t (submissions_of (effective h)) f.1.0))
told-effective s₀ t₀ c ((t, strict x) ∷ h) f =
    ap (λ l. l ++ changes (rule_octet s₀ ((t, strict x) ∷ effective h)) t (c - t)) (told-effective s₀ t₀ t h f.1.1)

pub replaced_changes : (s₀ t₀ : ℕ) (cs : List (Call GateAct))
    → (let o : Outcome Timetable ℕ GateAct = run timetable_machine cs (new_timetable t₀ s₀) in
    o.out ≡ rule_changes s₀ [] t₀ (reverse (effective (reverse o.acts))) o.port.clock)
unfolding new_timetable
replaced_changes s₀ t₀ cs =
    let o : Outcome Timetable ℕ GateAct = run timetable_machine cs (new_timetable t₀ s₀) in
    let f : Fair t₀ o.port.clock (reverse o.acts) = fair_run t₀ cs (tracks_new t₀ s₀) (unfold Fair in omega arith) in
    run-changes cs (tracks_new t₀ s₀)
    ∙ chained-told (octet_now s₀) t₀ o.acts o.port.clock (run_timely timetable_machine timetable_lawful cs (new_timetable t₀ s₀))
    ∙ told-effective s₀ t₀ o.port.clock (reverse o.acts) f
    ∙ told_rule s₀ t₀ (effective (reverse o.acts)) o.port.clock (ordered_effective t₀ o.port.clock (reverse o.acts) f)
