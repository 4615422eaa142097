-- The changes that a series of calls reports, joined end to end, are those of the rule over the acts accepted so far, at each instant (`run-changes`); told
-- of a history from its newest act back (`chained-told`) or from its oldest on (`told_rule`) they are the same. That a submission that is replaced later may be left out
-- from the beginning is in `Replaced`.
-- Assumes nothing.
use mathlib.Core.Path.{◌≡◌, refl, ap, sym, ◌∙◌, subst}
use mathlib.Core.Bool.{Bool, true, false, cond}
use mathlib.Core.List.{List, [], ◌∷◌, ◌++◌, append_assoc, append-nil, reverse, reverse_aux, reverse-reverse}
use Prim.Native.Nat.{ℕ, zero, suc, ◌+◌, ◌-◌, ◌≤◌, ◌<◌}
use native.Mathlib.Nat.{zero-add, suc-add, add-suc, add-zero, sub_self}
use native.Mathlib.Numerals.{add-one}
use native.Mathlib.Omega.{arith}
use lib.Dec.{eqb}
use borrow.Author.Tests.{eq-eqb}
use Rattle.rule.specs.Timetable.{Timetable, shown, shown_now, tick}
use Rattle.rule.specs.Acts.{GateAct, perform_gates}
use Rattle.rule.specs.Orders.{accepts_gates}
use Rattle.rule.specs.Machine.{ticks, noted, log, Outcome}
use Rattle.rule.specs.Series.{Call, step, attempt, run, elapsed}
use Rattle.rule.specs.TimetableMachine.{timetable_machine}
use Rattle.rule.specs.History.{History, effective, rule_octet, changes, rule_changes}
use Rattle.rule.proofs.Cut.{cases, clock-ticks, Timely, timely_mono, run_timely}
use Rattle.rule.proofs.Laws.{timetable_lawful}
use Rattle.rule.proofs.Shown.{now-ticks}
use Rattle.rule.proofs.Track.{Tracks, tracks_ticks, tracks_shown, tracks_perform}

cond-append : (b : Bool) (x : ℕ × ℕ) (l r : List (ℕ × ℕ)) → cond b (l ++ r) (x ∷ (l ++ r)) ≡ cond b l (x ∷ l) ++ r
cond-append true x l r = refl
cond-append false x l r = refl

pub changes-add : (f : ℕ → ℕ) (lo m n : ℕ) → changes f lo (m + n) ≡ changes f lo m ++ changes f (lo + m) n
unfolding changes
changes-add f lo zero n = rw (zero-add, add-zero)
changes-add f lo (suc m) n = rw (suc-add, add-suc, ← suc-add, changes-add f (suc lo) m n)
    (cond-append (eqb (f lo) (f (suc lo))) (suc lo, f (suc lo)) (changes f (suc lo) m) (changes f (suc lo + m) n))

-- a stretch on which nothing changes
pub quiet : (f : ℕ → ℕ) (lo n : ℕ) → ((t : ℕ) → lo ≤ t → t < lo + n → f (suc t) ≡ f t) → changes f lo n ≡ []
unfolding changes
quiet f lo zero h = refl
quiet f lo (suc n) h = rw (eq-eqb (f lo) (f (suc lo)) (sym (h lo (omega arith) (omega arith)))) (quiet f (suc lo) n (λ t a b. h t (omega arith) (omega arith)))

-- the machine's log, by what it shows at each instant
noted-cond : (b : Bool) (p : Timetable) (l : List (ℕ × ℕ)) → noted timetable_machine b p l ≡ cond b l ((p.clock, shown_now p) ∷ l)
unfolding noted
noted-cond true p l = refl
noted-cond false p l = refl

log_by : (f : ℕ → ℕ) (n : ℕ) (p : Timetable) → ((k : ℕ) → shown_now (ticks timetable_machine k p) ≡ f (p.clock + k)) → log timetable_machine n p ≡ changes f p.clock n
unfolding log changes ticks tick
log_by f zero p h = refl
log_by f (suc n) p h =
    let e₀ : shown_now p ≡ f p.clock = rw add-zero at (h 0) in
    let e₁ : shown_now (tick p) ≡ f (suc p.clock) = rw add-one at (h 1) in
    let r : log timetable_machine n (tick p) ≡ changes f (suc p.clock) n = log_by f n (tick p) (λ k. rw (suc-add, ← add-suc) (h (suc k))) in
    noted-cond (eqb (shown_now p) (shown_now (tick p))) (tick p) (log timetable_machine n (tick p))
    ∙ (λ i. cond (eqb (e₀ i) (e₁ i)) (r i) ((suc p.clock, e₁ i) ∷ r i))

pub log-shown : (n : ℕ) (p : Timetable) → log timetable_machine n p ≡ changes (shown p) p.clock n
log-shown n p = log_by (shown p) n p (λ k. now-ticks k p)

log_rule : {s₀ : ℕ} {h : History} (n : ℕ) {p : Timetable} → Tracks s₀ h p → log timetable_machine n p ≡ changes (rule_octet s₀ (effective h)) p.clock n
log_rule {s₀} {h} n {p} k = log_by (rule_octet s₀ (effective h)) n p (λ j. now-ticks j p ∙ tracks_shown k (p.clock + j) (omega arith))

-- to go to t is to go on to t from a stop on the way
pub changes_to_lem : (f : ℕ → ℕ) (lo k t : ℕ) → lo + k ≤ t → changes f lo (t - lo) ≡ changes f lo k ++ changes f (lo + k) (t - (lo + k))
changes_to_lem f lo k t h =
    let e : t - lo ≡ k + (t - (lo + k)) = omega arith in
    ap (changes f lo) e ∙ changes-add f lo k (t - (lo + k))

none_yet : (f : ℕ → ℕ) (lo : ℕ) → changes f lo (lo - lo) ≡ []
unfolding changes
none_yet f lo = rw sub_self

-- the acts of a history stand in the order of their instants, from t₀ to c
unfoldable pub Ordered : ℕ → ℕ → History → Type 0
Ordered t₀ c [] = t₀ ≤ c
Ordered t₀ c (x ∷ h) = (x.0 ≤ c) × Ordered t₀ x.0 h

pub ordered_on : (t₀ c e : ℕ) (h : History) → Ordered t₀ c h → c ≤ e → Ordered t₀ e h
unfolding Ordered
ordered_on t₀ c e [] o z = omega arith
ordered_on t₀ c e (x ∷ h) o z = (omega (arith, o.0), o.1)

pub ordered_start : (t₀ c : ℕ) (h : History) → Ordered t₀ c h → t₀ ≤ c
unfolding Ordered
ordered_start t₀ c [] o = o
ordered_start t₀ c (x ∷ h) o = omega (arith, o.0, ordered_start t₀ x.0 h o.1)

ordered_timely : (t₀ c e : ℕ) (h : History) (l : List (ℕ × GateAct)) → Ordered t₀ c h → Timely timetable_machine timetable_lawful c l e
    → Timely timetable_machine timetable_lawful t₀ (reverse_aux h l) e
unfolding Ordered Timely
ordered_timely t₀ c e [] l o z = timely_mono timetable_machine timetable_lawful l e o z
ordered_timely t₀ c e (x ∷ h) l o z =
    ordered_timely t₀ x.0 e h (x ∷ l) o.1 (omega arith, timely_mono timetable_machine timetable_lawful l e o.0 z)

-- the changes to be told of, where g gives each history its octets: from lo on with the history h, then with each further act, to the end e; as
-- `rule_changes` has them for the rule
module _ (g : History → ℕ → ℕ) where
  unfoldable pub chained : History → ℕ → List (ℕ × GateAct) → ℕ → List (ℕ × ℕ)
  chained h lo [] e = changes (g h) lo (e - lo)
  chained h lo (x ∷ l) e = changes (g h) lo (x.0 - lo) ++ chained (x ∷ h) x.0 l e

  chained_cut : (h : History) (lo k : ℕ) (l : List (ℕ × GateAct)) (e : ℕ) → Timely timetable_machine timetable_lawful (lo + k) l e
      → chained h lo l e ≡ changes (g h) lo k ++ chained h (lo + k) l e
  unfolding chained Timely
  chained_cut h lo k [] e c = changes_to_lem (g h) lo k e c
  chained_cut h lo k (x ∷ l) e c = rw (changes_to_lem (g h) lo k x.0 c.0, append_assoc)

  -- the same from the newest act back, on a timetable that is new at t₀
  module _ (t₀ : ℕ) where
    unfoldable pub told : History → ℕ → List (ℕ × ℕ)
    told [] e = changes (g []) t₀ (e - t₀)
    told (x ∷ h) e = told h x.0 ++ changes (g (x ∷ h)) x.0 (e - x.0)

    pub told-on : (h : History) (c e : ℕ) → Ordered t₀ c h → c ≤ e → told h e ≡ told h c ++ changes (g h) c (e - c)
    unfolding told Ordered
    told-on [] c e o z =
        let u : t₀ + (c - t₀) ≡ c = omega arith in
        changes_to_lem (g []) t₀ (c - t₀) e (omega arith) ∙ ap (λ n. changes (g []) t₀ (c - t₀) ++ changes (g []) n (e - n)) u
    told-on (x ∷ h) c e o z =
        let u : x.0 + (c - x.0) ≡ c = omega (arith, o.0) in
        ap (λ l. told h x.0 ++ l)
        (changes_to_lem (g (x ∷ h)) x.0 (c - x.0) e (omega (arith, o.0))
        ∙ ap (λ n. changes (g (x ∷ h)) x.0 (c - x.0) ++ changes (g (x ∷ h)) n (e - n)) u)
        ∙ sym (append_assoc (told h x.0) (changes (g (x ∷ h)) x.0 (c - x.0)) (changes (g (x ∷ h)) c (e - c)))

    told_here : (h : History) (x : ℕ × GateAct) → told (x ∷ h) x.0 ≡ told h x.0
    unfolding told
    told_here h x = ap (λ l. told h x.0 ++ l) (none_yet (g (x ∷ h)) x.0) ∙ append-nil (told h x.0)

    told-chained : (h : History) (c : ℕ) (l : List (ℕ × GateAct)) (e : ℕ) → Ordered t₀ c h → Timely timetable_machine timetable_lawful c l e
        → told h c ++ chained h c l e ≡ told (reverse_aux l h) e
    unfolding chained Timely Ordered
    told-chained h c [] e o z = sym (told-on h c e o z)
    told-chained h c (x ∷ l) e o z =
        sym (append_assoc (told h c) (changes (g h) c (x.0 - c)) (chained (x ∷ h) x.0 l e))
        ∙ ap (λ r. r ++ chained (x ∷ h) x.0 l e) (sym (told-on h c x.0 o z.0) ∙ sym (told_here h x))
        ∙ told-chained (x ∷ h) x.0 l e (omega arith, ordered_on t₀ c x.0 h o z.0) z.1

    pub chained-told : (l : List (ℕ × GateAct)) (e : ℕ) → Timely timetable_machine timetable_lawful t₀ l e → chained [] t₀ l e ≡ told (reverse l) e
    unfolding told Ordered
    chained-told l e z = ap (λ r. r ++ chained [] t₀ l e) (sym (none_yet (g []) t₀)) ∙ told-chained [] t₀ l e (omega arith) z

    pub told_reversed : (h : History) (e : ℕ) → Ordered t₀ e h → told h e ≡ chained [] t₀ (reverse h) e
    unfolding Timely
    told_reversed h e o =
        ap (λ r. told r e) (sym (reverse-reverse h)) ∙ sym (chained-told (reverse h) e (ordered_timely t₀ e e h [] o (omega arith)))

rule_chained : (s₀ : ℕ) (h : History) (lo : ℕ) (l : List (ℕ × GateAct)) (e : ℕ) → chained (rule_octet s₀) h lo l e ≡ rule_changes s₀ h lo l e
unfolding chained rule_changes
rule_chained s₀ h lo [] e = refl
rule_chained s₀ h lo (x ∷ l) e = ap (λ r. changes (rule_octet s₀ h) lo (x.0 - lo) ++ r) (rule_chained s₀ (x ∷ h) x.0 l e)

-- what is told of a history by the rule, its acts with the oldest first
pub told_rule : (s₀ t₀ : ℕ) (h : History) (e : ℕ) → Ordered t₀ e h → told (rule_octet s₀) t₀ h e ≡ rule_changes s₀ [] t₀ (reverse h) e
told_rule s₀ t₀ h e o = told_reversed (rule_octet s₀) t₀ h e o ∙ rule_chained s₀ [] t₀ (reverse h) e

-- the octets by the acts so far
abbrev pub octet_now : ℕ → History → ℕ → ℕ
octet_now s₀ h = rule_octet s₀ (effective h)

pub run-changes : {s₀ : ℕ} (cs : List (Call GateAct)) {h : History} {p : Timetable} → Tracks s₀ h p
    → (run timetable_machine cs p).out ≡ chained (octet_now s₀) h p.clock (run timetable_machine cs p).acts (run timetable_machine cs p).port.clock
unfolding run chained
run-changes {s₀} [] {h} {p} k = sym (none_yet (octet_now s₀ h) p.clock)
run-changes {s₀} (step g m ∷ cs) {h} {p} k =
    let n : ℕ = elapsed timetable_machine (step g m) p in
    let q : Timetable = ticks timetable_machine n p in
    let r = run timetable_machine cs q in
    (λ i. log_rule n k i ++ run-changes cs (tracks_ticks n k) i)
    ∙ ap (λ t. changes (octet_now s₀ h) p.clock n ++ chained (octet_now s₀) h t r.acts r.port.clock) (clock-ticks timetable_machine timetable_lawful n p)
    ∙ sym (chained_cut (octet_now s₀) h p.clock n r.acts r.port.clock
    (subst (λ t. Timely timetable_machine timetable_lawful t r.acts r.port.clock) (clock-ticks timetable_machine timetable_lawful n p) (run_timely timetable_machine timetable_lawful cs q)))
run-changes {s₀} (attempt a ∷ cs) {h} {p} k =
    cases (λ (r : Outcome Timetable ℕ GateAct). r.out ≡ chained (octet_now s₀) h p.clock r.acts r.port.clock) (accepts_gates a p) _ _
    (λ e. let r = run timetable_machine cs (perform_gates a p) in
    run-changes cs (tracks_perform a e k)
    ∙ ap (λ t. chained (octet_now s₀) ((p.clock, a) ∷ h) t r.acts r.port.clock) (timetable_lawful.clock-perform a p)
    ∙ ap (λ l. l ++ chained (octet_now s₀) ((p.clock, a) ∷ h) p.clock r.acts r.port.clock) (sym (none_yet (octet_now s₀ h) p.clock)))
    (λ _. run-changes cs k)
