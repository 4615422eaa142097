-- What a walk from stretch to stretch adds to the changes reported, to the reach of a step and to what a frame meets. Over any function of the instant.
-- In order: the reach by what is shown; a stretch that shows the same; a change; the changes read back one by one; what a frame meets.
-- Assumes nothing.
use mathlib.Core.Path.{◌≡◌, refl, ap, ap₂, sym, ◌∙◌}
use mathlib.Core.Bool.{Bool, true, false, cond, not, ◌&&◌, ◌||◌, true≢false}
use mathlib.Core.List.{List, [], ◌∷◌, ◌++◌, append-nil}
use mathlib.Core.Option.{Option, none, some}
use Prim.Native.Nat.{ℕ, zero, suc, ◌+◌, ◌-◌, ◌≤◌, ◌<◌, min}
use native.Mathlib.Nat.{zero-add, suc-add, add-suc, add-zero}
use native.Mathlib.Numerals.{add-one}
use native.Mathlib.Omega.{arith}
use lib.Dec.{eqb, ltb}
use borrow.Author.Tests.{eq-eqb, ne_eqb, eqb-true, eqb-false, lt-ltb, le-ltb, ltb-true, ltb-false}
use Rattle.rule.specs.Gates.{is_open}
use Rattle.rule.specs.Timetable.{Timetable, shown, shown_now, tick}
use Rattle.rule.specs.Port.{Frame, last_octet_at}
use Rattle.rule.specs.Choice.{stays_open}
use Rattle.rule.specs.Machine.{ticks, onward, reach}
use Rattle.rule.specs.TimetableMachine.{timetable_machine}
use Rattle.rule.specs.History.{changes}
use Rattle.rule.specs.Frames.{meets_closed}
use Rattle.rule.proofs.Shown.{now-ticks}
use Rattle.rule.proofs.Changes.{changes-add, changes_to_lem, quiet}
use Rattle.rule.proofs.Jump.{meets}

-- how far a step with room for m changes gets, by what is shown
unfoldable pub reach_by : (ℕ → ℕ) → ℕ → ℕ → ℕ → ℕ
reach_by g t zero m = 0
reach_by g t (suc n) m = onward (eqb (g t) (g (suc t))) m (λ r. reach_by g (suc t) n r)

past_cong : (b : Bool) (m : ℕ) (f h : ℕ → ℕ) → ((r : ℕ) → f r ≡ h r) → onward b m f ≡ onward b m h
past_cong true m f h e = ap suc (e m)
past_cong false zero f h e = refl
past_cong false (suc r) f h e = ap suc (e r)

reach_by_lem : (g : ℕ → ℕ) (n m : ℕ) (p : Timetable) → ((k : ℕ) → shown_now (ticks timetable_machine k p) ≡ g (p.clock + k)) → reach timetable_machine n m p ≡ reach_by g p.clock n m
unfolding reach reach_by ticks tick
reach_by_lem g zero m p h = refl
reach_by_lem g (suc n) m p h =
    let e₀ : shown_now p ≡ g p.clock = rw add-zero at (h 0) in
    let e₁ : shown_now (tick p) ≡ g (suc p.clock) = rw add-one at (h 1) in
    (λ i. onward (eqb (e₀ i) (e₁ i)) m (λ r. reach timetable_machine n r (tick p)))
    ∙ past_cong (eqb (g p.clock) (g (suc p.clock))) m (λ r. reach timetable_machine n r (tick p)) (λ r. reach_by g (suc p.clock) n r)
    (λ r. reach_by_lem g n r (tick p) (λ k. rw (suc-add, ← add-suc) (h (suc k))))

pub reach-shown : (n m : ℕ) (p : Timetable) → reach timetable_machine n m p ≡ reach_by (shown p) p.clock n m
reach-shown n m p = reach_by_lem (shown p) n m p (λ k. now-ticks k p)

-- instants that show the same cost no room
pub reach_skip : (g : ℕ → ℕ) (t n k m : ℕ) → ((v : ℕ) → t ≤ v → v < t + n → g (suc v) ≡ g v) → reach_by g t (n + k) m ≡ n + reach_by g (t + n) k m
unfolding reach_by
reach_skip g t zero k m h = rw (zero-add k, add-zero t, zero-add (reach_by g t k m))
reach_skip g t (suc n) k m h =
    let e : suc t + n ≡ t + suc n = omega arith in
    ap (λ j. reach_by g t j m) (suc-add n k)
    ∙ ap (λ b. onward b m (λ r. reach_by g (suc t) (n + k) r)) (eq-eqb (g t) (g (suc t)) (sym (h t (omega arith) (omega arith))))
    ∙ ap suc (reach_skip g (suc t) n k m (λ v a b. h v (omega arith) (omega arith)))
    ∙ ap (λ v. suc (n + reach_by g v k m)) e ∙ sym (suc-add n (reach_by g (t + suc n) k m))

-- a stretch that shows the same: from t to u nothing is to be told, and it costs no room

module _ (g : ℕ → ℕ) (t u : ℕ) (upto : t ≤ u) (same : (v : ℕ) → t ≤ v → v ≤ u → g v ≡ g t) where
  still : (v : ℕ) → t ≤ v → v < t + (u - t) → g (suc v) ≡ g v
  still v a b = same (suc v) (omega arith) (omega arith) ∙ sym (same v a (omega arith))

  pub changes-same : (c : ℕ) → c ≤ t → changes g c (u - c) ≡ changes g c (t - c)
  changes-same c h =
      let k : c + (t - c) ≡ t = omega arith in
      changes_to_lem g c (t - c) u (omega arith)
      ∙ ap (λ v. changes g c (t - c) ++ changes g v (u - v)) k
      ∙ ap (λ l. changes g c (t - c) ++ l) (quiet g t (u - t) still)
      ∙ append-nil (changes g c (t - c))

  pub reach-same : (goal m : ℕ) → u ≤ goal → reach_by g t (goal - t) m ≡ (u - t) + reach_by g u (goal - u) m
  reach-same goal m h =
      let e : goal - t ≡ (u - t) + (goal - u) = omega arith in
      let e' : t + (u - t) ≡ u = omega arith in
      ap (λ k. reach_by g t k m) e ∙ reach_skip g t (u - t) (goal - u) m still ∙ ap (λ v. (u - t) + reach_by g v (goal - u) m) e'

-- a change at the next instant: it is told if there is room for it, and else stops the step

module _ (g : ℕ → ℕ) (t : ℕ) (differs : g (suc t) ≡ g t → ⊥) where
  turns : eqb (g t) (g (suc t)) ≡ false
  turns = ne_eqb (g t) (g (suc t)) (λ e. differs (sym e))

  change_one : changes g t 1 ≡ (suc t, g (suc t)) ∷ []
  unfolding changes
  change_one = rw turns

  pub changes-more : (c : ℕ) → c ≤ t → changes g c (suc t - c) ≡ changes g c (t - c) ++ (suc t, g (suc t)) ∷ []
  changes-more c h =
      let e : suc t - c ≡ (t - c) + 1 = omega arith in
      let k : c + (t - c) ≡ t = omega arith in
      ap (changes g c) e ∙ changes-add g c (t - c) 1 ∙ ap (λ v. changes g c (t - c) ++ changes g v 1) k
      ∙ ap (λ l. changes g c (t - c) ++ l) change_one

  pub reach-more : (goal r : ℕ) → suc t ≤ goal → reach_by g t (goal - t) (suc r) ≡ 1 + reach_by g (suc t) (goal - suc t) r
  unfolding reach_by
  reach-more goal r h =
      let e : goal - t ≡ suc (goal - suc t) = omega arith in
      ap (λ k. reach_by g t k (suc r)) e
      ∙ ap (λ b. onward b (suc r) (λ q. reach_by g (suc t) (goal - suc t) q)) turns
      ∙ omega arith

  pub reach_full : (goal : ℕ) → suc t ≤ goal → reach_by g t (goal - t) 0 ≡ 0
  unfolding reach_by
  reach_full goal h =
      let e : goal - t ≡ suc (goal - suc t) = omega arith in
      ap (λ k. reach_by g t k 0) e ∙ ap (λ b. onward b 0 (λ q. reach_by g (suc t) (goal - suc t) q)) turns

pub reach-goal : (g : ℕ → ℕ) (goal m : ℕ) → reach_by g goal (goal - goal) m ≡ 0
unfolding reach_by
reach-goal g goal m = let e : goal - goal ≡ 0 = omega arith in ap (λ k. reach_by g goal k m) e

-- the changes of n instants read back: none, or the first of them and those after it

pub record First (g : ℕ → ℕ) (t n : ℕ) (x : ℕ × ℕ) (l : List (ℕ × ℕ)) : Type 0 where
  pub after : t < x.0
  pub upto : x.0 ≤ t + n
  pub same : (v : ℕ) → t ≤ v → v < x.0 → g v ≡ g t
  pub shows : x.1 ≡ g x.0
  pub rest : l ≡ changes g x.0 (t + n - x.0)

abbrev pub ReadBack : (ℕ → ℕ) → ℕ → ℕ → List (ℕ × ℕ) → Type 0
ReadBack g t n [] = (v : ℕ) → t ≤ v → v ≤ t + n → g v ≡ g t
ReadBack g t n (x ∷ l) = First g t n x l

pub read_back : (g : ℕ → ℕ) (t n : ℕ) → ReadBack g t n (changes g t n)
unfolding changes
read_back g t zero = λ v a b. let e : v ≡ t = omega arith in ap g e
read_back g t (suc n) = go (eqb (g t) (g (suc t))) refl (changes g (suc t) n) refl (read_back g (suc t) n)
  where
    same : (v : ℕ) → t ≤ v → g (suc t) ≡ g t → (suc t ≤ v → g v ≡ g (suc t)) → g v ≡ g t
    same v a e f = pick (eqb v t) refl
      where
        pick : (b : Bool) → eqb v t ≡ b → g v ≡ g t
        pick true q = ap g (eqb-true v t q)
        pick false q = f (omega (arith, eqb-false)) ∙ e

    go : (b : Bool) → eqb (g t) (g (suc t)) ≡ b → (l : List (ℕ × ℕ)) → changes g (suc t) n ≡ l → ReadBack g (suc t) n l
        → ReadBack g t (suc n) (cond b l ((suc t, g (suc t)) ∷ l))
    go true e [] q k = λ v a b. same v a (sym (eqb-true (g t) (g (suc t)) e)) (λ c. k v c (omega arith))
    go true e (x ∷ l) q k =
        let a = k.after in
        let b = k.upto in
        let z : suc t + n - x.0 ≡ t + suc n - x.0 = omega arith in
        record {
          after = omega arith;
          upto = omega arith;
          same = λ v a b. same v a (sym (eqb-true (g t) (g (suc t)) e)) (λ c. k.same v c b);
          shows = k.shows;
          rest = k.rest ∙ ap (changes g x.0) z;
        }
    go false e l q k =
        let z : n ≡ t + suc n - suc t = omega arith in
        record {
          after = omega arith;
          upto = omega arith;
          same = λ v a b. let w : v ≡ t = omega arith in ap g w;
          shows = refl;
          rest = sym q ∙ ap (changes g (suc t)) z;
        }

-- what a frame meets

-- an uncounted frame's gate is closed in o at an instant from lo on, before hi and before its end
unfoldable pub shut_in : Option Frame → ℕ → ℕ → ℕ → Bool
shut_in none o lo hi = false
shut_in (some f) o lo hi = not f.counted && (ltb lo hi && (ltb lo (last_octet_at f) && not (is_open o f.class)))

stays-add : (g : ℕ → ℕ) (k t m n : ℕ) → stays_open g k t (m + n) ≡ stays_open g k t m && stays_open g k (t + m) n
unfolding stays_open
stays-add g k t zero n = rw (zero-add, add-zero)
stays-add g k t (suc m) n = rw (suc-add, add-suc, ← suc-add, stays-add g k (suc t) m n) (assoc (is_open (g t) k) _ _)
  where
    assoc : (a b c : Bool) → a && (b && c) ≡ (a && b) && c
    assoc true b c = refl
    assoc false b c = refl

stays-flat : (g : ℕ → ℕ) (k t n o : ℕ) → ((v : ℕ) → t ≤ v → v < t + n → g v ≡ o) → (b : Bool) → is_open o k ≡ b → stays_open g k t n ≡ cond (ltb 0 n) b true
unfolding stays_open
stays-flat g k t zero o h b e = refl
stays-flat g k t (suc n) o h true e =
    rw (h t (omega arith) (omega arith), e, lt-ltb 0 (suc n) (omega arith))
    (stays-flat g k (suc t) n o (λ v a b. h v (omega arith) (omega arith)) true e ∙ both (ltb 0 n))
  where
    both : (b : Bool) → cond b true true ≡ true
    both true = refl
    both false = refl
stays-flat g k t (suc n) o h false e = rw (h t (omega arith) (omega arith), e, lt-ltb 0 (suc n) (omega arith))

min_right : (a b : ℕ) → b ≤ a → min a b ≡ b
min_right a b h = omega arith

min_plus : (a b d : ℕ) → min (a + b) (a + d) ≡ a + min b d
min_plus a b d = omega arith

min-zero : (a b : ℕ) → b ≡ 0 → min a b ≡ 0
min-zero a b h = omega arith

stays_none : (g : ℕ → ℕ) (k t n : ℕ) → n ≡ 0 → (b : Bool) → stays_open g k t n ≡ cond (ltb 0 n) b true
unfolding stays_open
stays_none g k t n e b = rw e

span_split : (c t u e : ℕ) → c ≤ t → t ≤ u → min (u - c) (e - suc c) ≡ min (t - c) (e - suc c) + min (u - t) (e - suc t)
span_split c t u e a b = go (ltb (suc t) e) refl
  where
    go : (q : Bool) → ltb (suc t) e ≡ q → min (u - c) (e - suc c) ≡ min (t - c) (e - suc c) + min (u - t) (e - suc t)
    go true h =
        let k : suc t < e = ltb-true (suc t) e h in
        let z : min (t - c) (e - suc c) ≡ t - c = omega arith in
        let y : u - c ≡ (t - c) + (u - t) = omega arith in
        let x : e - suc c ≡ (t - c) + (e - suc t) = omega arith in
        rw (z, y, x) (min_plus (t - c) (u - t) (e - suc t))
    go false h =
        let k : e ≤ suc t = ltb-false (suc t) e h in
        min_right (u - c) (e - suc c) (omega arith)
        ∙ sym (add-zero (e - suc c))
        ∙ ap₂ (λ x y. x + y) (sym (min_right (t - c) (e - suc c) (omega arith))) (sym (min-zero (u - t) (e - suc t) (omega arith)))

span_some : (t u e : ℕ) → t ≤ u → ltb 0 (min (u - t) (e - suc t)) ≡ ltb (t + 1) (u + 1) && ltb (t + 1) e
span_some t u e a = go (ltb (t + 1) (u + 1)) refl (ltb (t + 1) e) refl
  where
    go : (p : Bool) → ltb (t + 1) (u + 1) ≡ p → (q : Bool) → ltb (t + 1) e ≡ q → ltb 0 (min (u - t) (e - suc t)) ≡ p && q
    go true h true k = let x = ltb-true (t + 1) (u + 1) h in let y = ltb-true (t + 1) e k in lt-ltb 0 (min (u - t) (e - suc t)) (omega arith)
    go true h false k = let y = ltb-false (t + 1) e k in le-ltb 0 (min (u - t) (e - suc t)) (omega arith)
    go false h q k = let y = ltb-false (t + 1) (u + 1) h in le-ltb 0 (min (u - t) (e - suc t)) (omega arith)

meets-either : (k a p q o : Bool) → (not k && not a) || (not k && (p && (q && not o))) ≡ not k && not (a && cond (p && q) o true)
meets-either true a p q o = refl
meets-either false false p q o = refl
meets-either false true false q o = refl
meets-either false true true false o = refl
meets-either false true true true o = refl

-- instants more, up to u, at which the octet is one
pub meets-more : (g : ℕ → ℕ) (c t u o : ℕ) (r : Option Frame) → c ≤ t → t ≤ u → ((v : ℕ) → t < v → v ≤ u → g v ≡ o)
    → meets g c (t - c) r || shut_in r o (t + 1) (u + 1) ≡ meets g c (u - c) r
unfolding meets meets_closed shut_in
meets-more g c t u o none a b h = refl
meets-more g c t u o (some f) a b h =
    let k : ℕ = f.class in
    let m : ℕ = min (t - c) (last_octet_at f - suc c) in
    let n : ℕ = min (u - t) (last_octet_at f - suc t) in
    let z : stays_open g k (suc c) (min (u - c) (last_octet_at f - suc c)) ≡ stays_open g k (suc c) m && cond (ltb (t + 1) (u + 1) && ltb (t + 1) (last_octet_at f)) (is_open o k) true =
    ap (stays_open g k (suc c)) (span_split c t u (last_octet_at f) a b) ∙ stays-add g k (suc c) m n
    ∙ ap (λ q. stays_open g k (suc c) m && q) (flat ∙ ap (λ q. cond q (is_open o k) true) (span_some t u (last_octet_at f) b)) in
    meets-either f.counted (stays_open g k (suc c) m) (ltb (t + 1) (u + 1)) (ltb (t + 1) (last_octet_at f)) (is_open o k)
    ∙ ap (λ q. not f.counted && not q) (sym z)
  where
    flat : stays_open g f.class (suc c + min (t - c) (last_octet_at f - suc c)) (min (u - t) (last_octet_at f - suc t))
        ≡ cond (ltb 0 (min (u - t) (last_octet_at f - suc t))) (is_open o f.class) true
    flat = go (ltb (suc t) (last_octet_at f)) refl
      where
        go : (q : Bool) → ltb (suc t) (last_octet_at f) ≡ q → stays_open g f.class (suc c + min (t - c) (last_octet_at f - suc c)) (min (u - t) (last_octet_at f - suc t))
            ≡ cond (ltb 0 (min (u - t) (last_octet_at f - suc t))) (is_open o f.class) true
        go true e =
            let w : suc t < last_octet_at f = ltb-true (suc t) (last_octet_at f) e in
            let z : suc c + min (t - c) (last_octet_at f - suc c) ≡ suc t = omega arith in
            ap (λ v. stays_open g f.class v (min (u - t) (last_octet_at f - suc t))) z
            ∙ stays-flat g f.class (suc t) (min (u - t) (last_octet_at f - suc t)) o (λ v p q. h v (omega arith) (omega arith)) (is_open o f.class) refl
        go false e =
            let w : last_octet_at f ≤ suc t = ltb-false (suc t) (last_octet_at f) e in
            stays_none g f.class (suc c + min (t - c) (last_octet_at f - suc c)) (min (u - t) (last_octet_at f - suc t)) (omega arith) (is_open o f.class)

-- what was met stays met, and after the frame's end nothing is met any more

stays_less : (g : ℕ → ℕ) (k t m n : ℕ) → m ≤ n → stays_open g k t m ≡ false → stays_open g k t n ≡ false
stays_less g k t m n h e =
    let z : n ≡ m + (n - m) = omega arith in
    ap (stays_open g k t) z ∙ stays-add g k t m (n - m) ∙ rw e

pub meets-later : (g : ℕ → ℕ) (c m n : ℕ) (r : Option Frame) → m ≤ n → meets g c m r ≡ true → meets g c n r ≡ true
unfolding meets meets_closed
meets-later g c m n none h e = e
meets-later g c m n (some f) h e = go f.counted (stays_open g f.class (suc c) (min m (last_octet_at f - suc c))) refl e
  where
    go : (q s : Bool) → stays_open g f.class (suc c) (min m (last_octet_at f - suc c)) ≡ s → not q && not s ≡ true
        → not q && not (stays_open g f.class (suc c) (min n (last_octet_at f - suc c))) ≡ true
    go true s w z = z
    go false true w z = absurd (true≢false (sym z))
    go false false w z = ap not (stays_less g f.class (suc c) (min m (last_octet_at f - suc c)) (min n (last_octet_at f - suc c)) (omega arith) w)

pub meets-ended : (g : ℕ → ℕ) (c t u : ℕ) (f : Frame) → c ≤ t → t ≤ u → last_octet_at f ≤ suc t → meets g c (u - c) (some f) ≡ meets g c (t - c) (some f)
unfolding meets meets_closed
meets-ended g c t u f a b h =
    let e : min (u - c) (last_octet_at f - suc c) ≡ min (t - c) (last_octet_at f - suc c) = omega arith in
    ap (λ n. not f.counted && not (stays_open g f.class (suc c) n)) e
