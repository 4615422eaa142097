-- Document 01, 'Choosing a frame': no frame is chosen exactly if no class qualifies, and the chosen class is the highest that does. In order: the highest
-- class that passes a test; the same of the choice; which classes qualify; what the choice depends on; the speeds and durations.
-- Assumes nothing.
use mathlib.Core.Path.{◌≡◌, refl, ap, ap₂, sym, ◌∙◌, subst⁻¹}
use mathlib.Core.Logic.{◌↔◌}
use mathlib.Core.Bool.{Bool, true, false, cond, not, ◌&&◌, true≢false}
use mathlib.Core.List.{List}
use mathlib.Core.Option.{Option, none, some}
use Prim.Native.Nat.{ℕ, zero, suc, ◌+◌, ◌*◌, ◌/◌, ◌≤◌, ◌<◌}
use native.Mathlib.Nat.{le-div_iff_mul-le}
use native.Mathlib.Omega.{arith}
use lib.Dec.{eqb}
use lib.ListN.{get_or}
use borrow.Author.Tests.{eqb-true, eqb-false, ne_eqb}
use Rattle.rule.specs.Gates.{is_open}
use Rattle.rule.specs.Port.{Frame}
use Rattle.rule.specs.Choice.{duration, next_start, stays_open, qualifies, highest, frame_for, chosen}
use Rattle.rule.specs.Acts.{is_some}
use Rattle.rule.specs.Orders.{speed_offered}

-- what is found below n: nothing, and no class passes; or a class that passes, and none above it does
abbrev pub Highest : (ℕ → Bool) → ℕ → Option ℕ → Type 0
Highest q n none = (j : ℕ) → j < n → q j ≡ false
Highest q n (some k) = (k < n) × ((q k ≡ true) × ((j : ℕ) → k < j → j < n → q j ≡ false))

pub highest-is : (q : ℕ → Bool) (n : ℕ) → Highest q n (highest q n)
unfolding highest
highest-is q zero = λ j h. absurd (omega arith)
highest-is q (suc n) = go (q n) refl (highest q n) (highest-is q n)
  where
    at_top : (j : ℕ) → n ≤ j → j < suc n → q n ≡ false → q j ≡ false
    at_top j a b e = let z : j ≡ n = omega arith in rw z e

    below : (j : ℕ) → j < suc n → q n ≡ false → (j < n → q j ≡ false) → q j ≡ false
    below j h e f = pick (eqb j n) refl
      where
        pick : (b : Bool) → eqb j n ≡ b → q j ≡ false
        pick true z = at_top j (omega (arith, eqb-true)) h e
        pick false z = f (omega (arith, eqb-false))

    go : (b : Bool) → q n ≡ b → (r : Option ℕ) → Highest q n r → Highest q (suc n) (cond b (some n) r)
    go true e r k = (omega arith, (e, λ j a b. absurd (omega arith)))
    go false e none k = λ j h. below j h e (k j)
    go false e (some m) k = (omega (arith, k.0), (k.1.0, λ j a b. below j b e (k.1.1 j a)))

-- the frame of the choice at t: none, and no class qualifies; or that of the highest class that does
abbrev pub Chosen : List ℕ → ℕ → ℕ → (ℕ → Bool) → Option Frame → Type 0
Chosen heads speed t q none = (j : ℕ) → j < 8 → q j ≡ false
Chosen heads speed t q (some f) =
    let len : ℕ = get_or heads f.class 0 in
    Highest q 8 (some f.class) × (f ≡ record { class = f.class; start = t; last = t + duration len speed; end = t + next_start len speed; counted = false })

module _ (heads : List ℕ) (speed t : ℕ) (g : ℕ → ℕ) where
  pub chosen_is : Chosen heads speed t (qualifies heads speed t g) (chosen heads speed t g)
  unfolding chosen frame_for
  chosen_is = go (highest (qualifies heads speed t g) 8) (highest-is (qualifies heads speed t g) 8)
    where
      go : (r : Option ℕ) → Highest (qualifies heads speed t g) 8 r → Chosen heads speed t (qualifies heads speed t g) (frame_for heads speed t r)
      go none h = h
      go (some k) h = (h, refl)

  -- no frame is chosen exactly if no class qualifies
  pub chosen_none : (is_some (chosen heads speed t g) ≡ false) ↔ ((j : ℕ) → j < 8 → qualifies heads speed t g j ≡ false)
  chosen_none = go (chosen heads speed t g) chosen_is
    where
      go : (r : Option Frame) → Chosen heads speed t (qualifies heads speed t g) r
          → (is_some r ≡ false) ↔ ((j : ℕ) → j < 8 → qualifies heads speed t g j ≡ false)
      go none h = (λ _. h, λ _. refl)
      go (some f) h =
          (λ e. absurd (true≢false e), λ k. absurd (true≢false (sym h.0.1.0 ∙ k f.class h.0.0)))

-- a gate that stays open is open at each instant, and a class qualifies exactly if it has a frame and its gate is open at each instant before the frame's end

pub open_still : (g : ℕ → ℕ) (k t n : ℕ) → ((u : ℕ) → t ≤ u → u < t + n → is_open (g u) k ≡ true) → stays_open g k t n ≡ true
unfolding stays_open
open_still g k t zero h = refl
open_still g k t (suc n) h = rw (h t (omega arith) (omega arith)) (open_still g k (suc t) n (λ u a b. h u (omega arith) (omega arith)))

pub open_each : (g : ℕ → ℕ) (k t n : ℕ) → stays_open g k t n ≡ true → (u : ℕ) → t ≤ u → u < t + n → is_open (g u) k ≡ true
unfolding stays_open
open_each g k t zero h u a b = absurd (omega arith)
open_each g k t (suc n) h u a b = go (is_open (g t) k) refl h (λ z l. open_each g k (suc t) n z u l (omega arith)) (eqb u t) refl
  where
    go : (o : Bool) → is_open (g t) k ≡ o → o && stays_open g k (suc t) n ≡ true → (stays_open g k (suc t) n ≡ true → suc t ≤ u → is_open (g u) k ≡ true)
        → (s : Bool) → eqb u t ≡ s → is_open (g u) k ≡ true
    go true e z f true w = ap (λ v. is_open (g v) k) (eqb-true u t w) ∙ e
    go true e z f false w = let d = eqb-false u t w in f z (omega arith)
    go false e z f s w = absurd (true≢false (sym z))

pub qualifies_exactly : (heads : List ℕ) (speed t : ℕ) (g : ℕ → ℕ) (k : ℕ)
    → (qualifies heads speed t g k ≡ true)
    ↔ ((get_or heads k 0 ≡ 0 → ⊥) × ((u : ℕ) → t ≤ u → u < t + duration (get_or heads k 0) speed → is_open (g u) k ≡ true))
unfolding qualifies
qualifies_exactly heads speed t g k =
    (go (eqb (get_or heads k 0) 0) refl, λ p. rw (ne_eqb (get_or heads k 0) 0 p.0) (open_still g k t (duration (get_or heads k 0) speed) p.1))
  where
    go : (b : Bool) → eqb (get_or heads k 0) 0 ≡ b → not b && stays_open g k t (duration (get_or heads k 0) speed) ≡ true
        → (get_or heads k 0 ≡ 0 → ⊥) × ((u : ℕ) → t ≤ u → u < t + duration (get_or heads k 0) speed → is_open (g u) k ≡ true)
    go true z e = absurd (true≢false (sym e))
    go false z e = (eqb-false (get_or heads k 0) 0 z, open_each g k t (duration (get_or heads k 0) speed) e)

-- what is shown from t on decides

pub stays_cong : (g g' : ℕ → ℕ) (k t n : ℕ) → ((u : ℕ) → t ≤ u → g u ≡ g' u) → stays_open g k t n ≡ stays_open g' k t n
unfolding stays_open
stays_cong g g' k t zero h = refl
stays_cong g g' k t (suc n) h = ap₂ (λ o b. is_open o k && b) (h t (omega arith)) (stays_cong g g' k (suc t) n (λ u l. h u (omega arith)))

pub highest-same : (p q : ℕ → Bool) (n : ℕ) → ((k : ℕ) → k < n → p k ≡ q k) → highest p n ≡ highest q n
unfolding highest
highest-same p q zero f = refl
highest-same p q (suc n) f = ap₂ (λ b r. cond b (some n) r) (f n (omega arith)) (highest-same p q n (λ k h. f k (omega arith)))

pub chosen-same : (heads : List ℕ) (speed t : ℕ) (g g' : ℕ → ℕ) → ((u : ℕ) → t ≤ u → g u ≡ g' u) → chosen heads speed t g ≡ chosen heads speed t g'
unfolding chosen qualifies
chosen-same heads speed t g g' h =
    ap (frame_for heads speed t)
    (highest-same _ _ 8 (λ k l. ap (λ b. not (eqb (get_or heads k 0) 0) && b) (stays_cong g g' k t (duration (get_or heads k 0) speed) h)))

-- what holds at each of the three speeds holds at every speed that is offered
pub by_speed : (P : ℕ → Type 0) → P 10 → P 100 → P 1_000 → (v : ℕ) → speed_offered v ≡ true → P v
unfolding speed_offered
by_speed P x y z v h = go (eqb v 10) refl (eqb v 100) refl (eqb v 1_000) refl h
  where
    go : (a : Bool) → eqb v 10 ≡ a → (b : Bool) → eqb v 100 ≡ b → (c : Bool) → eqb v 1_000 ≡ c
        → cond a true (cond b true (cond c true false)) ≡ true → P v
    go true p b q c r h = subst⁻¹ P (eqb-true v 10 p) x
    go false p true q c r h = subst⁻¹ P (eqb-true v 100 q) y
    go false p false q true r h = subst⁻¹ P (eqb-true v 1_000 r) z
    go false p false q false r h = absurd (true≢false (sym h))

pub speed_range : (v : ℕ) → speed_offered v ≡ true → (10 ≤ v) × (v ≤ 1_000)
speed_range = by_speed (λ v. (10 ≤ v) × (v ≤ 1_000)) (omega arith, omega arith) (omega arith, omega arith) (omega arith, omega arith)

-- a frame takes some time, and at the three speeds nothing is lost in the division
pub duration-some : (n v : ℕ) → 0 < v → v ≤ 1_000 → 0 < duration n v
unfolding duration
duration-some n v p q = (le-div_iff_mul-le p).1 (omega arith)

pub gap_some : (v : ℕ) → 0 < v → v ≤ 1_000 → 0 < 96_000 / v
gap_some v p q = (le-div_iff_mul-le p).1 (omega arith)

pub duration_exact : (n v : ℕ) → speed_offered v ≡ true → duration n v * v ≡ (n + 8) * 8_000
unfolding duration
duration_exact n = by_speed (λ v. (n + 8) * 8_000 / v * v ≡ (n + 8) * 8_000) (omega arith) (omega arith) (omega arith)

pub gap_exact : (v : ℕ) → speed_offered v ≡ true → 96_000 / v * v ≡ 12 * 8_000
gap_exact = by_speed (λ v. 96_000 / v * v ≡ 12 * 8_000) (omega arith) (omega arith) (omega arith)
