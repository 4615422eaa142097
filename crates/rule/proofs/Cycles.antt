-- The laws of a configuration's cycles. The formula (`start_no`, `cycle_no`) is opened in the first part and nowhere else: another formula wants those
-- laws again. Then what follows from them: the running cycle, the last old cycle (8.6.9.1.1), the change instant (8.6.9.3.1). The forms that a program
-- computes are in `ClosedForms`.
-- Assumes nothing.
use mathlib.Core.Path.{◌≡◌, refl, ap}
use mathlib.Core.Logic.{◌↔◌}
use mathlib.Core.Bool.{Bool, true, false, cond}
use Prim.Native.Nat.{ℕ, zero, suc, ◌+◌, ◌-◌, ◌≤◌, ◌<◌}
use native.Mathlib.Nat.{le-div_iff_mul-le, mul-lt-mul_of_pos_right, zero-mul, lt_of_not-le, not-le_of_lt}
use native.Mathlib.Omega.{arith}
use lib.Dec.{leb}
use borrow.Author.Tests.{leb-true, leb-false, le-leb}
use Rattle.rule.specs.Cycle.{Config, Valid, start_no, cycle_no, first_no, last_no, plain_start, change_instant, starting_at}

module _ (f : Config) (pos : Valid f) where
  -- the formula

  pub start-zero : start_no f 0 ≡ f.start
  unfolding start_no
  start-zero = omega (arith, zero-mul f.cycle)

  pub start_mono : {j k : ℕ} → j < k → start_no f j < start_no f k
  unfolding start_no Valid
  start_mono h = omega (arith, mul-lt-mul_of_pos_right h pos)

  pub cycle_no_lem : (k t : ℕ) → f.start ≤ t → (k ≤ cycle_no f t) ↔ (start_no f k ≤ t)
  unfolding start_no cycle_no Valid
  cycle_no_lem k t h = (λ e. omega (arith, (le-div_iff_mul-le pos).0 e), λ e. (le-div_iff_mul-le pos).1 (omega arith))

  pub start-suc : (k : ℕ) → start_no f (suc k) ≡ start_no f k + f.cycle
  unfolding start_no
  start-suc k = omega arith

  -- what follows from it

  pub start-le : (k : ℕ) → f.start ≤ start_no f k
  start-le zero = omega (arith, start-zero)
  start-le (suc k) = let h : start_no f 0 < start_no f (suc k) = start_mono (omega arith) in omega (arith, start-zero)

  -- the running cycle's start and the next
  pub plain_le : (t : ℕ) → f.start ≤ t → plain_start f t ≤ t
  unfolding plain_start
  plain_le t h = (cycle_no_lem (cycle_no f t) t h).0 (omega arith)

  pub next_start_lem : (t k : ℕ) → f.start ≤ t → cycle_no f t < k → t < start_no f k
  next_start_lem t k h l = lt_of_not-le (λ e. not-le_of_lt l ((cycle_no_lem k t h).1 e))

  pub same-cycle : (t u : ℕ) → f.start ≤ t → plain_start f t ≤ u → u < start_no f (suc (cycle_no f t)) → cycle_no f u ≡ cycle_no f t
  unfolding plain_start
  same-cycle t u h l r =
      let s : f.start ≤ u = omega (arith, start-le (cycle_no f t)) in
      let a : cycle_no f t ≤ cycle_no f u = (cycle_no_lem (cycle_no f t) u s).1 l in
      let b : cycle_no f u < suc (cycle_no f t) = lt_of_not-le (λ e. not-le_of_lt r ((cycle_no_lem (suc (cycle_no f t)) u s).0 e)) in
      omega arith

  -- the cycle that a start begins is its own
  pub start_own : (k : ℕ) → plain_start f (start_no f k) ≡ start_no f k
  unfolding plain_start
  start_own k =
      let h : f.start ≤ start_no f k = start-le k in
      let a : k ≤ cycle_no f (start_no f k) = (cycle_no_lem k (start_no f k) h).1 (omega arith) in
      let m : start_no f k < start_no f (suc k) = start_mono (omega arith) in
      let b : cycle_no f (start_no f k) < suc k = lt_of_not-le (λ e. not-le_of_lt m ((cycle_no_lem (suc k) (start_no f k) h).0 e)) in
      let e : cycle_no f (start_no f k) ≡ k = omega arith in
      ap (start_no f) e

  pub first_no_lem : (x k : ℕ) → (first_no f x ≤ k) ↔ (x ≤ start_no f k)
  unfolding first_no
  first_no_lem x k = go (leb x f.start) refl
    where
      go : (b : Bool) → leb x f.start ≡ b → (cond b 0 (suc (cycle_no f (x - 1))) ≤ k) ↔ (x ≤ start_no f k)
      go true e = (λ _. omega (arith, leb-true, start-le k), λ _. omega arith)
      go false e =
          let h : f.start ≤ x - 1 = omega (arith, leb-false) in
          let h' : f.start < x = omega (arith, leb-false) in
          (λ l. omega (arith, next_start_lem (x - 1) k h l), λ l. lt_of_not-le (λ m. omega (arith, (cycle_no_lem k (x - 1) h).0 m)))

  -- document 01's last old cycle: s is the first start later than a whose next start, put off by the extension, is P or later
  pub record Last (a P k : ℕ) : Type 0 where
    pub later : a < start_no f k
    pub covers : P ≤ start_no f (suc k) + f.extension
    pub least : (j : ℕ) → a < start_no f j → P ≤ start_no f (suc j) + f.extension → k ≤ j

  pub last_no_lem : (a P : ℕ) → f.start ≤ a → Last a P (last_no f a P)
  unfolding last_no
  last_no_lem a P h = record {
    later = next_start_lem a _ h (omega arith);
    covers = omega (arith, (first_no_lem (P - f.extension) (suc (last_no f a P))).0 (omega arith));
    least = λ j l m. let z : first_no f (P - f.extension) ≤ suc j = (first_no_lem (P - f.extension) (suc j)).1 (omega arith) in
        let y : cycle_no f a < j = lt_of_not-le (λ e. not-le_of_lt l ((cycle_no_lem j a h).0 e)) in
        omega arith;
  }

-- document 01's change instant: the first of base, base + c, base + 2c .. that is a or later
pub record Change (f : Config) (base a P : ℕ) : Type 0 where
  pub no : ℕ
  pub is : P ≡ start_no (starting_at base f) no
  pub reached : a ≤ P
  pub least : (j : ℕ) → a ≤ start_no (starting_at base f) j → no ≤ j

pub change_at : (f : Config) (base a : ℕ) → Valid (starting_at base f) → Change f base a (change_instant f base a)
unfolding change_instant
change_at f base a v = record {
  no = first_no (starting_at base f) a;
  is = refl;
  reached = (first_no_lem (starting_at base f) v a (first_no (starting_at base f) a)).0 (omega arith);
  least = λ j h. (first_no_lem (starting_at base f) v a j).1 h;
}

-- a base time that is not past is the change instant itself
pub change_base : (f : Config) (base a : ℕ) → Valid (starting_at base f) → a ≤ base → change_instant f base a ≡ base
unfolding change_instant first_no
change_base f base a v h = rw (le-leb a base h) (start-zero (starting_at base f) v)
