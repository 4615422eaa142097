-- The start of a plain cycle, the start of the last old cycle and the change instant in closed form, as a program computes them at any distance, and how
-- late each can be.
-- Assumes nothing.
use mathlib.Core.Path.{◌≡◌, refl, ap, ap₂, sym, ◌∙◌}
use mathlib.Core.Bool.{Bool, true, false, cond}
use Prim.Native.Nat.{ℕ, suc, ◌+◌, ◌-◌, ◌*◌, ◌/◌, ◌≤◌, ◌<◌, pred, max}
use native.Mathlib.Nat.{zero-div, div-mul-le_self}
use native.Mathlib.Numerals.{add-one}
use native.Mathlib.Omega.{arith}
use lib.Dec.{leb}
use borrow.Author.Tests.{leb-true, leb-false}
use Rattle.rule.specs.Cycle.{Config, start_no, cycle_no, first_no, last_no, plain_start, change_instant}

first-pred : (f : Config) (x : ℕ) → pred (first_no f x) ≡ (x - (f.start + 1)) / f.cycle
unfolding first_no cycle_no
first-pred f x = go (leb x f.start) refl
  where
    go : (b : Bool) → leb x f.start ≡ b → pred (cond b 0 (suc ((x - 1 - f.start) / f.cycle))) ≡ (x - (f.start + 1)) / f.cycle
    go true e =
        let h : x ≤ f.start = leb-true x f.start e in
        let z : x - (f.start + 1) ≡ 0 = omega arith in
        sym (ap (λ n. n / f.cycle) z ∙ zero-div f.cycle)
    go false e = let z : x - 1 - f.start ≡ x - (f.start + 1) = omega arith in ap (λ n. n / f.cycle) z

pub last_start_lem : (f : Config) (a P : ℕ) → f.start + max ((a - f.start) / f.cycle + 1) ((P - f.extension - (f.start + 1)) / f.cycle) * f.cycle ≡ start_no f (last_no f a P)
unfolding start_no last_no cycle_no
last_start_lem f a P = ap₂ (λ x y. f.start + max x y * f.cycle) (add-one ((a - f.start) / f.cycle)) (sym (first-pred f (P - f.extension)))

pub plain_start_lem : (f : Config) (t : ℕ) → f.start + (t - f.start) / f.cycle * f.cycle ≡ plain_start f t
unfolding plain_start start_no cycle_no
plain_start_lem f t = refl

-- a change instant in closed form, and how late it is

pub change_closed : (f : Config) (base a : ℕ) → change_instant f base a ≡ cond (leb a base) base (base + ((a - 1 - base) / f.cycle + 1) * f.cycle)
unfolding change_instant first_no start_no cycle_no
change_closed f base a = go (leb a base)
  where
    go : (b : Bool) → base + cond b 0 (suc ((a - 1 - base) / f.cycle)) * f.cycle ≡ cond b base (base + ((a - 1 - base) / f.cycle + 1) * f.cycle)
    go true = omega arith
    go false = ap (λ n. base + n * f.cycle) (sym (add-one ((a - 1 - base) / f.cycle)))

pub up_fits : (c a base : ℕ) → base < a → base + ((a - 1 - base) / c + 1) * c < a + c
up_fits c a base h = omega (arith, div-mul-le_self (a - 1 - base) c)

pub change_less : (f : Config) (base a last : ℕ) → 1 ≤ f.cycle → base ≤ last → a ≤ last → change_instant f base a < last + f.cycle
change_less f base a last p h k = rw (change_closed f base a) (go (leb a base) refl)
  where
    go : (b : Bool) → leb a base ≡ b → cond b base (base + ((a - 1 - base) / f.cycle + 1) * f.cycle) < last + f.cycle
    go true e = omega arith
    go false e = omega (arith, up_fits f.cycle a base (leb-false a base e))

pub change_near : (f : Config) (base a last longest : ℕ) → 1 ≤ f.cycle → f.cycle ≤ longest → base ≤ last → a ≤ last → change_instant f base a ≤ last + longest
change_near f base a last longest p q h k = omega (arith, change_less f base a last p h k)
