-- Two runs of octets that are the same: as slices' `==` finds them (`pointwise_same`), and they are one list (`same-is`).
-- Assumes nothing.
use mathlib.Core.Path.{◌≡◌, refl, ap, ap₂, sym}
use mathlib.Core.Bool.{Bool, true, false, ◌&&◌, true≢false}
use mathlib.Core.List.{List, [], ◌∷◌}
use Prim.Native.Nat.{ℕ}
use borrow.Author.Tests.{eqb-true}
use lib.Dec.{eqb}
use lib.Pointwise.{pointwise}
use Rattle.text.specs.Scan.{same_octets}

pub pointwise_same : (a b : List ℕ) → pointwise eqb a b ≡ same_octets a b
unfolding same_octets
pointwise_same [] [] = refl
pointwise_same [] (y ∷ b) = refl
pointwise_same (x ∷ a) [] = refl
pointwise_same (x ∷ a) (y ∷ b) = ap (λ s. eqb x y && s) (pointwise_same a b)

pub same-is : (a b : List ℕ) → same_octets a b ≡ true → a ≡ b
unfolding same_octets
same-is [] [] e = refl
same-is [] (y ∷ b) e = absurd (true≢false (sym e))
same-is (x ∷ a) [] e = absurd (true≢false (sym e))
same-is (x ∷ a) (y ∷ b) e = go (eqb x y) refl e (same-is a b)
  where
    go : (t : Bool) → eqb x y ≡ t → t && same_octets a b ≡ true → (same_octets a b ≡ true → a ≡ b) → x ∷ a ≡ y ∷ b
    go true q e ih = ap₂ (λ z l. z ∷ l) (eqb-true x y q) (ih e)
    go false q e ih = absurd (true≢false (sym e))
