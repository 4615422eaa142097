-- The cycle of a submission is a whole number of nanoseconds if its denominator divides without a rest, and then it gives back what was divided.
-- Assumes nothing.
use Rattle.std.proofs.Common.{◌≡◌, ℕ, ◌*◌, ◌/◌, ◌%◌, Bool, true, false, not, ◌&&◌, leb, eqb, refl, ap, ◌∙◌, eq-eqb, ne_eqb, eqb-true, arith}
use Rattle.std.proofs.lemmas.Bool.{eqb-false}
use Rattle.std.proofs.Math.Nat.{div-mul-le_self, mod-eq-sub-div-mul, div-zero}
use Rattle.rule.specs.Cycle.{cycle_of, cycle_offered}
use Rattle.rule.specs.Limits.{largest_cycle}

whole : (n d : ℕ) → eqb (n / d * d) n ≡ eqb (n % d) 0
whole n d = go (eqb (n % d) 0) refl
  where
    go : (b : Bool) → eqb (n % d) 0 ≡ b → eqb (n / d * d) n ≡ b
    go true e = eq-eqb _ n (omega (arith, eqb-true (n % d) 0 e, mod-eq-sub-div-mul n d, div-mul-le_self n d))
    go false e = ne_eqb _ n (λ z. eqb-false (n % d) 0 e (omega (arith, mod-eq-sub-div-mul n d)))

pub offered : (n d c : ℕ) → c ≡ cycle_of n d → eqb (c * d) (n * 1_000_000_000) && (leb 1 c && leb c largest_cycle) ≡ cycle_offered n d
unfolding cycle_offered
offered n d c e = ap (λ c. eqb (c * d) (n * 1_000_000_000) && (leb 1 c && leb c largest_cycle)) e ∙ go (eqb d 0) refl
  where
    none : (x : Bool) → x && false ≡ false
    none true = refl
    none false = refl

    go : (b : Bool) → eqb d 0 ≡ b → eqb (cycle_of n d * d) (n * 1_000_000_000) && (leb 1 (cycle_of n d) && leb (cycle_of n d) largest_cycle)
        ≡ not b && (eqb (n * 1_000_000_000 % d) 0 && (leb 1 (cycle_of n d) && leb (cycle_of n d) largest_cycle))
    go true z = rw (eqb-true d 0 z, div-zero) (none _)
    go false z = ap (λ b. b && (leb 1 (cycle_of n d) && leb (cycle_of n d) largest_cycle)) (whole (n * 1_000_000_000) d)
