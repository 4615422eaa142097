-- The fewest decimal digits that hold a number, as `io` gives them, are its shortest decimal form (`fewest_decimal`); a number below the k-th power of ten
-- has at most k digits (`decimal-short`).
-- Assumes nothing.
use mathlib.Core.Path.{◌≡◌, refl, ap, sym, subst, ◌∙◌}
use mathlib.Core.Bool.{Bool, true, false}
use mathlib.Core.List.{[], ◌∷◌, ◌++◌}
use Prim.Native.Nat.{ℕ, zero, suc, ◌+◌, ◌*◌, ◌-◌, ◌/◌, ◌%◌, ◌^◌, ◌≤◌, ◌<◌}
use native.Mathlib.Nat.{pow-suc, one-le-pow}
use native.Mathlib.Omega.{arith}
use borrow.Author.Tests.{lt-ltb, le-ltb, ltb-true, ltb-false}
use lib.Dec.{ltb}
use lib.ListN.{length, length-append}
use Rattle.io.specs.Digits.{last_digits, IsDigitCount, hex_digit_ascii}
use Rattle.text.specs.Decimal.{digits_up_to, decimal_of}

up_to-last : (k n : ℕ) → n < 10 → digits_up_to (suc k) n ≡ (48 + n) ∷ []
unfolding digits_up_to
up_to-last k n h = simp (lt-ltb _ _ h)

up_to-more : (k n : ℕ) → 10 ≤ n → digits_up_to (suc k) n ≡ digits_up_to k (n / 10) ++ ((48 + n % 10) ∷ [])
unfolding digits_up_to
up_to-more k n h = simp (le-ltb _ _ h)

up_to_enough : (k m n : ℕ) → n < k → n < m → digits_up_to k n ≡ digits_up_to m n
up_to_enough zero m n h i = absurd (omega arith)
up_to_enough (suc k) zero n h i = absurd (omega arith)
up_to_enough (suc k) (suc m) n h i = go (ltb n 10) refl (up_to_enough k m (n / 10))
  where
    go : (x : Bool) → ltb n 10 ≡ x → (n / 10 < k → n / 10 < m → digits_up_to k (n / 10) ≡ digits_up_to m (n / 10)) → digits_up_to (suc k) n ≡ digits_up_to (suc m) n
    go true p ih = let q : n < 10 = ltb-true n 10 p in up_to-last k n q ∙ sym (up_to-last m n q)
    go false p ih =
        let q : 10 ≤ n = ltb-false n 10 p in
        up_to-more k n q ∙ ap (λ l. l ++ ((48 + n % 10) ∷ [])) (ih (omega arith) (omega arith)) ∙ sym (up_to-more m n q)

glyph-digit : (d : ℕ) → d < 10 → hex_digit_ascii d ≡ 48 + d
glyph-digit d h = simp (lt-ltb _ _ h)

decimal-last : (n : ℕ) → n < 10 → decimal_of n ≡ (48 + n) ∷ []
unfolding decimal_of
decimal-last n h = up_to-last n n h

decimal-more : (n : ℕ) → 10 ≤ n → decimal_of n ≡ decimal_of (n / 10) ++ ((48 + n % 10) ∷ [])
unfolding decimal_of
decimal-more n h = up_to-more n n h ∙ ap (λ l. l ++ ((48 + n % 10) ∷ [])) (up_to_enough n (suc (n / 10)) (n / 10) (omega arith) (omega arith))

-- of a power p of ten, by plain numbers

tenth_below : (p n : ℕ) → n < p * 10 → n / 10 < p
tenth_below p n h = omega arith

tenth_above : (p n : ℕ) → p * 10 ≤ n → p ≤ n / 10
tenth_above p n h = omega arith

ten_some : (p n : ℕ) → 0 < p → p * 10 ≤ n → 10 ≤ n
ten_some p n h k = omega arith

small-left : (n : ℕ) → n < 10 → n % 10 ≡ n
small-left n h = omega arith

pub fewest_decimal : (k n : ℕ) → IsDigitCount 10 1 n k → last_digits 10 k n ≡ decimal_of n
fewest_decimal zero n f = absurd (omega (arith, f.0))
fewest_decimal (suc zero) n f =
    let h : n < 10 = f.1 in
    ap (λ d. hex_digit_ascii d ∷ []) (small-left n h) ∙ ap (λ x. x ∷ []) (glyph-digit n h) ∙ sym (decimal-last n h)
fewest_decimal (suc (suc k)) n f =
    let e : suc (suc k) - 1 ≡ suc k = omega arith in
    let g : suc k - 1 ≡ k = omega arith in
    let below : n < 10 ^ suc k * 10 = subst (λ x. n < x) (pow-suc 10 (suc k)) f.1 in
    let above : 10 ^ k * 10 ≤ n = subst (λ x. x ≤ n) (ap (λ j. 10 ^ j) e ∙ pow-suc 10 k) (f.2 (omega arith)) in
    let some : 10 ≤ n = ten_some (10 ^ k) n (one-le-pow k 10 (omega arith)) above in
    let high : 10 ^ (suc k - 1) ≤ n / 10 = subst (λ j. 10 ^ j ≤ n / 10) (sym g) (tenth_above (10 ^ k) n above) in
    ap (λ l. l ++ (hex_digit_ascii (n % 10) ∷ [])) (fewest_decimal (suc k) (n / 10) (omega arith, tenth_below (10 ^ suc k) n below, λ q. high))
    ∙ ap (λ x. decimal_of (n / 10) ++ (x ∷ [])) (glyph-digit (n % 10) (omega arith)) ∙ sym (decimal-more n some)

pub decimal-short : (k n : ℕ) → n < 10 ^ suc k → length (decimal_of n) ≤ suc k
decimal-short zero n h = subst (λ l. length l ≤ 1) (sym (decimal-last n h)) (omega arith)
decimal-short (suc k) n h = go (ltb n 10) refl (decimal-short k (n / 10))
  where
    go : (b : Bool) → ltb n 10 ≡ b → (n / 10 < 10 ^ suc k → length (decimal_of (n / 10)) ≤ suc k) → length (decimal_of n) ≤ suc (suc k)
    go true e ih = subst (λ l. length l ≤ suc (suc k)) (sym (decimal-last n (ltb-true n 10 e))) (omega arith)
    go false e ih =
        let d : ℕ = n % 10 in
        let z : length (decimal_of (n / 10)) ≤ suc k = ih (tenth_below (10 ^ suc k) n (subst (λ x. n < x) (pow-suc 10 (suc k)) h)) in
        let l : length (decimal_of (n / 10) ++ ((48 + d) ∷ [])) ≡ length (decimal_of (n / 10)) + 1 = length-append (decimal_of (n / 10)) ((48 + d) ∷ []) in
        subst (λ l. length l ≤ suc (suc k)) (sym (decimal-more n (ltb-false n 10 e))) (omega (arith, z, l))
