-- The bits of an octet of classes. In order: the bits of `&`, `|` and `^`; the octet of one class; an octet formed bit by bit.
-- Assumes nothing.
use Rattle.std.proofs.Common.{◌≡◌, refl, ap, ap₂, sym, ◌∙◌, Bool, true, false, cond, not, ◌&&◌, ◌||◌, ℕ, zero, suc, ◌+◌, ◌-◌, ◌*◌, ◌/◌, ◌%◌, ◌^◌, ◌≤◌, ◌<◌, pow-suc, arith, eqb, ltb, lit<, bit_and, bit_or, bit_xor, shl_exact, pow-add, lt-ltb, le-ltb, ltb-true, ltb-false, eqb-true, eq-eqb, ne_eqb}
use native.Mathlib.Nat.{div-eq_of_lt}
use lib.Bits.{and_shr, or_shr, xor_shr, and_mod, or_mod, xor_mod}
use lib.Pow.{shl-shr, pow-lt}
use Rattle.std.proofs.lemmas.Bool.{eqb-false}
use Rattle.rule.specs.Gates.{is_open}
use Rattle.frames.specs.Choosing.{Sets, Forms}

-- what holds of 0 and 1 holds of what a division by 2 leaves
parity : (P : ℕ → Type 0) → P 0 → P 1 → (n : ℕ) → P (n % 2)
parity P x y n = go (n % 2) (omega arith)
  where
    go : (r : ℕ) → r < 2 → P r
    go zero h = x
    go (suc zero) h = y
    go (suc (suc r)) h = absurd (omega arith)

-- an operation that goes bit by bit
module _ (f : ℕ → ℕ → ℕ) (o : Bool → Bool → Bool) (shr : (a b k : ℕ) → f a b / 2 ^ k ≡ f (a / 2 ^ k) (b / 2 ^ k))
    (low : (a b k : ℕ) → f a b % 2 ^ k ≡ f (a % 2 ^ k) (b % 2 ^ k)) where
  abbrev Agrees : ℕ → ℕ → Type 0
  Agrees i j = eqb (f i j) 1 ≡ o (eqb i 1) (eqb j 1)

  gate_by : Agrees 0 0 → Agrees 0 1 → Agrees 1 0 → Agrees 1 1 → (a b k : ℕ) → is_open (f a b) k ≡ o (is_open a k) (is_open b k)
  unfolding is_open
  gate_by p q r s a b k =
      let x : ℕ = a / 2 ^ k in
      let y : ℕ = b / 2 ^ k in
      ap (λ n. eqb (n % 2) 1) (shr a b k) ∙ ap (λ n. eqb n 1) (low x y 1)
      ∙ parity (λ i. Agrees i (y % 2)) (parity (Agrees 0) p q y) (parity (Agrees 1) r s y) x

pub gate-and : (a b k : ℕ) → is_open (bit_and a b) k ≡ is_open a k && is_open b k
gate-and = gate_by bit_and (λ x y. x && y) and_shr and_mod refl refl refl refl

pub gate-or : (a b k : ℕ) → is_open (bit_or a b) k ≡ is_open a k || is_open b k
gate-or = gate_by bit_or (λ x y. x || y) or_shr or_mod refl refl refl refl

gate-xor : (a b k : ℕ) → is_open (bit_xor a b) k ≡ cond (is_open a k) (not (is_open b k)) (is_open b k)
gate-xor = gate_by bit_xor (λ x y. cond x (not y) y) xor_shr xor_mod refl refl refl refl

pub gate_none : (k : ℕ) → is_open 0 k ≡ false
gate_none k = gate-xor 0 0 k ∙ go (is_open 0 k)
  where
    go : (b : Bool) → cond b (not b) b ≡ false
    go true = refl
    go false = refl

-- of the classes of an octet those that another does not have
pub gate_less : (a b k : ℕ) → is_open (bit_xor a (bit_and a b)) k ≡ is_open a k && not (is_open b k)
gate_less a b k = gate-xor a (bit_and a b) k ∙ ap (λ x. cond (is_open a k) (not x) x) (gate-and a b k) ∙ go (is_open a k) (is_open b k)
  where
    go : (x y : Bool) → cond x (not (x && y)) (x && y) ≡ x && not y
    go true y = refl
    go false y = refl

-- the octet of one class

power_odd : (j : ℕ) → eqb (2 ^ j % 2) 1 ≡ eqb j 0
power_odd zero = refl
power_odd (suc j) = let e : 2 ^ suc j % 2 ≡ 0 = omega (arith, pow-suc 2 j) in ap (λ n. eqb n 1) e ∙ sym (ne_eqb (suc j) 0 (omega arith))

one_bit : (c k : ℕ) → c < 8 → is_open (1 * 2 ^ c % 256) k ≡ eqb k c
unfolding is_open
one_bit c k h = rw (shl_exact 1 c 8 (lit< tt) (omega arith)) (go (ltb c k) refl)
  where
    go : (t : Bool) → ltb c k ≡ t → eqb (1 * 2 ^ c / 2 ^ k % 2) 1 ≡ eqb k c
    go true z =
        let l : c < k = ltb-true c k z in
        let e : 1 * 2 ^ c / 2 ^ k ≡ 0 = div-eq_of_lt (omega (arith, pow-lt l)) in
        rw e (sym (ne_eqb k c (omega arith)))
    go false z =
        let l : k ≤ c = ltb-false c k z in
        let e : c ≡ (c - k) + k = omega arith in
        let d : 1 * 2 ^ c ≡ 2 ^ (c - k) * 2 ^ k = omega (arith, ap (λ n. 2 ^ n) e ∙ pow-add 2 (c - k) k) in
        ap (λ n. eqb (n / 2 ^ k % 2) 1) d ∙ ap (λ n. eqb (n % 2) 1) (shl-shr (2 ^ (c - k)) k) ∙ power_odd (c - k) ∙ same (eqb k c) refl
      where
        same : (t : Bool) → eqb k c ≡ t → eqb (c - k) 0 ≡ eqb k c
        same true w = let v = eqb-true k c w in eq-eqb (c - k) 0 (omega arith) ∙ sym w
        same false w = let l : k ≤ c = ltb-false c k z in let v = eqb-false k c w in ne_eqb (c - k) 0 (λ q. v (omega arith)) ∙ sym w

-- an octet formed bit by bit

pub sets_bit : (octet c : ℕ) → c < 8 → (b : Bool) → b ≡ true → Sets c b octet (bit_or octet (1 * 2 ^ c % 256))
sets_bit octet c h b e k l =
    gate-or octet (1 * 2 ^ c % 256) k ∙ ap (λ x. is_open octet k || x) (one_bit c k h ∙ sym (ap (λ x. x && eqb k c) e))

pub sets_none : (octet c : ℕ) (b : Bool) → b ≡ false → Sets c b octet octet
sets_none octet c b e k l = sym (ap (λ x. is_open octet k || (x && eqb k c)) e ∙ go (is_open octet k))
  where
    go : (x : Bool) → x || false ≡ x
    go true = refl
    go false = refl

pub forms_none : (q : ℕ → Bool) → Forms q 0 0
forms_none q k h = gate_none k ∙ sym (ap (λ x. x && q k) (le-ltb k 0 (omega arith)))

pub forms_more : (q : ℕ → Bool) (n octet r : ℕ) (b : Bool) → Forms q n octet → b ≡ q n → Sets n b octet r → Forms q (n + 1) r
forms_more q n octet r b f e s k h = s k h ∙ ap₂ (λ x y. x || (y && eqb k n)) (f k h) e ∙ go (eqb k n) refl
  where
    go : (t : Bool) → eqb k n ≡ t → (ltb k n && q k) || (q n && t) ≡ ltb k (n + 1) && q k
    go true z =
        let w : k ≡ n = eqb-true k n z in
        rw (le-ltb k n (omega arith), lt-ltb k (n + 1) (omega arith)) (ap (λ j. q j && true) (sym w) ∙ last (q k))
      where
        last : (x : Bool) → x && true ≡ x
        last true = refl
        last false = refl
    go false z =
        let w : k ≡ n → ⊥ = eqb-false k n z in
        side (ltb k n) refl
      where
        drops : (x y : Bool) → x || (y && false) ≡ x
        drops true y = refl
        drops false true = refl
        drops false false = refl

        side : (t : Bool) → ltb k n ≡ t → (ltb k n && q k) || (q n && false) ≡ ltb k (n + 1) && q k
        side true y = let u = ltb-true k n y in drops (ltb k n && q k) (q n) ∙ rw (y, lt-ltb k (n + 1) (omega arith))
        side false y = let u = ltb-false k n y in let w = eqb-false k n z in drops (ltb k n && q k) (q n) ∙ rw (y, le-ltb k (n + 1) (omega arith))

pub forms_at : (q : ℕ → Bool) (r : ℕ) → Forms q 8 r → (k : ℕ) → k < 8 → is_open r k ≡ q k
forms_at q r f k h = f k h ∙ ap (λ x. x && q k) (lt-ltb k 8 h)
