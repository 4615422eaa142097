-- Laws of writing. In order: the groups of a number one after the other; how many there are; the buffer as it is filled.
-- Assumes nothing.
use mathlib.Core.Path.{◌≡◌, refl, ap, sym, ◌∙◌}
use mathlib.Core.List.{List, [], ◌∷◌, ◌++◌, append_assoc}
use Prim.Native.Nat.{ℕ, zero, suc, ◌+◌, ◌/◌, ◌%◌, ◌≤◌, ◌<◌}
use native.Mathlib.Numerals.{add-one}
use native.Mathlib.Omega.{arith}
use borrow.Author.Tests.{lt-ltb, le-ltb, ltb-true, ltb-false}
use lib.Dec.{ltb}
use mathlib.Core.Bool.{Bool, true, false}
use lib.ListN.{length, drop, take, set, length-set, length-append}
use lib.Seq.{take-suc-set, drop-set-lt, drop-drop, set_split, length-take-le}
use Rattle.numbers.specs.Groups.{groups_of, octets_of}

-- the groups of a number one after the other

groups_last : (k n : ℕ) → n < 128 → groups_of (suc k) n ≡ n ∷ []
unfolding groups_of
groups_last k n h = simp (lt-ltb _ _ h)

groups_cons : (k n : ℕ) → 128 ≤ n → groups_of (suc k) n ≡ (128 + n % 128) ∷ groups_of k (n / 128)
unfolding groups_of
groups_cons k n h = simp (le-ltb _ _ h)

-- more steps than groups change nothing
groups_enough : (k m n : ℕ) → n < k → n < m → groups_of k n ≡ groups_of m n
groups_enough zero m n h i = absurd (omega arith)
groups_enough (suc k) zero n h i = absurd (omega arith)
groups_enough (suc k) (suc m) n h i = go (ltb n 128) refl (groups_enough k m (n / 128))
  where
    go : (x : Bool) → ltb n 128 ≡ x → (n / 128 < k → n / 128 < m → groups_of k (n / 128) ≡ groups_of m (n / 128)) → groups_of (suc k) n ≡ groups_of (suc m) n
    go true p ih = let q : n < 128 = ltb-true n 128 p in groups_last k n q ∙ sym (groups_last m n q)
    go false p ih =
        let q : 128 ≤ n = ltb-false n 128 p in
        groups_cons k n q ∙ ap (λ l. (128 + n % 128) ∷ l) (ih (omega arith) (omega arith)) ∙ sym (groups_cons m n q)

pub octets-last : (n : ℕ) → n < 128 → octets_of n ≡ n ∷ []
unfolding octets_of
octets-last n h = groups_last n n h

pub octets-cons : (n : ℕ) → 128 ≤ n → octets_of n ≡ (128 + n % 128) ∷ octets_of (n / 128)
unfolding octets_of
octets-cons n h = groups_cons n n h ∙ ap (λ l. (128 + n % 128) ∷ l) (groups_enough n (suc (n / 128)) (n / 128) (omega arith) (omega arith))

-- how many there are

pub size_last : (n : ℕ) → n < 128 → length (octets_of n) ≡ 1
size_last n h = ap length (octets-last n h)

pub size_more : (n : ℕ) → 128 ≤ n → length (octets_of n) ≡ length (octets_of (n / 128)) + 1
size_more n h = let e : length (octets_of n) ≡ suc (length (octets_of (n / 128))) = ap length (octets-cons n h) in omega arith

pub size-some : (n : ℕ) → 1 ≤ length (octets_of n)
size-some n = go (ltb n 128) refl
  where
    go : (x : Bool) → ltb n 128 ≡ x → 1 ≤ length (octets_of n)
    go true p = let e = size_last n (ltb-true n 128 p) in omega arith
    go false p = let e = size_more n (ltb-false n 128 p) in omega arith

-- the buffer as it is filled: i octets are written, and the groups of the rest are still to come

pub record Filling (n : ℕ) (out₀ out : List ℕ) (rest i : ℕ) : Type 0 where
  pub front : take i out ++ octets_of rest ≡ octets_of n
  pub back : drop i out ≡ drop i out₀
  pub long : length out ≡ length out₀
  pub room : i + length (octets_of rest) ≤ length out₀

pub filling_start : (n : ℕ) (out : List ℕ) → length (octets_of n) ≤ length out → Filling n out out n 0
filling_start n out h = record { front = refl; back = refl; long = refl; room = omega arith }

module _ (n : ℕ) (out₀ out : List ℕ) (rest i : ℕ) (f : Filling n out₀ out rest i) where
  pub filling_room : i < length out
  filling_room = let e = size-some rest in omega arith

  pub filling_more : 128 ≤ rest → Filling n out₀ (set out i (128 + rest % 128)) (rest / 128) (i + 1)
  filling_more h = let a : ℕ = 128 + rest % 128 in record {
    front =
        ap (λ l. l ++ octets_of (rest / 128)) (ap (λ k. take k (set out i a)) (add-one i) ∙ take-suc-set out i a filling_room)
        ∙ append_assoc (take i out) (a ∷ []) (octets_of (rest / 128))
        ∙ ap (λ l. take i out ++ l) (sym (octets-cons rest h)) ∙ f.front;
    back =
        drop-set-lt (i + 1) out i a (omega arith) ∙ sym (drop-drop 1 i out) ∙ ap (λ l. drop 1 l) f.back ∙ drop-drop 1 i out₀;
    long = length-set out i a ∙ f.long;
    room = let e = size_more rest h in omega arith;
  }

  filling_back : drop (suc i) out ≡ drop (suc i) out₀
  filling_back = ap (λ k. drop k out) (sym (add-one i)) ∙ sym (drop-drop 1 i out) ∙ ap (λ l. drop 1 l) f.back ∙ drop-drop 1 i out₀ ∙ ap (λ k. drop k out₀) (add-one i)

  pub filling_last : rest < 128 → set out i rest ≡ octets_of n ++ drop (length (octets_of n)) out₀
  filling_last h =
      let e : take i out ++ (rest ∷ []) ≡ octets_of n = ap (λ l. take i out ++ l) (sym (octets-last rest h)) ∙ f.front in
      let k : length (octets_of n) ≡ suc i = sym (ap length e) ∙ simp length-append (omega (arith, length-take-le i out (omega arith))) in
      set_split out i rest filling_room ∙ sym (append_assoc (take i out) (rest ∷ []) (drop (suc i) out)) ∙ ap (λ l. l ++ drop (suc i) out) e
      ∙ ap (λ l. octets_of n ++ l) (filling_back ∙ ap (λ j. drop j out₀) (sym k))
