-- The round trip both ways, over every number and every width: what is written is read back as the same number, with the place behind it; and what is read
-- stands in the octets in the one form that writing gives, so that no number has two forms.
-- Assumes nothing.
use mathlib.Core.Path.{◌≡◌, refl, ap, sym, subst, ◌∙◌}
use mathlib.Core.Bool.{Bool, true, false, cond}
use mathlib.Core.List.{List, [], ◌∷◌, ◌++◌}
use Prim.Native.Nat.{ℕ, zero, suc, ◌+◌, ◌-◌, ◌*◌, ◌/◌, ◌%◌, ◌^◌, ◌≤◌, ◌<◌}
use native.Mathlib.Omega.{arith}
use borrow.Author.Tests.{lt-ltb, le-ltb, ne_eqb, ltb-true, ltb-false}
use lib.Dec.{ltb}
use lib.ListN.{length, drop, take, get_or}
use lib.Seq.{drop-append_seam, get_or-drop}
use Rattle.std.specs.Prelude.{Some}
use Rattle.numbers.specs.Groups.{Number, octets_of, joined, groups_at, up_to, read_number}
use Rattle.numbers.proofs.Reading.{some_same, joined-read, groups_next, kept_read, kept_small}
use Rattle.numbers.proofs.Writing.{octets-last, octets-cons}

-- what is written is read back

at_last : (n at : ℕ) (s : List ℕ) → n < 128 → groups_at (n ∷ s) at ≡ Some (n, at + 1)
unfolding groups_at
at_last n at s h = simp (lt-ltb _ _ h)

at_more : (b at : ℕ) (s : List ℕ) → 128 ≤ b → groups_at (b ∷ s) at ≡ joined b (groups_at s (at + 1))
unfolding groups_at
at_more b at s h = simp (le-ltb _ _ h)

joined-some : (b v n r : ℕ) → (v ≡ 0 → ⊥) → 128 * v + (b - 128) ≡ r → joined b (Some (v, n)) ≡ Some (r, n)
unfolding joined
joined-some b v n r h e = rw (ne_eqb _ _ h) (ap (λ x. Some (x, n)) e)

-- by recursion on a bound k
written_read : (k n at : ℕ) (s : List ℕ) → n < k → groups_at (octets_of n ++ s) at ≡ Some (n, at + length (octets_of n))
written_read zero n at s h = absurd (omega arith)
written_read (suc k) n at s h = go (ltb n 128) refl (written_read k (n / 128) (at + 1) s)
  where
    go : (x : Bool) → ltb n 128 ≡ x
        → (n / 128 < k → groups_at (octets_of (n / 128) ++ s) (at + 1) ≡ Some (n / 128, at + 1 + length (octets_of (n / 128))))
        → groups_at (octets_of n ++ s) at ≡ Some (n, at + length (octets_of n))
    go true p ih =
        let q : n < 128 = ltb-true n 128 p in
        ap (λ l. groups_at (l ++ s) at) (octets-last n q) ∙ at_last n at s q ∙ ap (λ l. Some (n, at + length l)) (sym (octets-last n q))
    go false p ih =
        let q : 128 ≤ n = ltb-false n 128 p in
        let e : at + 1 + length (octets_of (n / 128)) ≡ at + suc (length (octets_of (n / 128))) = omega arith in
        ap (λ l. groups_at (l ++ s) at) (octets-cons n q) ∙ at_more (128 + n % 128) at (octets_of (n / 128) ++ s) (omega arith)
        ∙ ap (joined (128 + n % 128)) (ih (omega arith)) ∙ joined-some (128 + n % 128) (n / 128) _ n (omega arith) (omega arith)
        ∙ ap (λ m. Some (n, m)) (e ∙ ap (λ l. at + length l) (sym (octets-cons n q)))

-- a number of the width, written between any octets, is read there with the place behind it
pub read-written : (width n : ℕ) (before after : List ℕ) → n ≤ 2 ^ width - 1
    → read_number width (before ++ (octets_of n ++ after)) (length before) ≡ Some (n, length before + length (octets_of n))
read-written width n before after h =
    ap (λ l. up_to (2 ^ width - 1) (groups_at l (length before))) (drop-append_seam before (octets_of n ++ after))
    ∙ ap (up_to (2 ^ width - 1)) (written_read (suc n) n (length before) after (omega arith)) ∙ sym (kept_small (2 ^ width - 1) n _ h)

-- what is read stands there as it would be written

-- of v = 128 w + (b - 128), with b an octet of 128 or more

divided : (b v w : ℕ) → 128 ≤ b → b < 256 → v ≡ 128 * w + (b - 128) → v / 128 ≡ w
divided b v w h k e = omega arith

left_over : (b v w : ℕ) → 128 ≤ b → b < 256 → v ≡ 128 * w + (b - 128) → 128 + v % 128 ≡ b
left_over b v w h k e = omega arith

large : (b v w : ℕ) → 128 ≤ b → (w ≡ 0 → ⊥) → v ≡ 128 * w + (b - 128) → 128 ≤ v
large b v w h k e = omega arith

one_more : (at n : ℕ) → at + 1 < n → n - at ≡ suc (n - (at + 1))
one_more at n h = omega arith

one_only : (at n : ℕ) → at + 1 ≡ n → n - at ≡ 1
one_only at n h = omega arith

read_groups : (s : List ℕ) → ((i : ℕ) → get_or s i 0 < 256) → (at v n : ℕ) → groups_at s at ≡ Some (v, n) → take (n - at) s ≡ octets_of v
unfolding groups_at
read_groups [] bytes at v n e = let z : ◌≡◌ {A = ℕ} 0 1 = cc in absurd (omega arith)
read_groups (b ∷ s) bytes at v n e = go (ltb b 128) refl e (λ w. read_groups s (λ i. bytes (suc i)) (at + 1) w n)
  where
    go : (x : Bool) → ltb b 128 ≡ x → cond {A = Number} x (Some (b, at + 1)) (joined b (groups_at s (at + 1))) ≡ Some (v, n)
        → ((w : ℕ) → groups_at s (at + 1) ≡ Some (w, n) → take (n - (at + 1)) s ≡ octets_of w) → take (n - at) (b ∷ s) ≡ octets_of v
    go true p q ih =
        let z = some_same (b, at + 1) (v, n) q in
        ap (λ k. take k (b ∷ s)) (one_only at n z.1) ∙ ap (λ y. y ∷ []) z.0 ∙ sym (octets-last v (subst (λ y. y < 128) z.0 (ltb-true b 128 p)))
    go false p q ih =
        let l : 128 ≤ b = ltb-false b 128 p in
        let h : b < 256 = bytes 0 in
        let j = joined-read b v n (groups_at s (at + 1)) q in
        let i = groups_next s (at + 1) j.rest n j.read in
        let d : v / 128 ≡ j.rest = divided b v j.rest l h j.value in
        let r : 128 + v % 128 ≡ b = left_over b v j.rest l h j.value in
        ap (λ k. take k (b ∷ s)) (one_more at n (omega arith)) ∙ ap (λ t. b ∷ t) (ih j.rest j.read)
        ∙ sym (octets-cons v (large b v j.rest l j.some j.value) ∙ ap (λ y. y ∷ octets_of (v / 128)) r ∙ ap (λ y. b ∷ octets_of y) d)

pub written_again : (width : ℕ) (s : List ℕ) (at v n : ℕ) → ((i : ℕ) → get_or s i 0 < 256) → read_number width s at ≡ Some (v, n)
    → take (n - at) (drop at s) ≡ octets_of v
written_again width s at v n bytes e =
    read_groups (drop at s) (λ i. subst (λ x. x < 256) (sym (get_or-drop at s i 0)) (bytes (at + i))) at v n
    (kept_read (2 ^ width - 1) v n (groups_at (drop at s) at) e).0
