-- Laws of the first place with an octet, as `position` finds it.
-- Assumes nothing.
use Rattle.std.proofs.Common.{◌≡◌, refl, ap, sym, ◌∙◌, ℕ, ◌+◌, ◌≤◌, ◌<◌, Bool, true, false, cond, not, List, eqb, ltb, length, drop, add-zero, zero-add, drop_of_length-le, Option, Some, None, unwrap_or, position, option_copied, length-drop, drop-drop, Bor, inl, inr, arith}
use borrow.Author.Tests.{lt-ltb, le-ltb, ltb-true, ltb-false}
use Rattle.std.specs.List.{position_or_len}
use Rattle.std.proofs.lemmas.List.Recursion.{is_position_or_len}
use Rattle.std.proofs.lemmas.List.Sums.{prefix_len-le-length}
use Rattle.std.proofs.lemmas.Slice.{between_to_end}
use Rattle.std.specs.Slice.{IsGetRangeResult}
use Rattle.text.specs.Scan.{before, find_from, behind_token}

before_is : (octet : ℕ) (s : List ℕ) → before octet s ≡ position_or_len (λ x. eqb x octet) s
unfolding before
before_is octet = is_position_or_len (before octet) (λ x. eqb x octet) refl (λ x s. ap (cond (eqb x octet) 0) (omega arith))

pub found_at : (octet : ℕ) (s : List ℕ) (n : ℕ) → Some n ≡ position (λ x. eqb x octet) s → (n ≡ before octet s) × (n < length s)
found_at octet s n = go (ltb m (length s)) refl
  where
    m : ℕ
    m = position_or_len (λ x. eqb x octet) s

    go : (b : Bool) → ltb m (length s) ≡ b → Some n ≡ cond b (Some m) None → (n ≡ before octet s) × (n < length s)
    go true p e = let k : n ≡ m = cc in (k ∙ sym (before_is octet s), omega (arith, k, ltb-true m (length s) p))
    go false p e = absurd (cc)

pub found_none : (octet : ℕ) (s : List ℕ) → None ≡ position (λ x. eqb x octet) s → before octet s ≡ length s
found_none octet s = go (ltb m (length s)) refl
  where
    m : ℕ
    m = position_or_len (λ x. eqb x octet) s

    go : (b : Bool) → ltb m (length s) ≡ b → None ≡ cond b (Some m) None → before octet s ≡ length s
    go true p e = absurd (cc)
    go false p e = omega (arith, before_is octet s, ltb-false m (length s) p, prefix_len-le-length (λ x. not (eqb x octet)) s)

pub found_is : (octet : ℕ) (s : List ℕ) (r : Option ℕ) → r ≡ position (λ x. eqb x octet) s → unwrap_or r (length s) ≡ before octet s
found_is octet s None e = sym (found_none octet s e)
found_is octet s (Some n) e = (found_at octet s n e).0

pub find-within : (s : List ℕ) (octet : ℕ) → find_from s 0 octet ≤ length s
find-within s octet = omega (arith, before_is octet s, prefix_len-le-length (λ x. not (eqb x octet)) s)

pub find-past : (s : List ℕ) (at octet : ℕ) → length s ≤ at → find_from s at octet ≡ at
unfolding before
find-past s at octet h = ap (λ l. at + before octet l) (drop_of_length-le s {i = at} h) ∙ add-zero at

-- a line is cut at its first space, if it has one: what is got behind the first octet of the second part is what is left
pub behind_cut : (s b : List ℕ) (n : ℕ) (r : Option (Bor (List ℕ))) → n ≡ find_from s 0 32 → b ≡ drop n s → IsGetRangeResult b 1 (length b) r
    → option_copied r ≡ behind_token (Some s)
behind_cut s b n None e d g =
    let h : length b < 1 = (elim g.0 [
      | inl k ↦ k
      | inr k ↦ absurd (omega arith)
    ]) in
    let k : length s ≤ before 32 s = omega (arith, ap length d, length-drop n s) in
    sym (ap (λ t. cond t (Some (drop (before 32 s + 1) s)) None) (le-ltb _ _ k))
behind_cut s b n (Some x) e d g =
    let k : before 32 s < length s = omega (arith, g.0.0, ap length d, length-drop n s) in
    let left : x.now ≡ drop (before 32 s + 1) s = g.0.2 ∙ between_to_end b 1 (length b) (omega arith) ∙ ap (drop 1) d ∙ drop-drop 1 n s ∙ ap (λ m. drop (m + 1) s) (e ∙ zero-add (before 32 s)) in
    ap Some left ∙ sym (ap (λ t. cond t (Some (drop (before 32 s + 1) s)) None) (lt-ltb _ _ k))
