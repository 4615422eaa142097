-- Laws of reading, over the largest number and so over every width. In order: a number kept or too large; an octet joined to the groups after it; the
-- number at a place, a law for each way out; what a number that was read says. That what is written is read back is in `RoundTrip`.
-- Assumes nothing.
use mathlib.Core.Path.{◌≡◌, refl, ap, sym, ◌∙◌}
use mathlib.Core.Bool.{Bool, true, false, cond, not, ◌&&◌}
use mathlib.Core.List.{List, [], ◌∷◌}
use Prim.Native.Nat.{ℕ, suc, ◌+◌, ◌-◌, ◌*◌, ◌/◌, ◌^◌, ◌≤◌, ◌<◌}
use native.Mathlib.Numerals.{add-one}
use native.Mathlib.Omega.{arith}
use borrow.Author.Tests.{lt-ltb, le-ltb, le-leb, lt-leb, eq-eqb, ne_eqb, leb-true, leb-false, eqb-true, eqb-false}
use lib.Dec.{leb, ltb, eqb}
use lib.ListN.{length, get_or, drop, length-drop, drop_of_length-le}
use lib.Seq.{drop-cons}
use Rattle.std.specs.Prelude.{Some, None}
use Rattle.std.specs.Bool.{then_some}
use Rattle.numbers.specs.Groups.{Number, joined, groups_at, up_to, read_up_to, read_number}

-- two numbers that are there are the same in value and place
pub some_same : (g h : ℕ × ℕ) → Some g ≡ Some h → (g.0 ≡ h.0) × (g.1 ≡ h.1)
some_same g h e = let z : g ≡ h = cc in (ap (λ p. p.0) z, ap (λ p. p.1) z)

-- a number kept or too large

module _ (l v n : ℕ) where
  kept : then_some {T = ℕ × ℕ} (leb v l) (v, n) ≡ up_to l (Some (v, n))
  unfolding up_to
  kept = go (leb v l)
    where
      go : (b : Bool) → then_some {T = ℕ × ℕ} b (v, n) ≡ cond {A = Number} b (Some (v, n)) None
      go true = refl
      go false = refl

  pub kept_small : v ≤ l → Some (v, n) ≡ up_to l (Some (v, n))
  unfolding up_to
  kept_small h = simp (le-leb _ _ h)

  kept_large : l < v → None ≡ up_to l (Some (v, n))
  unfolding up_to
  kept_large h = simp (lt-leb _ _ h)

  pub kept_read : (g : Number) → up_to l g ≡ Some (v, n) → (g ≡ Some (v, n)) × (v ≤ l)
  unfolding up_to
  kept_read None e = let z : ◌≡◌ {A = ℕ} 0 1 = cc in absurd (omega arith)
  kept_read (Some g) e = go (leb g.0 l) refl e
    where
      go : (b : Bool) → leb g.0 l ≡ b → cond b (Some g) None ≡ Some (v, n) → (Some g ≡ Some (v, n)) × (v ≤ l)
      go true p q = (q, omega (arith, (some_same g (v, n) q).0, leb-true g.0 l p))
      go false p q = let z : ◌≡◌ {A = ℕ} 0 1 = cc in absurd (omega arith)

-- an octet joined to the groups after it

module _ (b l : ℕ) where
  join-zero : (v n : ℕ) → v ≡ 0 → None ≡ up_to l (joined b (Some (v, n)))
  unfolding up_to joined
  join-zero v n e = simp (eq-eqb _ _ e)

  join-some : (v n r : ℕ) → (v ≡ 0 → ⊥) → r ≡ 128 * v + (b - 128) → up_to l (Some (r, n)) ≡ up_to l (joined b (Some (v, n)))
  unfolding joined
  join-some v n r h e = rw e (simp (ne_eqb _ _ h))

  join-kept : (v n r : ℕ) → r ≡ 128 * v + (b - 128) → then_some {T = ℕ × ℕ} (not (eqb v 0) && leb r l) (r, n) ≡ up_to l (joined b (Some (v, n)))
  unfolding up_to joined
  join-kept v n r e = go (eqb v 0)
    where
      go : (x : Bool) → then_some {T = ℕ × ℕ} (not x && leb r l) (r, n) ≡ up_to l (cond {A = Number} x None (Some (128 * v + (b - 128), n)))
      go true = refl
      go false = kept l r n ∙ ap (λ y. up_to l (Some (y, n))) e

  join_large : (v n : ℕ) → l / 128 < v → None ≡ up_to l (joined b (Some (v, n)))
  join_large v n h = kept_large l (128 * v + (b - 128)) n (omega arith) ∙ join-some v n _ (omega arith) refl

  -- the groups after an octet need be read up to l / 128 only
  join-up_to : (g : Number) → up_to l (joined b (up_to (l / 128) g)) ≡ up_to l (joined b g)
  unfolding up_to joined
  join-up_to None = refl
  join-up_to (Some g) = go (leb g.0 (l / 128)) refl
    where
      go : (x : Bool) → leb g.0 (l / 128) ≡ x → up_to l (joined b (cond x (Some g) None)) ≡ up_to l (joined b (Some g))
      go true p = refl
      go false p = join_large g.0 g.1 (leb-false _ _ p)

  join_narrow : l < 128 → (g : Number) → None ≡ up_to l (joined b g)
  unfolding up_to joined
  join_narrow h None = refl
  join_narrow h (Some g) = go (eqb g.0 0) refl
    where
      go : (x : Bool) → eqb g.0 0 ≡ x → None ≡ up_to l (joined b (Some g))
      go true p = join-zero g.0 g.1 (eqb-true _ _ p)
      go false p = let f : (g.0 ≡ 0 → ⊥) = eqb-false g.0 0 p in join_large g.0 g.1 (omega arith)

-- the number at a place

module _ (l : ℕ) (s : List ℕ) (at : ℕ) where
  pub read_cut : length s ≤ at → None ≡ read_up_to l s at
  unfolding groups_at up_to
  read_cut h = ap (λ x. up_to l (groups_at x at)) (sym (drop_of_length-le s h))

  -- b is the octet there
  module _ (h : at < length s) (b : ℕ) (e : b ≡ get_or s at 0) where
    at-cons : groups_at (drop at s) at ≡ groups_at (b ∷ drop (at + 1) s) at
    at-cons = ap (λ x. groups_at x at) (drop-cons s at 0 h ∙ ap (λ n. get_or s at 0 ∷ drop n s) (sym (add-one at)) ∙ ap (λ o. o ∷ drop (at + 1) s) (sym e))

    pub read_last : b < 128 → then_some {T = ℕ × ℕ} (leb b l) (b, at + 1) ≡ read_up_to l s at
    unfolding groups_at
    read_last k = kept l b (at + 1) ∙ ap (up_to l) (sym (at-cons ∙ simp (lt-ltb _ _ k)))

    read_more : 128 ≤ b → up_to l (joined b (groups_at (drop (at + 1) s) (at + 1))) ≡ read_up_to l s at
    unfolding groups_at
    read_more k = ap (up_to l) (sym (at-cons ∙ simp (le-ltb _ _ k)))

    pub read_narrow : 128 ≤ b → l < 128 → None ≡ read_up_to l s at
    read_narrow k n = join_narrow b l n _ ∙ read_more k

    -- x is the number behind it
    module _ (k : 128 ≤ b) (x : Number) (q : x ≡ read_up_to (l / 128) s (at + 1)) where
      read-joined : up_to l (joined b x) ≡ read_up_to l s at
      read-joined = ap (λ y. up_to l (joined b y)) q ∙ join-up_to b l _ ∙ read_more k

      pub read_none : x ≡ None → None ≡ read_up_to l s at
      unfolding up_to joined
      read_none e = ap (λ y. up_to l (joined b y)) (sym e) ∙ read-joined

      pub read_some : (v n r : ℕ) → x ≡ Some (v, n) → r ≡ 128 * v + (b - 128)
          → then_some {T = ℕ × ℕ} (not (eqb v 0) && leb r l) (r, n) ≡ read_up_to l s at
      read_some v n r e a = join-kept b l v n r a ∙ ap (λ y. up_to l (joined b y)) (sym e) ∙ read-joined

-- what a number that was read says

pub read_within : (l : ℕ) (s : List ℕ) (at v n : ℕ) → read_up_to l s at ≡ Some (v, n) → v ≤ l
read_within l s at v n e = (kept_read l v n (groups_at (drop at s) at) e).1

pub read_below : (width : ℕ) (s : List ℕ) (at v n : ℕ) → read_number width s at ≡ Some (v, n) → v ≤ 2 ^ width - 1
read_below width s at v n e = read_within (2 ^ width - 1) s at v n e

-- an octet joined to a number: what that was
pub record Joined (b : ℕ) (g : Number) (v n : ℕ) : Type 0 where
  pub rest : ℕ
  pub read : g ≡ Some (rest, n)
  pub some : rest ≡ 0 → ⊥
  pub value : v ≡ 128 * rest + (b - 128)

pub joined-read : (b v n : ℕ) (g : Number) → joined b g ≡ Some (v, n) → Joined b g v n
unfolding joined
joined-read b v n None e = let z : ◌≡◌ {A = ℕ} 0 1 = cc in absurd (omega arith)
joined-read b v n (Some g) e = go (eqb g.0 0) refl e
  where
    go : (x : Bool) → eqb g.0 0 ≡ x → cond {A = Number} x None (Some (128 * g.0 + (b - 128), g.1)) ≡ Some (v, n) → Joined b (Some g) v n
    go true p q = let z : ◌≡◌ {A = ℕ} 0 1 = cc in absurd (omega arith)
    go false p q = let z = some_same _ _ q in record { rest = g.0; read = ap (λ m. Some (g.0, m)) z.1; some = eqb-false g.0 0 p; value = sym z.0 }

-- the place after a number lies after its own, and not past the octets
pub groups_next : (s : List ℕ) (at v n : ℕ) → groups_at s at ≡ Some (v, n) → (at < n) × (n ≤ at + length s)
unfolding groups_at
groups_next [] at v n e = let z : ◌≡◌ {A = ℕ} 0 1 = cc in absurd (omega arith)
groups_next (b ∷ s) at v n e = go (ltb b 128) (λ w. groups_next s (at + 1) w n) e
  where
    go : (x : Bool) → ((w : ℕ) → groups_at s (at + 1) ≡ Some (w, n) → (at + 1 < n) × (n ≤ at + 1 + length s))
        → cond {A = Number} x (Some (b, at + 1)) (joined b (groups_at s (at + 1))) ≡ Some (v, n) → (at < n) × (n ≤ at + suc (length s))
    go true ih q = let z = some_same _ _ q in (omega (arith, z.1), omega (arith, z.1))
    go false ih q =
        let j = joined-read b v n (groups_at s (at + 1)) q in
        let i = ih j.rest j.read in
        (omega arith, omega arith)

pub read_next : (l : ℕ) (s : List ℕ) (at v n : ℕ) → read_up_to l s at ≡ Some (v, n) → (at < n) × (n ≤ length s)
read_next l s at v n e =
    let i = groups_next (drop at s) at v n (kept_read l v n (groups_at (drop at s) at) e).0 in
    (omega arith, omega (arith, length-drop at s))
