-- Laws of reading. In order: the stated length; one entry, from the octets that begin at its place; the entries one after the other; the whole reading.
-- That what is written is read back is in `RoundTrip`.
-- Assumes nothing.
use mathlib.Core.Path.{◌≡◌, refl, ap, ap₂, sym, ◌∙◌}
use mathlib.Core.Bool.{Bool, true, false}
use mathlib.Core.Logic.{◌⊎◌, inl, inr}
use mathlib.Core.List.{List}
use mathlib.Core.Option.{Option, none, some}
use Prim.Native.Nat.{ℕ, suc, ◌+◌, ◌-◌, ◌*◌, ◌≤◌, ◌<◌}
use native.Mathlib.Nat.{sub-zero}
use native.Mathlib.Numerals.{add-one}
use native.Mathlib.Omega.{arith}
use borrow.Author.Tests.{lt-ltb, le-ltb, le-leb, lt-leb, ltb-true, ltb-false}
use lib.Dec.{ltb}
use lib.ListN.{length, get_or, set, drop, replicate, length-drop}
use lib.Seq.{get_or-drop, get_or-take}
use Rattle.std.specs.Prelude.{Ok, Err}
use Rattle.rule.specs.declared.Refusal.{Refusal}
use Rattle.rule.specs.declared.Refusal.TheVariants.{CutShort, ListLength}
use Rattle.rule.specs.Refusals.{first_of}
use Rattle.rule.specs.Orders.{length_offered}
use Rattle.gatelist.specs.Coding.{list_from, padded}
use Rattle.octets.specs.declared.ReadError.{ReadError}
use Rattle.octets.specs.Octets.{entry_at, interval_at, entry_order, surplus_order, refused_at, refusal_from, read_refusal, read_list, Reads}
use Rattle.octets.specs.Parts.{entry_answer, entry_read}
use Rattle.gatelist.proofs.Coding.{length_from, from_more, padded-more, encoded_from}

-- the stated length

pub offered : (n : ℕ) → 1 ≤ n → n ≤ 128 → length_offered n ≡ true
unfolding length_offered
offered n h k = simp (le-leb 1 n h, le-leb n 128 k)

pub unoffered : (n : ℕ) → (n < 1) ⊎ ((1 ≤ n) × (128 < n)) → length_offered n ≡ false
unfolding length_offered
unoffered n (inl h) = simp (lt-leb 1 n h)
unoffered n (inr h) = simp (le-leb 1 n h.0, lt-leb n 128 h.1)

-- one entry, of which e are the octets from its place on

module _ (s : List ℕ) (at : ℕ) (e : List ℕ) (q : e ≡ drop at s) where
  short : (n : ℕ) → 0 < n → ltb (length s) (at + n) ≡ ltb (length e) n
  short n p = go (ltb (length e) n) refl
    where
      l : length e ≡ length s - at
      l = ap length q ∙ length-drop at s

      go : (b : Bool) → ltb (length e) n ≡ b → ltb (length s) (at + n) ≡ b
      go true t = let h = ltb-true _ _ t in lt-ltb _ _ (omega (arith, l))
      go false t = let h = ltb-false _ _ t in le-ltb _ _ (omega (arith, l))

  octet : (j k : ℕ) → j ≡ at + k → get_or s j 0 ≡ get_or e k 0
  octet j k p = ap (λ i. get_or s i 0) p ∙ sym (get_or-drop at s k 0) ∙ ap (λ l. get_or l k 0) (sym q)

  pub read_from : entry_read s at ≡ entry_answer (first_of (entry_order e 0)) at (get_or e 2 0) (interval_at e 3)
  unfolding entry_read
  read_from =
      simp (
        short 2 (omega arith),
        short 7 (omega arith),
        octet at 0 (omega arith),
        octet (at + 1) 1 refl,
        octet (at + 2) 2 refl,
        octet (at + 3) 3 refl,
        octet (at + 3 + 1) 4 (omega arith),
        octet (at + 3 + 2) 5 (omega arith),
        octet (at + 3 + 3) 6 (omega arith),
      )

pub ruleset of_entry = (read_from, get_or-take, get_or-drop)

-- octets that end within an entry's header
pub short_header : (s : List ℕ) (at : ℕ) → length s < at + 2 → Err (record { refusal = CutShort; place = at }) ≡ entry_read s at
unfolding entry_read
short_header s at a = simp (lt-ltb _ _ a)

-- what an entry's reading says of its order

module _ (s : List ℕ) (at : ℕ) where
  record Read (o v : ℕ) : Type 0 where
    passed : first_of (entry_order s at) ≡ none
    octet : o ≡ get_or s (at + 2) 0
    interval : v ≡ interval_at s (at + 3)

  read_good : (o v : ℕ) → Ok (o, v) ≡ entry_read s at → Read o v
  unfolding entry_read
  read_good o v e = go (first_of (entry_order s at)) refl e
    where
      go : (x : Option Refusal) → first_of (entry_order s at) ≡ x → Ok (o, v) ≡ entry_answer x at (get_or s (at + 2) 0) (interval_at s (at + 3)) → Read o v
      go none p q =
          let z : ◌≡◌ {A = ℕ × ℕ} (o, v) (get_or s (at + 2) 0, interval_at s (at + 3)) = cc in
          record { passed = p; octet = ap (λ (y : ℕ × ℕ). y.0) z; interval = ap (λ (y : ℕ × ℕ). y.1) z }
      go (some r) p q = cc

  read_bad : (x : ReadError) → Err x ≡ entry_read s at → (first_of (entry_order s at) ≡ some x.refusal) × (x.place ≡ at)
  unfolding entry_read
  read_bad x e = go (first_of (entry_order s at)) refl e
    where
      go : (y : Option Refusal) → first_of (entry_order s at) ≡ y → Err x ≡ entry_answer y at (get_or s (at + 2) 0) (interval_at s (at + 3))
          → (first_of (entry_order s at) ≡ some x.refusal) × (x.place ≡ at)
      go none p q = cc
      go (some r) p q = (cc, cc)

-- the entries one after the other

module _ (s : List ℕ) where
  refusal_suc : (i m k : ℕ) → m ≡ suc k → refusal_from s i m ≡ refused_at (7 * i) (first_of (entry_order s (7 * i))) (refusal_from s (suc i) k)
  unfolding refusal_from
  refusal_suc i m k e = rw e

  refusal_zero : (n i m : ℕ) → i ≡ n → m ≡ 0 → refusal_from s i m ≡ refused_at (7 * n) (first_of (surplus_order s (7 * n))) none
  unfolding refusal_from
  refusal_zero n i m p e = rw (e, p)

-- one place of an array more
filled_more : (f : ℕ → ℕ) (xs : List ℕ) (i v : ℕ) → i < 128 → v ≡ f i → xs ≡ padded (list_from f 0 i) → set xs i v ≡ padded (list_from f 0 (i + 1))
filled_more f xs i v h e q =
    ap₂ (λ l w. set l i w) q e ∙ padded-more (list_from f 0 i) i (f i) (length_from f 0 i) h ∙ ap padded (sym (from_more f i))

module _ (s : List ℕ) (n : ℕ) where
  pub refusal_start : 1 ≤ n → n ≤ 128 → read_refusal s n ≡ refusal_from s 0 (n - 0)
  unfolding read_refusal
  refusal_start h k = rw (offered n h k, sub-zero)

  -- i entries are read into the first places of the arrays, the other places are zero, and what is left of the order is asked from entry i on
  pub record Midway (os is : List ℕ) (i : ℕ) : Type 0 where
    pub rest : read_refusal s n ≡ refusal_from s i (n - i)
    pub octets : os ≡ padded (list_from (λ k. (entry_at s k).octet) 0 i)
    pub intervals : is ≡ padded (list_from (λ k. (entry_at s k).interval) 0 i)

  declined : (r : Refusal) (p : ℕ) → read_refusal s n ≡ some (r, p) → Reads s n (Err (record { refusal = r; place = p }))
  unfolding read_list
  declined r p e = rw e

  pub read_unoffered : (n < 1) ⊎ ((1 ≤ n) × (128 < n)) → Reads s n (Err (record { refusal = ListLength; place = 0 }))
  unfolding read_refusal
  read_unoffered h = declined ListLength 0 (rw (unoffered n h))

  pub read_start : 1 ≤ n → n ≤ 128 → Midway (replicate 128 0) (replicate 128 0) 0
  unfolding padded list_from
  read_start h k = record { rest = refusal_start h k; octets = refl; intervals = refl }

  module _ (os is : List ℕ) (i : ℕ) (m : Midway os is i) where
    module _ (h : i < n) where
      next : refusal_from s i (n - i) ≡ refused_at (7 * i) (first_of (entry_order s (7 * i))) (refusal_from s (i + 1) (n - (i + 1)))
      next = refusal_suc s i (n - i) (n - (i + 1)) (omega arith)
          ∙ ap (λ j. refused_at (7 * i) (first_of (entry_order s (7 * i))) (refusal_from s j (n - (i + 1)))) (sym (add-one i))

      pub read_stopped : (x : ReadError) → Err x ≡ entry_read s (7 * i) → Reads s n (Err x)
      read_stopped x e =
          let z = read_bad s (7 * i) x e in
          declined x.refusal x.place (m.rest ∙ next ∙ rw (z.0, z.1))

      pub read_more : n ≤ 128 → (o v : ℕ) → Ok (o, v) ≡ entry_read s (7 * i) → Midway (set os i o) (set is i v) (i + 1)
      read_more f o v e =
          let z = read_good s (7 * i) o v e in
          let k : i < 128 = omega arith in
          record {
            rest = m.rest ∙ next ∙ rw z.passed;
            octets = filled_more _ os i o k z.octet m.octets;
            intervals = filled_more _ is i v k z.interval m.intervals;
          }

    module _ (q : i ≡ n) where
      last : refusal_from s i (n - i) ≡ refused_at (7 * n) (first_of (surplus_order s (7 * n))) none
      last = refusal_zero s n i (n - i) q (omega arith)

      pub read_surplus : 7 * n < length s → Reads s n (Err (record { refusal = ListLength; place = 7 * n }))
      read_surplus h = declined ListLength (7 * n) (m.rest ∙ last ∙ rw (lt-ltb (7 * n) (length s) h))

      pub read_done : length s ≤ 7 * n → Reads s n (Ok (record { octets = os; intervals = is; len = n }))
      unfolding read_list
      read_done h =
          let e : read_refusal s n ≡ none = m.rest ∙ last ∙ rw (le-ltb (7 * n) (length s) h) in
          rw (e, encoded_from (entry_at s) n, m.octets, m.intervals, q)
