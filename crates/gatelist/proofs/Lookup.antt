-- The entry at an offset, by the sum of the intervals before it. In order: sums; the entry's number, inside a stretch and past all; what a loop over the
-- places has found; the stretch and the octet of the entry found; the octet at an offset, of any length of list.
-- Assumes nothing.
use mathlib.Core.Path.{◌≡◌, refl, ap, sym, subst, ◌∙◌}
use mathlib.Core.Bool.{Bool, true, false}
use mathlib.Core.List.{List, [], ◌∷◌, ◌++◌}
use Prim.Native.Nat.{ℕ, zero, suc, ◌+◌, ◌-◌, ◌≤◌, ◌<◌}
use native.Mathlib.Nat.{add-zero, add-suc, zero-add}
use native.Mathlib.Numerals.{add-one}
use native.Mathlib.Omega.{arith}
use lib.Dec.{ltb}
use borrow.Author.Tests.{ltb-true, ltb-false}
use lib.ListN.{length, get_or, get_or-eq_default}
use Rattle.rule.specs.Entries.{Entry, entry_no, octet_at}
use Rattle.rule.proofs.Entries.{total, entry_no_in, entry_no-last}
use Rattle.gatelist.specs.declared.Place.{Place}
use Rattle.gatelist.specs.Coding.{list_from, entry_of, entries_from}
use Rattle.gatelist.specs.Lookup.{sum_to, place_at}
use Rattle.gatelist.specs.Promises.{FindsPlace, FindsOctet}
use Rattle.gatelist.proofs.Coding.{length_from, from-add, from_more, get_d_from, map-from}

-- sums

pub sum_more : (is : List ℕ) (i : ℕ) → sum_to is (i + 1) ≡ sum_to is i + get_or is i 0
unfolding sum_to
sum_more is i = rw add-one

-- places that the array does not have add nothing
sum_past : (is : List ℕ) (i k : ℕ) → length is ≤ i → sum_to is (i + k) ≡ sum_to is i
unfolding sum_to
sum_past is i zero h = rw add-zero
sum_past is i (suc k) h = rw (add-suc, get_or-eq_default is 0 {n = i + k} (omega arith), add-zero) (sum_past is i k h)

total-append : (l r : List Entry) → total (l ++ r) ≡ total l + total r
unfolding total
total-append [] r = omega arith
total-append (x ∷ l) r = omega (arith, total-append l r)

module _ (os is : List ℕ) where
  total-from : (i : ℕ) → total (entries_from os is 0 i) ≡ sum_to is i
  unfolding total list_from sum_to
  total-from zero = refl
  total-from (suc i) =
      ap (λ n. total (entries_from os is 0 n)) (sym (add-one i)) ∙ ap total (from_more (entry_of os is) i)
      ∙ total-append (entries_from os is 0 i) (entry_of os is i ∷ []) ∙ omega (arith, total-from i)

  -- the entry's number

  -- the offset lies in entry i's stretch
  pub number_in : (n i o : ℕ) → i < n → sum_to is i ≤ o → o < sum_to is i + get_or is i 0 → entry_no (entries_from os is 0 n) o ≡ i
  unfolding list_from
  number_in n i o h a b =
      let e : n ≡ i + suc (n - suc i) = omega arith in
      ap (λ k. entry_no (entries_from os is 0 k) o) e
      ∙ ap (λ l. entry_no l o) (from-add (entry_of os is) 0 i (suc (n - suc i)))
      ∙ rw zero-add
      (entry_no_in (entries_from os is 0 i) (entry_of os is i) (entries_from os is (suc i) (n - suc i)) o
      (omega (arith, total-from i)) (omega (arith, total-from i))
      ∙ length_from (entry_of os is) 0 i)

  -- the last entry holds from its start on
  pub number-last : (i o : ℕ) → sum_to is i ≤ o → entry_no (entries_from os is 0 (i + 1)) o ≡ i
  number-last i o a =
      ap (λ l. entry_no l o) (from_more (entry_of os is) i)
      ∙ entry_no-last (entries_from os is 0 i) (entry_of os is i) o (omega (arith, total-from i))
      ∙ length_from (entry_of os is) 0 i

-- what a loop over the places has found: the number, and the sum before it

abbrev pub Found : List ℕ → ℕ → ℕ → ℕ → ℕ → Type 0
Found is n o number start = (number ≡ entry_no (entries_from [] is 0 n) o) × (start ≡ sum_to is number)

module _ (is : List ℕ) (n i o start number : ℕ) (sum : start ≡ sum_to is i) (from : start ≤ o) where
  pub found_in : number ≡ i → i + 1 < n → o < start + get_or is i 0 → Found is n o number start
  found_in e h b = (e ∙ sym (number_in [] is n i o (omega arith) (omega arith) (omega arith)), sum ∙ ap (sum_to is) (sym e))

  pub found-last : number ≡ i → n ≤ i + 1 → i ≤ n - 1 → Found is n o number start
  unfolding entry_no list_from
  found-last e h k = (e ∙ sym (go n refl), sum ∙ ap (sum_to is) (sym e))
    where
      go : (m : ℕ) → n ≡ m → entry_no (entries_from [] is 0 n) o ≡ i
      go zero q = rw q (omega arith)
      go (suc m) q = let r : n ≡ i + 1 = omega arith in ap (λ j. entry_no (entries_from [] is 0 j) o) r ∙ number-last [] is i o (omega arith)

  -- places that the array does not have have the interval 0, so the last entry holds
  pub found_past : number ≡ n - 1 → length is ≤ i → i + 1 < n → Found is n o number start
  found_past e h k =
      let m : number ≡ i + (number - i) = omega arith in
      let s : start ≡ sum_to is number = sum ∙ sym (ap (sum_to is) m ∙ sum_past is i (number - i) h) in
      let q : n ≡ number + 1 = omega arith in
      (sym (ap (λ j. entry_no (entries_from [] is 0 j) o) q ∙ number-last [] is number o (omega arith)), s)

pub found-place : (is : List ℕ) (n o number start v : ℕ) → Found is n o number start → v ≡ get_or is number 0
    → FindsPlace is n o (record { number = number; start = start; end = start + v })
unfolding place_at
found-place is n o number start v f e =
    let s : start ≡ sum_to is (entry_no (entries_from [] is 0 n) o) = f.1 ∙ ap (sum_to is) f.0 in
    let w : v ≡ get_or is (entry_no (entries_from [] is 0 n) o) 0 = e ∙ ap (λ j. get_or is j 0) f.0 in
    λ j. record { number = f.0 j; start = s j; end = s j + w j }

-- the stretch and the octet of the entry found

-- entry i is the one at the offset: it is one of the list, begins no later than the offset and, unless it is the last, ends after it
pub record Holds (is : List ℕ) (n o i : ℕ) : Type 0 where
  pub one : i < n
  pub from : sum_to is i ≤ o
  pub upto : i + 1 < n → o < sum_to is i + get_or is i 0

holder : (is : List ℕ) (n o k i : ℕ) → i + k + 1 ≡ n → sum_to is i ≤ o → (j : ℕ) × Holds is n o j
holder is n o zero i e h = (i, record { one = omega arith; from = h; upto = λ l. absurd (omega arith) })
holder is n o (suc k) i e h =
    go (ltb o (sum_to is i + get_or is i 0)) refl (λ l. holder is n o k (i + 1) (omega arith) (omega (arith, sum_more is i)))
  where
    go : (b : Bool) → ltb o (sum_to is i + get_or is i 0) ≡ b → (sum_to is i + get_or is i 0 ≤ o → (j : ℕ) × Holds is n o j) → (j : ℕ) × Holds is n o j
    go true q next = (i, record { one = omega arith; from = h; upto = λ l. ltb-true o (sum_to is i + get_or is i 0) q })
    go false q next = next (ltb-false o (sum_to is i + get_or is i 0) q)

module _ (os is : List ℕ) where
  -- the entry that holds is the one that the rule numbers
  pub holds-number : (n o i : ℕ) → Holds is n o i → entry_no (entries_from os is 0 n) o ≡ i
  holds-number n o i h = go (ltb (i + 1) n) refl
    where
      go : (b : Bool) → ltb (i + 1) n ≡ b → entry_no (entries_from os is 0 n) o ≡ i
      go true q = number_in os is n i o h.one h.from (h.upto (ltb-true (i + 1) n q))
      go false q =
          let a = h.one in
          let e : n ≡ i + 1 = omega (arith, ltb-false (i + 1) n q) in
          ap (λ j. entry_no (entries_from os is 0 j) o) e ∙ number-last os is i o h.from

  pub number-holds : (n o : ℕ) → 1 ≤ n → Holds is n o (entry_no (entries_from os is 0 n) o)
  unfolding sum_to
  number-holds n o h =
      let f = holder is n o (n - 1) 0 (omega arith) (omega arith) in
      subst (λ j. Holds is n o j) (sym (holds-number n o f.0 f.1)) f.1

  -- the octet of the entry found
  pub number-octet : (n o : ℕ) → 1 ≤ n → octet_at (entries_from os is 0 n) o ≡ get_or os (entry_no (entries_from os is 0 n) o) 0
  unfolding octet_at
  number-octet n o h =
      let i : ℕ = entry_no (entries_from os is 0 n) o in
      ap (λ l. get_or l i 0) (map-from (λ (e : Entry). e.octet) (entry_of os is) 0 n)
      ∙ get_d_from (λ k. get_or os k 0) 0 n i 0 (number-holds n o h).one ∙ ap (λ k. get_or os k 0) (zero-add i)

-- the octet at an offset, a law for each way to it
module _ (os is : List ℕ) (n o : ℕ) where
  pub octet_none : n ≡ 0 → FindsOctet os is n o 0
  unfolding octet_at list_from
  octet_none e = sym (ap (λ m. octet_at (entries_from os is 0 m) o) e)

  module _ (some : 1 ≤ n) (p : Place) (found : FindsPlace is n o p) where
    -- the place found is the entry's, whatever the octets
    place-number : entry_no (entries_from os is 0 n) o ≡ p.number
    unfolding place_at
    place-number = holds-number os is n o _ (number-holds [] is n o some) ∙ sym (ap (λ (q : Place). q.number) found)

    pub octet-found : FindsOctet os is n o (get_or os p.number 0)
    octet-found = sym (number-octet os is n o some ∙ ap (λ i. get_or os i 0) place-number)
