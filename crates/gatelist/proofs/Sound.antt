-- When a list record is well formed. In order: tests below a number; a zero interval among the entries; a present list and an absent one, each from the
-- check and back.
-- Assumes nothing.
use mathlib.Core.Path.{◌≡◌, refl, ap, sym, ◌∙◌}
use mathlib.Core.Bool.{Bool, true, false, cond, not, ◌&&◌, ◌||◌, true≢false}
use mathlib.Core.Logic.{◌⊎◌, inl, inr}
use mathlib.Core.List.{List, [], ◌∷◌, map}
use Prim.Native.Nat.{ℕ, zero, suc, ◌+◌, ◌-◌, ◌≤◌, ◌<◌, min}
use native.Mathlib.Nat.{add-zero, add-suc, suc-add, zero-add, eq-or-lt_of_le, lt_of_not-le}
use native.Mathlib.Omega.{arith}
use lib.Dec.{leb, ltb, eqb}
use lib.ListN.{length, get_or, take, get_or-eq_default, length-map}
use borrow.Author.Tests.{lt-ltb, le-ltb, ltb-true, ltb-false, le-leb, leb-true, eq-eqb, ne_eqb, eqb-true, eqb-false, not-false}
use Rattle.std.specs.List.{list_any, list_all}
use lib.ListN.{drop, length-drop}
use lib.Seq.{take_all}
use Rattle.rule.specs.Entries.{Entry}
use Rattle.rule.proofs.Orders.{both}
use Rattle.rule.specs.Orders.{length_offered, has_zero_interval}
use Rattle.gatelist.specs.declared.GateList.{GateList}
use Rattle.gatelist.specs.Coding.{list_from, entry_of, entries_from, list_of, padded, encode_list, empty_list}
use Rattle.gatelist.specs.Places.{cleaned_list, Places, used_ok, rest_ok}
use Rattle.gatelist.specs.Sound.{every_below, place_ok, places_ok, list_ok, list_none, list_formed}
use Rattle.gatelist.specs.Promises.{FindsZero}
use Rattle.gatelist.proofs.Coding.{take_few, drop_few, list_decoded, padded-out, cleaned_encoded, cleaned_same}

-- tests

neither : (a b : Bool) → cond a true b ≡ false → (a ≡ false) × (b ≡ false)
neither true b e = absurd (true≢false e)
neither false b e = (refl, e)

-- two tests that are false together are one
same_false : (a b : Bool) → (a ≡ false → b ≡ false) → (b ≡ false → a ≡ false) → a ≡ b
same_false true true f g = refl
same_false true false f g = g refl
same_false false true f g = sym (f refl)
same_false false false f g = refl

module _ (p : ℕ → Bool) where
  every_at : (n k : ℕ) → every_below p n ≡ true → k < n → p k ≡ true
  unfolding every_below
  every_at zero k e h = absurd (omega arith)
  every_at (suc n) k e h = let z = both (every_below p n) (p n) e in go z.1 (λ l. every_at n k z.0 l) (eq-or-lt_of_le h)
    where
      go : p n ≡ true → (k < n → p k ≡ true) → (suc k ≡ suc n) ⊎ (suc k < suc n) → p k ≡ true
      go z ih (inl q) = let q' : k ≡ n = omega arith in ap p q' ∙ z
      go z ih (inr l) = ih (omega arith)

  every_all : (n : ℕ) → ((k : ℕ) → k < n → p k ≡ true) → every_below p n ≡ true
  unfolding every_below
  every_all zero f = refl
  every_all (suc n) f = rw (every_all n (λ k h. f k (omega arith)), f n (omega arith))

-- three tests at each place are three rounds of tests
pub every_three : (p q r : ℕ → Bool) (n : ℕ) → every_below (λ k. p k && (q k && r k)) n ≡ every_below p n && (every_below q n && every_below r n)
unfolding every_below
every_three p q r zero = refl
every_three p q r (suc n) = ap (λ b. b && (p n && (q n && r n))) (every_three p q r n) ∙ shuffle (every_below p n) (every_below q n) (every_below r n) (p n) (q n) (r n)
  where
    shuffle : (a b c x y z : Bool) → (a && (b && c)) && (x && (y && z)) ≡ (a && x) && ((b && y) && (c && z))
    shuffle false b c x y z = refl
    shuffle true false c false y z = refl
    shuffle true false c true y z = refl
    shuffle true true false false y z = refl
    shuffle true true false true false z = refl
    shuffle true true false true true z = refl
    shuffle true true true x y z = refl

pub every_same : (p q : ℕ → Bool) (n : ℕ) → ((k : ℕ) → p k ≡ q k) → every_below p n ≡ every_below q n
unfolding every_below
every_same p q zero f = refl
every_same p q (suc n) f = rw (every_same p q n f, f n)

-- a place by its three tests
pub places_three : (os is : List ℕ) (n m : ℕ) → every_below (used_ok is n) m && (every_below (rest_ok is n) m && every_below (rest_ok os n) m) ≡ every_below (place_ok os is n) m
unfolding used_ok rest_ok place_ok
places_three os is n m =
    sym (every_three (used_ok is n) (rest_ok is n) (rest_ok os n) m)
    ∙ every_same (λ k. used_ok is n k && (rest_ok is n k && rest_ok os n k)) (place_ok os is n) m place
  where
    three : (a z o : Bool) → not (a && z) && ((a || z) && (a || o)) ≡ cond a (not z) (z && o)
    three true true o = refl
    three true false o = refl
    three false z o = refl

    place : (k : ℕ) → used_ok is n k && (rest_ok is n k && rest_ok os n k) ≡ place_ok os is n k
    place k = three (ltb k n) (eqb (get_or is k 0) 0) (eqb (get_or os k 0) 0)

-- tests from the first on
every_front : (p : ℕ → Bool) (n : ℕ) → every_below p (suc n) ≡ p 0 && every_below (λ k. p (suc k)) n
unfolding every_below
every_front p zero = go (p 0)
  where
    go : (b : Bool) → true && b ≡ b && true
    go true = refl
    go false = refl
every_front p (suc n) = ap (λ b. b && p (suc n)) (every_front p n) ∙ go (p 0) (every_below (λ k. p (suc k)) n) (p (suc n))
  where
    go : (a b c : Bool) → (a && b) && c ≡ a && (b && c)
    go true b c = refl
    go false b c = refl

ltb_suc : (k n : ℕ) → ltb (suc k) (suc n) ≡ ltb k n
ltb_suc k n = go (ltb k n) refl
  where
    go : (b : Bool) → ltb k n ≡ b → ltb (suc k) (suc n) ≡ b
    go true e = lt-ltb (suc k) (suc n) (omega (arith, ltb-true k n e))
    go false e = le-ltb (suc k) (suc n) (omega (arith, ltb-false k n e))

-- the used places and the unused ones, as the loops over them tell
used_listed : (is : List ℕ) (n : ℕ) → not (list_any (λ x. eqb x 0) (take n is)) ≡ every_below (used_ok is n) (length is)
unfolding used_ok every_below
used_listed is zero = sym (every_all (used_ok is 0) (length is) (λ k _. rw (le-ltb k 0 (omega arith))))
used_listed [] (suc n) = refl
used_listed (x ∷ is) (suc n) =
    either (eqb x 0) (list_any (λ y. eqb y 0) (take n is))
    ∙ ap (λ b. not (eqb x 0) && b) (used_listed is n ∙ every_same (used_ok is n) (λ k. used_ok (x ∷ is) (suc n) (suc k)) (length is) (λ k. rw (ltb_suc k n)))
    ∙ sym (every_front (used_ok (x ∷ is) (suc n)) (length is) ∙ rw (lt-ltb 0 (suc n) (omega arith)))
  where
    either : (a b : Bool) → not (a || b) ≡ not a && not b
    either true b = refl
    either false b = refl

rest_listed : (xs : List ℕ) (n : ℕ) → list_all (λ x. eqb x 0) (drop n xs) ≡ every_below (rest_ok xs n) (length xs)
unfolding rest_ok every_below
rest_listed [] zero = refl
rest_listed [] (suc n) = refl
rest_listed (x ∷ xs) zero =
    ap (λ b. eqb x 0 && b) (rest_listed xs zero ∙ every_same (rest_ok xs 0) (λ k. rest_ok (x ∷ xs) 0 (suc k)) (length xs) (λ k. rw (le-ltb k 0 (omega arith), le-ltb (suc k) 0 (omega arith))))
    ∙ sym (every_front (rest_ok (x ∷ xs) 0) (length xs))
rest_listed (x ∷ xs) (suc n) =
    rest_listed xs n ∙ every_same (rest_ok xs n) (λ k. rest_ok (x ∷ xs) (suc n) (suc k)) (length xs) (λ k. rw (ltb_suc k n))
    ∙ sym (every_front (rest_ok (x ∷ xs) (suc n)) (length xs) ∙ rw (lt-ltb 0 (suc n) (omega arith)))

module _ (xs : List ℕ) (n m : ℕ) (s : length xs ≡ 128) (e : m ≡ min n 128) (r : Bool) where
  pub used_told : r ≡ list_any (λ x. eqb x 0) (take m xs) → not r ≡ every_below (used_ok xs n) 128
  used_told q = ap not (q ∙ ap (list_any (λ x. eqb x 0)) (take_few xs n m s e)) ∙ used_listed xs n ∙ ap (every_below (used_ok xs n)) s

  pub rest_told : r ≡ list_all (λ x. eqb x 0) (take (128 - m) (drop m xs)) → r ≡ every_below (rest_ok xs n) 128
  rest_told q =
      q ∙ ap (list_all (λ x. eqb x 0)) (take_all (128 - m) (drop m xs) (omega (arith, length-drop m xs)) ∙ drop_few xs n m s e) ∙ rest_listed xs n ∙ ap (every_below (rest_ok xs n)) s

-- the two checks, as they are made
module _ (l : GateList) (good : Bool) (e : good ≡ every_below (place_ok l.octets l.intervals l.len) 128) where
  pub ok_test : (leb 1 l.len && leb l.len 128) && good ≡ list_formed true l
  unfolding list_formed list_ok length_offered places_ok
  ok_test = ap (λ b. (leb 1 l.len && leb l.len 128) && b) e

  pub none_test : eqb l.len 0 && good ≡ list_formed false l
  unfolding list_formed list_none places_ok
  none_test = ap (λ b. eqb l.len 0 && b) e

-- a zero interval among the entries

module _ (f : ℕ → Entry) where
  pub zero_free : (i n : ℕ) → has_zero_interval (list_from f i n) ≡ false → (k : ℕ) → k < n → (f (i + k)).interval ≡ 0 → ⊥
  unfolding has_zero_interval list_from
  zero_free i zero e k h z = absurd (omega arith)
  zero_free i (suc n) e zero h z =
      eqb-false (f i).interval 0 (neither (eqb (f i).interval 0) _ e).0 (ap (λ j. (f j).interval) (sym (add-zero i)) ∙ z)
  zero_free i (suc n) e (suc k) h z =
      zero_free (suc i) n (neither (eqb (f i).interval 0) _ e).1 k (omega arith) (ap (λ j. (f j).interval) (suc-add i k ∙ sym (add-suc i k)) ∙ z)

  pub free_zero : (i n : ℕ) → ((k : ℕ) → k < n → (f (i + k)).interval ≡ 0 → ⊥) → has_zero_interval (list_from f i n) ≡ false
  unfolding has_zero_interval list_from
  free_zero i zero u = refl
  free_zero i (suc n) u =
      rw (ne_eqb (f i).interval 0 (λ z. u 0 (omega arith) (ap (λ j. (f j).interval) (add-zero i) ∙ z)))
      (free_zero (suc i) n (λ k h z. u (suc k) (omega arith) (ap (λ j. (f j).interval) (add-suc i k ∙ sym (suc-add i k)) ∙ z)))

-- the 128 places say it of any length: a place beyond them reads as 0
pub zero-found : (is : List ℕ) (n : ℕ) → length is ≡ 128 → (good : Bool) → good ≡ every_below (used_ok is n) 128 → FindsZero is n (not (leb n 128 && good))
unfolding used_ok
zero-found is n p good e = same_false _ _ there back
  where
    there : not (leb n 128 && good) ≡ false → has_zero_interval (entries_from [] is 0 n) ≡ false
    there q =
        let z = both (leb n 128) good (not-false _ q) in
        let few : n ≤ 128 = leb-true n 128 z.0 in
        free_zero (entry_of [] is) 0 n
        (λ k h y. let t = every_at (used_ok is n) 128 k (sym e ∙ z.1) (omega arith) in
        true≢false (sym t ∙ simp (lt-ltb k n h, eq-eqb (get_or is k 0) 0 (ap (λ j. get_or is j 0) (sym (zero-add k)) ∙ y))))

    used : (k : ℕ) (b : Bool) → ltb k n ≡ b → (k < n → get_or is (0 + k) 0 ≡ 0 → ⊥) → not (b && eqb (get_or is k 0) 0) ≡ true
    used k true q u = rw (ne_eqb (get_or is k 0) 0 (λ z. u (ltb-true k n q) (ap (λ j. get_or is j 0) (zero-add k) ∙ z)))
    used k false q u = refl

    back : has_zero_interval (entries_from [] is 0 n) ≡ false → not (leb n 128 && good) ≡ false
    back q =
        let u = zero_free (entry_of [] is) 0 n q in
        let few : n < 129 = lt_of_not-le (λ m. u 128 (omega arith) (get_or-eq_default is 0 (omega (arith, p)))) in
        let g : good ≡ true = e ∙ every_all (used_ok is n) 128 (λ k h. used k (ltb k n) refl (u k)) in
        simp (le-leb n 128 (omega arith), g)

-- the octets have no part in it
zero-octets : (os ps is : List ℕ) (i n : ℕ) → has_zero_interval (entries_from os is i n) ≡ has_zero_interval (entries_from ps is i n)
unfolding has_zero_interval list_from
zero-octets os ps is i zero = refl
zero-octets os ps is i (suc n) = ap (λ b. cond (eqb (get_or is i 0) 0) true b) (zero-octets os ps is (suc i) n)

-- what is found of the intervals holds of every list that has them
pub zero_listed : (os is : List ℕ) (n : ℕ) (r : Bool) → FindsZero is n r → r ≡ has_zero_interval (entries_from os is 0 n)
zero_listed os is n r e = e ∙ zero-octets [] os is 0 n

-- a present list, and an absent one

pub record Used (l : GateList) : Type 0 where
  pub some : 1 ≤ l.len
  pub few : l.len ≤ 128
  pub used : (k : ℕ) → k < l.len → get_or l.intervals k 0 ≡ 0 → ⊥
  pub unused : (k : ℕ) → l.len ≤ k → k < 128 → (get_or l.intervals k 0 ≡ 0) × (get_or l.octets k 0 ≡ 0)

module _ (os is : List ℕ) (n k : ℕ) where
  place-used : place_ok os is n k ≡ true → k < n → get_or is k 0 ≡ 0 → ⊥
  unfolding place_ok
  place-used e h z = true≢false (sym e ∙ simp (lt-ltb k n h, eq-eqb (get_or is k 0) 0 z))

  place_unused : place_ok os is n k ≡ true → n ≤ k → (get_or is k 0 ≡ 0) × (get_or os k 0 ≡ 0)
  unfolding place_ok
  place_unused e h =
      let z = both (eqb (get_or is k 0) 0) (eqb (get_or os k 0) 0) (rw (le-ltb k n h) at e) in
      (eqb-true (get_or is k 0) 0 z.0, eqb-true (get_or os k 0) 0 z.1)

  place_good : (k < n → get_or is k 0 ≡ 0 → ⊥) → (n ≤ k → (get_or is k 0 ≡ 0) × (get_or os k 0 ≡ 0)) → place_ok os is n k ≡ true
  unfolding place_ok
  place_good u z = go (ltb k n) refl
    where
      go : (b : Bool) → ltb k n ≡ b → cond b (not (eqb (get_or is k 0) 0)) (eqb (get_or is k 0) 0 && eqb (get_or os k 0) 0) ≡ true
      go true e = rw (ne_eqb (get_or is k 0) 0 (u (ltb-true k n e)))
      go false e = let y = z (ltb-false k n e) in rw (eq-eqb (get_or is k 0) 0 y.0, eq-eqb (get_or os k 0) 0 y.1)

none_cleaned : (l : GateList) → l.len ≡ 0 → cleaned_list l ≡ empty_list
unfolding cleaned_list empty_list padded
none_cleaned l n = λ j. record {
  octets = padded (take (n j) l.octets);
  intervals = padded (take (n j) l.intervals);
  len = n j;
}

module _ (l : GateList) where
  pub list-used : list_ok l ≡ true → Used l
  unfolding list_ok length_offered places_ok
  list-used e =
      let a = both (length_offered l.len) (places_ok l) e in
      let b = both (leb 1 l.len) (leb l.len 128) a.0 in
      let few : l.len ≤ 128 = leb-true l.len 128 b.1 in
      let at = every_at (place_ok l.octets l.intervals l.len) 128 in
      record {
        some = leb-true 1 l.len b.0;
        few = few;
        used = λ k h. place-used l.octets l.intervals l.len k (at k a.1 (omega arith)) h;
        unused = λ k h m. place_unused l.octets l.intervals l.len k (at k a.1 m) h;
      }

  pub used-list : Used l → list_ok l ≡ true
  unfolding list_ok length_offered places_ok
  used-list u =
      let g = every_all (place_ok l.octets l.intervals l.len) 128 (λ k m. place_good l.octets l.intervals l.len k (u.used k) (λ h. u.unused k h m)) in
      simp (le-leb 1 l.len u.some, le-leb l.len 128 u.few, g)

  -- none of the entries has the interval 0
  pub list_free : list_ok l ≡ true → has_zero_interval (list_of l) ≡ false
  list_free e =
      free_zero (entry_of l.octets l.intervals) 0 l.len
      (λ k h z. (list-used e).used k h (ap (λ j. get_or l.intervals j 0) (sym (zero-add k)) ∙ z))

  -- the record is that of its list
  pub list_encoded : list_ok l ≡ true → Places l → l ≡ encode_list (list_of l)
  list_encoded e p =
      let u = list-used e in
      sym (cleaned_same l p u.few u.unused) ∙ cleaned_encoded l p u.few

  pub list-empty : list_none l ≡ true → Places l → l ≡ empty_list
  unfolding list_none places_ok empty_list
  list-empty e p =
      let a = both (eqb l.len 0) (places_ok l) e in
      let n : l.len ≡ 0 = eqb-true l.len 0 a.0 in
      let at = every_at (place_ok l.octets l.intervals l.len) 128 in
      sym (cleaned_same l p (omega arith) (λ k h m. place_unused l.octets l.intervals l.len k (at k a.1 m) h)) ∙ none_cleaned l n

-- a list of 1 to 128 entries, none with the interval 0, has a well-formed record
pub encoded_ok : (l : List Entry) → 1 ≤ length l → length l ≤ 128 → has_zero_interval l ≡ false → list_ok (encode_list l) ≡ true
unfolding encode_list
encoded_ok l a b z =
    let g : GateList = encode_list l in
    let u = zero_free (entry_of g.octets g.intervals) 0 (length l) (ap has_zero_interval (list_decoded l) ∙ z) in
    used-list g (record {
      some = a;
      few = b;
      used = λ k h y. u k h (ap (λ j. get_or g.intervals j 0) (zero-add k) ∙ y);
      unused = λ k h m. (beyond (λ e. e.interval) k h, beyond (λ e. e.octet) k h);
    })
  where
    beyond : (g : Entry → ℕ) (k : ℕ) → length l ≤ k → get_or (padded (map g l)) k 0 ≡ 0
    beyond g k h = padded-out (map g l) k (omega (arith, length-map l g))

pub empty_none : list_none empty_list ≡ true
unfolding list_none places_ok place_ok empty_list every_below
empty_none = refl
