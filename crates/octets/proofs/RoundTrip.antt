-- An accepted reading, written back, gives exactly the octets that it came from (`read-written`); a list that is written, read again, gives its entries
-- (`written_read`). In order: what an accepted reading says of the octets, and the octets of what it read; what the octets
-- of a list say; the two theorems.
-- Assumes nothing.
use mathlib.Core.Path.{◌≡◌, refl, ap, ap₂, sym, ◌∙◌}
use mathlib.Core.Bool.{Bool, true, false, cond, not}
use mathlib.Core.List.{List, ◌∷◌, ◌++◌}
use mathlib.Core.Option.{Option, none, some}
use Prim.Native.Nat.{ℕ, zero, suc, ◌+◌, ◌-◌, ◌*◌, ◌/◌, ◌%◌, ◌≤◌, ◌<◌}
use native.Mathlib.Nat.{zero-add, add-zero, sub-zero, add-suc, suc-add}
use native.Mathlib.Omega.{arith}
use lib.Dec.{leb, ltb, eqb}
use borrow.Author.Tests.{le-ltb, ltb-false, leb-true, eq-eqb, ne_eqb, eqb-true, eqb-false, not-false}
use lib.ListN.{length, get_or, take, drop, drop_of_length-le}
use lib.Seq.{drop-cons, take_at, get_or-append-add}
use Rattle.rule.specs.declared.Refusal.{Refusal}
use Rattle.rule.specs.declared.Refusal.TheVariants.{CutShort, Operation, LengthOctet, ZeroInterval, ListLength}
use Rattle.rule.specs.Refusals.{first_of}
use Rattle.rule.specs.Orders.{length_offered, has_zero_interval}
use Rattle.rule.specs.Entries.{Entry}
use Rattle.gatelist.specs.declared.GateList.{GateList}
use Rattle.gatelist.specs.Coding.{list_from, entry_of, list_of, encode_list}
use Rattle.gatelist.specs.Places.{cleaned_list, Places}
use Rattle.octets.specs.Octets.{entry_octets, octets_of, interval_at, entry_at, entry_order, refused_at, refusal_from, read_refusal, reading, read_list, write_order, writing, Writing, write_list}
use Rattle.octets.proofs.Words.{octets-word, word-octets}
use Rattle.rule.proofs.Refusals.{number-some}
use Rattle.gatelist.proofs.Coding.{length_from, from-add, list_decoded, encoded_from, cleaned_encoded}
use Rattle.gatelist.proofs.Sound.{zero_free, free_zero}
use Rattle.rule.proofs.Orders.{both}
use Rattle.octets.proofs.Reading.{refusal_start}
use Rattle.octets.proofs.Writing.{octets-append, length-octets, order_passed}

-- what an accepted reading says of the octets

-- a test that was passed
passed : {A : Type 0} (b : Bool) (r : A) (rest : Option A) → cond b (some r) rest ≡ none → (b ≡ false) × (rest ≡ none)
passed true r rest e = let z : ◌≡◌ {A = ℕ} 0 1 = cc in absurd (omega arith)
passed false r rest e = (refl, e)

-- an entry that passes its order
record Whole (s : List ℕ) (at : ℕ) : Type 0 where
  fits : at + 7 ≤ length s
  operation : get_or s at 0 ≡ 0
  five : get_or s (at + 1) 0 ≡ 5
  timed : interval_at s (at + 3) ≡ 0 → ⊥

module _ (s : List ℕ) where
  order-whole : (at : ℕ) → first_of (entry_order s at) ≡ none → Whole s at
  order-whole at e =
      let t₁ = passed (ltb (length s) (at + 2)) CutShort _ e in
      let t₂ = passed (not (eqb (get_or s at 0) 0)) Operation _ t₁.1 in
      let t₃ = passed (not (eqb (get_or s (at + 1) 0) 5)) LengthOctet _ t₂.1 in
      let t₄ = passed (ltb (length s) (at + 7)) CutShort _ t₃.1 in
      let t₅ = passed (eqb (interval_at s (at + 3)) 0) ZeroInterval _ t₄.1 in
      record {
        fits = ltb-false (length s) (at + 7) t₄.0;
        operation = eqb-true (get_or s at 0) 0 (not-false _ t₂.0);
        five = eqb-true (get_or s (at + 1) 0) 5 (not-false _ t₃.0);
        timed = eqb-false (interval_at s (at + 3)) 0 t₅.0;
      }

  whole-order : (at : ℕ) → Whole s at → first_of (entry_order s at) ≡ none
  whole-order at w =
      let h = w.fits in
      rw (
        le-ltb (length s) (at + 2) (omega arith),
        eq-eqb (get_or s at 0) 0 w.operation,
        eq-eqb (get_or s (at + 1) 0) 5 w.five,
        le-ltb (length s) (at + 7) h,
        ne_eqb (interval_at s (at + 3)) 0 w.timed,
      )

  -- n entries from entry i on, and nothing after them
  both_refusals : (at : ℕ) (x : Option Refusal) (y : Option (Refusal × ℕ)) → refused_at at x y ≡ none → (x ≡ none) × (y ≡ none)
  both_refusals at none y e = (refl, e)
  both_refusals at (some r) y e = let z : ◌≡◌ {A = ℕ} 0 1 = cc in absurd (omega arith)

  entries_whole : (n i k : ℕ) → refusal_from s i n ≡ none → k < n → Whole s (7 * (i + k))
  unfolding refusal_from
  entries_whole zero i k e h = absurd (omega arith)
  entries_whole (suc n) i zero e h = rw add-zero (order-whole (7 * i) (both_refusals (7 * i) (first_of (entry_order s (7 * i))) _ e).0)
  entries_whole (suc n) i (suc k) e h =
      rw (add-suc, ← suc-add) (entries_whole n (suc i) k (both_refusals (7 * i) (first_of (entry_order s (7 * i))) _ e).1 (omega arith))

  whole_entries : (n i : ℕ) → ((k : ℕ) → k < n → Whole s (7 * (i + k))) → length s ≤ 7 * (i + n) → refusal_from s i n ≡ none
  unfolding refusal_from
  whole_entries zero i w h = rw (le-ltb (7 * i) (length s) (omega arith))
  whole_entries (suc n) i w h =
      rw (whole-order (7 * i) (rw add-zero at (w 0 (omega arith))))
      (whole_entries n (suc i) (λ k l. rw (add-suc, ← suc-add) at (w (suc k) (omega arith))) (omega arith))

  -- the octets of what was read

  next : (j k : ℕ) → j < length s → suc j ≡ k → drop j s ≡ get_or s j 0 ∷ drop k s
  next j k h e = drop-cons s j 0 h ∙ ap (λ m. get_or s j 0 ∷ drop m s) e

  seven_octets : (at : ℕ) → Whole s at
      → drop at s ≡ 0 ∷ 5 ∷ get_or s (at + 2) 0 ∷ get_or s (at + 3) 0 ∷ get_or s (at + 3 + 1) 0 ∷ get_or s (at + 3 + 2) 0
      ∷ get_or s (at + 3 + 3) 0 ∷ drop (at + 7) s
  seven_octets at w =
      let h = w.fits in
      next at (at + 1) (omega arith) (omega arith)
      ∙ ap₂ (λ x t. x ∷ t) w.operation (next (at + 1) (at + 2) (omega arith) (omega arith)
      ∙ ap₂ (λ x t. x ∷ t) w.five (next (at + 2) (at + 3) (omega arith) (omega arith)
      ∙ ap (λ t. get_or s (at + 2) 0 ∷ t) (next (at + 3) (at + 3 + 1) (omega arith) (omega arith)
      ∙ ap (λ t. get_or s (at + 3) 0 ∷ t) (next (at + 3 + 1) (at + 3 + 2) (omega arith) (omega arith)
      ∙ ap (λ t. get_or s (at + 3 + 1) 0 ∷ t) (next (at + 3 + 2) (at + 3 + 3) (omega arith) (omega arith)
      ∙ ap (λ t. get_or s (at + 3 + 2) 0 ∷ t) (next (at + 3 + 3) (at + 7) (omega arith) (omega arith)))))))

  module _ (small : (k : ℕ) → get_or s k 0 < 256) where
    entry_octets_lem : (i : ℕ) → Whole s (7 * i) → entry_octets (entry_at s i) ++ drop (7 * suc i) s ≡ drop (7 * i) s
    entry_octets_lem i w =
        let at : ℕ = 7 * i in
        let e : 7 * suc i ≡ at + 7 = omega arith in
        ap₂ (λ a b. a ++ b)
        (octets-word (get_or s (at + 2) 0) (get_or s (at + 3) 0) (get_or s (at + 3 + 1) 0) (get_or s (at + 3 + 2) 0) (get_or s (at + 3 + 3) 0) (small (at + 3))
        (small (at + 3 + 1)) (small (at + 3 + 2)) (small (at + 3 + 3)))
        (ap (λ j. drop j s) e)
        ∙ sym (seven_octets at w)

    octets-read : (n i : ℕ) → refusal_from s i n ≡ none → octets_of (list_from (entry_at s) i n) ≡ drop (7 * i) s
    unfolding refusal_from list_from octets_of
    octets-read zero i e = sym (drop_of_length-le s {i = 7 * i} (ltb-false (7 * i) (length s) (surplus (ltb (7 * i) (length s)) e)))
      where
        surplus : (b : Bool) → refused_at (7 * i) (cond b (some ListLength) none) none ≡ none → b ≡ false
        surplus b q = (passed b ListLength none (both_refusals (7 * i) (cond b (some ListLength) none) none q).0).0
    octets-read (suc n) i e =
        let z = both_refusals (7 * i) (first_of (entry_order s (7 * i))) _ e in
        ap (λ t. entry_octets (entry_at s i) ++ t) (octets-read n (suc i) z.1) ∙ entry_octets_lem i (order-whole (7 * i) z.0)

-- what the octets of a list say

module _ (f : ℕ → Entry) (n : ℕ) where
  split : (k : ℕ) → k < n → (rest : List ℕ) × (octets_of (list_from f 0 n) ≡ octets_of (list_from f 0 k) ++ (entry_octets (f k) ++ rest))
  unfolding octets_of list_from
  split k h =
      let e : n ≡ k + suc (n - suc k) = omega arith in (
        octets_of (list_from f (suc k) (n - suc k)),
        ap (λ m. octets_of (list_from f 0 m)) e ∙ ap octets_of (from-add f 0 k (suc (n - suc k)))
            ∙ octets-append (list_from f 0 k) (list_from f (0 + k) (suc (n - suc k)))
            ∙ ap (λ j. octets_of (list_from f 0 k) ++ octets_of (list_from f j (suc (n - suc k)))) (zero-add k),
      )

  length-written : (m : ℕ) → length (octets_of (list_from f 0 m)) ≡ 7 * m
  length-written m = length-octets (list_from f 0 m) ∙ ap (λ j. 7 * j) (length_from f 0 m)

  octet_at_lem : (k j : ℕ) (h : k < n) → get_or (octets_of (list_from f 0 n)) (7 * k + j) 0 ≡ get_or (entry_octets (f k) ++ (split k h).0) j 0
  octet_at_lem k j h =
      ap₂ (λ s m. get_or s (m + j) 0) (split k h).1 (sym (length-written k)) ∙ get_or-append-add (octets_of (list_from f 0 k)) (entry_octets (f k) ++ (split k h).0) j 0

  module _ (timed : has_zero_interval (list_from f 0 n) ≡ false) (small : (k : ℕ) → k < n → (f k).interval < 4_294_967_296) where
    entry-back : (k : ℕ) → k < n → entry_at (octets_of (list_from f 0 n)) k ≡ f k
    entry-back k h =
        let s : List ℕ = octets_of (list_from f 0 n) in
        let v : ℕ = (f k).interval in
        let at : (i j : ℕ) → i ≡ 7 * k + j → get_or s i 0 ≡ get_or (entry_octets (f k) ++ (split k h).0) j 0 = λ i j e. ap (λ m. get_or s m 0) e ∙ octet_at_lem k j h in
        let a : get_or s (7 * k + 3) 0 ≡ v / 16_777_216 % 256 = at (7 * k + 3) 3 refl in
        let b : get_or s (7 * k + 3 + 1) 0 ≡ v / 65_536 % 256 = at (7 * k + 3 + 1) 4 (omega arith) in
        let c : get_or s (7 * k + 3 + 2) 0 ≡ v / 256 % 256 = at (7 * k + 3 + 2) 5 (omega arith) in
        let d : get_or s (7 * k + 3 + 3) 0 ≡ v % 256 = at (7 * k + 3 + 3) 6 (omega arith) in
        let w : interval_at s (7 * k + 3) ≡ v = (λ j. a j * 16_777_216 + b j * 65_536 + c j * 256 + d j) ∙ word-octets v (small k h) in
        let o : get_or s (7 * k + 2) 0 ≡ (f k).octet = at (7 * k + 2) 2 refl in
        λ j. record { octet = o j; interval = w j }

    whole_back : (k : ℕ) → k < n → Whole (octets_of (list_from f 0 n)) (7 * k)
    whole_back k h =
        let s : List ℕ = octets_of (list_from f 0 n) in
        let l = length-written n in
        record {
          fits = omega arith;
          operation = ap (λ m. get_or s m 0) (sym (add-zero (7 * k))) ∙ octet_at_lem k 0 h;
          five = octet_at_lem k 1 h;
          timed = λ z. zero_free f 0 n timed k h (ap (λ m. (f m).interval) (zero-add k) ∙ sym (ap (λ e. e.interval) (entry-back k h)) ∙ z);
        }

    -- the entries of the octets are those of the list
    from-same : (i m : ℕ) → i + m ≤ n → list_from (entry_at (octets_of (list_from f 0 n))) i m ≡ list_from f i m
    unfolding list_from
    from-same i zero h = refl
    from-same i (suc m) h = ap₂ (λ e l. e ∷ l) (entry-back i (omega arith)) (from-same (suc i) m (omega arith))

    read_back : 1 ≤ n → n ≤ 128 → read_list (octets_of (list_from f 0 n)) n ≡ record { number = 0; place = 0; list = encode_list (list_from f 0 n) }
    unfolding read_list
    read_back h k =
        let s : List ℕ = octets_of (list_from f 0 n) in
        let l = length-written n in
        let e : refusal_from s 0 n ≡ none = whole_entries s n 0 (λ j b. rw zero-add (whole_back j b)) (omega arith) in
        ap (λ x. reading x (encode_list (list_from (entry_at s) 0 n))) (refusal_start s n h k ∙ ap (refusal_from s 0) (sub-zero n) ∙ e)
        ∙ ap (λ xs. record { number = 0; place = 0; list = encode_list xs }) (from-same 0 n (omega arith))

-- the two theorems

offered_bounds : (n : ℕ) → length_offered n ≡ true → (1 ≤ n) × (n ≤ 128)
unfolding length_offered
offered_bounds n e = let z = both (leb 1 n) (leb n 128) e in (leb-true 1 n z.0, leb-true n 128 z.1)

-- a reading whose number is 0 passed every test
module _ (s : List ℕ) (n : ℕ) (e : (read_list s n).number ≡ 0) where
  read-accepted : read_refusal s n ≡ none
  unfolding read_list
  read-accepted = go (read_refusal s n) e
    where
      go : (x : Option (Refusal × ℕ)) → (reading x (encode_list (list_from (entry_at s) 0 n))).number ≡ 0 → x ≡ none
      go none q = refl
      go (some r) q = absurd (number-some r.0 q)

  read_list_lem : (read_list s n).list ≡ encode_list (list_from (entry_at s) 0 n)
  unfolding read_list
  read_list_lem = ap (λ x. (reading x (encode_list (list_from (entry_at s) 0 n))).list) read-accepted

  read_passed : (length_offered n ≡ true) × (refusal_from s 0 n ≡ none)
  unfolding read_refusal
  read_passed =
      let z = both_refusals s 0 (cond (not (length_offered n)) (some ListLength) none) (refusal_from s 0 n) read-accepted in
      (not-false (length_offered n) (passed (not (length_offered n)) ListLength none z.0).0, z.1)

-- a writing whose number is 0 passed every test
module _ (l : GateList) (b : List ℕ) (e : (write_list l b).number ≡ 0) where
  write-accepted : first_of (write_order l (length b)) ≡ none
  unfolding write_list
  write-accepted = go (first_of (write_order l (length b))) e
    where
      go : (x : Option Refusal) → (writing x l b).number ≡ 0 → x ≡ none
      go none q = refl
      go (some r) q = absurd (number-some r q)

  write_passed : (length_offered l.len ≡ true) × (has_zero_interval (list_of l) ≡ false)
  write_passed =
      let t₁ = passed (not (length_offered l.len)) ListLength _ write-accepted in
      let t₂ = passed (has_zero_interval (list_of l)) ZeroInterval _ t₁.1 in
      (not-false (length_offered l.len) t₁.0, t₂.0)

write_none_refused : (l : GateList) (b : List ℕ) → first_of (write_order l (length b)) ≡ none → write_list l b ≡ writing none l b
unfolding write_list
write_none_refused l b e = ap (λ x. writing x l b) e

-- a list of 1 to 128 entries, none with the interval 0, is written into any buffer that is long enough
pub write-valid : (l : GateList) (b : List ℕ) → length_offered l.len ≡ true → has_zero_interval (list_of l) ≡ false → 7 * l.len ≤ length b
    → (write_list l b).number ≡ 0
write-valid l b e z h = ap (λ (w : Writing). w.number) (write_none_refused l b (order_passed l (length b) e z h))

write_encoded : (f : ℕ → Entry) (n : ℕ) (b : List ℕ) → length_offered n ≡ true → has_zero_interval (list_from f 0 n) ≡ false → 7 * n ≤ length b
    → write_list (encode_list (list_from f 0 n)) b ≡ record { number = 0; count = 7 * n; buffer = octets_of (list_from f 0 n) ++ drop (7 * n) b }
write_encoded f n b o z h =
    let l : GateList = encode_list (list_from f 0 n) in
    let m : l.len ≡ n = encoded_len f n in
    write_none_refused l b (order_passed l (length b) (ap length_offered m ∙ o) (ap has_zero_interval (list_decoded (list_from f 0 n)) ∙ z) (omega arith))
    ∙ (λ j. record { number = 0; count = 7 * m j; buffer = octets_of (list_decoded (list_from f 0 n) j) ++ drop (7 * m j) b })
  where
    encoded_len : (f : ℕ → Entry) (n : ℕ) → (encode_list (list_from f 0 n)).len ≡ n
    encoded_len f n = ap (λ l. l.len) (encoded_from f n)

-- an accepted reading, written into any buffer that is long enough, gives exactly the octets it came from, and the rest stays
pub read-written : (s : List ℕ) (n : ℕ) (b : List ℕ) → ((k : ℕ) → get_or s k 0 < 256) → (read_list s n).number ≡ 0 → length s ≤ length b
    → write_list (read_list s n).list b ≡ record { number = 0; count = length s; buffer = s ++ drop (length s) b }
read-written s n b small e h =
    let q = read_passed s n e in
    let o : octets_of (list_from (entry_at s) 0 n) ≡ s = octets-read s small n 0 q.1 in
    let z = free_zero (entry_at s) 0 n (λ k l. (entries_whole s n 0 k q.1 l).timed) in
    let m : 7 * n ≡ length s = sym (length-written (entry_at s) n n) ∙ ap length o in
    ap (λ l. write_list l b) (read_list_lem s n e)
    ∙ write_encoded (entry_at s) n b q.0 z (omega arith)
    ∙ (λ j. record { number = 0; count = m j; buffer = o j ++ drop (m j) b })

-- a list that is written into any buffer, read again from there, gives its entries: the record with its unused places zeroed
pub written_read : (l : GateList) (b : List ℕ) → Places l → ((k : ℕ) → get_or l.intervals k 0 < 4_294_967_296) → (write_list l b).number ≡ 0
    → read_list (take (write_list l b).count (write_list l b).buffer) l.len ≡ record { number = 0; place = 0; list = cleaned_list l }
written_read l b p small e =
    let q = write_passed l b e in
    let f : ℕ → Entry = entry_of l.octets l.intervals in
    let n = offered_bounds l.len q.0 in
    ap (λ w. read_list (take w.count w.buffer) l.len) (write_none_refused l b (write-accepted l b e))
    ∙ ap (λ s. read_list s l.len) (take_at (octets_of (list_of l)) (drop (7 * l.len) b) (7 * l.len) (length-written f l.len l.len))
    ∙ read_back f l.len q.1 (λ k _. small k) n.0 n.1
    ∙ ap (λ (g : GateList). record { number = 0; place = 0; list = g }) (sym (cleaned_encoded l p n.1))
