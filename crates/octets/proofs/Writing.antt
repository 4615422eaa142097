-- Laws of writing. In order: the octets of entries one after the other; the buffer as a loop leaves it; the answer, a law for each way out.
-- That an accepted reading is written back is in `RoundTrip`.
-- Assumes nothing.
use mathlib.Core.Path.{◌≡◌, refl, ap, ap₂, sym, ◌∙◌}
use mathlib.Core.Bool.{Bool, true, false}
use mathlib.Core.Logic.{◌⊎◌, inl}
use mathlib.Core.List.{List, [], ◌∷◌, ◌++◌, append_assoc, append-nil}
use mathlib.Core.Option.{none, some}
use Prim.Native.Nat.{ℕ, ◌+◌, ◌-◌, ◌*◌, ◌≤◌, ◌<◌}
use native.Mathlib.Nat.{le_refl}
use native.Mathlib.Omega.{arith}
use borrow.Author.Tests.{lt-ltb, le-ltb}
use lib.ListN.{length, take, drop, length-drop, drop_of_length-le}
use lib.Seq.{take_at, drop_at, drop-drop, take_all}
use Rattle.std.specs.Prelude.{Ok, Err}
use Rattle.rule.specs.declared.Refusal.{Refusal}
use Rattle.rule.specs.declared.Refusal.TheVariants.{ZeroInterval, ListLength, BufferShort}
use Rattle.rule.specs.Refusals.{first_of}
use Rattle.rule.specs.Orders.{length_offered, has_zero_interval}
use Rattle.rule.specs.Entries.{Entry}
use Rattle.gatelist.specs.declared.GateList.{GateList}
use Rattle.gatelist.specs.Coding.{entry_of, entries_from, list_of}
use Rattle.gatelist.specs.Promises.{FindsZero}
use Rattle.octets.specs.Octets.{entry_octets, octets_of, write_order, writing, write_list, writing_of, Writes}
use Rattle.octets.specs.Parts.{entry_into}
use Rattle.gatelist.proofs.Coding.{length_from, from_more}
use Rattle.gatelist.proofs.Sound.{zero_listed}
use Rattle.octets.proofs.Reading.{offered, unoffered}

-- the octets of entries one after the other

pub octets-append : (l r : List Entry) → octets_of (l ++ r) ≡ octets_of l ++ octets_of r
unfolding octets_of
octets-append [] r = refl
octets-append (e ∷ l) r = ap (λ t. entry_octets e ++ t) (octets-append l r) ∙ sym (append_assoc (entry_octets e) (octets_of l) (octets_of r))

pub length-octets : (l : List Entry) → length (octets_of l) ≡ 7 * length l
unfolding octets_of
length-octets [] = refl
length-octets (e ∷ l) = omega (arith, length-octets l)

-- the buffer as a loop leaves it: the octets of the first i entries, then what was there
module _ (os is out : List ℕ) (i : ℕ) where
  before : List ℕ
  before = octets_of (entries_from os is 0 i)

  length_before : length before ≡ 7 * i
  unfolding before
  length_before = length-octets (entries_from os is 0 i) ∙ ap (λ n. 7 * n) (length_from (entry_of os is) 0 i)

  more : octets_of (entries_from os is 0 (i + 1)) ≡ before ++ entry_octets (entry_of os is i)
  unfolding before octets_of
  more = ap octets_of (from_more (entry_of os is) i) ∙ octets-append (entries_from os is 0 i) (entry_of os is i ∷ [])

  regroup : (a e x : List ℕ) → a ++ ((e ++ x) ++ []) ≡ (a ++ e) ++ x
  regroup a e x = simp (append-nil, append_assoc)

  pub buffer-more : (buf ys : List ℕ) → 7 * i ≤ length buf → buf ≡ octets_of (entries_from os is 0 i) ++ drop (7 * i) out
      → ys ≡ entry_into (entry_of os is i) (take (length buf - 7 * i) (drop (7 * i) buf))
      → take (7 * i) buf ++ (ys ++ drop (length buf - 7 * i) (drop (7 * i) buf)) ≡ octets_of (entries_from os is 0 (i + 1)) ++ drop (7 * (i + 1)) out
  unfolding before
  buffer-more buf ys h e q =
      let m : ℕ = length buf - 7 * i in
      let D : List ℕ = drop (7 * i) buf in
      let E : List ℕ = entry_octets (entry_of os is i) in
      let l : length D ≤ m = rw (length-drop (7 * i) buf) (le_refl m) in
      let t : take (7 * i) buf ≡ before = rw e (take_at before (drop (7 * i) out) (7 * i) length_before) in
      let d : D ≡ drop (7 * i) out = rw e (drop_at before (drop (7 * i) out) (7 * i) length_before) in
      let k : 7 * i + 7 ≡ 7 * (i + 1) = omega arith in
      let y : ys ≡ E ++ drop (7 * (i + 1)) out =
      q ∙ ap (λ (z : List ℕ). E ++ drop 7 z) (take_all m D l ∙ d)
      ∙ ap (λ (z : List ℕ). E ++ z) (drop-drop 7 (7 * i) out ∙ ap (λ (j : ℕ). drop j out) k) in
      ap₂ (λ (a b : List ℕ). a ++ (ys ++ b)) t (drop_of_length-le D l)
      ∙ ap (λ (z : List ℕ). before ++ (z ++ [])) y
      ∙ regroup before E (drop (7 * (i + 1)) out)
      ∙ ap (λ (z : List ℕ). z ++ drop (7 * (i + 1)) out) (sym more)

-- the answer

pub order_passed : (l : GateList) (room : ℕ) → length_offered l.len ≡ true → has_zero_interval (list_of l) ≡ false → 7 * l.len ≤ room
    → first_of (write_order l room) ≡ none
order_passed l room e z h = rw (e, z, le-ltb room (7 * l.len) h)

module _ (l : GateList) (b : List ℕ) where
  -- a refusal leaves the buffer as it was
  unwritten : (r : Refusal) → first_of (write_order l (length b)) ≡ some r → Writes l b (Err r) b
  unfolding write_list
  unwritten r e = sym (ap (λ x. writing x l b) e)

  pub write_unoffered : (l.len < 1) ⊎ ((1 ≤ l.len) × (128 < l.len)) → Writes l b (Err ListLength) b
  write_unoffered h = unwritten ListLength (rw (unoffered l.len h))

  pub write_none : l.len < 1 → Writes l b (Err ListLength) b
  write_none h = write_unoffered (inl h)

  -- what is found of the list's intervals
  module _ (is : List ℕ) (n : ℕ) (p : is ≡ l.intervals) (q : n ≡ l.len) (h : 1 ≤ l.len) (k : l.len ≤ 128) where
    known : (zero : Bool) → FindsZero is n zero → has_zero_interval (list_of l) ≡ zero
    known zero e = sym (zero_listed l.octets l.intervals l.len zero (rw (p, q) at e))

    pub write-zero : FindsZero is n true → Writes l b (Err ZeroInterval) b
    write-zero e = unwritten ZeroInterval (rw (offered l.len h k, known true e))

    module _ (e : FindsZero is n false) where
      pub write-short : length b < 7 * l.len → Writes l b (Err BufferShort) b
      write-short j = unwritten BufferShort (rw (offered l.len h k, known false e, lt-ltb (length b) (7 * l.len) j))

      pub write_done : (i : ℕ) (buf : List ℕ) → i ≡ l.len → 7 * l.len ≤ length b → buf ≡ octets_of (entries_from l.octets l.intervals 0 i) ++ drop (7 * i) b
          → Writes l b (Ok (7 * l.len)) buf
      unfolding write_list
      write_done i buf t j f =
          ap (writing_of (Ok (7 * l.len))) (f ∙ ap (λ m. octets_of (entries_from l.octets l.intervals 0 m) ++ drop (7 * m) b) t)
          ∙ sym (ap (λ x. writing x l b) (order_passed l (length b) (offered l.len h k) (known false e) j))
