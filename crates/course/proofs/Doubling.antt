-- Rounds written twice as many at a time: what is written from the places so many rounds before, so much later, is written from the places one round
-- before. In order: a function applied so many times; a buffer whose places repeat; as many rounds again (`again_doubled`); instants and octets; what a loop
-- that doubles the rounds keeps (`Doubles`).
-- Assumes nothing.
use Rattle.std.proofs.Common.{◌≡◌, ℕ, zero, suc, ◌+◌, ◌-◌, ◌*◌, ◌%◌, ◌<◌, ◌≤◌, min, Bool, true, false, ltb, List, length, get_or, sym, refl, ap, ◌∙◌, mod-eq_of_lt, suc-mul, zero-mul, arith, ltb-false, ltb-true}
use native.Mathlib.Nat.{mod-add-mod, add-mod-mod}
use Rattle.course.specs.Period.{CanRepeat, WrittenAgain, later, same}

-- h, so many times
pub repeated : (ℕ → ℕ) → ℕ → ℕ → ℕ
repeated h zero x = x
repeated h (suc p) x = h (repeated h p x)

repeated_first : (h : ℕ → ℕ) (p x : ℕ) → repeated h p (h x) ≡ h (repeated h p x)
unfolding repeated
repeated_first h zero x = refl
repeated_first h (suc p) x = ap h (repeated_first h p x)

module _ (h : ℕ → ℕ) (count n done : ℕ) (old mid : List ℕ) (w : WrittenAgain h count n done old mid) where
  -- rounds later
  rounds_later : (q k : ℕ) → n ≤ k + count → k + q * count < done → get_or mid (k + q * count) 0 ≡ repeated h q (get_or mid k 0)
  unfolding repeated
  rounds_later zero k a b = let e : k + zero * count ≡ k = omega (arith, zero-mul count) in ap (λ i. get_or mid i 0) e
  rounds_later (suc q) k a b =
      let z = suc-mul q count in
      let e : k + suc q * count - count ≡ k + q * count = omega arith in
      w.repeats (k + suc q * count) (omega arith) b ∙ ap (λ i. h (get_or mid i 0)) e ∙ ap h (rounds_later q k a (omega arith))

  -- as many rounds again, p + 1 of them, or less
  module _ (held : count ≤ n) (p size upto : ℕ) (sized : size ≡ count + p * count) (front : done + count ≡ n + size) (from : done ≤ upto) (short : upto ≤ done + size)
      (H : ℕ → ℕ) (is : (x : ℕ) → H x ≡ repeated h (suc p) x) (new : List ℕ) (v : WrittenAgain H size done upto mid new) where
    -- a place of the new rounds is that of the old ones so many rounds before
    copied : (i : ℕ) → done ≤ i → i < upto → get_or new i 0 ≡ repeated h (suc p) (get_or mid (i - size) 0)
    copied i a b = v.repeats i a b ∙ ap H (v.before (i - size) (omega arith)) ∙ is (get_or mid (i - size) 0)

    again : (i : ℕ) → n ≤ i → i < upto → (b : Bool) → ltb i done ≡ b → (c : Bool) → ltb (i - count) done ≡ c → get_or new i 0 ≡ h (get_or new (i - count) 0)
    unfolding repeated
    again i a b true e c f =
        let l = ltb-true i done e in
        v.before i l ∙ w.repeats i a l ∙ ap h (sym (v.before (i - count) (omega arith)))
    again i a b false e true f =
        let l = ltb-false i done e in
        let m = ltb-true (i - count) done f in
        let k : i - count ≡ i - size + p * count = omega arith in
        copied i l b
        ∙ ap h (sym (v.before (i - count) m ∙ ap (λ j. get_or mid j 0) k ∙ rounds_later p (i - size) (omega arith) (omega arith)))
    again i a b false e false f =
        let l = ltb-false i done e in
        let m = ltb-false (i - count) done f in
        let k : i - size - count ≡ i - count - size = omega arith in
        copied i l b ∙ ap (repeated h (suc p)) (w.repeats (i - size) (omega arith) (omega arith) ∙ ap (λ j. h (get_or mid j 0)) k)
        ∙ repeated_first h (suc p) (get_or mid (i - count - size) 0) ∙ ap h (sym (copied (i - count) m (omega arith)))

    pub again_doubled : WrittenAgain h count n upto old new
    again_doubled = record {
      long = v.long ∙ w.long;
      before = λ i a. v.before i (omega arith) ∙ w.before i a;
      repeats = λ i a b. again i a b (ltb i done) refl (ltb (i - count) done) refl;
      behind = λ i a. v.behind i a ∙ w.behind i (omega arith);
    }

-- instants: p + 1 periods later
pub later_repeated : (period p x : ℕ) → later ((period + p * period) % 18446744073709551616) x ≡ repeated (later period) (suc p) x
unfolding repeated
later_repeated period p x = add-mod-mod x _ _ ∙ go p
  where
    go : (p : ℕ) → (x + (period + p * period)) % 18446744073709551616 ≡ repeated (later period) (suc p) x
    go zero = let e : x + (period + zero * period) ≡ x + period = omega (arith, zero-mul period) in ap (λ k. k % 18446744073709551616) e
    go (suc q) =
        let e : x + (period + suc q * period) ≡ x + (period + q * period) + period = omega (arith, suc-mul q period) in
        ap (λ k. k % 18446744073709551616) e ∙ sym (mod-add-mod (x + (period + q * period)) _ period) ∙ ap (later period) (go q)

-- octets: as they are
pub same_repeated : (p x : ℕ) → same x ≡ repeated same p x
unfolding repeated
same_repeated zero x = refl
same_repeated (suc p) x = same_repeated p x

-- from n to before done all is written, and the next size places are to be those of so many rounds before, with the time that these take
pub record Doubles (count period n end : ℕ) (at₀ os₀ : List ℕ) (size time done : ℕ) (at os : List ℕ) : Type 0 where
  pub from : n ≤ done
  pub upto : done ≤ end
  pub more : ℕ
  pub timed : time ≡ (period + more * period) % 18446744073709551616
  pub sized : done < end → size ≡ count + more * count
  pub front : done < end → done + count ≡ n + size
  pub instants : WrittenAgain (later period) count n done at₀ at
  pub octets : WrittenAgain same count n done os₀ os

module _ (count period n end : ℕ) (at₀ os₀ : List ℕ) where
  module _ (can : CanRepeat count n end (length at₀) (length os₀)) (size time done : ℕ) (at os : List ℕ) (k : Doubles count period n end at₀ os₀ size time done at os)
      (on : done < end) (left : ℕ) (u : left ≡ min size (end - done)) where
    abbrev upto : ℕ
    upto = done + left

    some : 1 ≤ count
    some = let a = k.from in can.some (omega arith)

    held : count ≤ n
    held = let a = k.from in can.held (omega arith)

    -- the next block copies what is there, inside the buffer
    pub block_held : (size ≤ done) × ((upto ≤ done + size) × (upto ≤ length os))
    block_held = let a = k.from in let b = held in let d = k.front on in let f = can.fits (omega arith) in let e = k.octets.long in (omega arith, (omega arith, omega arith))

    -- and so twice as much is there
    pub doubles_more : end < 18446744073709551616 → (at' os' : List ℕ) → WrittenAgain (later time) size done upto at at' → WrittenAgain same size done upto os os'
        → (size' time' : ℕ) → size' ≡ (size + size) % 18446744073709551616 → time' ≡ (time + time) % 18446744073709551616
        → Doubles count period n end at₀ os₀ size' time' upto at' os'
    doubles_more small at' os' v w size' time' s t =
        let p : ℕ = k.more in
        let a = k.from in
        let b = held in
        let c = k.sized on in
        let d = k.front on in
        let x : ℕ = period + p * period in
        let h : upto < end → size' ≡ size + size = λ z. s ∙ mod-eq_of_lt (omega arith) in
        record {
          from = omega arith;
          upto = omega arith;
          more = p + p + 1;
          timed =
              let e : x + x ≡ period + (p + p + 1) * period = omega arith in
              t ∙ ap (λ i. (i + i) % 18446744073709551616) k.timed ∙ mod-add-mod x _ _ ∙ add-mod-mod x _ _ ∙ ap (λ i. i % 18446744073709551616) e;
          sized = λ z. let e = h z in omega arith;
          front = λ z. let e = h z in omega arith;
          instants = again_doubled (later period) count n done at₀ at k.instants b p size upto c d (omega arith) (omega arith)
              (later time) (λ y. ap (λ i. later i y) k.timed ∙ later_repeated period p y) at' v;
          octets = again_doubled same count n done os₀ os k.octets b p size upto c d (omega arith) (omega arith) same (same_repeated (suc p)) os' w;
        }
