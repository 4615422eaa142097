-- Places of a buffer that are written again, each from one that is count places before it. In order: rounds for which there is room; a block
-- copied; a buffer that holds values which repeat. The changes that repeat are in `Recurring`.
-- Assumes nothing.
use Rattle.std.proofs.Common.{◌≡◌, ℕ, zero, suc, ◌+◌, ◌-◌, ◌*◌, ◌<◌, ◌≤◌, min, Bool, true, false, ltb, List, ◌++◌, length, get_or, drop, sym, refl, ap, ◌∙◌, mul-zero, arith, length-append, get_or-drop, get_or-append-add, ext_get_or, ltb-false, ltb-true}
use lib.ListN.{get_or-append}
use Rattle.std.specs.List.{CopiedTo, SameBelow, SameFrom}
use Rattle.course.specs.Columns.{into}
use Rattle.course.specs.Period.{CanRepeat, WrittenAgain, same}
use Rattle.course.proofs.ChangesWritten.{length-into}

-- how many rounds there can be

-- rounds that take something: each does
times_some : (k c : ℕ) → 0 < k * c → 1 ≤ c
times_some k zero h = omega (arith, mul-zero k)
times_some k (suc c) h = omega arith

module _ (count n a b r : ℕ) (free : r ≡ min a b - n) (k : ℕ) (upto : k * count ≤ r) where
  -- so many periods fit (docs/PORT.md names it; the check finds this where it is asked)
  pub free_fits : n < 18446744073709551616 → a < 18446744073709551616 → n + k * count < 18446744073709551616
  free_fits h l = omega arith

  -- so many can be repeated
  pub free_can_repeat : count ≤ n → CanRepeat count n (n + k * count) a b
  free_can_repeat held = record {
    upto = omega arith;
    some = λ z. times_some k count (omega arith);
    held = λ z. held;
    fits = λ z. omega arith;
  }

-- the places that are written again

-- a block of no more than count places, copied from count places before
pub copied_again : (count n end : ℕ) (old new : List ℕ) → count ≤ n → n ≤ end → end ≤ n + count → length new ≡ length old
    → CopiedTo old new (n - count) n (end - count - (n - count)) × SameBelow old new n × SameFrom old new (n + (end - count - (n - count))) → WrittenAgain same count n end old new
copied_again count n end old new held upto short long k = record {
  long = long;
  before = λ i a. k.1 i 0 a;
  repeats = λ i a b. let e : n - count + (i - n) ≡ i - count = omega arith in k.0 i 0 a (omega arith) ∙ ap (λ q. get_or old q 0) e ∙ sym (k.1 (i - count) 0 (omega arith));
  behind = λ i a. k.2 i 0 (omega arith);
}

-- what stands in a buffer: the values from place 0 on, and behind them what was there
into_front : (vs buf : List ℕ) (i : ℕ) → i < length vs → get_or (into vs buf) i 0 ≡ get_or vs i 0
unfolding into
into_front vs buf i l = get_or-append vs (drop (length vs) buf) 0 i l

into-behind : (vs buf : List ℕ) (i : ℕ) → length vs ≤ i → get_or (into vs buf) i 0 ≡ get_or buf i 0
unfolding into
into-behind vs buf i l =
    let e : i ≡ length vs + (i - length vs) = omega arith in
    ap (λ q. get_or (vs ++ drop (length vs) buf) q 0) e ∙ get_or-append-add vs (drop (length vs) buf) (i - length vs) 0
    ∙ get_or-drop (length vs) buf (i - length vs) 0 ∙ ap (λ q. get_or buf q 0) (sym e)

-- values of which the later ones, from n on, repeat those count places before: the earlier ones are written, and then they are repeated
module _ (h : ℕ → ℕ) (count n end : ℕ) (vs ws buf old new : List ℕ) (r : WrittenAgain h count n end old new) (some : n < end → 1 ≤ count)
    (held : n < end → count ≤ n) (front : length vs ≡ n) (whole : length (vs ++ ws) ≡ end) (fits : end ≤ length buf) (wrote : old ≡ into vs buf)
    (again : (i : ℕ) → n ≤ i → i < end → get_or (vs ++ ws) i 0 ≡ h (get_or (vs ++ ws) (i - count) 0)) where
  upto : n ≤ end
  upto = omega (arith, length-append vs ws)

  -- at a place below m
  again_at : (m i : ℕ) → i < m → i < end → get_or new i 0 ≡ get_or (vs ++ ws) i 0
  again_at zero i l k = absurd (omega arith)
  again_at (suc m) i l k = go (λ q a b. again_at m q a b) (ltb i n) refl
    where
      go : ((q : ℕ) → q < m → q < end → get_or new q 0 ≡ get_or (vs ++ ws) q 0) → (b : Bool) → ltb i n ≡ b → get_or new i 0 ≡ get_or (vs ++ ws) i 0
      go f true z =
          let a = ltb-true i n z in
          r.before i a ∙ ap (λ q. get_or q i 0) wrote ∙ into_front vs buf i (omega arith) ∙ sym (get_or-append vs ws 0 i (omega arith))
      go f false z =
          let a = ltb-false i n z in
          let s = some (omega arith) in
          let b = held (omega arith) in
          r.repeats i a k ∙ ap h (f (i - count) (omega arith) (omega arith)) ∙ sym (again i a k)

  pub again_into : new ≡ into (vs ++ ws) buf
  again_into =
      let u = upto in
      let e : length old ≡ length buf = ap length wrote ∙ length-into vs buf (omega arith) in
      let e' : length (into (vs ++ ws) buf) ≡ length buf = length-into (vs ++ ws) buf (omega arith) in
      ext_get_or 0 new (into (vs ++ ws) buf) (r.long ∙ e ∙ sym e') (λ i _. go i (ltb i end) refl)
    where
      go : (i : ℕ) → (b : Bool) → ltb i end ≡ b → get_or new i 0 ≡ get_or (into (vs ++ ws) buf) i 0
      go i true z =
          let a = ltb-true i end z in
          again_at (suc i) i (omega arith) a ∙ sym (into_front (vs ++ ws) buf i (omega arith))
      go i false z =
          let a = ltb-false i end z in
          let u = upto in
          r.behind i a ∙ ap (λ q. get_or q i 0) wrote ∙ into-behind vs buf i (omega arith) ∙ sym (into-behind (vs ++ ws) buf i (omega arith))
