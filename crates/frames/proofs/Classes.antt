-- The choice of a frame by its parts. In order: what is asked for; the highest class and its frame; gates that stay open; the classes that qualify.
-- Assumes nothing.
use Rattle.std.proofs.Common.{◌≡◌, refl, ap, ap₂, sym, ◌∙◌, Bool, true, false, cond, ◌&&◌, ◌||◌, true≢false, List, ℕ, zero, suc, ◌+◌, ◌-◌, ◌/◌, ◌^◌, ◌≤◌, ◌<◌, max, le-div_iff_mul-le, div-lt_iff_lt-mul, pow-suc, arith, bit_and, bit_or, eqb, leb, length, get_or, set, pow_pos, pow_mono, get_or-set_same, get_or-set_other, leb-true, leb-false, eqb-true}
use native.Mathlib.Nat.{div-eq_of_lt}
use lib.Count.{count_leading_zeros, leading_top}
use Rattle.std.proofs.lemmas.Bool.{eqb-false}
use Rattle.std.proofs.Math.Option.{none, some}
use Rattle.rule.specs.Limits.{largest_instant, longest_span}
use Rattle.rule.specs.Gates.{is_open}
use Rattle.rule.specs.Choice.{duration, next_start, stays_open, qualifies, highest, frame_for, chosen}
use Rattle.rule.proofs.Sound.{next-short}
use Rattle.rule.proofs.Choice.{open_still, open_each, highest-same, speed_range}
use Rattle.frames.specs.declared.ahead.Gates.{Gates}
use Rattle.frames.specs.declared.Frame as declared
use Rattle.frames.specs.Ahead.{Known, Tells}
use Rattle.frames.specs.Frame.{encode_frame, no_frame}
use Rattle.frames.specs.Choosing.{Sets, headed, Asks, Offered, Near, Begins}
use Rattle.frames.proofs.Octets.{gate-and, gate-or, gate_none, forms_none, forms_more, forms_at}

-- what is asked for

pub asks_none : (heads : List ℕ) (speed t : ℕ) (ends : List ℕ) → Asks heads speed t 0 0 t ends
asks_none heads speed t ends = record {
  formed = forms_none (headed heads);
  each = λ k h. absurd (omega arith);
  from = omega arith;
  upto = λ k h e. absurd (omega arith);
  near = omega arith;
}

-- one class more: the last instant is later if the class has a frame
pub asks_more : (heads : List ℕ) (speed t n wanted last : ℕ) (ends : List ℕ) → Asks heads speed t n wanted last ends → n < length ends → (w end later : ℕ)
    → end ≡ t + duration (get_or heads n 0) speed → end ≤ t + longest_span → Sets n (headed heads n) wanted w → later ≡ cond (headed heads n) (max last end) last
    → Asks heads speed t (n + 1) w later (set ends n end)
asks_more heads speed t n wanted last ends a l w end later e i s m = record {
  formed = forms_more (headed heads) n wanted w (headed heads n) a.formed refl s;
  each = λ k h. each k h (eqb k n) refl;
  from = omega (arith, a.from, some (headed heads n) refl);
  upto = λ k h q. upto k h q (eqb k n) refl;
  near = few (headed heads n) m;
}
  where
    some : (b : Bool) → headed heads n ≡ b → last ≤ later
    some true q = let z : later ≡ max last end = m ∙ ap (λ b. cond b (max last end) last) q in omega arith
    some false q = let z : later ≡ last = m ∙ ap (λ b. cond b (max last end) last) q in omega arith

    few : (b : Bool) → later ≡ cond b (max last end) last → later ≤ t + longest_span
    few true q = omega (arith, a.near)
    few false q = omega (arith, a.near)

    each : (k : ℕ) → k < n + 1 → (b : Bool) → eqb k n ≡ b → get_or (set ends n end) k 0 ≡ t + duration (get_or heads k 0) speed
    each k h true z =
        let c : k ≡ n = eqb-true k n z in
        ap (λ i. get_or (set ends n end) i 0) c ∙ get_or-set_same ends n end 0 l ∙ e ∙ ap (λ i. t + duration (get_or heads i 0) speed) (sym c)
    each k h false z = let c = eqb-false k n z in get_or-set_other ends n k end 0 c ∙ a.each k (omega arith)

    upto : (k : ℕ) → k < n + 1 → headed heads k ≡ true → (b : Bool) → eqb k n ≡ b → get_or (set ends n end) k 0 ≤ later
    upto k h q true z =
        let c : k ≡ n = eqb-true k n z in
        let d : get_or (set ends n end) k 0 ≡ end = ap (λ i. get_or (set ends n end) i 0) c ∙ get_or-set_same ends n end 0 l in
        let u : later ≡ max last end = m ∙ ap (λ i. cond (headed heads i) (max last end) last) (sym c) ∙ ap (λ b. cond b (max last end) last) q in
        omega arith
    upto k h q false z =
        let c = eqb-false k n z in
        let d = get_or-set_other ends n k end 0 c in
        omega (arith, a.upto k (omega arith) q, some (headed heads n) refl)

pub gap_near : (heads : List ℕ) (speed : ℕ) (o : Offered heads speed) (t gap : ℕ) → t ≤ largest_instant → (ends : List ℕ) (wanted last : ℕ) → Asks heads speed t 8 wanted last ends → gap ≡ 96_000 / speed → Near ends gap
unfolding next_start
gap_near heads speed o t gap h ends wanted last a p k l =
    let d = next-short (get_or heads k 0) speed (o.short k) (speed_range speed o.fast).0 in
    omega (arith, a.each k l)

-- the highest class

module _ (q : ℕ → Bool) where
  highest-empty : (n : ℕ) → ((j : ℕ) → j < n → q j ≡ false) → highest q n ≡ none
  unfolding highest
  highest-empty zero f = refl
  highest-empty (suc n) f = rw (f n (omega arith)) (highest-empty n (λ j h. f j (omega arith)))

  highest_of : (k n : ℕ) → k < n → q k ≡ true → ((j : ℕ) → k < j → j < n → q j ≡ false) → highest q n ≡ some k
  unfolding highest
  highest_of k zero h e f = absurd (omega arith)
  highest_of k (suc n) h e f = go (eqb k n) refl (λ l. highest_of k n l e (λ j a b. f j a (omega arith)))
    where
      go : (b : Bool) → eqb k n ≡ b → (k < n → highest q n ≡ some k) → cond (q n) (some n) (highest q n) ≡ some k
      go true z i = let w : n ≡ k = sym (eqb-true k n z) in ap (λ b. cond b (some n) (highest q n)) (ap q w ∙ e) ∙ ap some w
      go false z i =
          let w = eqb-false k n z in
          ap (λ b. cond b (some n) (highest q n)) (f n (omega arith) (omega arith)) ∙ i (omega arith)

-- the leading zeros of an octet tell its highest class
top_bit : (octet j : ℕ) → 2 ^ j ≤ octet → octet < 2 ^ suc j → j < 8 → highest (is_open octet) 8 ≡ some j
unfolding is_open
top_bit octet j a b h =
    let d : octet / 2 ^ j ≡ 1 = one in
    highest_of (is_open octet) j 8 h (rw d) (λ k l m. rw (div-eq_of_lt (above k l)))
  where
    pos : 0 < 2 ^ j
    pos = pow_pos j

    one : octet / 2 ^ j ≡ 1
    one =
        let x : 1 ≤ octet / 2 ^ j = (le-div_iff_mul-le pos).1 (omega arith) in
        let y : octet / 2 ^ j < 2 = (div-lt_iff_lt-mul pos).1 (omega (arith, pow-suc 2 j)) in
        omega arith

    above : (k : ℕ) → j < k → octet < 2 ^ k
    above k l = omega (arith, pow_mono l)

pub top_is : (octet : ℕ) → 0 < octet → octet < 256 → (count_leading_zeros 8 octet < 8) × (highest (is_open octet) 8 ≡ some (7 - count_leading_zeros 8 octet))
top_is octet p h =
    let t = leading_top 8 octet p h in
    let j : ℕ = t.0 in
    let e : j ≡ 7 - count_leading_zeros 8 octet = omega (arith, t.1) in
    (omega (arith, t.1), top_bit octet j t.2 t.3 (omega (arith, t.1)) ∙ ap some e)

-- its frame

pub begins_none : (octet : ℕ) (ends : List ℕ) (gap t : ℕ) → octet ≡ 0 → Begins octet ends gap t no_frame
unfolding frame_for
begins_none octet ends gap t z heads speed f p =
    sym (ap (λ o. encode_frame (frame_for heads speed t o)) (highest-empty (is_open octet) 8 (λ j h. ap (λ n. is_open n j) z ∙ gate_none j)))

pub begins_top : (octet : ℕ) (ends : List ℕ) (gap t k : ℕ) → k < 8 → highest (is_open octet) 8 ≡ some k
    → Begins octet ends gap t (record { present = 1; class = k; counted = 0; start = t; last = get_or ends k 0; end = get_or ends k 0 + gap })
unfolding frame_for next_start
begins_top octet ends gap t k h e heads speed f p =
    let d : ℕ = duration (get_or heads k 0) speed in
    let q : get_or ends k 0 + gap ≡ t + (d + 96_000 / speed) = omega (arith, f k h, p) in
    (λ i. record { present = 1; class = k; counted = 0; start = t; last = f k h i; end = q i })
    ∙ sym (ap (λ o. encode_frame (frame_for heads speed t o)) e)

-- gates that stay open

module _ (g : ℕ → ℕ) (k : ℕ) where
  stays-not : (t n v : ℕ) → t ≤ v → v < t + n → is_open (g v) k ≡ false → stays_open g k t n ≡ false
  stays-not t n v a b e = go (stays_open g k t n) refl
    where
      go : (s : Bool) → stays_open g k t n ≡ s → s ≡ false
      go true z = absurd (true≢false (sym (open_each g k t n z v a b) ∙ e))
      go false z = refl

  -- open from t to before at, and closed then: open to before e, if that is no later
  pub stays_met : (t e at : ℕ) → t ≤ at → ((v : ℕ) → t ≤ v → v < at → is_open (g v) k ≡ true) → is_open (g at) k ≡ false → stays_open g k t (e - t) ≡ leb e at
  stays_met t e at l f s = go (leb e at) refl
    where
      go : (b : Bool) → leb e at ≡ b → stays_open g k t (e - t) ≡ b
      go true z = let w = leb-true e at z in open_still g k t (e - t) (λ v x y. f v x (omega arith))
      go false z = let w = leb-false e at z in stays-not t (e - t) at l (omega arith) s

-- the classes that qualify, by what a walk to the last frame's end knows

module _ (heads : List ℕ) (speed t : ℕ) (h : ℕ → ℕ) (wanted last : ℕ) (ends : List ℕ) (a : Asks heads speed t 8 wanted last ends) (g : Gates)
    (told : Tells h t last wanted ends g) where
  abbrev fits : ℕ
  fits = bit_and (bit_or g.left g.ended) wanted

  fits-is : (k : ℕ) → k < 8 → is_open fits k ≡ qualifies heads speed t h k
  unfolding qualifies Tells
  fits-is k l =
      gate-and (bit_or g.left g.ended) wanted k ∙ ap₂ (λ x y. x && y) (gate-or g.left g.ended k) w
      ∙ go (headed heads k) refl
    where
      w : is_open wanted k ≡ headed heads k
      w = forms_at (headed heads) wanted a.formed k l

      d : ℕ
      d = duration (get_or heads k 0) speed

      whole : headed heads k ≡ true → (x y : Bool) → Known h k t last (get_or ends k 0) y x → x || y ≡ stays_open h k t (get_or ends k 0 - t)
      whole z true y q = sym (open_still h k t (get_or ends k 0 - t) (λ v i j. q.stays v i (omega (arith, a.upto k l z))))
      whole z false y q = q

      go : (b : Bool) → headed heads k ≡ b → (is_open g.left k || is_open g.ended k) && headed heads k ≡ headed heads k && stays_open h k t d
      go true z =
          rw z (last-and (is_open g.left k || is_open g.ended k)
          ∙ whole z (is_open g.left k) (is_open g.ended k) (told k l (w ∙ z))
          ∙ ap (stays_open h k t) (omega (arith, a.each k l)))
        where
          last-and : (x : Bool) → x && true ≡ x
          last-and true = refl
          last-and false = refl
      go false z = rw z (none (is_open g.left k || is_open g.ended k))
        where
          none : (x : Bool) → x && false ≡ false
          none true = refl
          none false = refl

  -- the frame of the highest of them is the one that is chosen
  pub chosen_by : (gap : ℕ) → gap ≡ 96_000 / speed → (r : declared.Frame) → Begins fits ends gap t r → r ≡ encode_frame (chosen heads speed t h)
  unfolding chosen
  chosen_by gap p r b =
      b heads speed a.each p ∙ ap (λ o. encode_frame (frame_for heads speed t o)) (highest-same (is_open fits) (qualifies heads speed t h) 8 fits-is)
