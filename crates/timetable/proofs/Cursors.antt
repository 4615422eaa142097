-- A cursor: one law for each way out of the functions on it, and what they mean where the numbers fit (`enters`, `placed`, `advances`).
-- Assumes nothing.
use Rattle.std.proofs.Common.{◌≡◌, ℕ, ◌+◌, ◌-◌, ◌<◌, ◌≤◌, min, Bool, true, false, cond, leb, List, [], get_or, refl, ap, subst, mod-eq_of_lt, arith, le-leb, leb-false, leb-true}
use borrow.Author.Tests.{lt-leb}
use Rattle.gatelist.specs.declared.Place.{Place}
use Rattle.gatelist.specs.Lookup.{sum_to, place_at}
use Rattle.gatelist.proofs.Lookup.{Holds, number-holds}
use Rattle.timetable.specs.declared.cursor.Cursor.{Cursor}
use Rattle.timetable.specs.Cursor.{wrapped, stop_at, entered, advanced, cursor_at, Enters, Placed, Onward, Advances}

-- the ways out

module _ (vs : List ℕ) (n place from next : ℕ) where
  abbrev at : ℕ → Cursor
  at stop = record { place = place; from = from; stop = stop; next = next }

  module _ (inner : ℕ) (i : inner ≡ min (n - 1) 128) where
    pub enters_last : inner ≤ place → at next ≡ entered vs n place from next
    unfolding stop_at
    enters_last a = simp (← i, le-leb inner place a)

    pub enters_rest : place < inner → (interval stop : ℕ) → interval ≡ get_or vs place 0 → stop ≡ min (from + interval) next → at stop ≡ entered vs n place from next
    unfolding stop_at
    enters_rest a interval stop e q = simp (← i, lt-leb inner place a, ← e) (ap at (go (leb (next - from) interval) refl))
      where
        go : (b : Bool) → leb (next - from) interval ≡ b → stop ≡ cond b next (from + interval)
        go true z = omega (arith, leb-true (next - from) interval z)
        go false z = omega (arith, leb-false (next - from) interval z)

module _ (vs : List ℕ) (n period : ℕ) (c r : Cursor) where
  pub advances_wrap : c.next ≤ c.stop → (after : ℕ) → after ≡ wrapped c.next period → r ≡ entered vs n 0 c.next after → r ≡ advanced vs n period c
  unfolding advanced
  advances_wrap a after e k = simp (le-leb c.next c.stop a, ← e) k

  pub advances_on : c.stop < c.next → (later : ℕ) → later ≡ wrapped c.place 1 → r ≡ entered vs n later c.stop c.next → r ≡ advanced vs n period c
  unfolding advanced
  advances_on a later e k = simp (lt-leb c.next c.stop a, ← e) k

module _ (vs : List ℕ) (n period base from : ℕ) (p : Place) (found : p ≡ place_at vs n (from - base)) (next : ℕ) (ends : next ≡ wrapped base period) where
  abbrev stops : ℕ → Cursor
  stops stop = record { place = p.number; from = from; stop = stop; next = next }

  module _ (inner : ℕ) (i : inner ≡ n - 1) where
    pub cursor_last : inner ≤ p.number → stops next ≡ cursor_at vs n period base from
    unfolding cursor_at
    cursor_last h = rw (← ends, ← found, ← i, le-leb inner p.number h)

    pub cursor_rest : p.number < inner → (stop : ℕ) → stop ≡ min (base + p.end) next → stops stop ≡ cursor_at vs n period base from
    unfolding cursor_at
    cursor_rest h stop q = rw (← ends, ← found, ← i, lt-leb inner p.number h) (ap stops (go (leb (next - base) p.end) refl))
      where
        go : (b : Bool) → leb (next - base) p.end ≡ b → stop ≡ cond b next (base + p.end)
        go true z = omega (arith, leb-true (next - base) p.end z)
        go false z = omega (arith, leb-false (next - base) p.end z)

pub cursor_from : (vs : List ℕ) (n period base from : ℕ) (c : Cursor) → c ≡ cursor_at vs n period base from → c.from ≡ from
unfolding cursor_at
cursor_from vs n period base from c e = ap (λ (r : Cursor). r.from) e

-- what they mean where the numbers fit

pub fits : (a b : ℕ) → a + b < 18446744073709551616 → wrapped a b ≡ a + b
fits a b h = mod-eq_of_lt h

-- the entry at a place of the list, of some length, that begins in its cycle
module _ (vs : List ℕ) (n place from next : ℕ) (one : place < n) (few : n ≤ 128) (inside : from < next) (some : 0 < get_or vs place 0) where
  within : (stop : ℕ) → from < stop → stop ≤ next → (place + 1 < n → stop ≤ from + get_or vs place 0)
      → (stop < next → (place + 1 < n) × (stop ≡ from + get_or vs place 0)) → stop ≡ stop_at vs n place from next
      → Enters vs n place from next (entered vs n place from next)
  within stop a b c d e =
      subst (λ s. Enters vs n place from next (record { place = place; from = from; stop = s; next = next })) e
      (record { is = refl; after = a; upto = b; holds = c; before = d })

  pub enters : Enters vs n place from next (entered vs n place from next)
  enters = go (leb (min (n - 1) 128) place) refl (leb (next - from) (get_or vs place 0)) refl
    where
      go : (l : Bool) → leb (min (n - 1) 128) place ≡ l → (c : Bool) → leb (next - from) (get_or vs place 0) ≡ c
          → Enters vs n place from next (entered vs n place from next)
      go true p c q =
          let e = leb-true (min (n - 1) 128) place p in
          within next inside (omega arith) (λ h. absurd (omega arith)) (λ h. absurd (omega arith))
          (ap (λ (r : Cursor). r.stop) (enters_last vs n place from next (min (n - 1) 128) refl e))
      go false p true q =
          let e = leb-false (min (n - 1) 128) place p in
          let k = leb-true (next - from) (get_or vs place 0) q in
          within next inside (omega arith) (λ h. omega arith) (λ h. absurd (omega arith))
          (ap (λ (r : Cursor). r.stop) (enters_rest vs n place from next (min (n - 1) 128) refl e (get_or vs place 0) next refl (omega arith)))
      go false p false q =
          let e = leb-false (min (n - 1) 128) place p in
          let k = leb-false (next - from) (get_or vs place 0) q in
          let m : place + 1 < n = omega arith in
          within (from + get_or vs place 0) (omega arith) (omega arith) (λ h. omega arith) (λ h. (m, refl))
          (ap (λ (r : Cursor). r.stop) (enters_rest vs n place from next (min (n - 1) 128) refl e (get_or vs place 0) (from + get_or vs place 0) refl (omega arith)))

-- the entry after a cursor's
pub advances : (vs : List ℕ) (n period : ℕ) (c : Cursor) → Onward vs n period c → Advances vs n period c (advanced vs n period c)
unfolding advanced
advances vs n period c k = record {
  wraps = λ h.
      let z = fits c.next period (k.fits h) in
      rw (le-leb c.next c.stop h, z)
      (enters vs n 0 c.next (c.next + period) (omega (arith, k.some)) k.few (omega (arith, k.time)) (k.used 0 (omega (arith, k.some))));
  goes = λ h.
      let m = k.more h in
      let z = fits c.place 1 (omega (arith, k.few)) in
      rw (lt-leb c.next c.stop h, z)
      (enters vs n (c.place + 1) c.stop c.next m k.few h (k.used (c.place + 1) m));
}

-- the cursor at an instant of a cycle
module _ (vs : List ℕ) (n period base from : ℕ) (some : 1 ≤ n) (begun : base ≤ from) (ahead : from < base + period)
    (fit : base + period < 18446744073709551616) where
  abbrev found : Place
  found = place_at vs n (from - base)

  holds-found : Holds vs n (from - base) found.number
  unfolding place_at
  holds-found = number-holds [] vs n (from - base) some

  end-found : found.end ≡ sum_to vs found.number + get_or vs found.number 0
  unfolding place_at
  end-found = refl

  -- the entry is the last, or the cycle ends before it does; it ends in the cycle
  placed_cut : (found.number + 1 < n → base + period ≤ base + found.end)
      → Placed vs n base (base + period) (record { place = found.number; from = from; stop = base + period; next = base + period })
  placed_cut k = let h = holds-found in record {
    ends = refl;
    one = h.one;
    inside = omega (arith, h.from);
    after = ahead;
    upto = omega arith;
    holds = λ z. omega (arith, end-found, k z);
    before = λ z. absurd (omega arith);
  }

  placed_end : found.number + 1 < n → base + found.end < base + period
      → Placed vs n base (base + period) (record { place = found.number; from = from; stop = base + found.end; next = base + period })
  placed_end k u = let h = holds-found in record {
    ends = refl;
    one = h.one;
    inside = omega (arith, h.from);
    after = omega (arith, h.upto k, end-found);
    upto = omega arith;
    holds = λ _. omega (arith, end-found);
    before = λ _. (k, omega (arith, end-found));
  }

  pub cursor_placed : Placed vs n base (base + period) (cursor_at vs n period base from)
  unfolding cursor_at
  cursor_placed = rw (fits base period fit) (go (leb (n - 1) found.number) refl (leb (base + period - base) found.end) refl)
    where
      go : (l : Bool) → leb (n - 1) found.number ≡ l → (c : Bool) → leb (base + period - base) found.end ≡ c
          → Placed vs n base (base + period) (record { place = found.number; from = from; stop = cond l (base + period) (cond c (base + period) (base + found.end)); next = base + period })
      go true p c q = placed_cut (λ h. absurd (omega (arith, leb-true (n - 1) found.number p)))
      go false p true q = placed_cut (λ h. omega (arith, leb-true (base + period - base) found.end q))
      go false p false q = placed_end (omega (arith, leb-false (n - 1) found.number p)) (omega (arith, leb-false (base + period - base) found.end q))
