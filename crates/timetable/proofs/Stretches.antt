-- A cursor on its way through a stretch: the first one, and the one after it; and that plain cycles come round.
-- Assumes nothing.
use Rattle.std.proofs.Common.{◌≡◌, ℕ, suc, ◌+◌, ◌-◌, ◌<◌, ◌≤◌, Bool, true, false, ltb, List, sym, refl, ap, ◌∙◌, subst, arith, ltb-false, ltb-true}
use mathlib.Core.Path.{subst⁻¹}
use Rattle.rule.specs.Entries.{octet_at}
use Rattle.rule.specs.Cycle.{Config, Valid, start_no, cycle_no, plain_start, plain_octet}
use Rattle.rule.proofs.Cycles.{plain_le, next_start_lem}
use Rattle.rule.proofs.Regime.{next-is, same_start, next_own}
use Rattle.timetable.specs.declared.cursor.Cursor.{Cursor}
use Rattle.timetable.specs.declared.cursor.Stretch.{Stretch}
use Rattle.timetable.specs.Cursor.{cursor_at, advanced, Enters, Placed, Points, Onward, Advances}
use Rattle.timetable.specs.Stretch.{Walkable, Plays, Runs, Safe}
use Rattle.timetable.proofs.Cursors.{cursor_from, cursor_placed, advances}
use Rattle.timetable.proofs.Pointing.{points_more, points_wrap}

-- the first cursor is safe, and points into the running cycle
pub safe-start : (vs : List ℕ) (s : Stretch) → Walkable vs s → (c : Cursor) → c.from ≡ s.from → Placed vs s.list.len s.base (s.base + s.period) c
    → Safe s.list.len s.period s.edge c
safe-start vs s h c e p =
    let a = p.ends in
    let u = p.upto in
    record {
      one = p.one;
      before = omega (arith, h.before);
      after = p.after;
      upto = omega arith;
      near = omega (arith, h.begun);
      more = λ z. (p.before (omega arith)).0;
    }

pub points_start : (vs : List ℕ) (s : Stretch) (c : Cursor) → c.from ≡ s.from → Placed vs s.list.len s.base (s.base + s.period) c
    → (f : Config) → f.cycle ≡ s.period → Runs f s → Points f vs s.list.len c
points_start vs s c e p f q r = record {
  started = rw e r.started;
  placed = subst⁻¹ (λ b. Placed vs s.list.len b (b + f.cycle) c) (ap (plain_start f) e ∙ r.base)
      (subst⁻¹ (λ d. Placed vs s.list.len s.base (s.base + d) c) q p);
}

pub safe-onward : (vs : List ℕ) (s : Stretch) → Walkable vs s → (c : Cursor) → Safe s.list.len s.period s.edge c → c.stop < s.edge
    → Onward vs s.list.len s.period c
safe-onward vs s h c k b = record {
  some = h.some;
  few = h.few;
  used = h.used;
  time = omega (arith, h.begun, h.ahead);
  fits = λ z. omega (arith, h.near, h.short);
  upto = k.upto;
  near = omega (arith, h.near);
  more = k.more;
}

-- the first cursor of a walk, and the next one, as the code has them
pub stretch_cursor : (vs : List ℕ) (s : Stretch) → Walkable vs s → (c : Cursor) → c ≡ cursor_at vs s.list.len s.period s.base s.from
    → (c.from ≡ s.from) × Placed vs s.list.len s.base (s.base + s.period) c
stretch_cursor vs s h c e = (
  cursor_from vs s.list.len s.period s.base s.from c e,
  subst⁻¹ (Placed vs s.list.len s.base (s.base + s.period)) e
      (cursor_placed vs s.list.len s.period s.base s.from h.some h.begun h.ahead (omega (arith, h.near, h.short, h.begun, h.before))),
)

pub stretch_advances : (vs : List ℕ) (s : Stretch) → Walkable vs s → (c : Cursor) → Safe s.list.len s.period s.edge c → c.stop < s.edge → (r : Cursor)
    → r ≡ advanced vs s.list.len s.period c → Advances vs s.list.len s.period c r
stretch_advances vs s h c k b r e = subst⁻¹ (Advances vs s.list.len s.period c) e (advances vs s.list.len s.period c (safe-onward vs s h c k b))

-- the next entry begins where this one stops
pub advances_from : (vs : List ℕ) (n period : ℕ) (c r : Cursor) → Advances vs n period c r → c.stop ≤ c.next → r.from ≡ c.stop
advances_from vs n period c r a u = go (ltb c.stop c.next) refl
  where
    go : (b : Bool) → ltb c.stop c.next ≡ b → r.from ≡ c.stop
    go true z = ap (λ (q : Cursor). q.from) (a.goes (ltb-true c.stop c.next z)).is
    go false z =
        let l = ltb-false c.stop c.next z in
        ap (λ (q : Cursor). q.from) (a.wraps l).is ∙ omega arith

pub advances_less : (vs : List ℕ) (n period edge : ℕ) (c r : Cursor) → Safe n period edge c → Advances vs n period c r → edge - r.from < edge - c.from
advances_less vs n period edge c r k a =
    let e = advances_from vs n period c r a k.upto in
    omega (arith, k.before, k.after)

-- the cursor after a safe one that stops before the edge is safe, and points on if that one does
module _ (os vs : List ℕ) (n period edge : ℕ) (c r : Cursor) (k : Safe n period edge c) (b : c.stop < edge) (a : Advances vs n period c r) where
  pub from_stop : r.from ≡ c.stop
  from_stop = advances_from vs n period c r a k.upto

  entered-safe : (place next : ℕ) → Enters vs n place c.stop next r → place < n → next ≤ c.stop + period → Safe n period edge r
  entered-safe place next e l m =
      let f = from_stop in
      let i : r.place ≡ place = ap (λ (q : Cursor). q.place) e.is in
      let j : r.next ≡ next = ap (λ (q : Cursor). q.next) e.is in
      record {
        one = omega arith;
        before = omega arith;
        after = omega (arith, e.after);
        upto = omega (arith, e.upto);
        near = omega arith;
        more = λ z. omega (arith, (e.before (omega arith)).0);
      }

  -- in the same cycle, or at the next start
  by_cycle : {P : Type 0} → (c.stop < c.next → P) → (c.stop ≡ c.next → P) → P
  by_cycle {P} x y = go (ltb c.stop c.next) refl
    where
      go : (t : Bool) → ltb c.stop c.next ≡ t → P
      go true z = x (ltb-true c.stop c.next z)
      go false z = let l = ltb-false c.stop c.next z in y (omega (arith, k.upto))

  wrapped : c.stop ≡ c.next → Enters vs n 0 c.next (c.next + period) r
  wrapped m = a.wraps (omega arith)

  pub safe-next : Safe n period edge r
  safe-next = by_cycle
      (λ l. entered-safe (c.place + 1) c.next (a.goes l) (k.more l) (omega (arith, k.near, k.after)))
      (λ m. entered-safe 0 (c.next + period) (subst (λ v. Enters vs n 0 v (c.next + period) r) (sym m) (wrapped m)) (omega (arith, k.one)) (omega arith))

  pub points_next : (f : Config) → Plays f os vs n period → Points f vs n c → Points f vs n r
  points_next f y x = by_cycle
      (λ l. points_more f y.valid os vs n y.list c r x l (a.goes l))
      (λ m. points_wrap f y.valid os vs n y.list c r x m (subst⁻¹ (λ v. Enters vs n 0 c.next (c.next + v) r) y.cycle (wrapped m)))

-- the plain cycles of a configuration come round
pub plain_round : (f : Config) → Valid f → (v : ℕ) → f.start ≤ v → plain_octet f (v + f.cycle) ≡ plain_octet f v
unfolding plain_octet
plain_round f pos v h =
    let s : ℕ = plain_start f v in
    let a : s ≤ v = plain_le f pos v h in
    let b : v < start_no f (suc (cycle_no f v)) = next_start_lem f pos v (suc (cycle_no f v)) h (omega arith) in
    let c = next-is f pos v in
    let n : plain_start f (s + f.cycle) ≡ s + f.cycle = next_own f pos v in
    let i : plain_start f (v + f.cycle) ≡ s + f.cycle =
    same_start f pos (s + f.cycle) (v + f.cycle) (start f pos v h) (omega arith) (omega arith) ∙ n in
    let e : v + f.cycle - (s + f.cycle) ≡ v - s = omega arith in
    ap (λ q. octet_at f.list (v + f.cycle - q)) i ∙ ap (octet_at f.list) e
  where
    start : (f : Config) → Valid f → (v : ℕ) → f.start ≤ v → f.start ≤ plain_start f v + f.cycle
    start f pos v h =
        let b : v < start_no f (suc (cycle_no f v)) = next_start_lem f pos v (suc (cycle_no f v)) h (omega arith) in
        let c = next-is f pos v in
        omega arith
