-- The starts of cycles as the code computes them: the last start, whether the last cycle has begun, the change instant.
-- Assumes nothing.
use Rattle.std.proofs.Common.{◌≡◌, ℕ, ◌+◌, ◌-◌, ◌*◌, ◌/◌, ◌%◌, ◌<◌, ◌≤◌, min, max, Bool, true, false, cond, ◌&&◌, eqb, ltb, leb, List, [], sym, refl, ap, ◌∙◌, mul-le-mul_right, mod-eq_of_lt, mul-lt-mul_of_pos_right, lt_of_not-le, not-le_of_lt, arith, ltb-false, ltb-true, le-ltb, eqb-true, le-leb}
use borrow.Author.Tests.{lt-leb, eqb-false}
use Rattle.rule.specs.Entries.{Entry}
use Rattle.rule.specs.Cycle.{Config, start_no, cycle_no, first_no, last_no, change_instant}
use Rattle.rule.specs.Orders.{last_begun}
use Rattle.rule.proofs.ClosedForms.{last_start_lem, change_closed}
use Rattle.timetable.specs.declared.Times.{Times}
use Rattle.timetable.specs.Record.{is_marked}
use Rattle.timetable.specs.Coding.{present, old_config, new_waiting, timetable_of}
use Rattle.timetable.specs.Checks.{change_by, begun_by}

-- the last start

less_of : (u v c : ℕ) → u * c < v * c → u < v
less_of u v c h = lt_of_not-le (λ (e : v ≤ u). not-le_of_lt h (mul-le-mul_right c e))

-- the later of two starts, the first of them put off by a cycle
next_of : (u v c : ℕ) → v * c ≤ u * c → max (u + 1) v * c ≡ u * c + c
next_of u v c h = go (eqb c 0) refl
  where
    go : (b : Bool) → eqb c 0 ≡ b → max (u + 1) v * c ≡ u * c + c
    go true e = let z : c ≡ 0 = eqb-true c 0 e in rw z (omega arith)
    go false e =
        let p : 0 < c = omega (arith, eqb-false c 0 e) in
        let l : v ≤ u = omega (arith, lt_of_not-le (λ (k : u + 1 ≤ v). not-le_of_lt (mul-lt-mul_of_pos_right (omega arith) p) h)) in
        let m : max (u + 1) v ≡ u + 1 = omega arith in
        rw m (omega arith)

module _ (x : Times) (l : List Entry) (before running covers : ℕ) (is : before ≡ x.change - x.extension)
    (run : running ≡ x.start + (x.since - x.start) / x.cycle * x.cycle)
    (cov : covers ≡ x.start + (before - 1 - x.start) / x.cycle * x.cycle) where
  rest : (x.change - x.extension - (x.start + 1)) / x.cycle ≡ (before - 1 - x.start) / x.cycle
  rest = let z : x.change - x.extension - (x.start + 1) ≡ before - 1 - x.start = omega arith in ap (λ n. n / x.cycle) z

  closed : x.start + max ((x.since - x.start) / x.cycle + 1) ((before - 1 - x.start) / x.cycle) * x.cycle
      ≡ start_no (old_config x l) (last_no (old_config x l) x.since x.change)
  closed = ap (λ n. x.start + max ((x.since - x.start) / x.cycle + 1) n * x.cycle) (sym rest) ∙ last_start_lem (old_config x l) x.since x.change

  pub last_covers : running < covers → (r : ℕ) → r ≡ min covers x.change
      → r ≡ min (start_no (old_config x l) (last_no (old_config x l) x.since x.change)) x.change
  last_covers h r q =
      let u : ℕ = (x.since - x.start) / x.cycle in
      let v : ℕ = (before - 1 - x.start) / x.cycle in
      let a : u < v = less_of u v x.cycle (omega arith) in
      let m : max (u + 1) v ≡ v = omega arith in
      let e : covers ≡ start_no (old_config x l) (last_no (old_config x l) x.since x.change) =
      cov ∙ ap (λ n. x.start + n * x.cycle) (sym m) ∙ closed in
      q ∙ ap (λ n. min n x.change) e

  pub last-next : covers ≤ running → (r : ℕ) → r ≡ min (running + x.cycle) x.change
      → r ≡ min (start_no (old_config x l) (last_no (old_config x l) x.since x.change)) x.change
  last-next h r q =
      let u : ℕ = (x.since - x.start) / x.cycle in
      let v : ℕ = (before - 1 - x.start) / x.cycle in
      let e : running + x.cycle ≡ start_no (old_config x l) (last_no (old_config x l) x.since x.change) =
      omega (arith, next_of u v x.cycle (omega arith)) ∙ closed in
      q ∙ ap (λ n. min n x.change) e

-- whether the last cycle has begun: its start may be cut at the change

begun_cut : (s P t last : ℕ) → last ≡ min s P → ltb last P && leb last t ≡ ltb s P && leb s t
begun_cut s P t last e = go (ltb s P) refl
  where
    go : (b : Bool) → ltb s P ≡ b → ltb last P && leb last t ≡ b && leb s t
    go true h =
        let k = ltb-true s P h in
        let z : last ≡ s = omega arith in
        (λ i. ltb (z i) P && leb (z i) t) ∙ ap (λ b. b && leb s t) h
    go false h =
        let k = ltb-false s P h in
        ap (λ b. b && leb last t) (le-ltb last P (omega arith))

pub begun-is : (x : Times) (last : ℕ) → last ≡ min (start_no (old_config x []) (last_no (old_config x []) x.since x.change)) x.change
    → (eqb x.operates 1 && eqb x.waits 1) && (ltb last x.change && leb last x.clock) ≡ begun_by x
unfolding last_begun
begun-is x last e = go (eqb x.operates 1) (eqb x.waits 1)
  where
    go : (o w : Bool) → (o && w) && (ltb last x.change && leb last x.clock) ≡ last_begun x.clock (present o (old_config x [])) (present w (new_waiting x []))
    go true true = begun_cut _ x.change x.clock last e
    go true false = refl
    go false w = refl

-- and it does not depend on the lists
pub begun-any : (x : Times) (old new : List Entry) → begun_by x ≡ last_begun x.clock (timetable_of x old new).operating (timetable_of x old new).waiting
unfolding last_begun start_no last_no cycle_no first_no
begun-any x old new = go (is_marked x.operates) (is_marked x.waits)
  where
    go : (o w : Bool) → last_begun x.clock (present o (old_config x [])) (present w (new_waiting x []))
        ≡ last_begun x.clock (present o (old_config x old)) (present w (new_waiting x new))
    go true true = refl
    go true false = refl
    go false w = refl

-- the change instant

module _ (a base c : ℕ) where
  abbrev f : Config
  f = record { start = base; cycle = c; extension = 0; list = [] }

  pub change_later : a ≤ base → base < 18446744073709551616 → base ≡ change_by a base c % 18446744073709551616
  change_later h k = sym (ap (λ n. n % 18446744073709551616) (change_closed f base a ∙ rw (le-leb a base h)) ∙ mod-eq_of_lt k)

  pub change_past : base < a → (s r : ℕ) → s ≡ base + (a - 1 - base) / c * c → r ≡ (s + c) % 18446744073709551616
      → r ≡ change_by a base c % 18446744073709551616
  change_past h s r e q =
      let z : s + c ≡ base + ((a - 1 - base) / c + 1) * c = omega arith in
      let y : change_instant f base a ≡ base + ((a - 1 - base) / c + 1) * c = change_closed f base a ∙ rw (lt-leb a base h) in
      q ∙ ap (λ n. n % 18446744073709551616) (z ∙ sym y)

  -- the change instant depends on the cycle alone
  pub change_by_lem : (g : Config) → g.cycle ≡ c → change_instant g base a ≡ change_by a base c
  change_by_lem g e =
      change_closed g base a ∙ ap (λ n. cond (leb a base) base (base + ((a - 1 - base) / n + 1) * n)) e ∙ sym (change_closed f base a)
