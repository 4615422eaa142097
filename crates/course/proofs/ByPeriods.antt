-- A stretch walked by rounds, the changes of one period, of which all but the first are repeated. In order: the cycles of a configuration, periods later;
-- the ways out of `walk_repeating`; those of `walk_long`.
-- Assumes nothing.
use Rattle.std.proofs.Common.{◌≡◌, ℕ, zero, suc, ◌+◌, ◌-◌, ◌*◌, ◌<◌, ◌≤◌, Bool, true, false, Ok, Err, ltb, List, length, sym, refl, ap, ◌∙◌, subst, ap₂, zero-mul, arith, length-append, ltb-false, ltb-true}
use mathlib.Core.Path.{subst⁻¹}
use Rattle.rule.specs.History.{changes}
use Rattle.rule.specs.Cycle.{Config, Valid, start_no, cycle_no, plain_start, plain_octet}
use Rattle.rule.proofs.Cycles.{start-le, plain_le, next_start_lem}
use Rattle.rule.proofs.Regime.{next-is, same_start, next_own}
use Rattle.course.specs.declared.Reached.{Reached}
use Rattle.course.specs.declared.Walk.{Walk}
use Rattle.timetable.specs.declared.cursor.Stretch.{Stretch}
use Rattle.timetable.specs.Stretch.{Runs}
use Rattle.timetable.proofs.Stretches.{plain_round}
use Rattle.course.specs.Journey.{Journey, WrittenUpTo, Walked, Written, WalkOutcome}
use Rattle.course.specs.Stretch.{Reportable, until_edge, with_base, by_cycles, CyclesShown, ListPromise, WalkPromise}
use Rattle.course.specs.Period.{GoneByPeriods, BaseAt, PeriodChanges, RepeatPromise, AgainPromise}
use Rattle.course.proofs.Recurring.{changes-on, written_rounds}

-- the cycles of a configuration

module _ (f : Config) (valid : Valid f) where
  start_plain : (v : ℕ) → f.start ≤ plain_start f v
  unfolding plain_start
  start_plain v = start-le f valid (cycle_no f v)

  -- a period later the cycle is the next, k periods later the k-th
  start_period : (v : ℕ) → f.start ≤ v → plain_start f (v + f.cycle) ≡ plain_start f v + f.cycle
  start_period v h =
      let s : ℕ = plain_start f v in
      let a : s ≤ v = plain_le f valid v h in
      let b : v < start_no f (suc (cycle_no f v)) = next_start_lem f valid v (suc (cycle_no f v)) h (omega arith) in
      let c = next-is f valid v in
      let o : plain_start f (s + f.cycle) ≡ s + f.cycle = next_own f valid v in
      same_start f valid (s + f.cycle) (v + f.cycle) (omega (arith, start_plain v)) (omega arith) (omega arith) ∙ o

  start_times_lem : (v k : ℕ) → f.start ≤ v → plain_start f (v + k * f.cycle) ≡ plain_start f v + k * f.cycle
  start_times_lem v zero h = let e : v + 0 * f.cycle ≡ v = omega (arith, zero-mul f.cycle) in ap (plain_start f) e ∙ omega (arith, zero-mul f.cycle)
  start_times_lem v (suc k) h =
      let e : v + suc k * f.cycle ≡ v + k * f.cycle + f.cycle = omega arith in
      ap (plain_start f) e ∙ start_period (v + k * f.cycle) (omega arith) ∙ omega (arith, start_times_lem v k h)

  -- the cycle that runs 1 ns later
  start-next : (base t b : ℕ) → f.start ≤ t → plain_start f t ≡ base → BaseAt base f.cycle (t + 1) b → plain_start f (t + 1) ≡ b
  start-next base t b h r n =
      let a : plain_start f t ≤ t = plain_le f valid t h in
      let u : t < start_no f (suc (cycle_no f t)) = next_start_lem f valid t (suc (cycle_no f t)) h (omega arith) in
      let c = next-is f valid t in
      go a (omega arith) (ltb (t + 1) (base + f.cycle)) refl
    where
      go : plain_start f t ≤ t → t < base + f.cycle → (q : Bool) → ltb (t + 1) (base + f.cycle) ≡ q → plain_start f (t + 1) ≡ b
      go a u true z =
          let l = ltb-true (t + 1) (base + f.cycle) z in
          same_start f valid t (t + 1) h (omega arith) (omega arith) ∙ r ∙ sym (n.same l)
      go a u false z =
          let l = ltb-false (t + 1) (base + f.cycle) z in
          let e : t + 1 ≡ plain_start f t + f.cycle = omega arith in
          ap (plain_start f) e ∙ next_own f valid t ∙ ap (λ q. q + f.cycle) r ∙ sym (n.next l)

-- what the cycles rule: a part of it, and that it comes again
module _ (j : Journey) (f : Config) (os vs : List ℕ) (n p t edge : ℕ) (y : CyclesShown j f os vs n p t edge) where
  cycles_part : (u e : ℕ) → t ≤ u → e ≤ edge → CyclesShown j f os vs n p u e
  cycles_part u e a b = let g = y.goal in record {
    plays = y.plays;
    shows = λ v k l. y.shows v (omega arith) (omega arith);
    goal = omega arith;
  }

  cycles_come : f.start ≤ t → (v : ℕ) → t ≤ v → v + p < edge → j.shows (v + p) ≡ j.shows v
  cycles_come h v a b =
      y.shows (v + p) (omega arith) b ∙ ap (λ q. plain_octet f (v + q)) (sym y.plays.cycle) ∙ plain_round f y.plays.valid v (omega arith)
      ∙ sym (y.shows v a (omega arith))

-- the rounds of a stretch that are repeated, and the rest of it

pub gone_since : (t last period count since : ℕ) (w : Walk) (at : ℕ) (r : Walk) → count ≡ w.written - since → GoneByPeriods t last period count w at r
    → GoneByPeriods t last period (w.written - since) w at r
gone_since t last period count since w at r e k = subst (λ q. GoneByPeriods t last period q w at r) e k

module _ (os vs : List ℕ) (s : Stretch) (spans : Reportable vs s) (since : ℕ) (w : Walk) (at : ℕ) (r : Walk)
    (q : GoneByPeriods (s.from - 1) (s.edge - 1) s.period (w.written - since) w at r) where
  -- the walk has come to where the rounds end
  repeated_written : (j : Journey) (f : Config) (t : ℕ) → s.from ≡ t + s.period + 1 → PeriodChanges j f t s.period (w.written - since)
      → CyclesShown j f os vs s.list.len s.period t s.edge → Written j (s.from - 1) w → Written j at r
  repeated_written j f t e k y d =
      let p : ℕ = s.period in
      let z : s.from - 1 ≡ t + p = omega arith in
      let a = q.stands in
      let u : at ≡ t + p + q.periods * p = omega arith in
      let b = q.upto in
      let n = spans.walkable.near in
      let h = spans.walkable.before in
      let x = written_rounds j p t s.edge (cycles_come j f os vs s.list.len p t s.edge y k.started) k.after w.octet w.written w.instants.now w.octets.now
      (subst (λ v. Written j v w) z d) (w.written - since) k.has q.periods (omega arith) r.written q.written q.repeatable
      r.instants.now r.octets.now (omega arith) y.goal q.instants q.octets in
      subst⁻¹ (λ v. Written j v r) u (subst⁻¹ (λ o. WrittenUpTo j (t + p + q.periods * p) o r.written r.instants.now r.octets.now) q.octet x)

  -- nothing is left
  pub repeated_edge : s.edge ≤ at + 1 → RepeatPromise os vs s since w (Ok tt) r
  repeated_edge l j f t e k y x d =
      let b = q.upto in
      let h = spans.walkable.before in
      let z : at ≡ s.edge - 1 = omega arith in
      subst (λ v. Written j v r) z (repeated_written j f t e k y d)

  -- the rest is walked
  pub repeated_rest : at + 1 < s.edge → (a : Walked) (w' : Walk) → ListPromise os vs (by_cycles s (at + 1)) r a w' → RepeatPromise os vs s since w a w'
  repeated_rest l answer w' m j f t e k y x d =
      let p : ℕ = s.period in
      let a = q.stands in
      let i = spans.first in
      let c = y.plays.cycle in
      let z : at + 1 ≡ s.from + q.periods * f.cycle = omega arith ∙ ap (λ v. s.from + q.periods * v) (sym c) in
      let z' : at ≡ at + 1 - 1 = omega arith in
      let o = x.started in
      let b : plain_start f (at + 1) ≡ s.base + (at + 1 - s.from) = ap (plain_start f) z ∙ start_times_lem f y.plays.valid s.from q.periods o ∙ omega (arith, x.base) in
      m j f (cycles_part j f os vs s.list.len p t s.edge y (at + 1) s.edge (omega arith) (omega arith)) (record { started = omega arith; base = b })
      (subst (λ v. Written j v r) z' (repeated_written j f t e k y d))

-- the first instant of a stretch, the round after it, and what comes then

-- what went before, by any step and configuration that the stretch is of: the first instant, and the round after it
module _ (s : Stretch) (long : s.from + 1 + s.period < s.edge) (w : Walk) (one : Stretch) (first : one ≡ until_edge s (s.from + 1)) where
  abbrev os : List ℕ
  os = s.list.octets.now

  abbrev vs : List ℕ
  vs = s.list.intervals.now

  first-outcome : (r : Walked) (a : Walk) → WalkPromise one w r a → (j : Journey) (f : Config)
      → CyclesShown j f os vs s.list.len s.period s.from s.edge → Runs f s → Written j (s.from - 1) w → WalkOutcome j (s.from + 1 - 1) r a
  first-outcome r a x j f y z d =
      subst (λ q. WalkPromise q w r a) first x j f (cycles_part j f os vs s.list.len s.period s.from s.edge y s.from (s.from + 1) (omega arith) (omega arith))
      (record { started = z.started; base = z.base }) d

  -- the first instant finds no room
  pub round_none : (e : Reached) (a : Walk) → WalkPromise one w (Err e) a → WalkPromise s w (Err e) a
  round_none e a x j f y z d = first-outcome (Err e) a x j f y z d

  module _ (a : Walk) (x : WalkPromise one w (Ok tt) a) (k : Stretch) (runs : BaseAt s.base s.period (s.from + 1) k.base)
      (part : k ≡ with_base s k.base (s.from + 1)) (round : Stretch) (next : round ≡ until_edge k (s.from + 1 + s.period)) where
    abbrev b : ℕ
    b = k.base

    module _ (j : Journey) (f : Config) (y : CyclesShown j f os vs s.list.len s.period s.from s.edge) (z : Runs f s) (d : Written j (s.from - 1) w) where
      first_written : Written j (s.from + 1 - 1) a
      first_written = (first-outcome (Ok tt) a x j f y z d)

      round_start : plain_start f (s.from + 1) ≡ b
      round_start = start-next f y.plays.valid s.base s.from b z.started z.base (subst⁻¹ (λ v. BaseAt s.base v (s.from + 1) b) y.plays.cycle runs)

      round_outcome : (r : Walked) (c : Walk) → WalkPromise round a r c → WalkOutcome j (s.from + 1 + s.period - 1) r c
      round_outcome r c m =
          let o = z.started in
          subst (λ q. WalkPromise q a r c) (next ∙ ap (λ q. until_edge q (s.from + 1 + s.period)) part) m j f (cycles_part j f os vs s.list.len s.period s.from s.edge y (s.from + 1) (s.from + 1 + s.period) (omega arith) (omega arith))
          (record { started = omega arith; base = round_start }) first_written

      -- the cycle after the round
      after_runs : Runs f (by_cycles (with_base s b (s.from + 1)) (s.from + 1 + s.period))
      after_runs =
          let o = z.started in
          record {
            started = omega arith;
            base = ap (λ i. plain_start f (s.from + 1 + i)) (sym y.plays.cycle) ∙ start_period f y.plays.valid (s.from + 1) (omega arith) ∙ ap₂ (λ i l. i + l) round_start y.plays.cycle
                ∙ omega arith;
          }

      -- the round has as many changes as were written for it
      round_has : (c : Walk) → Written j (s.from + 1 + s.period - 1) c → PeriodChanges j f s.from s.period (c.written - a.written)
      round_has c v =
          let g : ℕ → ℕ = j.shows in
          let t : ℕ = s.from in
          let p : ℕ = s.period in
          let u = first_written in
          let e : t + 1 - 1 ≡ t = omega arith in
          let e' : t + 1 + p - 1 ≡ t + p = omega arith in
          let k : j.clock ≤ t = subst (λ i. j.clock ≤ i) e u.from in
          let n : a.written ≡ length (changes g j.clock (t - j.clock)) = u.count ∙ ap (λ i. length (changes g j.clock (i - j.clock))) e in
          let n' : c.written ≡ length (changes g j.clock (t - j.clock)) + length (changes g t p) =
          v.count ∙ ap (λ i. length (changes g j.clock (i - j.clock))) e' ∙ ap length (changes-on g j.clock t p k)
          ∙ length-append (changes g j.clock (t - j.clock)) (changes g t p) in
          record { after = k; started = z.started; has = omega arith }

    -- the round finds no room
    pub round_full : (e : Reached) (c : Walk) → WalkPromise round a (Err e) c → WalkPromise s w (Err e) c
    round_full e c m j f y z d = round_outcome j f y z d (Err e) c m

    -- the stretch goes on after it
    pub round_more : (c : Walk) → WalkPromise round a (Ok tt) c → (r : Walked) (w' : Walk) (rest : Stretch)
        → rest ≡ by_cycles k (s.from + 1 + s.period) → AgainPromise rest a.written c r w' → WalkPromise s w r w'
    round_more c m r w' rest l q j f y z d =
        let v = (round_outcome j f y z d (Ok tt) c m) in
        subst (λ g. AgainPromise g a.written c r w') (l ∙ ap (λ g. by_cycles g (s.from + 1 + s.period)) part) q
        j f s.from (omega arith) (round_has j f y z d c v) y (after_runs j f y z d) v
