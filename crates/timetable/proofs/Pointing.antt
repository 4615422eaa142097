-- A cursor of a configuration: the octet that it points at is shown until it stops, and the entry after it, in the same cycle or at the next start, has a
-- cursor too.
-- Assumes nothing.
use Rattle.std.proofs.Common.{◌≡◌, ℕ, ◌+◌, ◌-◌, ◌<◌, ◌≤◌, List, get_or, sym, ap, ◌∙◌, arith}
use mathlib.Core.Path.{subst⁻¹}
use Rattle.rule.specs.Entries.{octet_at}
use Rattle.rule.specs.Cycle.{Config, Valid, plain_start, plain_octet}
use Rattle.rule.proofs.Cycles.{plain_le}
use Rattle.rule.proofs.Regime.{same_start, next_own}
use Rattle.gatelist.specs.Coding.{entries_from}
use Rattle.gatelist.specs.Lookup.{sum_to}
use Rattle.gatelist.proofs.Lookup.{sum_more, Holds, holds-number, number-octet}
use Rattle.timetable.specs.declared.cursor.Cursor.{Cursor}
use Rattle.timetable.specs.Cursor.{Enters, Points}

module _ (f : Config) (valid : Valid f) (os vs : List ℕ) (n : ℕ) (list : f.list ≡ entries_from os vs 0 n) where
  pub points_octet : (c : Cursor) → Points f vs n c → (v : ℕ) → c.from ≤ v → v < c.stop → plain_octet f v ≡ get_or os c.place 0
  unfolding plain_octet
  points_octet c p v a b =
      let q = p.placed in
      let s : ℕ = plain_start f c.from in
      let l : s ≤ c.from = plain_le f valid c.from p.started in
      let u = q.upto in
      let i = q.inside in
      let e : plain_start f v ≡ s = same_start f valid c.from v p.started (omega arith) (omega arith) in
      let h : Holds vs n (v - s) c.place = record { one = q.one; from = omega arith; upto = λ k. omega (arith, q.holds k) } in
      ap (λ q. octet_at f.list (v - q)) e ∙ ap (λ r. octet_at r (v - s)) list
      ∙ number-octet os vs n (v - s) (omega (arith, q.one)) ∙ ap (λ k. get_or os k 0) (holds-number os vs n (v - s) c.place h)

  -- an entry that begins where those before it end
  enters : (place from next : ℕ) (r : Cursor) → Enters vs n place from next r → f.start ≤ from → next ≡ plain_start f from + f.cycle → place < n
      → from ≡ plain_start f from + sum_to vs place → Points f vs n r
  enters place from next r e a b c d =
      let k = e.upto in
      subst⁻¹ (Points f vs n) e.is
      (record {
        started = a;
        placed = record {
          ends = b;
          one = c;
          inside = omega arith;
          after = e.after;
          upto = omega arith;
          holds = λ h. omega (arith, e.holds h);
          before = λ h. let z = e.before (omega arith) in (z.0, omega (arith, z.1));
        };
      })

  -- the next entry of the cycle, and the first of the next cycle
  pub points_more : (c r : Cursor) → Points f vs n c → c.stop < c.next → Enters vs n (c.place + 1) c.stop c.next r → Points f vs n r
  points_more c r p b e =
      let q = p.placed in
      let s : ℕ = plain_start f c.from in
      let l : s ≤ c.from = plain_le f valid c.from p.started in
      let a = q.after in
      let x = q.ends in
      let w = p.started in
      let z = q.before (omega arith) in
      let k : plain_start f c.stop ≡ s = same_start f valid c.from c.stop p.started (omega arith) (omega arith) in
      enters (c.place + 1) c.stop c.next r e (omega arith) (omega arith) z.0 (omega (arith, z.1, sum_more vs c.place))

  pub points_wrap : (c r : Cursor) → Points f vs n c → c.stop ≡ c.next → Enters vs n 0 c.next (c.next + f.cycle) r → Points f vs n r
  unfolding sum_to
  points_wrap c r p b e =
      let q = p.placed in
      let l : plain_start f c.from ≤ c.from = plain_le f valid c.from p.started in
      let a = q.after in
      let w = p.started in
      let o = q.one in
      let k : plain_start f c.next ≡ c.next = ap (plain_start f) q.ends ∙ next_own f valid c.from ∙ sym q.ends in
      enters 0 c.next (c.next + f.cycle) r e (omega arith) (omega arith) (omega arith) (omega arith)
