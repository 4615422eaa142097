use Prim.Native.Nat.{ℕ, ◌-◌}
use mathlib.Core.Path.{◌∙◌}
use native.Mathlib.Omega.{arith}
use borrow.Author.Rules.{rules}
use Rattle.gatelist.specs.Lookup.{sum_to}
use Rattle.gatelist.proofs.Lookup.{sum_more, found_in, found-last, found_past, found-place}
use Rattle.gatelist.proofs.Entries.entry_at.Goals as goal
use Rattle.gatelist.proofs.Entries.entry_at.Goals.{then-len-i, else-len-i+then-i-eq-MAX, else-len-i+else-i-eq-MAX+then-rest-interval}

pub loop-i-init : goal.loop-i-init
unfolding sum_to
loop-i-init c = search rules

pub loop-i-preserved : goal.loop-i-preserved
loop-i-preserved c =
    let l = c.loop-i in
    let a = c.args in
    record {
      within = search rules;
      few = search rules;
      left = search rules;
      sum = omega (arith, sum_more a.self.intervals.now l.i);
      small = search rules;
    }

pub returns : goal.returns
returns c =
    let l = c.loop-i in
    let a = c.args in
    let is = a.self.intervals.now in
    let m = c.if-len-i.number in
    let p = c.value_at.ensures.places in
    let s : ℕ = a.offset - l.rest in
    found-place is a.self.len a.offset m s _
    (elim c.if-len-i.branch [
      | then-len-i w ↦ found-last is a.self.len l.i a.offset s m l.invariant.sum (omega arith) (omega arith) (omega arith) (omega arith)
      | else-len-i+then-i-eq-MAX w ↦ found_past is a.self.len l.i a.offset s m l.invariant.sum (omega arith) (omega arith) (omega arith) (omega arith)
      | else-len-i+else-i-eq-MAX+then-rest-interval w ↦ found_in is a.self.len l.i a.offset s m l.invariant.sum (omega arith) (omega arith) (omega arith) (omega arith)
    ])
    (c.wide.ensures.0 ∙ c.value_at.ensures.value)
