use Rattle.std.proofs.Common.{◌≡◌, refl, subst, arith}
use Rattle.course.specs.Period.{WrittenAgain, later, same}
use Rattle.course.proofs.PlacesAgain.{copied_again}
use Rattle.course.proofs.Doubling.{block_held, doubles_more}
use Rattle.course.proofs.periods.repeat.Goals as goal

pub loop-done-preserved : goal.loop-done-preserved
loop-done-preserved c =
    let t = c.loop-done-test.true in
    let b = block_held _ _ _ _ _ _ c.requires _ _ _ _ _ c.loop-done.invariant t _ c.min.ensures in
    doubles_more _ _ _ _ _ _ c.requires _ _ _ _ _ c.loop-done.invariant t _ c.min.ensures (omega arith) _ _
    c.repeat_later.ensures (copied_again _ _ _ _ _ b.0 (omega arith) b.1.0 c.copy_within.ensures.len c.copy_within.ensures.by_index) _ _ refl refl

pub returns : goal.returns
returns c =
    let a = c.args in
    let l = c.loop-done in
    let e : l.done ≡ a.end = omega (arith, l.invariant.upto) in (
      subst (λ i. WrittenAgain (later a.period) a.count a.n i a.instants.now l.instants) e l.invariant.instants,
      subst (λ i. WrittenAgain same a.count a.n i a.octets.now l.octets) e l.invariant.octets,
    )
