use Rattle.std.proofs.Common.{◌≡◌, subst, arith}
use Rattle.course.specs.Period.{WrittenAgain, later}
use Rattle.course.proofs.periods.repeat_later.Goals as goal

pub returns : goal.returns
returns c =
    let a = c.args in
    let l = c.loop-i in
    let e : l.i ≡ a.end = omega arith in
    subst (λ i. WrittenAgain (later a.time) a.count a.n i a.instants.now l.instants) e l.invariant.1
