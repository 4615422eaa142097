use Rattle.std.proofs.Common.{◌≡◌, ◌+◌, ◌-◌, refl, subst, arith, rules}
use Rattle.std.proofs.lemmas.Result.{err_from_is_err_and}
use Rattle.timetable.proofs.Records.{in_time}
use Rattle.course.specs.Journey.{journey_of, Written}
use Rattle.course.proofs.BySpans.{span_ahead}
use Rattle.course.proofs.ChangesWritten.{begins_written}
use Rattle.course.proofs.Walk.walk_to.Goals as goal

pub loop-t-init : goal.loop-t-init
loop-t-init c =
    let a = c.args in
    let b = c.requires.begins in
    let h = c.requires.goal in
    let e : a.g.now.times.clock ≡ a.g.now.times.clock + 1 - 1 = omega arith in (
      (omega arith, omega arith),
      (
        subst (λ v. Written (journey_of a.g.now a.goal a.self.now.instants.now a.self.now.octets.now) v a.self.now) e (begins_written a.g.now a.goal a.self.now b h.0),
        record { instants = refl; octets = refl },
      ),
    )

pub walk_span-requires-clause-ahead : goal.walk_span-requires-clause-ahead
walk_span-requires-clause-ahead c =
    let a = c.args in
    let i = c.loop-t in
    let h = i.invariant.0 in
    let r = c.requires.goal in
    span_ahead a.g.now.times i.t a.goal (omega arith) (omega arith) (omega arith) (in_time a.g.now c.requires.fine i.t (omega arith) (omega arith))
    c.regime-rules.result c.regime-rules.ensures c.min-edge.result c.min-edge.ensures

pub returns-in_err-walk_span-clause-walked : goal.returns-in_err-walk_span-clause-walked
returns-in_err-walk_span-clause-walked c =
    let a = c.args in
    let w = a.self.now in
    let i = c.loop-t in
    let p = err_from_is_err_and c.from_residual.result c.from_residual.ensures.1 in
    rw (p.1, p.2) (c.in_err-walk_span.ensures.walked a.goal w.instants.now w.octets.now (omega (arith, c.min-edge.ensures)) i.invariant.1.0)

pub loop-t-smaller : goal.loop-t-smaller
loop-t-smaller c =
    let a = c.args in
    let i = c.loop-t in
    let h = i.invariant.0 in
    let r = c.requires.goal in
    let k = span_ahead a.g.now.times i.t a.goal (omega arith) (omega arith) (omega arith) (in_time a.g.now c.requires.fine i.t (omega arith) (omega arith))
    c.regime-rules.result c.regime-rules.ensures c.min-edge.result c.min-edge.ensures in
    omega (arith, k.governs.after)

pub loop-t-preserved : goal.loop-t-preserved
loop-t-preserved c =
    let a = c.args in
    let w = a.self.now in
    let i = c.loop-t in
    let h = i.invariant.0 in
    let r = c.requires.goal in
    let e = c.min-edge.ensures in
    let k = span_ahead a.g.now.times i.t a.goal (omega arith) (omega arith) (omega arith) (in_time a.g.now c.requires.fine i.t (omega arith) (omega arith))
    c.regime-rules.result c.regime-rules.ensures c.min-edge.result e in (
      (omega (arith, k.governs.after), omega arith),
      (c.in_ok-walk_span.ensures.walked a.goal w.instants.now w.octets.now (omega arith) i.invariant.1.0, search rules),
    )
