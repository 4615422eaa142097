-- `course::Walk::walk_repeating` meets its contract: the periods written again end with the stretch, or the rest of it is walked.
-- Assumes nothing.
use Rattle.std.proofs.Common.{subst, arith}
use Rattle.course.specs.Stretch.{WalkPromise}
use Rattle.course.proofs.ByPeriods.{repeated_edge, repeated_rest}
use Rattle.course.proofs.Walk.walk_repeating.Goals as goal

pub returns-then-edge-next-clause-walked : goal.returns-then-edge-next-clause-walked
returns-then-edge-next-clause-walked c =
    let a = c.args in
    repeated_edge a.leg.now.stretch.list.octets.now a.leg.now.stretch.list.intervals.now a.leg.now.stretch a.leg.now.reportable a.since a.self.now c.whole_periods-at.result c.whole_periods-at.new.self c.whole_periods-at.ensures.gone (omega arith)

pub returns-clause-walked : goal.returns-clause-walked
returns-clause-walked c =
    let a = c.args in
    repeated_rest a.leg.now.stretch.list.octets.now a.leg.now.stretch.list.intervals.now a.leg.now.stretch a.leg.now.reportable a.since a.self.now c.whole_periods-at.result c.whole_periods-at.new.self c.whole_periods-at.ensures.gone (omega (arith, c.if-edge-next.false))
    c.walk_list.result c.walk_list.new.self
    (subst (λ s. WalkPromise s c.whole_periods-at.new.self c.walk_list.result c.walk_list.new.self) c.later-rest.ensures c.walk_list.ensures.walked)
