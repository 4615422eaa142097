use Rattle.std.proofs.Common.{Ok, Err, refl, arith, rules}
use Rattle.std.proofs.lemmas.Result.{err_from_is_err_and}
use Rattle.timetable.proofs.Stretches.{stretch_advances, advances_less}
use Rattle.course.proofs.ByEntries.{keeps_start, walks_list, keeps_full, keeps_edge, keeps_more}
use Rattle.course.proofs.Walk.walk_list.Goals as goal

pub loop-s-init : goal.loop-s-init
loop-s-init c = let a = c.args in (
  keeps_start a.leg.now.stretch.list.intervals.now a.leg.now.stretch a.leg.now.reportable c.cursor-c.result c.cursor-c.ensures a.leg.now.stretch.list.octets.now a.self.now,
  record { instants = refl; octets = refl },
)

pub returns-in_err-pass-clause-walked : goal.returns-in_err-pass-clause-walked
returns-in_err-pass-clause-walked c =
    let a = c.args in
    let l = c.loop-s in
    let z = c.cursor-c in
    let p = err_from_is_err_and c.from_residual.result c.from_residual.ensures.1 in
    rw (p.1, p.2)
    (walks_list a.leg.now.stretch.list.intervals.now a.leg.now.stretch a.leg.now.reportable z.result z.ensures a.leg.now.stretch.list.octets.now a.self.now (Err _) c.pass.new.self
    (keeps_full a.leg.now.stretch.list.octets.now a.leg.now.stretch.list.intervals.now a.leg.now.stretch.list.len a.leg.now.stretch.period a.leg.now.stretch.edge z.result a.self.now
    l.c l.self l.invariant.0 c.min-until.result c.min-until.ensures _ c.pass.new.self c.in_err-pass.ensures.passed))

pub returns-then-edge-c-clause-walked : goal.returns-then-edge-c-clause-walked
returns-then-edge-c-clause-walked c =
    let a = c.args in
    let l = c.loop-s in
    let z = c.cursor-c in
    walks_list a.leg.now.stretch.list.intervals.now a.leg.now.stretch a.leg.now.reportable z.result z.ensures a.leg.now.stretch.list.octets.now a.self.now (Ok tt) c.pass.new.self
    (keeps_edge a.leg.now.stretch.list.octets.now a.leg.now.stretch.list.intervals.now a.leg.now.stretch.list.len a.leg.now.stretch.period a.leg.now.stretch.edge z.result a.self.now
    l.c l.self l.invariant.0 c.min-until.result c.min-until.ensures c.pass.new.self c.in_ok-pass.ensures.passed c.if-edge-c.true)

pub loop-s-smaller : goal.loop-s-smaller
loop-s-smaller c =
    let a = c.args in
    let k = c.loop-s.invariant.0.safe in
    advances_less a.leg.now.stretch.list.intervals.now a.leg.now.stretch.list.len a.leg.now.stretch.period a.leg.now.stretch.edge c.loop-s.c c.advance-c.result k
    (stretch_advances a.leg.now.stretch.list.intervals.now a.leg.now.stretch a.leg.now.reportable.walkable c.loop-s.c k (omega arith) c.advance-c.result c.advance-c.ensures)

pub loop-s-preserved : goal.loop-s-preserved
loop-s-preserved c =
    let a = c.args in
    let m = c.loop-s in (
      keeps_more a.leg.now.stretch.list.octets.now a.leg.now.stretch.list.intervals.now a.leg.now.stretch.list.len a.leg.now.stretch.period a.leg.now.stretch.edge c.cursor-c.result a.self.now
          m.c m.self m.invariant.0 c.min-until.result c.min-until.ensures c.pass.new.self c.in_ok-pass.ensures.passed (omega arith)
          c.advance-c.result (stretch_advances a.leg.now.stretch.list.intervals.now a.leg.now.stretch a.leg.now.reportable.walkable m.c m.invariant.0.safe (omega arith) c.advance-c.result c.advance-c.ensures),
      search rules,
    )
