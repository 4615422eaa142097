-- `course::Walk::walk_ruled` meets its contract: one octet all through the cycles is one stretch that shows the same, and any other list is walked,
-- by rounds if there are many.
-- Assumes nothing.
use Rattle.std.proofs.Common.{arith}
use Rattle.course.proofs.ByEntries.{walks_uniform}
use Rattle.course.proofs.Walk.walk_ruled.Goals as goal

pub returns-then-uniform-clause-walked : goal.returns-then-uniform-clause-walked
returns-then-uniform-clause-walked c =
    let a = c.args in
    walks_uniform a.leg.now.stretch.list.octets.now a.leg.now.stretch.list.intervals.now a.leg.now.stretch a.self.now c.pass.result c.pass.new.self a.leg.now.reportable.walkable.some (omega arith)
    (c.uniform.ensures c.if-uniform.true) c.pass.ensures.passed
