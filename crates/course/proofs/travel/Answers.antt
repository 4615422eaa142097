-- `course::travel` meets its contract: its order refuses, or the walk from the clock is the travel.
-- Assumes nothing.
use Rattle.std.proofs.Common.{refl, rules}
use Rattle.std.proofs.lemmas.Result.{err_from_is_err_and}
use Rattle.course.proofs.WaysOut.{order_refuses, order-passes, travel-stays, travel-ends, travel-comes}
use Rattle.course.proofs.travel.Goals as goal

pub returns-in_err-order : goal.returns-in_err-order
returns-in_err-order c =
    let a = c.args in
    let p = err_from_is_err_and c.from_residual.result c.from_residual.ensures.1 in
    rw (p.1, p.2)
    (travel-stays a.fit a.longest a.goal a.g.now a.instants.now _ a.octets.now _ _
    (order_refuses a.fit a.longest a.goal a.g.now c.formed.result c.formed.ensures c.order.result c.order.ensures _ c.in_err-order.was) refl refl)

pub walk_to-requires-clause-fine : goal.walk_to-requires-clause-fine
walk_to-requires-clause-fine c =
    let a = c.args in
    (order-passes a.fit a.longest a.goal a.g.now _ c.formed.ensures _ c.order.ensures c.in_ok-order.was).fine

pub walk_to-requires-clause-goal : goal.walk_to-requires-clause-goal
walk_to-requires-clause-goal c =
    let a = c.args in
    let p = order-passes a.fit a.longest a.goal a.g.now _ c.formed.ensures _ c.order.ensures c.in_ok-order.was in
    (p.ahead, p.near)

pub returns-in-Ok : goal.returns-in-Ok
returns-in-Ok c =
    let a = c.args in
    let p = order-passes a.fit a.longest a.goal a.g.now _ c.formed.ensures _ c.order.ensures c.in_ok-order.was in
    travel-comes a.fit a.longest a.goal a.g.now a.instants.now _ a.octets.now _ p c.walk_to.new.self (search rules) (search rules) c.in-Ok.ensures.walked

pub returns-in-Err : goal.returns-in-Err
returns-in-Err c =
    let a = c.args in
    let p = order-passes a.fit a.longest a.goal a.g.now _ c.formed.ensures _ c.order.ensures c.in_ok-order.was in
    travel-ends a.fit a.longest a.goal a.g.now a.instants.now _ a.octets.now _ p c.walk_to.new.self (search rules) (search rules) _ c.in-Err.ensures.walked
