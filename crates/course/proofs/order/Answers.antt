-- `course::order` meets its contract: a chain of tests answers what their order declines with.
-- Assumes nothing.
use Rattle.std.proofs.Common.{ltb, ap}
use Rattle.course.proofs.WaysOut.{order_is}
use Rattle.course.proofs.order.Goals as goal

pub returns : goal.returns
returns c =
    let a = c.args in
    order_is a.malformed a.longest a.goal a.clock _ (ap (ltb a.longest) c.saturating_sub.ensures) _ _ _ _ c.first-third.ensures c.first-second.ensures
    c.first-behind.ensures c.first.ensures
