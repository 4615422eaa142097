-- `port::Port::off` meets its contract: the record that it makes is that of the act, and fine.
-- Assumes nothing.
use Rattle.std.proofs.Common.{refl, ◌∙◌}
use Rattle.rule.specs.Acts.{off}
use Rattle.rule.specs.Orders.{accepts}
use Rattle.timetable.proofs.Records.{off-is}
use Rattle.port.proofs.Performing.{acted_fine}
use Rattle.port.proofs.Port.off.Goals as goal

pub done-requires : goal.done-requires
unfolding accepts
done-requires c = acted_fine off _ _ c.well_formed-2.ensures c.if-not-well_formed.false refl _ (λ k. c.cleared-p.ensures ∙ off-is c.args.self.gates k)
