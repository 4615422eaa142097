-- `port::Port::on` meets its contract: the record that it makes is that of the act, and fine.
-- Assumes nothing.
use Rattle.std.proofs.Common.{refl}
use Rattle.rule.specs.Acts.{on}
use Rattle.rule.specs.Orders.{accepts}
use Rattle.timetable.proofs.Records.{on-is}
use Rattle.port.proofs.Performing.{acted_fine}
use Rattle.port.proofs.Port.on.Goals as goal

pub done-requires : goal.done-requires
unfolding accepts
done-requires c = acted_fine on _ _ c.well_formed-2.ensures c.if-not-well_formed.false refl _ (on-is c.args.self.gates)
