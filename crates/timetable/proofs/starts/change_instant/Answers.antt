-- `timetable::starts::change_instant` meets its contract: the base, or the start after the one that runs just before now.
-- Assumes nothing.
use Rattle.std.proofs.Common.{refl, arith}
use Rattle.timetable.proofs.Beginnings.{change_later, change_past}
use Rattle.timetable.proofs.starts.change_instant.Goals as goal

pub returns-then-now-base : goal.returns-then-now-base
returns-then-now-base c =
    change_later _ _ _ c.if-now-base.true (omega arith)

pub returns : goal.returns
returns c =
    change_past _ _ _ c.if-now-base.false c.plain_start-running.result _ c.plain_start-running.ensures refl
