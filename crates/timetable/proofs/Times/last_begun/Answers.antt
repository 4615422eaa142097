-- `timetable::Times::last_begun` meets its contract: the last start, cut at the change, says whether the last cycle has begun (`begun-is`).
-- Assumes nothing.
use Rattle.std.proofs.Common.{[]}
use Rattle.timetable.proofs.Beginnings.{begun-is}
use Rattle.timetable.proofs.Times.last_begun.Goals as goal

pub returns : goal.returns
returns c = begun-is c.args.self _ (c.last_start-last.ensures [])
