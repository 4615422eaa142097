-- `timetable::Timetable::cleared` meets its contract: the record of a new timetable, with this counter.
-- Assumes nothing.
use Rattle.std.proofs.Common.{refl}
use Rattle.gatelist.specs.Coding.{padded, encode_list, empty_list}
use Rattle.rule.specs.Timetable.{new_timetable}
use Rattle.timetable.specs.Coding.{encode}
use Rattle.timetable.proofs.Timetable.cleared.Goals as goal

pub returns : goal.returns
unfolding new_timetable encode encode_list padded empty_list
returns c =
    rw c.new-off.ensures refl
