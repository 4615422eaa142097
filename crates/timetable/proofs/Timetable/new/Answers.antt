-- `timetable::Timetable::new` meets its contract: every field of a new timetable's record.
-- Assumes nothing.
use Rattle.timetable.proofs.Coding.{new_record}
use Rattle.timetable.proofs.Timetable.new.Goals as goal

pub returns : goal.returns
returns c =
    new_record _ _ _ c.empty.ensures
