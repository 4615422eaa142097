-- Document 01, the sentence on 14: a port's record is well formed if its timetable and its frame are (crates `timetable` and `frames` have the sentence,
-- condition by condition). The counters are free.
-- Assumes nothing.
use Rattle.std.specs.Prelude.{Bool, ◌&&◌}
use Rattle.timetable.specs.Record.{timetable_formed}
use Rattle.frames.specs.Frame.{frame_formed}
use Rattle.port.specs.declared.Port.{Port}

unfoldable pub well_formed : Port → Bool
well_formed p = timetable_formed p.gates && frame_formed p.frame p.gates.times.clock
