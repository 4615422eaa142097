-- `port::Port::well_formed` meets its contract: the timetable's check and the frame's.
-- Assumes nothing.
use Rattle.port.proofs.Coding.{checked}
use Rattle.port.proofs.Port.well_formed.Goals as goal

pub returns : goal.returns
returns c = search (checked)
