-- `port::Port::step` meets its contract: the timetable travels, what the frame met is read back from the changes written, and each part of the port goes on
-- to where that ends.
-- Assumes nothing.
use Rattle.port.proofs.Travelling.{step_stays, legible, step-goes, step_still}
use Rattle.port.proofs.Port.step.Goals as goal

pub returns-then-not-f-due : goal.returns-then-not-f-due
returns-then-not-f-due c = search (step_still)

pub met_on-hit-requires : goal.met_on-hit-requires
met_on-hit-requires c = search (legible)

pub returns-in-Err : goal.returns-in-Err
returns-in-Err c = search (step_stays)

pub returns-else-not-f-due : goal.returns-else-not-f-due
returns-else-not-f-due c = search (step-goes)
