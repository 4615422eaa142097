-- `submission::Submission::cycle_offered` meets its contract: the cycle gives back what was divided if nothing was left.
-- Assumes nothing.
use Rattle.submission.proofs.Cycles.{offered}
use Rattle.submission.proofs.Submission.cycle_offered.Goals as goal

pub returns : goal.returns
returns c =
    rw (c.from-n.ensures, c.from-d.ensures) (offered _ _ _ c.cycle-c.ensures)
