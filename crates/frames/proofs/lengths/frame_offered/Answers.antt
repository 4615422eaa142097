-- `frames::lengths::frame_offered` meets its contract: 64 to 2,000.
-- Assumes nothing.
use Rattle.std.proofs.Common.{refl}
use Rattle.rule.specs.Orders.{frame_offered}
use Rattle.frames.proofs.lengths.frame_offered.Goals as goal

pub returns : goal.returns
unfolding frame_offered
returns c = refl
