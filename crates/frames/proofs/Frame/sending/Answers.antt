-- `frames::Frame::sending` meets its contract: a frame that is there, or nothing.
-- Assumes nothing.
use Rattle.std.proofs.Common.{eq-eqb, ne_eqb}
use Rattle.frames.specs.Frame.{decode_frame}
use Rattle.frames.proofs.Frame.sending.Goals as goal

pub returns-then-self-eq1 : goal.returns-then-self-eq1
unfolding decode_frame
returns-then-self-eq1 c =
    rw (eq-eqb _ 1 c.if-self-eq1.true)

pub returns : goal.returns
unfolding decode_frame
returns c =
    rw (ne_eqb _ 1 c.if-self-eq1.false)
