-- `frames::Frame::formed` meets its contract: a frame that is there is judged by its numbers, an absent one is no frame.
-- Assumes nothing.
use Rattle.std.proofs.Common.{◌∙◌}
use Rattle.frames.specs.Frame.{frame_ok}
use Rattle.frames.proofs.Frames.{formed-there, formed-absent}
use Rattle.frames.proofs.Frame.formed.Goals as goal

pub returns-then-self-ne1 : goal.returns-then-self-ne1
returns-then-self-ne1 c = c.eq.ensures ∙ rw c.none.ensures (formed-absent c.args.self c.args.clock c.if-self-ne1.true)

pub returns : goal.returns
unfolding frame_ok
returns c = rw c.saturating_sub-span.ensures (formed-there c.args.self c.args.clock c.if-self-ne1.false)
