-- `frames::choosing::frame_for` meets its contract: the octet has no class, or the frame of its highest one is made.
-- Assumes nothing.
use Rattle.std.proofs.Common.{◌∙◌}
use Rattle.frames.proofs.Classes.{begins_none}
use Rattle.frames.proofs.choosing.frame_for.Goals as goal

pub returns-then-octet-eq0 : goal.returns-then-octet-eq0
returns-then-octet-eq0 c =
    let a = c.args in
    λ heads speed f p. c.none.ensures ∙ begins_none a.octet a.ends a.gap a.t c.if-octet-eq0.true heads speed f p
