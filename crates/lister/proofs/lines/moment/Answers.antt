-- `lister::lines::moment` meets its contract: its three pieces, one behind the other.
-- Assumes nothing.
use native.Mathlib.Omega.{arith}
use Rattle.lister.proofs.Texts.{moment-put}
use Rattle.lister.proofs.lines.moment.Goals as goal

pub returns : goal.returns
returns c =
    let a = c.args in
    moment-put a.at a.out.now a.instant a.octet (omega arith) c.requires _ _ c.decimal-at.ensures _ _ c.put-at.ensures _ _ c.hex.ensures
