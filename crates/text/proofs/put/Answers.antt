-- `text::put` meets its contract: where the text fits, it stands at the place.
-- Assumes nothing.
use Rattle.std.proofs.Common.{arith}
use Rattle.text.proofs.Putting.{put_none, put_fits}
use Rattle.text.proofs.put.Goals as goal
use Rattle.text.proofs.put.Goals.{then-out-at-via-then-out-at, then-out-at-via-else-out-at+then-out-at-2}

pub returns-then-out-at : goal.returns-then-out-at
returns-then-out-at c =
    let a = c.args in
    put_none a.s.now a.at a.out.now
    (elim c.then-out-at.branch [ then-out-at-via-then-out-at w ↦ omega arith | then-out-at-via-else-out-at+then-out-at-2 w ↦ omega arith ])

pub returns : goal.returns
returns c =
    let a = c.args in
    put_fits a.s.now a.at a.out.now (omega arith) _ _ c.copy_from_slice.ensures.after (omega arith)
