-- `gatelist::intervals_ok` meets its contract: what the loop over the used places tells.
-- Assumes nothing.
use Rattle.gatelist.proofs.Sound.{used_told}
use Rattle.gatelist.proofs.intervals_ok.Goals as goal

pub returns-clause-used : goal.returns-clause-used
returns-clause-used c =
    used_told c.args.intervals.now c.args.len _ c.told-intervals c.min.ensures _ (c.any_none.ensures 0 (λ _ e. e))
