-- `gatelist::Entries::has_zero` meets its contract: the 128 places and the length together say it of the list.
-- Assumes nothing.
use Rattle.gatelist.proofs.Sound.{zero-found}
use Rattle.gatelist.proofs.Entries.has_zero.Goals as goal

pub returns : goal.returns
returns c =
    let a = c.args in
    zero-found a.self.intervals.now a.self.len c.intervals_ok-good.ensures.places _ c.intervals_ok-good.ensures.used
