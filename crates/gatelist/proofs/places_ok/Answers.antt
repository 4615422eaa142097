-- `gatelist::places_ok` meets its contract: a place is good by three tests, each made of all places in a loop of its own.
-- Assumes nothing.
use Rattle.gatelist.proofs.Sound.{rest_told, places_three}
use Rattle.gatelist.proofs.places_ok.Goals as goal

pub returns-clause-places : goal.returns-clause-places
returns-clause-places c =
    let a = c.args in
    let later = rest_told a.intervals.now a.len _ c.told-intervals c.min-n.ensures _ (c.all_none-later.ensures 0 (λ _ e. e)) in
    let shut = rest_told a.octets.now a.len _ c.told-octets c.min-n.ensures _ (c.all_none-shut.ensures 0 (λ _ e. e)) in
    rw (c.intervals_ok-used.ensures.used, later, shut) (places_three a.octets.now a.intervals.now a.len 128)
