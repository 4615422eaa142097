-- `frames::deciding::declined` meets its contract: the chain of tests is the order of Transmit.
-- Assumes nothing.
use Rattle.rule.proofs.Refusals.{chain_none, chain_more}
use Rattle.frames.proofs.Decisions.{declines}
use Rattle.frames.proofs.deciding.declined.Goals as goal

pub returns : goal.returns
returns c =
    let a = c.args in
    declines a.heads a.speed a.g.now a.f _ _ _ _ _ c.formed-formed.ensures c.formed-sent.ensures c.speed_offered-offered.ensures c.head_wrong-wrong.ensures
    (chain_more c.first.ensures (chain_more c.first-fast.ensures (chain_more c.first-free.ensures (chain_more c.first-headed.ensures chain_none))))
