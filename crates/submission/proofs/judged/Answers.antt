-- `submission::judged` meets its contract: the chain of tests is the order (`judges`).
-- Assumes nothing.
use Rattle.rule.proofs.Refusals.{chain_none, chain_more}
use Rattle.submission.proofs.Judging.{judges}
use Rattle.submission.proofs.judged.Goals as goal

pub returns : goal.returns
returns c =
    let a = c.args in
    judges a.x a.formed a.late a.list.intervals.now a.list.len a.s _ _ _ _ c.cycle_offered-cycle.ensures c.length_offered-length.ensures c.has_zero-zero.ensures
    (chain_more c.first.ensures
    (chain_more c.first-switched.ensures
    (chain_more c.first-waiting.ensures
    (chain_more c.first-cycled.ensures (chain_more c.first-based.ensures (chain_more c.first-listed.ensures (chain_more c.first-last.ensures chain_none))))))).answers
