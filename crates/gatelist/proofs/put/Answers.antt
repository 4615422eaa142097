-- `gatelist::put` meets its contract: what the first places get, and what is behind them.
-- Assumes nothing.
use Rattle.std.proofs.Common.{ap₂, ◌∙◌, ◌++◌}
use Rattle.gatelist.proofs.Coding.{copied_first}
use Rattle.gatelist.proofs.put.Goals as goal

pub returns : goal.returns
returns g c none h =
    let s = c.split_at_mut-used.ensures in
    ap₂ (λ a b. a ++ b) c.copy_from_slice.ensures.after s.back
    ∙ copied_first c.args.from.now c.args.len c.min-n.result c.default-none.result none c.told-from c.min-n.ensures (h c.default-none.result c.default-none.ensures)
