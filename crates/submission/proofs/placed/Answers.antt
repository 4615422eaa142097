-- `submission::placed` meets its contract: the list operates, or waits, with the numbers of the definition (`placed_parts`).
-- Assumes nothing.
use Rattle.std.proofs.Common.{le-leb}
use Rattle.std.proofs.lemmas.Bool.{lt-leb}
use Rattle.submission.proofs.Placing.{placed_parts}
use Rattle.submission.proofs.placed.Goals as goal

pub returns-then-start-clock : goal.returns-then-start-clock
returns-then-start-clock c =
    rw (le-leb _ _ c.if-start-clock.true)
    at (placed_parts c.args.x c.args.len c.args.s _ _ _ _ c.cycle-cycle.ensures c.from-extension.ensures c.change_instant-start.ensures c.errors_for-errors.ensures)

pub returns : goal.returns
returns c =
    rw (lt-leb _ _ c.if-start-clock.false)
    at (placed_parts c.args.x c.args.len c.args.s _ _ _ _ c.cycle-cycle.ensures c.from-extension.ensures c.change_instant-start.ensures c.errors_for-errors.ensures)
