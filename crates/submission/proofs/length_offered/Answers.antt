-- `submission::length_offered` meets its contract: its tests are those of the definition.
-- Assumes nothing.
use Rattle.std.proofs.Common.{rules}
use Rattle.rule.specs.Orders.{length_offered}
use Rattle.submission.proofs.length_offered.Goals as goal

pub returns : goal.returns
unfolding length_offered
returns c =
    search rules
