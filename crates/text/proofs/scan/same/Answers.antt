-- `text::scan::same` meets its contract: two slices are equal exactly if their octets are, place by place.
-- Assumes nothing.
use mathlib.Core.Path.{◌∙◌}
use Rattle.text.proofs.Sameness.{pointwise_same}
use Rattle.text.proofs.scan.same.Goals as goal

pub returns : goal.returns
returns c = c.eq.ensures ∙ pointwise_same c.args.a.now c.args.b.now
