-- `text::decimal` meets its contract: the digits that `io` gives are the number's shortest, and they are put.
-- Assumes nothing.
use mathlib.Core.Path.{ap, ◌∙◌}
use Rattle.text.specs.Put.{put_at}
use Rattle.text.proofs.Decimals.{fewest_decimal}
use Rattle.text.proofs.decimal.Goals as goal

pub returns : goal.returns
returns c =
    let a = c.args in
    let d = c.decimal-k in
    c.put.ensures ∙ ap (λ l. put_at l a.at a.out.now) (d.ensures.digits ∙ fewest_decimal d.result a.n d.ensures.len)
