-- `lister::list_port` meets its contract: the octets of the first line, of the changes and of the last line are those of the span's lines.
-- Assumes nothing.
use mathlib.Core.Path.{◌∙◌}
use native.Mathlib.Omega.{arith}
use Rattle.lister.proofs.Texts.{fills_few}
use Rattle.lister.proofs.Striding.{walked-count}
use Rattle.lister.proofs.list_port.Goals as goal

pub overflow_add-result : goal.overflow_add-result
overflow_add-result c = omega (arith, c.in_ok-first.ensures, fills_few c.put_start-n.ensures, c.in_ok-ended.ensures.few)

pub overflow_add-result-2 : goal.overflow_add-result-2
overflow_add-result-2 c =
    omega (arith, c.in_ok-first.ensures, c.in_ok-last.ensures, fills_few c.put_start-n.ensures, fills_few c.put_end-n.ensures, c.in_ok-ended.ensures.few)

pub returns : goal.returns
returns c =
    walked-count c.in_ok-ended.ensures (c.in_ok-first.ensures ∙ c.put_start-n.ensures.count) (c.in_ok-last.ensures ∙ c.put_end-n.ensures.count)
