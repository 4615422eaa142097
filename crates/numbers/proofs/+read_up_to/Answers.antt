-- `numbers::read_up_to` meets its contract: a number ends at the first octet below 128; an octet of 128 or more is joined to the number behind it, which
-- need be read up to a 128th of the largest only.
-- Assumes nothing.
use Rattle.std.proofs.Common.{◌∙◌, arith}
use Rattle.numbers.proofs.Reading.{read_last, read_some}
use Rattle.numbers.proofs.+read_up_to.Goals as goal

pub returns-then-octet-lt128 : goal.returns-then-octet-lt128
returns-then-octet-lt128 t c =
    let a = c.args in
    let o = c.in_ok-octet.ensures.lookup.3 in
    c.then_some.ensures ∙ read_last a.largest a.s.now a.at o.0 _ (c.from-value.ensures ∙ o.1 0) (omega arith)

pub returns : goal.returns
returns t c =
    let a = c.args in
    let o = c.in_ok-octet.ensures.lookup.3 in
    c.then_some-2.ensures
    ∙ read_some a.largest a.s.now a.at o.0 _ (o.1 0) c.if-octet-lt128.false _ c.read_up_to.ensures _ _ _ c.in_ok-rest.was (omega arith)
