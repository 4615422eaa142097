-- `lister::lines::put_refused` meets its contract: its three pieces, one behind the other.
-- Assumes nothing.
use native.Mathlib.Omega.{arith}
use Rattle.lister.proofs.Texts.{refused_fills}
use Rattle.lister.proofs.lines.put_refused.Goals as goal

pub returns : goal.returns
returns c =
    let a = c.args in
    refused_fills a.page.now (omega arith) a.r _ (omega (arith, c.from.ensures, c.from-2.ensures)) (omega arith) _ _ c.put-at.ensures
    _ _ c.decimal-at.ensures _ _ c.put.ensures
