-- `lister::lines::put_start` meets its contract: its two pieces, one behind the other, are the port's first line.
-- Assumes nothing.
use mathlib.Core.Path.{sym}
use native.Mathlib.Omega.{arith}
use Rattle.lister.specs.Lines.{start_line, first_line}
use Rattle.port.specs.Coding.{decode}
use Rattle.lister.proofs.Texts.{word_room, fills_as, start_fills}
use Rattle.lister.proofs.Opened.{clock-decode}
use Rattle.lister.proofs.lines.put_start.Goals as goal

pub line-requires : goal.line-requires
line-requires c = let a = c.args in word_room a.page.now (omega arith) _ (omega arith) _ _ c.put-at.ensures 24 (omega arith)

pub returns : goal.returns
returns c =
    let a = c.args in
    let p = a.span.port in
    let t = clock-decode p in
    fills_as _ (first_line (decode p)) _ _ _ (λ i. start_line (sym t i) (c.shown.ensures i))
    (start_fills a.page.now (omega arith) _ _ (omega (arith, t, a.span.ready.fine.sound.gates.clock)) _ _ c.put-at.ensures _ _ c.line.ensures.puts)
