-- `lister::lines::put_end` meets its contract: its five pieces, one behind the other, are the port's last line.
-- Assumes nothing.
use mathlib.Core.Path.{sym}
use native.Mathlib.Omega.{arith}
use Rattle.lister.specs.Lines.{end_line, last_line}
use Rattle.port.specs.Coding.{decode}
use Rattle.lister.proofs.Texts.{word_room, fills_as, end_fills}
use Rattle.lister.proofs.Opened.{clock-decode, errors-decode}
use Rattle.lister.proofs.lines.put_end.Goals as goal

pub moment-at-requires : goal.moment-at-requires
moment-at-requires c = let a = c.args in word_room a.page.now (omega arith) _ (omega arith) _ _ c.put-at.ensures 23 (omega arith)

pub returns : goal.returns
returns c =
    let a = c.args in
    let p = a.span.port in
    let t = clock-decode p in
    fills_as _ (last_line (decode p)) _ _ _ (λ i. end_line (sym t i) (c.shown.ensures i) (sym (errors-decode p) i))
    (end_fills a.page.now (omega arith) _ _ (omega (arith, t, a.span.ready.fine.sound.gates.clock)) _ (omega arith)
    _ _ c.put-at.ensures _ _ c.moment-at.ensures _ _ c.put-at-2.ensures _ _ c.decimal-at.ensures _ _ c.put.ensures)
