use native.Mathlib.Omega.{arith}
use lib.ListN.{length-append}
use Rattle.std.proofs.Common.{rules}
use Rattle.std.proofs.lemmas.Slice.Zip.{zip_turn, zip_end}
use Rattle.lister.proofs.Texts.{lining_start, lining_more, lining_fills}
use Rattle.lister.proofs.lines.put_changes.Goals as goal

pub loop-instant-init : goal.loop-instant-init
loop-instant-init c = lining_start (omega arith)

pub loop-instant-preserved : goal.loop-instant-preserved
loop-instant-preserved c =
    let a = c.args in
    let z = zip_turn a.instants.now a.octets.now _ c.into_iter-instant-iterator.result _ c.next.new.self _ (search rules) (search rules) c.loop-instant.yielded_by _ c.in-Some.is c.next.ensures.steps in
    lining_more c.loop-instant.invariant z.0 z.1 (omega (arith, z.0)) z.2 z.3 c.line-at.ensures.octet_len_bound c.line-at.ensures.puts
    (length-append c.loop-instant.yielded _)

pub returns : goal.returns
returns c =
    let a = c.args in
    let z = zip_end a.instants.now a.octets.now _ c.into_iter-instant-iterator.result _ c.next.new.self _ (search rules) (search rules) c.loop-instant.yielded_by c.in-None.is c.next.ensures.steps in
    lining_fills c.loop-instant.invariant z (omega (arith, z))
