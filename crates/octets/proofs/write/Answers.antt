-- `octets::write` meets its contract: each way out is one step of the order.
-- Assumes nothing.
use mathlib.Core.Path.{refl, ap}
use native.Mathlib.Omega.{arith}
use Rattle.gatelist.specs.declared.GateList.{GateList}
use Rattle.gatelist.specs.Coding.{list_from}
use Rattle.octets.specs.Octets.{octets_of}
use Rattle.octets.proofs.Writing.{buffer-more, write_unoffered, write-zero, write-short, write_done}
use Rattle.octets.proofs.write.Goals as goal

pub returns-then-len-lt1 : goal.returns-then-len-lt1
returns-then-len-lt1 c = write_unoffered _ _ c.then-len-lt1.either

pub returns-then-has_zero : goal.returns-then-has_zero
returns-then-has_zero c = let e = c.entries.ensures in write-zero _ _ _ _ (ap (λ (l : GateList). l.intervals) e) (ap (λ (l : GateList). l.len) e) (omega arith) (omega arith) c.if-has_zero.ensures

pub returns-then-buffer-count : goal.returns-then-buffer-count
returns-then-buffer-count c =
    let e = c.entries.ensures in
    write-short _ _ _ _ (ap (λ (l : GateList). l.intervals) e) (ap (λ (l : GateList). l.len) e) (omega arith) (omega arith) c.if-has_zero.ensures (omega arith)

pub loop-i-init : goal.loop-i-init
unfolding octets_of list_from
loop-i-init c = refl

pub loop-i-preserved : goal.loop-i-preserved
loop-i-preserved c = buffer-more _ _ _ _ _ _ (omega arith) c.loop-i.invariant c.write_entry.ensures

pub returns : goal.returns
returns c =
    let e = c.entries.ensures in
    write_done _ _ _ _ (ap (λ (l : GateList). l.intervals) e) (ap (λ (l : GateList). l.len) e) (omega arith) (omega arith) c.if-has_zero.ensures c.loop-i.i _ (omega arith) (omega arith) c.loop-i.invariant
