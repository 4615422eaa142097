-- `octets::read` meets its contract: each way out is one step of the order.
-- Assumes nothing.
use native.Mathlib.Omega.{arith}
use Rattle.std.proofs.lemmas.Result.{err_from_is_err_and}
use Rattle.octets.proofs.Reading.{read_unoffered, read_start, read_stopped, read_more, read_surplus, read_done}
use Rattle.octets.proofs.read.Goals as goal

pub returns-then-stated-lt1 : goal.returns-then-stated-lt1
returns-then-stated-lt1 c = read_unoffered _ _ c.then-stated-lt1.either

pub loop-i-init : goal.loop-i-init
loop-i-init c = read_start _ _ (omega arith) (omega arith)

pub returns-in_err-gates : goal.returns-in_err-gates
returns-in_err-gates c =
    let p = err_from_is_err_and c.from_residual.result c.from_residual.ensures.1 in
    rw (p.1, p.2) (read_stopped _ _ _ _ _ c.loop-i.invariant (omega arith) _ c.in_err-gates.ensures)

pub loop-i-preserved : goal.loop-i-preserved
loop-i-preserved c = read_more _ _ _ _ _ c.loop-i.invariant (omega arith) (omega arith) _ _ c.in_ok-gates.ensures

pub returns-then-place-octets : goal.returns-then-place-octets
returns-then-place-octets c = read_surplus _ _ _ _ _ c.loop-i.invariant (omega arith) (omega arith)

pub returns : goal.returns
returns c = read_done _ _ _ _ _ c.loop-i.invariant (omega arith) (omega arith)
