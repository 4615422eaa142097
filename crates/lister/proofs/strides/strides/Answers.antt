use native.Mathlib.Omega.{arith}
use Rattle.lister.proofs.Striding.{upto-start, upto-few, upto-more, upto_span}
use Rattle.lister.proofs.strides.strides.Goals as goal

pub loop-rest-init : goal.loop-rest-init
loop-rest-init c = upto-start c.args.span

pub overflow_add-octets : goal.overflow_add-octets
overflow_add-octets c = omega (arith, upto-few (upto-more c.loop-rest.invariant c.stride-used.ensures c.in_ok-octets.ensures))

pub loop-rest-preserved : goal.loop-rest-preserved
loop-rest-preserved c = upto-more c.loop-rest.invariant c.stride-used.ensures c.in_ok-octets.ensures

pub returns : goal.returns
returns c = upto_span c.loop-rest.invariant (omega arith)
