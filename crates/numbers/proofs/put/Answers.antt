use Rattle.numbers.proofs.Writing.{filling_more}
use Rattle.numbers.proofs.put.Goals as goal

pub loop-rest-preserved : goal.loop-rest-preserved
loop-rest-preserved c = filling_more _ _ _ _ _ c.loop-rest.invariant c.loop-rest-test.true
