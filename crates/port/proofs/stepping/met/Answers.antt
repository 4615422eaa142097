use Rattle.std.proofs.Common.{arith}
use Rattle.port.proofs.Reading.{back_start, back-met, back_over, back_more, back_last}
use Rattle.port.proofs.stepping.met.Goals as goal

pub loop-i-init : goal.loop-i-init
loop-i-init c = search (arith, back_start)

pub returns-then-shut_in : goal.returns-then-shut_in
returns-then-shut_in c = search (back-met)

pub returns-then-f-change : goal.returns-then-f-change
returns-then-f-change c = search (back_over)

pub loop-i-preserved : goal.loop-i-preserved
loop-i-preserved c = search (arith, back_more)

pub returns : goal.returns
returns c = search (back_last)
