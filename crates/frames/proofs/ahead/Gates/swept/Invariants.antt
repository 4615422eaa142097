-- `frames::ahead::Gates::swept` meets its contract. The loop's invariant: the walk from the first entry has come to the entry at k (`Goes`).
-- Assumes nothing.
use Rattle.frames.specs.Ahead.{Goes}
use Rattle.frames.proofs.ahead.Gates.swept.Given as goal

abbrev pub invariant-loop-k : goal.invariant-loop-k
invariant-loop-k l = Goes l.list l.place l.from l.limit l.ends l.initial.g l.k l.at l.g
