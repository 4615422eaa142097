-- `frames::ahead::ended_by` meets its contract: the octet is formed bit by bit. The loop's invariant: the bits of the classes before k are formed.
-- Assumes nothing.
use Rattle.frames.specs.Ahead.{closed_by}
use Rattle.frames.specs.Choosing.{Forms}
use Rattle.frames.proofs.ahead.ended_by.Given as goal

abbrev pub invariant-loop-k : goal.invariant-loop-k
invariant-loop-k l = Forms (closed_by l.octet l.ends l.at) l.k l.q
