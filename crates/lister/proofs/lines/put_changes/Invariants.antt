-- `lister::lines::put_changes` meets its contract: the loop's invariant is that the lines of the changes so far stand at the front of the page.
-- Assumes nothing.
use lib.ListN.{length}
use Rattle.lister.proofs.Texts.{Lining}
use Rattle.lister.proofs.lines.put_changes.Given as goal

abbrev pub invariant-loop-instant : goal.invariant-loop-instant
invariant-loop-instant l = Lining l.instants l.octets l.initial.page l.page l.at (length l.yielded)
