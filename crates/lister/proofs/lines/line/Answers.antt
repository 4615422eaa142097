-- `lister::lines::line` meets its contract: a moment and a line end, one behind the other.
-- Assumes nothing.
use native.Mathlib.Omega.{arith}
use Rattle.lister.proofs.Texts.{line-put, line_short}
use Rattle.lister.proofs.lines.line.Goals as goal

pub returns : goal.returns
returns c =
    let a = c.args in
    record {
      puts = line-put a.at a.out.now a.instant a.octet (omega arith) c.requires _ _ c.moment-at.ensures _ _ c.put.ensures;
      octet_len_bound = line_short a.instant a.octet (omega arith);
    }
