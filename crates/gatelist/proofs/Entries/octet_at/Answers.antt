-- `gatelist::Entries::octet_at` meets its contract: a list of no entry has no octet; else the entry found has its octet at its place, and a place beyond the
-- 128 reads as 0.
-- Assumes nothing.
use Rattle.std.proofs.Common.{◌∙◌, arith}
use Rattle.gatelist.proofs.Lookup.{octet_none, octet-found}
use Rattle.gatelist.proofs.Entries.octet_at.Goals as goal

pub returns-then-self-eq0 : goal.returns-then-self-eq0
returns-then-self-eq0 c = let a = c.args in octet_none a.self.octets.now a.self.intervals.now a.self.len a.offset (omega arith)

pub returns : goal.returns
returns c =
    let e = c.entry_at-place in
    let a = c.args in
    c.value_at.ensures.value ∙ octet-found a.self.octets.now a.self.intervals.now a.self.len a.offset (omega arith) e.result e.ensures
