-- `course::Walk::pass` meets its contract: nothing changes, or a change finds no room in one of the buffers, or is written in both.
-- Assumes nothing.
use Rattle.std.proofs.Common.{arith}
use Rattle.course.proofs.ChangesWritten.{passes_same, passes_full, passes-more}
use Rattle.course.proofs.Walk.pass.Goals as goal

pub returns-then-octet-self-clause-passed : goal.returns-then-octet-self-clause-passed
returns-then-octet-self-clause-passed c j k goal all = let a = c.args in
    passes_same a.octet a.from a.until a.self.now (omega arith) (omega arith) j k goal all c.if-octet-self.true

pub returns-then-self-n-clause-passed : goal.returns-then-self-n-clause-passed
returns-then-self-n-clause-passed c j k goal all = let a = c.args in
    passes_full a.octet a.from a.until a.self.now (omega arith) (omega arith) j k goal all c.if-octet-self.false (omega arith)

pub returns-then-self-n-2-clause-passed : goal.returns-then-self-n-2-clause-passed
returns-then-self-n-2-clause-passed c j k goal all = let a = c.args in
    passes_full a.octet a.from a.until a.self.now (omega arith) (omega arith) j k goal all c.if-octet-self.false (omega arith)

pub returns-clause-passed : goal.returns-clause-passed
returns-clause-passed c j k goal all = let a = c.args in
    passes-more a.octet a.from a.until a.self.now (omega arith) (omega arith) j k goal all c.if-octet-self.false (omega arith)
