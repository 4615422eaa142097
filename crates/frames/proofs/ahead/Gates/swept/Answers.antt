use Rattle.std.proofs.Common.{◌+◌, get_or, refl, sym, subst, arith}
use Rattle.frames.specs.Ahead.{Narrows}
use Rattle.frames.proofs.Closing.{narrows_none, goes-start, goes-more, sweeps_limit, sweeps_end, sweeps_none}
use Rattle.frames.proofs.ahead.Gates.swept.Goals as goal
use Rattle.frames.proofs.ahead.Gates.swept.Goals.{then-g-octet+else-g-eq0, else-g-octet}

pub returns-then-self-eq0 : goal.returns-then-self-eq0
returns-then-self-eq0 c =
    let a = c.args in
    let w = goes-start a.list a.limit a.ends.now a.place a.from a.self c.requires.within in
    sweeps_none a.list a.limit a.ends.now a.place a.from a.place a.from a.self a.self w c.if-self-eq0.true

pub loop-k-init : goal.loop-k-init
loop-k-init c =
    let a = c.args in goes-start a.list a.limit a.ends.now a.place a.from a.self c.requires.within

pub returns-then-limit-at : goal.returns-then-limit-at
returns-then-limit-at c =
    let l = c.loop-k in
    let a = c.args in
    sweeps_limit a.list a.limit a.ends.now a.place a.from l.k l.at a.self l.g l.invariant c.if-limit-at.true

pub returns-then-g-eq0 : goal.returns-then-g-eq0
returns-then-g-eq0 c =
    let l = c.loop-k in
    let a = c.args in
    let w = goes-more a.list a.limit a.ends.now a.place a.from l.k l.at a.self l.g c.narrowed-g.result l.invariant c.loop-k-test.true
    (omega (arith, c.if-limit-at.false)) (c.requires.used l.k c.loop-k-test.true) c.narrowed-g.ensures _ refl in
    sweeps_none a.list a.limit a.ends.now a.place a.from (l.k + 1) (l.at + get_or a.list.intervals.now l.k 0) a.self c.narrowed-g.result w c.if-g-eq0.true

pub loop-k-preserved : goal.loop-k-preserved
loop-k-preserved c =
    let l = c.loop-k in
    let a = c.args in
    let o = get_or a.list.octets.now l.k 0 in
    let n : Narrows o l.at a.ends.now l.g c.if-g-octet.g =
    (elim c.if-g-octet.branch [
      | then-g-octet+else-g-eq0 w ↦ subst (Narrows o l.at a.ends.now l.g) (sym w.g-is) w.narrowed-g.ensures
      | else-g-octet w ↦ subst (Narrows o l.at a.ends.now l.g) (sym w.g-is) (narrows_none o l.at a.ends.now l.g w.if-g-octet.false)
    ]) in
    goes-more a.list a.limit a.ends.now a.place a.from l.k l.at a.self l.g c.if-g-octet.g l.invariant c.loop-k-test.true
    (omega (arith, c.if-limit-at.false)) (c.requires.used l.k c.loop-k-test.true) n _ c.wide-at.ensures.0

pub returns : goal.returns
returns c =
    let l = c.loop-k in
    let a = c.args in
    sweeps_end a.list a.limit a.ends.now a.place a.from l.k l.at a.self l.g l.invariant c.loop-k-test.false
