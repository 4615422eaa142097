use Rattle.std.proofs.Common.{◌≡◌, ◌&&◌, leb, get_or, ap, subst, arith}
use Rattle.frames.specs.Ahead.{closed_by}
use Rattle.frames.specs.Choosing.{Forms}
use Rattle.frames.proofs.Octets.{forms_none, forms_more}
use Rattle.frames.proofs.ahead.ended_by.Goals as goal

pub loop-k-init : goal.loop-k-init
loop-k-init c = forms_none _

pub loop-k-preserved : goal.loop-k-preserved
loop-k-preserved c =
    let k = c.loop-k.k in
    let a = c.args in
    forms_more (closed_by a.octet a.ends.now a.at) k _ _ _ c.loop-k.invariant (ap (λ b. b && leb (get_or a.ends.now k 0) a.at) c.gate-is_one.ensures) c.with_bit-q.ensures

pub returns : goal.returns
returns c =
    let e : c.loop-k.k ≡ 8 = omega arith in
    subst (λ n. Forms (closed_by c.args.octet c.args.ends.now c.args.at) n c.loop-k.q) e c.loop-k.invariant
