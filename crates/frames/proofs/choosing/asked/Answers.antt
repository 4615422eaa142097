use Rattle.std.proofs.Common.{◌≡◌, ◌+◌, get_or, refl, sym, ap, subst, ◌∙◌, eq-eqb, ne_eqb, arith, length-set}
use Rattle.frames.specs.Choosing.{Asks}
use Rattle.frames.proofs.Classes.{asks_none, asks_more}
use Rattle.frames.proofs.choosing.asked.Goals as goal
use Rattle.frames.proofs.choosing.asked.Goals.{then-there, else-there}

pub loop-k-init : goal.loop-k-init
loop-k-init c = (refl, asks_none _ _ _ _)

pub loop-k-preserved : goal.loop-k-preserved
loop-k-preserved c =
    let a = c.args in
    let l = c.loop-k in
    let o = c.octet_time-octet_time.ensures in
    let n = get_or a.heads l.k 0 in (
      length-set l.each l.k _ ∙ l.invariant.0,
      asks_more a.heads a.speed a.t l.k l.wanted l.last l.each l.invariant.1 (omega (arith, l.invariant.0)) _ _ c.if-there.last (ap (λ d. a.t + d) (o.frame n))
          (omega (arith, o.frame-short n (c.requires.offered.short l.k))) c.with_bit-wanted.ensures
          (elim c.if-there.branch [
            | then-there w ↦ w.last-is ∙ w.max-last.ensures ∙ sym (rw (ne_eqb n 0 w.if-there.true))
            | else-there w ↦ w.last-is ∙ sym (rw (eq-eqb n 0 w.if-there.false))
          ]),
    )

pub returns : goal.returns
returns c =
    let a = c.args in
    let l = c.loop-k in
    let e : l.k ≡ 8 = omega arith in
    (subst (λ n. Asks a.heads a.speed a.t n l.wanted l.last l.each) e l.invariant.1, c.octet_time-octet_time.ensures.gap)
