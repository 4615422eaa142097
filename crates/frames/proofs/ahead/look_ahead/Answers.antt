use Rattle.std.proofs.Common.{arith}
use Rattle.rule.specs.Timetable.{shown}
use Rattle.timetable.specs.Coding.{decode}
use Rattle.frames.specs.Ahead.{SweepsSpan}
use Rattle.frames.proofs.Closing.{tells_start, tells_less, tells_all, spans_on}
use Rattle.frames.proofs.ahead.look_ahead.Goals as goal

pub loop-t-init : goal.loop-t-init
loop-t-init c =
    let a = c.args in
    (omega arith, tells_start (shown (decode a.g.now)) a.g.now.times.clock a.wanted a.ends.now)

pub swept_span-known-requires : goal.swept_span-known-requires
swept_span-known-requires c =
    let l = c.loop-t in
    let a = c.args in
    let d = c.loop-t-test.true in
    let r = c.regime-span in
    let m = c.min-edge in
    let k = spans_on a.g.now.times l.t a.last (c.requires.readable.in_time l.t l.invariant.0 (omega (arith, d))) c.requires.last_bound d r.result r.ensures m.result m.ensures in
    record { readable = c.requires.readable; spans = k }

pub returns-then-known-eq0 : goal.returns-then-known-eq0
unfolding SweepsSpan
returns-then-known-eq0 c =
    let l = c.loop-t in
    let a = c.args in
    let w = c.swept_span-known.ensures a.g.now.times.clock a.wanted l.invariant.0 l.invariant.1 in
    tells_all (shown (decode a.g.now)) a.g.now.times.clock a.wanted a.ends.now _ a.last _ c.if-known-eq0.true w

pub loop-t-smaller : goal.loop-t-smaller
loop-t-smaller c =
    let l = c.loop-t in
    let a = c.args in
    let d = c.loop-t-test.true in
    let r = c.regime-span in
    let m = c.min-edge in
    let k = spans_on a.g.now.times l.t a.last (c.requires.readable.in_time l.t l.invariant.0 (omega (arith, d))) c.requires.last_bound d r.result r.ensures m.result m.ensures in
    omega (arith, k.after, d, m.ensures)

pub loop-t-preserved : goal.loop-t-preserved
unfolding SweepsSpan
loop-t-preserved c =
    let l = c.loop-t in
    let a = c.args in
    let d = c.loop-t-test.true in
    let r = c.regime-span in
    let m = c.min-edge in
    let k = spans_on a.g.now.times l.t a.last (c.requires.readable.in_time l.t l.invariant.0 (omega (arith, d))) c.requires.last_bound d r.result r.ensures m.result m.ensures in
    (omega (arith, k.after, l.invariant.0), c.swept_span-known.ensures a.g.now.times.clock a.wanted l.invariant.0 l.invariant.1)

pub returns : goal.returns
returns c =
    let l = c.loop-t in
    let a = c.args in
    tells_less (shown (decode a.g.now)) a.g.now.times.clock a.wanted a.ends.now l.t a.last _ c.loop-t-test.false l.invariant.1
