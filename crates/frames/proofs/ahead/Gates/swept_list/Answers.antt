-- `frames::ahead::Gates::swept_list` meets its contract: the entry that runs, the rest of its cycle, and the next cycle as far as the stretch goes.
-- Assumes nothing.
use Rattle.std.proofs.Common.{arith}
use Rattle.frames.proofs.Closing.{stands, list-first, list_second}
use Rattle.frames.proofs.ahead.Gates.swept_list.Goals as goal

pub swept-g-requires : goal.swept-g-requires
swept-g-requires c =
    let h = c.requires.walkable in
    record { few = h.few; used = h.used; within = omega (arith, stands c.args.s h _ c.entry_at-p.ensures); near = omega (arith, c.min-limit.ensures, h.near) }

pub returns-then-edge-next : goal.returns-then-edge-next
returns-then-edge-next c =
    let a = c.args in
    let m = c.min-limit in
    let e = c.entry_at-p in
    let v = c.wide in
    let n = c.narrowed-begun in
    let q = c.swept-g in
    list-first a.s c.requires.walkable c.requires.edge_bound a.ends.now m.result m.ensures e.result e.ensures v.result v.ensures.0
    a.self n.result q.result n.ensures q.ensures c.if-edge-next.true

pub swept-requires : goal.swept-requires
swept-requires c =
    let h = c.requires.walkable in record { few = h.few; used = h.used; within = omega arith; near = omega (arith, h.near, c.if-edge-next.false) }

pub returns : goal.returns
returns c =
    let a = c.args in
    let m = c.min-limit in
    let e = c.entry_at-p in
    let v = c.wide in
    let n = c.narrowed-begun in
    let q = c.swept-g in
    list_second a.s c.requires.walkable c.requires.edge_bound a.ends.now m.result m.ensures e.result e.ensures v.result v.ensures.0
    a.self n.result q.result n.ensures q.ensures (omega (arith, c.if-edge-next.false)) c.swept.result c.swept.ensures
