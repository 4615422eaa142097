-- `frames::ahead::Gates::swept_span` meets its contract: the standing octet is shown, or a list over its cycles, of which one is walked.
-- Assumes nothing.
use Rattle.std.proofs.Common.{arith}
use Rattle.frames.proofs.Closing.{span_flat, walkable, span_ruled}
use Rattle.frames.proofs.ahead.Gates.swept_span.Goals as goal

pub returns-in-None : goal.returns-in-None
returns-in-None c =
    let a = c.args in span_flat a.g.now a.t a.edge a.span c.requires.spans a.ends.now a.self _ c.in-None.is c.narrowed.ensures

pub overflow_add-t : goal.overflow_add-t
overflow_add-t c =
    let h = c.requires.spans in
    omega (arith, h.after, h.near, h.governs.short c.in-Some.which c.in-Some.is)

pub swept_list-requires : goal.swept_list-requires
swept_list-requires c =
    let a = c.args in
    let w = walkable a.g.now a.t a.edge a.span c.requires.spans a.ends.now a.self a.self c.requires.readable c.in-Some.which c.in-Some.is _ c.list.ensures _ c.min-stop.ensures in
    record { walkable = w.0; edge_bound = w.1 }

pub returns-in-Some : goal.returns-in-Some
returns-in-Some c =
    let a = c.args in
    span_ruled a.g.now a.t a.edge a.span c.requires.spans a.ends.now a.self _ c.requires.readable c.in-Some.which c.in-Some.is _ c.list.ensures _ c.min-stop.ensures
    c.swept_list.ensures
