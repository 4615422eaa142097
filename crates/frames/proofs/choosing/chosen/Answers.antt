-- `frames::choosing::chosen` meets its contract: the frame of the highest class that qualifies, by what is shown.
-- Assumes nothing.
use Rattle.std.proofs.Common.{arith}
use Rattle.rule.specs.Timetable.{shown}
use Rattle.timetable.specs.Coding.{decode}
use Rattle.timetable.proofs.Records.{clock-fine}
use Rattle.frames.proofs.Classes.{gap_near, chosen_by}
use Rattle.frames.proofs.Closing.{fine_readable}
use Rattle.frames.proofs.choosing.chosen.Goals as goal

pub asked-a-requires : goal.asked-a-requires
asked-a-requires c =
    let a = c.args in
    record { offered = c.requires.offered; t_le_largest_instant = clock-fine a.g.now c.requires.fine }

pub look_ahead-known-requires : goal.look_ahead-known-requires
look_ahead-known-requires c =
    let a = c.args in
    record { readable = fine_readable a.g.now c.requires.fine; last_bound = omega (arith, clock-fine a.g.now c.requires.fine, c.asked-a.ensures.0.near) }

pub frame_for-requires : goal.frame_for-requires
frame_for-requires c =
    let k = c.asked-a in
    let a = c.args in
    gap_near a.heads a.speed c.requires.offered a.g.now.times.clock k.result.gap (clock-fine a.g.now c.requires.fine) k.result.each k.result.wanted k.result.last k.ensures.0 k.ensures.1

pub returns : goal.returns
unfolding decode
returns c =
    let a = c.args in
    let k = c.asked-a in
    let l = c.look_ahead-known in
    chosen_by a.heads a.speed a.g.now.times.clock (shown (decode a.g.now)) k.result.wanted k.result.last k.result.each k.ensures.0 l.result l.ensures k.result.gap k.ensures.1 c.frame_for.result c.frame_for.ensures
