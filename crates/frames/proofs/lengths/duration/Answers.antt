-- `frames::lengths::duration` meets its contract: refused for the speed, refused for the length, or both times.
-- Assumes nothing.
use Rattle.std.proofs.Common.{sym, ◌∙◌, arith}
use Rattle.frames.proofs.Lasting.{wrong_speed, wrong_length, few-octets, lasts}
use Rattle.frames.proofs.lengths.duration.Goals as goal

pub returns-then-not-speed_offered : goal.returns-then-not-speed_offered
returns-then-not-speed_offered c = wrong_speed _ _ (sym c.speed_offered.ensures ∙ c.if-not-speed_offered.true)

pub returns-then-not-frame_offered : goal.returns-then-not-frame_offered
returns-then-not-frame_offered c =
    wrong_length _ _ (sym c.speed_offered.ensures ∙ c.if-not-speed_offered.false) (sym c.frame_offered.ensures ∙ c.if-not-frame_offered.true)

pub overflow_add-last : goal.overflow_add-last
overflow_add-last c =
    omega (arith, few-octets _ (sym c.frame_offered.ensures ∙ c.if-not-frame_offered.false))

pub overflow_mul-last : goal.overflow_mul-last
overflow_mul-last c =
    omega (arith, c.octet_time-octet_time.ensures.frame-short _ (few-octets _ (sym c.frame_offered.ensures ∙ c.if-not-frame_offered.false)))

pub overflow_add-next : goal.overflow_add-next
overflow_add-next c =
    let t = c.octet_time-octet_time.ensures in
    omega (arith, t.gap-short, t.frame-short _ (few-octets _ (sym c.frame_offered.ensures ∙ c.if-not-frame_offered.false)))

pub returns : goal.returns
returns c =
    lasts _ _ (sym c.speed_offered.ensures ∙ c.if-not-speed_offered.false) (sym c.frame_offered.ensures ∙ c.if-not-frame_offered.false) _ c.octet_time-octet_time.ensures
