-- `course::Walk::whole_periods` meets its contract: as many periods as fit in the time and in the free places are written again.
-- Assumes nothing.
use Rattle.std.proofs.Common.{◌-◌, length, refl, ap, ◌∙◌, arith}
use Rattle.course.proofs.PlacesAgain.{free_can_repeat}
use Rattle.course.proofs.ByPeriods.{gone_since}
use Rattle.course.proofs.Walk.whole_periods.Goals as goal

pub returns-clause-gone : goal.returns-clause-gone
returns-clause-gone c =
    let a = c.args in
    let w = a.self.now in
    let free = c.saturating_sub.ensures ∙ ap (λ q. q - w.written) c.min-room.ensures in
    gone_since a.t a.last a.period c.saturating_sub-count.result a.since w _ _ c.saturating_sub-count.ensures
    (record {
      periods = c.periods_that_fit-k.result;
      stands = refl;
      upto = omega (arith, c.periods_that_fit-k.ensures.0);
      octet = refl;
      written = refl;
      repeatable = free_can_repeat c.saturating_sub-count.result w.written (length w.instants.now) (length w.octets.now) c.saturating_sub.result free c.periods_that_fit-k.result
          c.periods_that_fit-k.ensures.1 (omega (arith, c.saturating_sub-count.ensures));
      instants = c.repeat.ensures.0;
      octets = c.repeat.ensures.1;
    })
