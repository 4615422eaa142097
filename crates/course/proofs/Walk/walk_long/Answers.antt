-- `course::Walk::walk_long` meets its contract: the first instant finds no room, or the round does not, or the stretch goes on after them by rounds.
-- Assumes nothing.
use Rattle.std.proofs.lemmas.Result.{err_from_is_err_and}
use Rattle.course.proofs.ByPeriods.{round_none, round_full, round_more}
use Rattle.course.proofs.Walk.walk_long.Goals as goal

pub returns-in_err-walk_list-clause-walked : goal.returns-in_err-walk_list-clause-walked
returns-in_err-walk_list-clause-walked c =
    let a = c.args in
    let p = err_from_is_err_and c.from_residual.result c.from_residual.ensures.1 in
    rw (p.1, p.2)
    (round_none a.leg.now.stretch c.requires a.self.now _ c.until-one.ensures _ c.walk_list.new.self c.in_err-walk_list.ensures.walked)

pub returns-in_err-walk_list-2-clause-walked : goal.returns-in_err-walk_list-2-clause-walked
returns-in_err-walk_list-2-clause-walked c =
    let a = c.args in
    let r = c.after_first-rounds.ensures in
    let p = err_from_is_err_and c.from_residual-in_err-walk_list-2.result c.from_residual-in_err-walk_list-2.ensures.1 in
    rw (p.1, p.2)
    (round_full a.leg.now.stretch c.requires a.self.now _ c.until-one.ensures c.walk_list.new.self c.in_ok-walk_list.ensures.walked
    _ r.base r.rest _ c.until-round.ensures _ c.walk_list-2.new.self c.in_err-walk_list-2.ensures.walked)

pub returns-clause-walked : goal.returns-clause-walked
returns-clause-walked c =
    let a = c.args in
    let r = c.after_first-rounds.ensures in
    round_more a.leg.now.stretch c.requires a.self.now _ c.until-one.ensures c.walk_list.new.self c.in_ok-walk_list.ensures.walked
    _ r.base r.rest _ c.until-round.ensures c.walk_list-2.new.self c.in_ok-walk_list-2.ensures.walked c.walk_repeating.result c.walk_repeating.new.self _ c.later-rest.ensures c.walk_repeating.ensures.walked
