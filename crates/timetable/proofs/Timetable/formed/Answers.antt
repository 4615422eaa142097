-- `timetable::Timetable::formed` meets its contract: its parts are those of the definition, and a record that passes them is fine (`checked`).
-- Assumes nothing.
use Rattle.std.proofs.Common.{subst}
use Rattle.gatelist.specs.declared.GateList.{GateList}
use Rattle.gatelist.specs.Places as list
use Rattle.timetable.specs.Record.{is_marked, timetable_formed, marks_ok, operating_formed, waiting_formed}
use Rattle.timetable.proofs.Coding.{checked}
use Rattle.timetable.proofs.Timetable.formed.Goals as goal

pub returns : goal.returns
unfolding timetable_formed marks_ok operating_formed waiting_formed
returns c =
    let old = subst (λ (l : GateList). list.Checked l (is_marked c.args.self.now.times.operates) c.formed-listed.result) c.operating.ensures c.formed-listed.ensures in
    let new = subst (λ (l : GateList). list.Checked l (is_marked c.args.self.now.times.waits) c.formed-newlisted.result) c.waiting.ensures c.formed-newlisted.ensures in
    checked c.args.self.now old.places new.places _
    (rw (c.mark_ok.ensures, c.mark_ok-2.ensures, c.mark_ok-3.ensures, c.idle_while_off-idle.ensures, c.config_numbers-old.ensures, old.found, c.waits_in_time-in_time.ensures, c.config_numbers-new.ensures, new.found))
