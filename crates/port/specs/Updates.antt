-- The records that the code makes of a record, field by field: private to the crate but for `with_frame`, which the promise of transmit names. What they mean
-- for the port is in the law files of proofs/.
-- Assumes nothing.
use Rattle.std.specs.Prelude.{ℕ, Bool, true, false, cond, ◌&&◌, List, nat_le, slice_index, slice_set, Ok, Err}
use Rattle.rule.specs.Timetable.{raise}
use Rattle.rule.specs.Acts.{GateAct, Submission, submit, strict}
use Rattle.timetable.specs.declared.Times.{Times}
use Rattle.timetable.specs.declared.Timetable.{Timetable}
use Rattle.timetable.specs.Record.{is_marked}
use Rattle.timetable.specs.Checks.{begun_by}
use Rattle.frames.specs.declared.Frame.{Frame}
use Rattle.frames.specs.Frame.{no_frame}
use Rattle.rule.specs.declared.Refusal.{Refusal}
use Rattle.port.specs.declared.Port.{Port}
use Rattle.port.specs.declared.Acted.{Acted}

-- another frame; another timetable; another frame and other counters
abbrev pub with_frame : Frame → Port → Port
with_frame f p = record { frame = f; gates = p.gates; overruns = p.overruns }

abbrev pub with_gates : Timetable → Port → Port
with_gates g p = record { frame = p.frame; gates = g; overruns = p.overruns }

-- a frame that is there, marked and counted if b
abbrev pub marked_frame : Bool → Frame → Frame
marked_frame b f =
    cond (b && is_marked f.present) (record { present = f.present; class = f.class; counted = 1; start = f.start; last = f.last; end = f.end }) f

abbrev pub counted_for : Bool → Frame → List ℕ → List ℕ
counted_for b f l = cond ((b && is_marked f.present) && nat_le f.class 7) (slice_set l f.class (raise (slice_index l f.class))) l

-- a submission that is strict, or takes the place of what waits; and what 7 says of each
abbrev pub submit_act : Bool → Submission → GateAct
submit_act true x = strict x
submit_act false x = submit x

abbrev pub late_for : Bool → Times → Bool
late_for true x = is_marked x.waits
late_for false x = begun_by x

-- forgotten, if its end has come by t
abbrev pub forgotten_frame : ℕ → Frame → Frame
forgotten_frame t f = cond (is_marked f.present && nat_le f.end t) no_frame f

-- an answer with the port that is handed back
abbrev pub done_with : Port → Acted Unit
done_with p = record { answer = (Ok tt); port = p }

abbrev pub refused_with : Refusal → Port → Acted Unit
refused_with r p = record { answer = Err r; port = p }
