-- The frame's record stands for document 01's frame being sent; and the sentence on 14, as far as it concerns the frame. An absent frame is all zeros; a
-- mark is 0 or 1.
-- Assumes nothing.
use Rattle.std.specs.Prelude.{Bool, ◌&&◌, ℕ, ◌-◌, leb, ltb, eqb}
use Rattle.std.proofs.Math.Option.{Option, none, some}
use Rattle.rule.specs.Limits.{longest_span}
use Rattle.rule.specs.Port as model
use Rattle.timetable.specs.Record.{either, mark_ok, is_marked}
use Rattle.timetable.specs.Coding.{present, mark_of}
use Rattle.frames.specs.declared.Frame.{Frame}

-- from the record and to it

abbrev pub sent_frame : Frame → model.Frame
sent_frame f = record { class = f.class; start = f.start; last = f.last; end = f.end; counted = is_marked f.counted }

unfoldable pub decode_frame : Frame → Option model.Frame
decode_frame f = present (is_marked f.present) (sent_frame f)

abbrev pub no_frame : Frame
no_frame = record { present = 0; class = 0; counted = 0; start = 0; last = 0; end = 0 }

abbrev pub encode_frame : Option model.Frame → Frame
encode_frame none = no_frame
encode_frame (some f) = record { present = 1; class = f.class; counted = mark_of f.counted; start = f.start; last = f.last; end = f.end }

-- 14

-- frame class at most 7, start ≤ t < end, start < last < end, end − start ≤ 1,616,000
unfoldable pub frame_ok : Frame → ℕ → Bool
frame_ok f t =
    leb f.class 7 && (leb f.start t && (ltb t f.end && (ltb f.start f.last && (ltb f.last f.end && leb (f.end - f.start) longest_span))))

-- an absent frame is all zeros
unfoldable pub frame_none : Frame → Bool
frame_none f = eqb f.class 0 && (eqb f.start 0 && (eqb f.last 0 && (eqb f.end 0 && eqb f.counted 0)))

unfoldable pub frame_formed : Frame → ℕ → Bool
frame_formed f t = (mark_ok f.present && mark_ok f.counted) && either (is_marked f.present) (frame_ok f t) (frame_none f)
