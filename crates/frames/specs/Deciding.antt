-- What `decide` promises, from a timetable's record and the frame's. The order is 14, 13, 17, 12; a refused transmit keeps the frame that it got.
-- Assumes nothing.
use Rattle.std.specs.Prelude.{◌≡◌, cond, not, ◌&&◌, List, ◌∷◌, ℕ}
use Rattle.std.proofs.Math.Option.{Option, none}
use Rattle.rule.specs.declared.Refusal.{Refusal}
use Rattle.rule.specs.declared.Refusal.TheVariants.{MalformedPort}
use Rattle.rule.specs.Refusals.{first_of, accepted, Answer}
use Rattle.rule.specs.Answers.{answer_of}
use Rattle.rule.specs.Orders.{transmit_order}
use Rattle.rule.proofs.Soundness.{SoundFrame}
use Rattle.timetable.specs.declared.Timetable.{Timetable}
use Rattle.timetable.specs.Record.{timetable_formed}
use Rattle.timetable.specs.Coding.{decode}
use Rattle.timetable.specs.Checks.{Fine}
use Rattle.frames.specs.declared.Frame.{Frame}
use Rattle.frames.specs.declared.Decided.{Decided}
use Rattle.frames.specs.Frame.{decode_frame, encode_frame, frame_formed}
use Rattle.frames.specs.Choosing.{Offered, begun}
use Rattle.frames.specs.Decision.{choice_of}

-- a record that is the encoding of a sound frame
pub record FineFrame (f : Frame) (t : ℕ) : Type 0 where
  pub whole : encode_frame (decode_frame f) ≡ f
  pub sound : SoundFrame t (decode_frame f)

-- what it declines with
unfoldable pub send_declines : List ℕ → ℕ → Timetable → Frame → Option Refusal
send_declines heads speed g f =
    first_of ((not (timetable_formed g && frame_formed f g.times.clock), MalformedPort) ∷ transmit_order heads speed (decode_frame f))

-- the answer of the order, and what is known where nothing is declined
pub record Declines (heads : List ℕ) (speed : ℕ) (g : Timetable) (f : Frame) (r : Answer) : Type 0 where
  pub is : r ≡ answer_of (send_declines heads speed g f)
  pub fine : send_declines heads speed g f ≡ none → Fine g × FineFrame f g.times.clock
  pub offered : send_declines heads speed g f ≡ none → Offered heads speed

pub record Decides (heads : List ℕ) (speed : ℕ) (g : Timetable) (f : Frame) (r : Decided) : Type 0 where
  pub answer : r.answer ≡ choice_of (send_declines heads speed g f) (begun heads speed (decode g))
  pub frame : r.frame ≡ cond (accepted (send_declines heads speed g f)) (encode_frame (begun heads speed (decode g))) f
  pub fine : send_declines heads speed g f ≡ none → Fine g × FineFrame f g.times.clock
