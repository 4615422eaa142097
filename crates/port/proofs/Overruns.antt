-- The record after the overrun test (`tested_none`, `tested_is`).
-- Assumes nothing.
use Rattle.std.proofs.Common.{◌≡◌, ℕ, Bool, List, sym, ap, ◌∙◌, ne_eqb}
use mathlib.Core.Option.{Option, none}
use Rattle.rule.specs.Timetable.{shown, shown_now}
use Rattle.rule.specs.Port as model
use Rattle.timetable.specs.Coding as timetable
use Rattle.frames.specs.declared.Frame.{Frame}
use Rattle.timetable.specs.Coding.{present}
use Rattle.frames.specs.Frame.{decode_frame, encode_frame}
use Rattle.port.specs.declared.Port.{Port}
use Rattle.port.specs.Coding.{decode, encode}
use Rattle.port.specs.Checks.{Fine}
use Rattle.port.specs.Updates.{marked_frame, counted_for}
use Rattle.port.proofs.Coding.{gates-fine, frame-part}
use Rattle.port.proofs.Sending.{marked-is, counted_is}

-- a port with no frame

tested_still : (m : model.Port) → m.frame ≡ none → model.tested m ≡ m
tested_still m e =
    let sending : Option model.Frame → model.Port = λ f. record { gates = m.gates; frame = f; overruns = m.overruns } in
    ap (λ f. model.tested (sending f)) e ∙ ap sending (sym e)

module _ (p : Port) (k : Fine p) where
  -- with no frame being sent the test changes nothing
  none_there : (p.frame.present ≡ 1 → ⊥) → (decode p).frame ≡ none
  unfolding decode decode_frame
  none_there e = rw (ne_eqb p.frame.present 1 e)

  pub tested_none : (p.frame.present ≡ 1 → ⊥) → p ≡ encode (model.tested (decode p))
  tested_none e = sym (ap encode (tested_still (decode p) (none_there e)) ∙ k.whole)

  pub tested_is : (octet : ℕ) → octet ≡ shown (timetable.decode p.gates) p.gates.times.clock → (b : Bool)
      → b ≡ model.overran p.gates.times.clock octet (decode_frame p.frame) → (f : Frame) → f ≡ marked_frame b p.frame
      → (v : List ℕ) → v ≡ counted_for b p.frame p.overruns → record { frame = f; gates = p.gates; overruns = v } ≡ encode (model.tested (decode p))
  unfolding decode encode shown_now timetable.decode
  tested_is octet o b e f i v j =
      let t : ℕ = p.gates.times.clock in
      let z = frame-part p k in
      let c : b ≡ model.overran t (shown (timetable.decode p.gates) t) (decode_frame p.frame) = e ∙ ap (λ n. model.overran t n (decode_frame p.frame)) o in
      let x = i ∙ marked-is b p.frame t z ∙ ap (λ q. encode_frame (model.marked q (decode_frame p.frame))) c in
      let y = j ∙ counted_is b p.frame t p.overruns z ∙ ap (λ q. model.counted q (decode_frame p.frame) p.overruns) c in
      λ n. record { frame = x n; gates = sym (gates-fine p k).whole n; overruns = y n }
