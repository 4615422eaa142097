-- Transmit on a record: what crate `frames` decides is what the act does, and nothing but the frame changes.
-- Assumes nothing.
use Rattle.std.proofs.Common.{◌≡◌, ℕ, false, cond, List, sym, refl, ap, ◌∙◌}
use mathlib.Core.Option.{Option, none, some}
use Rattle.rule.specs.declared.Refusal.{Refusal}
use Rattle.rule.specs.Refusals.{accepted}
use Rattle.rule.specs.Timetable.{shown, shown_now}
use Rattle.rule.specs.Port as model
use Rattle.rule.specs.Acts.{transmit, performed, perform}
use Rattle.rule.proofs.Jump.{marked_no, counted_no}
use Rattle.rule.proofs.Undisturbed.{open_test, open_chosen}
use Rattle.timetable.specs.Coding as timetable
use Rattle.frames.specs.declared.Frame.{Frame}
use Rattle.frames.specs.declared.Decided.{Decided}
use Rattle.frames.specs.Frame.{encode_frame}
use Rattle.frames.specs.Choosing.{begun}
use Rattle.frames.specs.Decision.{choice_of, choice_number, choice_values}
use Rattle.frames.specs.Deciding.{send_declines, Decides}
use Rattle.port.specs.declared.Port.{Port}
use Rattle.port.specs.Record.{well_formed}
use Rattle.port.specs.Coding.{decode, encode}
use Rattle.port.specs.Checks.{Fine}
use Rattle.port.specs.Acts.{declines, after}
use Rattle.port.specs.Transmit.{Stores}
use Rattle.port.specs.Updates.{with_frame}
use Rattle.port.proofs.Numbers.{choice_number_lem}
use Rattle.port.proofs.Coding.{fine_parts}

module _ (heads : List ℕ) (speed : ℕ) (m : model.Port) where
  abbrev sends : Option model.Frame
  sends = (performed (transmit heads speed) m).frame

  -- the gate of a chosen class is open until its frame ends, so the overrun test finds nothing
  sends-fits : model.overran m.gates.clock (shown_now m.gates) sends ≡ false
  unfolding shown_now
  sends-fits = open_test (shown m.gates) m.gates.clock sends (open_chosen heads speed m.gates.clock (shown m.gates))

  pub transmit-perform : perform (transmit heads speed) m ≡ record { gates = m.gates; frame = sends; overruns = m.overruns }
  unfolding perform
  transmit-perform =
      ap (λ b. record { gates = m.gates; frame = model.marked b sends; overruns = model.counted b sends m.overruns }) sends-fits
      ∙ (λ i. record { gates = m.gates; frame = marked_no sends i; overruns = counted_no sends m.overruns i })

-- a decision on the record's parts is the act on the record

module _ (heads : List ℕ) (speed : ℕ) (p : Port) where
  module _ (r : Decided) (k : Decides heads speed p.gates p.frame r) where
    answered : r.answer ≡ choice_of (declines (transmit heads speed) p) (performed (transmit heads speed) (decode p)).frame
    unfolding declines send_declines well_formed decode
    answered = k.answer

    stored : with_frame r.frame p ≡ after (transmit heads speed) p
    unfolding after declines send_declines well_formed decode
    stored = go (send_declines heads speed p.gates p.frame) refl
      where
        f : Option model.Frame
        f = begun heads speed (timetable.decode p.gates)

        framed : Fine p → with_frame (encode_frame f) p ≡ encode (record { gates = (decode p).gates; frame = f; overruns = (decode p).overruns })
        framed q = unfold decode encode in ap (with_frame (encode_frame f)) (sym q.whole)

        go : (o : Option Refusal) → send_declines heads speed p.gates p.frame ≡ o
            → with_frame r.frame p ≡ cond (accepted (send_declines heads speed p.gates p.frame)) (encode (perform (transmit heads speed) (decode p))) p
        go none e =
            let z = k.fine e in
            ap (λ (h : Frame). with_frame h p) (k.frame ∙ ap (λ o. cond (accepted o) (encode_frame f) p.frame) e)
            ∙ framed (fine_parts p z.0 z.1)
            ∙ ap encode (sym (transmit-perform heads speed (decode p)))
            ∙ sym (ap (λ o. cond (accepted o) (encode (perform (transmit heads speed) (decode p))) p) e)
        go (some w) e =
            ap (λ (h : Frame). with_frame h p) (k.frame ∙ ap (λ o. cond (accepted o) (encode_frame f) p.frame) e)
            ∙ sym (ap (λ o. cond (accepted o) (encode (perform (transmit heads speed) (decode p))) p) e)

    pub transmit_stores : Stores heads speed p (record { answer = r.answer; port = with_frame r.frame p })
    transmit_stores = record {
      transmits = record {
        number = ap choice_number answered ∙ choice_number_lem (declines (transmit heads speed) p) (performed (transmit heads speed) (decode p)).frame;
        values = ap choice_values answered;
        port = stored;
      };
      rest = refl;
    }
