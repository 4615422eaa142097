-- Each way out of an act, refused or done; and what an act on the gates makes of the record.
-- Assumes nothing.
use Rattle.std.proofs.Common.{◌≡◌, Bool, true, false, cond, not, sym, refl, ap, ◌∙◌, true≢false}
use mathlib.Core.Option.{Option, none, some}
use Rattle.std.specs.Prelude.{Ok, Err}
use Rattle.std.specs.Result.{is_ok}
use Rattle.rule.specs.declared.Refusal.{Refusal}
use Rattle.rule.specs.declared.Refusal.TheVariants.{MalformedPort}
use Rattle.rule.specs.Refusals.{first_of, accepted, answer_number, Answer}
use Rattle.rule.specs.Answers.{answer_of}
use Rattle.rule.specs.Acts.{Act, GateAct, gates, perform_gates, performed, perform}
use Rattle.rule.specs.Orders.{act_order, accepts}
use Rattle.rule.specs.Port as model
use Rattle.rule.proofs.Sound.{performed-sound}
use Rattle.timetable.specs.declared.Timetable.{Timetable}
use Rattle.timetable.specs.Coding as timetable
use Rattle.timetable.specs.Checks as checks
use Rattle.port.specs.declared.Port.{Port}
use Rattle.port.specs.declared.Acted.{Acted}
use Rattle.port.specs.Record.{well_formed}
use Rattle.port.specs.Coding.{decode, encode}
use Rattle.port.specs.Checks.{Fine, Checked}
use Rattle.port.specs.Acts.{declines, after, Performs}
use Rattle.port.specs.Updates.{done_with, with_gates}
use Rattle.port.proofs.Numbers.{number_of_lem}
use Rattle.port.proofs.Coding.{decode-encode, encoded_fine, gates-fine}
use Rattle.port.proofs.Overruns.{tested_none}

-- an act

accepted_none : (o : Option Refusal) → accepted o ≡ true → o ≡ none
accepted_none none e = refl
accepted_none (some r) e = absurd (true≢false (sym e))

accepted_ok : (o : Option Refusal) → accepted o ≡ is_ok (answer_of o)
accepted_ok none = refl
accepted_ok (some r) = refl

module _ (a : Act) (p : Port) where
  -- by its answer
  performs_by : (r : Acted Unit) → r.answer ≡ answer_of (declines a p) → r.port ≡ after a p → Performs a p r
  performs_by r e q = record { number = ap answer_number e ∙ number_of_lem (declines a p); port = q }

  module _ (k : Fine p) (e : accepts a (decode p) ≡ true) (q : Port) (h : q ≡ encode (performed a (decode p))) where
    pub act-fine : Fine q
    act-fine = encoded_fine (performed a (decode p)) q (performed-sound a (decode p) e k.sound) h

    pub act-done : (r : Acted Unit) → well_formed p ≡ true → r ≡ done_with (encode (model.tested (decode q))) → Performs a p r
    unfolding declines after perform accepts
    act-done r w l =
        let z : first_of (act_order a (decode p)) ≡ none = accepted_none (first_of (act_order a (decode p))) e in
        let d : decode q ≡ performed a (decode p) = ap decode h ∙ decode-encode (performed a (decode p)) in
        performs_by r (ap (λ (x : Acted Unit). x.answer) l ∙ sym (rw (w, z)))
        (ap (λ (x : Acted Unit). x.port) l ∙ ap (λ m. encode (model.tested m)) d ∙ sym (rw (w, z)))

    -- with no frame being sent the overrun test finds nothing
    pub act_quiet : (answer : Answer) → answer ≡ (Ok tt) → well_formed p ≡ true → (q.frame.present ≡ 1 → ⊥) → Performs a p (record { answer = answer; port = q })
    act_quiet answer d w f =
        act-done (record { answer = answer; port = q }) w (λ i. record { answer = d i; port = tested_none q act-fine f i })

  module _ (answer : Answer) (is : answer ≡ answer_of (declines a p)) where
    pub act-refused : (r : Refusal) → answer ≡ Err r → Performs a p (record { answer = answer; port = p })
    unfolding after
    act-refused r e = let z = accepted_ok (declines a p) ∙ ap is_ok (sym is ∙ e) in performs_by (record { answer = answer; port = p }) is (rw z)

    pub act-accepted : answer ≡ (Ok tt) → (well_formed p ≡ true) × (accepts a (decode p) ≡ true)
    unfolding declines accepts
    act-accepted e = go (well_formed p) (accepted_ok (declines a p) ∙ ap is_ok (sym is ∙ e))
      where
        go : (b : Bool) → accepted (cond (not b) (some MalformedPort) (first_of (act_order a (decode p)))) ≡ true
            → (b ≡ true) × (accepted (first_of (act_order a (decode p))) ≡ true)
        go true x = (refl, x)
        go false x = absurd (true≢false (sym x))

-- an act on the gates makes of the record what it makes of its timetable
pub gates-is : (a : GateAct) (p : Port) (g : Timetable) → Fine p → g ≡ timetable.encode (perform_gates a (timetable.decode p.gates))
    → with_gates g p ≡ encode (performed (gates a) (decode p))
unfolding decode encode
gates-is a p g k e = λ i. record { frame = ap (λ (q : Port). q.frame) (sym k.whole) i; gates = e i; overruns = p.overruns }

-- after an act on the gates that no order refuses it is fine
pub acted_fine : (a : GateAct) (p : Port) (b : Bool) → Checked p b → b ≡ true → accepts (gates a) (decode p) ≡ true → (g : Timetable)
    → (checks.Fine p.gates → g ≡ timetable.encode (perform_gates a (timetable.decode p.gates))) → Fine (with_gates g p)
acted_fine a p b w e u g is = let k = w.fine e in act-fine (gates a) p k u (with_gates g p) (gates-is a p g k (is (gates-fine p k)))
