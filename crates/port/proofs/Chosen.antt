-- Document 01, 'Choosing a frame', of a port record: an accepted transmit chooses no frame exactly if no class qualifies (`chooses_none`), the class that it
-- chooses is the highest that does (`chooses_highest`), and its frame begins now, with its duration to the last octet and the gap after it (`chooses_frame`). The record after an accepted transmit
-- stands for the port after the act (`transmit_carried`), and is well formed (`transmit-formed`). Case 9 of document 01 is in the table of crate `rule`, and
-- holds of the record by `transmit_carried`.
-- Assumes nothing.
use Rattle.std.proofs.Common.{◌≡◌, ℕ, ◌+◌, ◌<◌, Bool, true, false, cond, ◌↔◌, List, get_or, sym, refl, ap, ◌∙◌, subst, arith}
use mathlib.Core.Option.{Option, none, some}
use Rattle.rule.specs.declared.Refusal.{Refusal}
use Rattle.rule.specs.Timetable.{shown}
use Rattle.rule.specs.Port as model
use Rattle.rule.specs.Choice.{duration, next_start, qualifies}
use Rattle.rule.specs.Acts.{transmit, performed, perform, is_some}
use Rattle.rule.specs.Orders.{accepts}
use Rattle.rule.proofs.Choice.{Highest, Chosen, chosen_is, chosen_none}
use Rattle.std.specs.Prelude.{Some, None, Ok}
use Rattle.std.specs.Prelude as std
use Rattle.frames.specs.declared.Sending.{Sending}
use Rattle.frames.specs.Decision.{choice_of, choice_values}
use Rattle.frames.proofs.Unique.{choice_told}
use Rattle.port.specs.declared.Port.{Port}
use Rattle.port.specs.declared.Acted.{Acted}
use Rattle.port.specs.Record.{well_formed}
use Rattle.port.specs.Coding.{decode}
use Rattle.port.specs.Checks.{Fine}
use Rattle.port.specs.Acts.{declines}
use Rattle.port.specs.Transmit.{Transmits}
use Rattle.port.proofs.Numbers.{choice_number_lem}
use Rattle.port.proofs.Carried.{port_carried, port-formed}

module _ (heads : List ℕ) (speed : ℕ) (p : Port) (r : Acted (std.Option Sending)) (k : Transmits heads speed p r) where
  module _ (w : well_formed p ≡ true) where
    pub transmit_carried : decode r.port ≡ cond (accepts (transmit heads speed) (decode p)) (perform (transmit heads speed) (decode p)) (decode p)
    transmit_carried = port_carried p w (transmit heads speed) r.port k.port

    pub transmit-formed : Fine p → well_formed r.port ≡ true
    transmit-formed f = port-formed p w (transmit heads speed) f r.port k.port

  -- the class qualifies now, on the record
  abbrev pub qualifies_now : ℕ → Bool
  qualifies_now = qualifies heads speed (decode p).gates.clock (shown (decode p).gates)

  module _ (e : declines (transmit heads speed) p ≡ none) where
    answered : r.answer ≡ choice_of none (performed (transmit heads speed) (decode p)).frame
    answered =
        let o : Option Refusal = declines (transmit heads speed) p in
        let f : Option model.Frame = (performed (transmit heads speed) (decode p)).frame in
        choice_told r.answer (choice_of o f) (k.number ∙ sym (choice_number_lem o f)) k.values ∙ ap (λ d. choice_of d f) e

    pub chooses_none : (r.answer ≡ Ok None) ↔ ((j : ℕ) → j < 8 → qualifies_now j ≡ false)
    chooses_none =
        let c = chosen_none heads speed (decode p).gates.clock (shown (decode p).gates) in (
          λ a. c.0 (empty (performed (transmit heads speed) (decode p)).frame (sym answered ∙ a)),
          λ f. answered ∙ nothing (performed (transmit heads speed) (decode p)).frame (c.1 f),
        )
      where
        empty : (o : Option model.Frame) → choice_of none o ≡ Ok None → is_some o ≡ false
        empty none q = refl
        empty (some f) q = let z : ◌≡◌ {A = ℕ} 0 1 = cc in absurd (omega arith)

        nothing : (o : Option model.Frame) → is_some o ≡ false → choice_of none o ≡ Ok None
        nothing none q = refl
        nothing (some f) q = let z : ◌≡◌ {A = ℕ} 0 1 = cc in absurd (omega arith)

    -- the instants of a frame of this class that begins now
    abbrev pub Timed : ℕ → ℕ → ℕ → ℕ → Type 0
    Timed class start last end =
        let now : ℕ = (decode p).gates.clock in
        let len : ℕ = get_or heads class 0 in
        (start ≡ now) × ((last ≡ now + duration len speed) × (end ≡ now + next_start len speed))

    module _ (class start last end : ℕ) (a : r.answer ≡ Ok (Some (record { class = class; start = start; last = last; end = end }))) where
      framed : (o : Option model.Frame) → choice_of none o ≡ Ok (Some (record { class = class; start = start; last = last; end = end })) → Chosen heads speed (decode p).gates.clock qualifies_now o
          → Highest qualifies_now 8 (some class) × Timed class start last end
      framed none q c = let z : ◌≡◌ {A = ℕ} 0 1 = cc in absurd (omega arith)
      framed (some f) q c =
          let x : f.class ≡ class = ap (λ r. get_or (choice_values r) 1 0) q in
          let y : f.start ≡ start = ap (λ r. get_or (choice_values r) 2 0) q in
          let z : f.last ≡ last = ap (λ r. get_or (choice_values r) 3 0) q in
          let v : f.end ≡ end = ap (λ r. get_or (choice_values r) 4 0) q in (
            subst (λ n. Highest qualifies_now 8 (some n)) x c.0,
            (
              sym y ∙ ap (λ (g : model.Frame). g.start) c.1,
              (
                sym z ∙ ap (λ (g : model.Frame). g.last) c.1 ∙ ap (λ n. (decode p).gates.clock + duration (get_or heads n 0) speed) x,
                sym v ∙ ap (λ (g : model.Frame). g.end) c.1 ∙ ap (λ n. (decode p).gates.clock + next_start (get_or heads n 0) speed) x,
              ),
            ),
          )

      pub chooses_highest : Highest qualifies_now 8 (some class)
      chooses_highest =
          (framed (performed (transmit heads speed) (decode p)).frame (sym answered ∙ a)
          (chosen_is heads speed (decode p).gates.clock (shown (decode p).gates))).0

      pub chooses_frame : Timed class start last end
      chooses_frame =
          (framed (performed (transmit heads speed) (decode p)).frame (sym answered ∙ a)
          (chosen_is heads speed (decode p).gates.clock (shown (decode p).gates))).1
