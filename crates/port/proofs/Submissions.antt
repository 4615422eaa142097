-- A submission on a record, strict or not: what crate `submission` judges is the order of the act, and where it places the configuration is what the act does.
-- Assumes nothing.
use Rattle.std.proofs.Common.{◌≡◌, Bool, true, false, not, List, ◌∷◌, sym, refl, ap, ◌∙◌}
use Rattle.rule.specs.declared.Refusal.TheVariants.{MalformedPort}
use Rattle.rule.specs.Refusals.{first_of, Answer}
use Rattle.rule.specs.Answers.{answer_of}
use Rattle.rule.specs.Entries.{Entry}
use Rattle.rule.specs.Timetable.{Timetable}
use Rattle.rule.specs.Acts as model
use Rattle.rule.specs.Acts.{GateAct, is_some, gates, submitted, perform_gates, performed}
use Rattle.rule.specs.Orders.{last_begun, submit_order, gate_order, accepts_gates, accepts}
use Rattle.rule.proofs.Orders.{PassedSubmit, submit_passed, strict_passed}
use Rattle.gatelist.specs.declared.GateList.{GateList}
use Rattle.gatelist.specs.Coding.{list_of}
use Rattle.gatelist.specs.Places.{cleaned_list, Places}
use Rattle.timetable.specs.declared.Times.{Times}
use Rattle.timetable.specs.Record.{is_marked, old_list, new_list}
use Rattle.timetable.specs.Coding as timetable
use Rattle.timetable.proofs.Coding.{mark_there}
use Rattle.timetable.proofs.Beginnings.{begun-any}
use Rattle.submission.specs.declared.Submission.{Submission}
use Rattle.submission.specs.Judgement.{submission_of, Judges}
use Rattle.submission.specs.Placement.{placed_times, listed_in}
use Rattle.submission.proofs.Placing.{placed-is}
use Rattle.port.specs.declared.Port.{Port}
use Rattle.port.specs.Record.{well_formed}
use Rattle.port.specs.Coding.{decode, encode}
use Rattle.port.specs.Checks.{Fine}
use Rattle.port.specs.Acts.{declines}
use Rattle.port.specs.Updates.{with_gates, submit_act, late_for}
use Rattle.port.proofs.Coding.{gates-fine}
use Rattle.port.proofs.Performing.{gates-is}

-- what 7 says of the timetable
late : Bool → Timetable → Bool
late true p = is_some p.waiting
late false p = last_begun p.clock p.operating p.waiting

late_is : (s : Bool) (x : Times) (old new : List Entry) → late_for s x ≡ late s (timetable.timetable_of x old new)
unfolding late
late_is true x old new = sym (mark_there (is_marked x.waits) (timetable.new_waiting x new))
late_is false x old new = begun-any x old new

-- the order, what an accepted one has passed, and what it does, are alike for both
order_is : (s : Bool) (x : model.Submission) (p : Timetable) → submit_order (late s p) x p ≡ gate_order (submit_act s x) p
unfolding late
order_is true x p = refl
order_is false x p = refl

passed_by : (s : Bool) (x : model.Submission) (p : Timetable) → accepts_gates (submit_act s x) p ≡ true → PassedSubmit (late s p) x p
unfolding late
passed_by true x p e = strict_passed x p e
passed_by false x p e = submit_passed x p e

performs_both : (s : Bool) (x : model.Submission) (p : Timetable) → submitted x p ≡ perform_gates (submit_act s x) p
performs_both true x p = refl
performs_both false x p = refl

module _ (strict : Bool) (p : Port) (list : GateList) (s : Submission) where
  abbrev x : model.Submission
  x = submission_of (list_of list) s

  pub judged-is : (good too_late : Bool) (r : Answer) → good ≡ well_formed p → too_late ≡ late_for strict p.gates.times
      → Judges p.gates.times good too_late list.intervals list.len s r
      → r ≡ answer_of (declines (gates (submit_act strict x)) p)
  unfolding declines decode timetable.decode
  judged-is good too_late r e f k =
      let m : Timetable = timetable.decode p.gates in
      k.is list.octets s.extension (list_of (old_list p.gates)) (list_of (new_list p.gates))
      ∙ (λ i. answer_of (first_of ((not (e i), MalformedPort) ∷ submit_order (f i) x m)))
      ∙ ap (λ b. answer_of (first_of ((not (well_formed p), MalformedPort) ∷ submit_order b x m)))
      (late_is strict p.gates.times (list_of (old_list p.gates)) (list_of (new_list p.gates)))
      ∙ ap (λ l. answer_of (first_of ((not (well_formed p), MalformedPort) ∷ l))) (order_is strict x m)

-- the record with the numbers and the list that an accepted submission brings
pub placed-gates : (strict : Bool) (p : Port) → Fine p → (list : GateList) → Places list → (s : Submission)
    → accepts (gates (submit_act strict (submission_of (list_of list) s))) (decode p) ≡ true
    → with_gates (listed_in (cleaned_list list) (placed_times list.len s p.gates.times) p.gates) p ≡ encode (performed (gates (submit_act strict (submission_of (list_of list) s))) (decode p))
unfolding accepts decode
placed-gates strict p k list u s e =
    let m : Timetable = timetable.decode p.gates in
    let x : model.Submission = submission_of (list_of list) s in
    gates-is (submit_act strict x) p _ k
    (placed-is p.gates (gates-fine p k) list u s (late strict m) (passed_by strict x m (unfold accepts_gates in e))
    ∙ ap timetable.encode (performs_both strict x m))
