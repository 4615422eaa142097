-- `port::submitting::submitted` meets its contract: refused in the order of Submit, or with the numbers that crate `submission` places and the list's places where
-- they belong, and then the overrun test, if a frame is being sent.
-- Assumes nothing.
use Rattle.std.proofs.Common.{◌≡◌, ◌∙◌, ap, true, Bool, rules}
use mathlib.Core.Path.{subst}
use Rattle.std.specs.Prelude.{Ok, Err}
use Rattle.rule.specs.Refusals.{Answer}
use Rattle.rule.specs.declared.Refusal.{Refusal}
use Rattle.rule.specs.Port as model
use Rattle.rule.specs.Answers.{answer_of}
use Rattle.rule.specs.Acts.{Act, gates, performed}
use Rattle.rule.specs.Orders.{accepts}
use Rattle.gatelist.specs.declared.GateList.{GateList}
use Rattle.gatelist.specs.declared.Entries.{Entries}
use Rattle.gatelist.specs.Coding.{lent, list_of}
use Rattle.gatelist.specs.Places.{Places, cleaned_list}
use Rattle.timetable.specs.declared.Times.{Times}
use Rattle.timetable.specs.declared.Timetable.{Timetable}
use Rattle.submission.specs.declared.Submission.{Submission}
use Rattle.submission.specs.Judgement.{submission_of, Judges}
use Rattle.submission.specs.Placement.{placed_times, listed_in}
use Rattle.port.specs.declared.Port.{Port}
use Rattle.port.specs.declared.Acted.{Acted}
use Rattle.port.specs.Record.{well_formed}
use Rattle.port.specs.Coding.{decode, encode}
use Rattle.port.specs.Checks.{Fine, Checked}
use Rattle.port.specs.Acts.{declines, Performs}
use Rattle.port.specs.Updates.{submit_act, with_gates, late_for, done_with}
use Rattle.port.proofs.Performing.{act-refused, act-accepted, act-fine, act-done, act_quiet}
use Rattle.port.proofs.Submissions.{judged-is, placed-gates}
use Rattle.port.proofs.submitting.submitted.Goals as goal

module _ (strict : Bool) (p : Port) (l : GateList) (s : Submission) (sound late : Bool) (r : Answer) (w : Checked p sound) (e : Entries) (q : lent e ≡ l)
    (i : late ≡ late_for strict p.gates.times) (j : Judges p.gates.times sound late e.intervals.now e.len s r) where
  abbrev act : Act
  act = gates (submit_act strict (submission_of (list_of l) s))

  told : r ≡ answer_of (declines act p)
  told = judged-is strict p l s sound late r w.is i (subst (λ (x : GateList). Judges p.gates.times sound late x.intervals x.len s r) q j)

  submit_refused : (reason : Refusal) → r ≡ Err reason → Performs act p (record { answer = r; port = p })
  submit_refused = act-refused act p r told

  -- accepted: the record that it leaves is the act's
  module _ (d : r ≡ Ok tt) (u : Places l) (x : Times) (y : x ≡ placed_times l.len s p.gates.times) (g : Timetable) (z : g ≡ listed_in (cleaned_list l) x p.gates) where
    passed : (well_formed p ≡ true) × (accepts act (decode p) ≡ true)
    passed = act-accepted act p r told d

    fits : Fine p
    fits = w.fine (w.is ∙ passed.0)

    made : with_gates g p ≡ encode (performed act (decode p))
    made = ap (λ h. with_gates h p) (z ∙ ap (λ v. listed_in (cleaned_list l) v p.gates) y) ∙ placed-gates strict p fits l u s passed.1

    submit_fine : Fine (with_gates g p)
    submit_fine = act-fine act p fits passed.1 (with_gates g p) made

    submit_done : (a : Acted Unit) → a ≡ done_with (encode (model.tested (decode (with_gates g p)))) → Performs act p a
    submit_done a = act-done act p fits passed.1 (with_gates g p) made a passed.0

    submit_quiet : (p.frame.present ≡ 1 → ⊥) → Performs act p (record { answer = r; port = with_gates g p })
    submit_quiet = act_quiet act p fits passed.1 (with_gates g p) made r d passed.0

pub returns-in-Err : goal.returns-in-Err
returns-in-Err c = search (submit_refused)

pub done-requires : goal.done-requires
done-requires c = let u : Places c.args.list = record { octets = search rules; intervals = search rules } in search (submit_fine, u)

pub returns-then-p-eq1 : goal.returns-then-p-eq1
returns-then-p-eq1 c = let u : Places c.args.list = record { octets = search rules; intervals = search rules } in search (submit_done, u)

pub returns : goal.returns
returns c = let u : Places c.args.list = record { octets = search rules; intervals = search rules } in search (submit_quiet, u)
