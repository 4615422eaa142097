-- Document 01, the order of Submit: 14, 6, 7, 8, 9, 5, 4. Only the mark of a timetable has a part in it, what 7 says of it, and of the list its length and its
-- intervals.
-- Assumes nothing.
use Rattle.std.specs.Prelude.{◌≡◌, ℕ, Bool, not, List, ◌∷◌}
use Rattle.rule.specs.declared.Refusal.TheVariants.{MalformedPort}
use Rattle.rule.specs.Refusals.{first_of, Answer}
use Rattle.rule.specs.Answers.{answer_of}
use Rattle.rule.specs.Entries.{Entry}
use Rattle.rule.specs.Acts as act
use Rattle.rule.specs.Orders.{submit_order}
use Rattle.gatelist.specs.Coding.{entries_from}
use Rattle.timetable.specs.declared.Times.{Times}
use Rattle.timetable.specs.Coding.{timetable_of}
use Rattle.submission.specs.declared.Submission.{Submission}

-- what is submitted, with its list; and with another extension
abbrev pub submission_of : List Entry → Submission → act.Submission
submission_of l s = record { numerator = s.numerator; denominator = s.denominator; extension = s.extension; base = s.base; list = l }

abbrev pub extended : ℕ → Submission → Submission
extended e s = record { numerator = s.numerator; denominator = s.denominator; extension = e; base = s.base }

-- the refusal, whatever the octets of the list, the extension and the lists of the timetable are
pub record Judges (x : Times) (formed too_late : Bool) (vs : List ℕ) (n : ℕ) (s : Submission) (r : Answer) : Type 0 where
  pub is : (os : List ℕ) (extension : ℕ) (old new : List Entry) → r ≡ answer_of (first_of ((not formed, MalformedPort)
      ∷ submit_order too_late (submission_of (entries_from os vs 0 n) (extended extension s)) (timetable_of x old new)))
