-- The order of Submit as the code evaluates it, test by test.
-- Assumes nothing.
use Rattle.std.proofs.Common.{◌≡◌, ℕ, Bool, not, ltb, List, [], ◌∷◌, sym, ◌∙◌}
use Rattle.rule.specs.Limits.{largest_instant}
use Rattle.rule.specs.declared.Refusal.TheVariants.{ZeroInterval, ListLength, SwitchedOff, ChangeWaits, CycleTime, AboveLargest, MalformedPort}
use Rattle.rule.specs.Refusals.{first_of, Answer}
use Rattle.rule.specs.Answers.{answer_of}
use Rattle.rule.specs.Cycle.{cycle_offered}
use Rattle.rule.specs.Orders.{length_offered, submit_order}
use Rattle.gatelist.specs.Coding.{entry_of}
use Rattle.gatelist.specs.Promises.{FindsZero}
use Rattle.gatelist.proofs.Coding.{length_from}
use Rattle.gatelist.proofs.Sound.{zero_listed}
use Rattle.timetable.specs.declared.Times.{Times}
use Rattle.timetable.specs.Record.{is_marked}
use Rattle.submission.specs.declared.Submission.{Submission}
use Rattle.submission.specs.Judgement.{Judges}

module _ (x : Times) (formed too_late : Bool) (vs : List ℕ) (n : ℕ) (s : Submission) where
  -- what the code finds, in the order of its tests
  pub judges : (r : Answer) (cycle entries zero : Bool) → cycle ≡ cycle_offered s.numerator s.denominator → entries ≡ length_offered n → FindsZero vs n zero
      → r ≡ answer_of (first_of ((not formed, MalformedPort) ∷ (not (is_marked x.on), SwitchedOff) ∷ (too_late, ChangeWaits) ∷ (not cycle, CycleTime)
      ∷ (ltb largest_instant s.base, AboveLargest) ∷ (not entries, ListLength) ∷ (zero, ZeroInterval) ∷ []))
      → Judges x formed too_late vs n s r
  unfolding submit_order
  judges r cycle entries zero p q z e = record {
    is = λ os extension old new. e ∙ rw (p, q, zero_listed os vs n zero z) (sym (rw (length_from (entry_of os vs) 0 n)));
  }
