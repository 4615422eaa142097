-- Each contract leaves one outcome: `judged` promises `Judges`, `placed` an equation.
-- Assumes nothing.
use Rattle.std.proofs.Common.{◌≡◌, ℕ, Bool, List, [], sym, ◌∙◌}
use Rattle.rule.specs.Refusals.{Answer}
use Rattle.timetable.specs.declared.Times.{Times}
use Rattle.submission.specs.declared.Submission.{Submission}
use Rattle.submission.specs.Judgement.{Judges}

pub judges_unique : (x : Times) (formed too_late : Bool) (vs : List ℕ) (n : ℕ) (s : Submission) (a b : Answer)
    → Judges x formed too_late vs n s a → Judges x formed too_late vs n s b → a ≡ b
judges_unique x formed too_late vs n s a b k l = k.is [] 0 [] [] ∙ sym (l.is [] 0 [] [])

pub placed_unique : (v r s : Times) → r ≡ v → s ≡ v → r ≡ s
placed_unique v r s k l = k ∙ sym l
