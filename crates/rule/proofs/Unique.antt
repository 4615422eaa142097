-- Each public contract leaves one outcome: two answers that it allows for the same arguments are the same answer.
-- Assumes nothing.
use mathlib.Core.Path.{◌≡◌, sym, ◌∙◌}
use mathlib.Core.Bool.{Bool}
use Prim.Native.Nat.{ℕ}
use Rattle.rule.specs.declared.Refusal.{Refusal}
use Rattle.rule.specs.Refusals.{Answer}
use Rattle.rule.specs.Answers.{Numbers, First}

pub number_unique : (r : Refusal) (n m : ℕ) → Numbers r n → Numbers r m → n ≡ m
number_unique r n m p q = p ∙ sym q

pub first_unique : (test : Bool) (reason : Refusal) (rest x y : Answer) → First test reason rest x → First test reason rest y → x ≡ y
first_unique test reason rest x y p q = p ∙ sym q
