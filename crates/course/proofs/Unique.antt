-- The contract of `travel` leaves one outcome: two answers that it allows for one input are equal, and so is what either leaves in the lent buffers.
-- Assumes nothing.
use Rattle.std.proofs.Common.{◌≡◌, ℕ, Bool, List, sym, ◌∙◌}
use Rattle.timetable.specs.declared.Timetable.{Timetable}
use Rattle.std.specs.Prelude.{Result}
use Rattle.rule.specs.declared.Refusal.{Refusal}
use Rattle.course.specs.declared.Reached.{Reached}
use Rattle.course.specs.Travel.{Travels}

pub travels_unique : (fit : Bool) (longest goal : ℕ) (g : Timetable) (at os at₁ at₂ os₁ os₂ : List ℕ) (r s : Result Reached Refusal)
    → Travels fit longest goal g at at₁ os os₁ r → Travels fit longest goal g at at₂ os os₂ s → (r ≡ s) × ((at₁ ≡ at₂) × (os₁ ≡ os₂))
travels_unique fit longest goal g at os at₁ at₂ os₁ os₂ r s k l =
    (k.answer ∙ sym l.answer, (k.instants ∙ sym l.instants, k.octets ∙ sym l.octets))
