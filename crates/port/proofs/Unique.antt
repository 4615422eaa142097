-- Each contract of a public call leaves one outcome: two outcomes that it allows for one input are equal. `on`, `off`, `standing` and `submit` have the
-- contract `Performs`, `step` has `Steps`, `look` has `Looks`, `new` has `Makes`, `transmit` has `Transmits` within `Stores`. Only a step lends memory: its
-- two buffers.
-- Assumes nothing.
use Rattle.std.proofs.Common.{◌≡◌, ℕ, List, sym, ◌∙◌}
use Rattle.rule.specs.Acts.{Act}
use Rattle.rule.specs.declared.Refusal.{Refusal}
use Rattle.std.specs.Prelude.{Result, Option}
use Rattle.frames.specs.declared.Sending.{Sending}
use Rattle.frames.proofs.Unique.{choice_told}
use Rattle.port.specs.declared.Port.{Port}
use Rattle.port.specs.declared.Acted.{Acted}
use Rattle.port.specs.Acts.{Performs, Looks, Makes}
use Rattle.port.specs.Step.{Steps}
use Rattle.port.specs.Transmit.{Transmits}
use Rattle.port.proofs.Numbers.{answer-told, looked_told, stepped-told}

-- two outcomes with the same answer and the same port are one
same-acted : {A : Type 0} (r s : Acted A) → r.answer ≡ s.answer → r.port ≡ s.port → r ≡ s
same-acted r s e f i = record { answer = e i; port = f i }

pub performs_unique : (a : Act) (p : Port) (r s : Acted Unit) → Performs a p r → Performs a p s → r ≡ s
performs_unique a p r s k l = same-acted r s (answer-told r.answer s.answer (k.number ∙ sym l.number)) (k.port ∙ sym l.port)

pub makes_unique : (start octet : ℕ) (r s : Acted Unit) → Makes start octet r → Makes start octet s → r ≡ s
makes_unique start octet r s k l = same-acted r s (answer-told r.answer s.answer (k.number ∙ sym l.number)) (k.port ∙ sym l.port)

pub looks_unique : (p : Port) (t : ℕ) (r s : Result ℕ Refusal) → Looks p t r → Looks p t s → r ≡ s
looks_unique p t r s k l = looked_told r s (k.number ∙ sym l.number) (k.octet ∙ sym l.octet)

pub steps_unique : (p : Port) (goal : ℕ) (at os : List ℕ) (r : Acted ℕ) (at₁ os₁ : List ℕ) (s : Acted ℕ) (at₂ os₂ : List ℕ)
    → Steps p goal at at₁ os os₁ r → Steps p goal at at₂ os os₂ s → (r ≡ s) × ((at₁ ≡ at₂) × (os₁ ≡ os₂))
steps_unique p goal at os r at₁ os₁ s at₂ os₂ k l =
    let e = stepped-told r.answer s.answer (k.number ∙ sym l.number) (k.written ∙ sym l.written) in
    (same-acted r s e (k.port ∙ sym l.port), (k.instants ∙ sym l.instants, k.octets ∙ sym l.octets))

pub transmits_unique : (heads : List ℕ) (speed : ℕ) (p : Port) (r s : Acted (Option Sending)) → Transmits heads speed p r → Transmits heads speed p s → r ≡ s
transmits_unique heads speed p r s k l =
    let e = choice_told r.answer s.answer (k.number ∙ sym l.number) (k.values ∙ sym l.values) in
    same-acted r s e (k.port ∙ sym l.port)
