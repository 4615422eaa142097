-- Document 01's number, with the values of an accepted call, tells an answer from every other of its kind (`answer-told`, `looked_told`, `stepped-told`; for
-- a transmit `choice_told` of crate `frames`); and each number and value has an answer: the one from the refusal that an order chooses.
-- Assumes nothing.
use Rattle.std.proofs.Common.{◌≡◌, ℕ, cond, sym, refl, ap, ◌∙◌}
use mathlib.Core.Option.{Option, none, some}
use Rattle.std.specs.Prelude.{Result, Ok, Err}
use Rattle.rule.specs.declared.Refusal.{Refusal}
use Rattle.rule.specs.Refusals.{number_of, number_in, accepted, numbered, answer_number, Answer}
use Rattle.rule.specs.Answers.{answer_of}
use Rattle.rule.specs.Port.{Frame}
use Rattle.rule.proofs.Refusals.{refusal_told, none_some}
use Rattle.frames.specs.Decision.{choice_of, choice_number}
use Rattle.port.specs.Answers.{looked_number, looked_octet, stepped_number, written_of}

pub number_of_lem : (o : Option Refusal) → answer_number (answer_of o) ≡ numbered o
number_of_lem none = refl
number_of_lem (some r) = refl

abbrev pub looked_of : Option Refusal → ℕ → Result ℕ Refusal
looked_of none octet = Ok octet
looked_of (some r) octet = Err r

pub looked_number_lem : (o : Option Refusal) (octet : ℕ) → looked_number (looked_of o octet) ≡ numbered o
looked_number_lem none octet = refl
looked_number_lem (some r) octet = refl

pub looked_octet_lem : (o : Option Refusal) (octet : ℕ) → looked_octet (looked_of o octet) ≡ cond (accepted o) octet 0
looked_octet_lem none octet = refl
looked_octet_lem (some r) octet = refl

abbrev pub stepped_of : Option Refusal → ℕ → Result ℕ Refusal
stepped_of = looked_of

pub stepped-number : (o : Option Refusal) (n : ℕ) → stepped_number (stepped_of o n) ≡ numbered o
stepped-number = looked_number_lem

pub choice_number_lem : (o : Option Refusal) (f : Option Frame) → choice_number (choice_of o f) ≡ numbered o
choice_number_lem none none = refl
choice_number_lem none (some f) = refl
choice_number_lem (some r) f = refl

-- a value with the number, of whatever kind
result_told : {A : Type 0} (value : Result A Refusal → A) → ((a : A) → value (Ok a) ≡ a) → (r s : Result A Refusal) → number_in r ≡ number_in s → value r ≡ value s → r ≡ s
result_told value is (Ok a) (Ok b) e f = ap Ok (sym (is a) ∙ f ∙ is b)
result_told value is (Ok a) (Err q) e f = absurd (none_some (number_of q) e)
result_told value is (Err q) (Ok a) e f = absurd (none_some (number_of q) (sym e))
result_told value is (Err q) (Err p) e f = ap Err (refusal_told q p e)

pub answer-told : (r s : Answer) → answer_number r ≡ answer_number s → r ≡ s
answer-told r s e = result_told (λ _. tt) (λ a. refl) r s e refl

pub looked_told : (r s : Result ℕ Refusal) → looked_number r ≡ looked_number s → looked_octet r ≡ looked_octet s → r ≡ s
looked_told = result_told looked_octet (λ a. refl)

pub stepped-told : (r s : Result ℕ Refusal) → stepped_number r ≡ stepped_number s → written_of r ≡ written_of s → r ≡ s
stepped-told = result_told written_of (λ a. refl)
