-- Document 01, 'Numbers returned when a call declines': the numbers tell the refusals apart, and 0 is none of them; a chain of tests is their order.
-- Assumes nothing.
use mathlib.Core.Path.{◌≡◌, refl, ap, sym, ◌∙◌}
use mathlib.Core.Bool.{Bool, true, false, cond}
use mathlib.Core.List.{List, [], ◌∷◌}
use mathlib.Core.Option.{Option, none, some}
use Prim.Native.Nat.{ℕ}
use native.Mathlib.Omega.{arith}
use lib.ListN.{get_or}
use Rattle.rule.specs.declared.Refusal.{Refusal}
use Rattle.rule.specs.declared.Refusal.TheVariants.{CutShort, Operation, LengthOctet, ZeroInterval, ListLength, SwitchedOff, ChangeWaits, CycleTime, AboveLargest, BeforeClock, StepTooLong, HeadLength, Speed, MalformedPort, MalformedSheet, BufferShort, FrameSending}
use Rattle.std.specs.Prelude.{Ok, Err}
use Rattle.rule.specs.Refusals.{number_of, first_of, Answer}
use Rattle.rule.specs.Answers.{first_answer, answer_of}

-- the refusal of a number
refusal_of : ℕ → Option Refusal
refusal_of n =
    get_or
    (none ∷ some CutShort ∷ some Operation ∷ some LengthOctet ∷ some ZeroInterval ∷ some ListLength ∷ some SwitchedOff ∷ some ChangeWaits
    ∷ some CycleTime ∷ some AboveLargest ∷ some BeforeClock ∷ some StepTooLong ∷ some HeadLength ∷ some Speed ∷ some MalformedPort
    ∷ some MalformedSheet ∷ some BufferShort ∷ some FrameSending ∷ [])
    n none

refusal_number : (r : Refusal) → refusal_of (number_of r) ≡ some r
unfolding refusal_of
refusal_number CutShort = refl
refusal_number Operation = refl
refusal_number LengthOctet = refl
refusal_number ZeroInterval = refl
refusal_number ListLength = refl
refusal_number SwitchedOff = refl
refusal_number ChangeWaits = refl
refusal_number CycleTime = refl
refusal_number AboveLargest = refl
refusal_number BeforeClock = refl
refusal_number StepTooLong = refl
refusal_number HeadLength = refl
refusal_number Speed = refl
refusal_number MalformedPort = refl
refusal_number MalformedSheet = refl
refusal_number BufferShort = refl
refusal_number FrameSending = refl

pub number_same : (r t : Refusal) → number_of r ≡ number_of t → r ≡ t
number_same r t e = let q : some r ≡ some t = sym (refusal_number r) ∙ ap refusal_of e ∙ refusal_number t in cc

pub number-some : (r : Refusal) → number_of r ≡ 0 → ⊥
unfolding refusal_of
number-some r e =
    let q : some r ≡ none = sym (refusal_number r) ∙ ap refusal_of e in
    let z : ◌≡◌ {A = ℕ} 0 1 = cc in
    omega arith

-- an answer's number tells its refusal, and a refusal from an accepted call
pub refusal_told : (r s : Refusal) → some (number_of r) ≡ some (number_of s) → r ≡ s
refusal_told r s e = number_same r s (cc)

pub none_some : (n : ℕ) → none ≡ some n → ⊥
none_some n e = let z : ◌≡◌ {A = ℕ} 0 1 = cc in omega arith

-- a chain of tests answers what their order declines with; the chain of no test, and one test more in front
pub record Chain (l : List (Bool × Refusal)) (a : Answer) : Type 0 where
  pub answers : a ≡ answer_of (first_of l)

pub chain_none : Chain [] (Ok tt)
chain_none = record { answers = refl }

pub chain_more : {b : Bool} {r : Refusal} {l : List (Bool × Refusal)} {rest a : Answer} → a ≡ first_answer b r rest → Chain l rest → Chain ((b, r) ∷ l) a
unfolding first_answer
chain_more {b} {r} {l} {rest} {a} e q = record { answers = e ∙ go b }
  where
    go : (b : Bool) → cond b (Err r) rest ≡ answer_of (cond b (some r) (first_of l))
    go true = refl
    go false = q.answers
