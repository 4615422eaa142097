-- Document 01, 'Numbers returned when a call declines': the number of each refusal, and how an order of tests chooses one. The orders themselves
-- are in `Orders`, beside the acts they belong to; reading and writing a list have theirs with the list's octets.
-- Assumes nothing.
use Rattle.std.specs.Prelude.{Bool, true, false, cond, List, [], ◌∷◌, ℕ, Result, Ok, Err}
use Rattle.std.proofs.Math.Option.{Option, none, some}
use Rattle.rule.specs.declared.Refusal.{Refusal}
use Rattle.rule.specs.declared.Refusal.TheVariants.{CutShort, Operation, LengthOctet, ZeroInterval, ListLength, SwitchedOff, ChangeWaits, CycleTime, AboveLargest, BeforeClock, StepTooLong, HeadLength, Speed, MalformedPort, MalformedSheet, BufferShort, FrameSending}

abbrev pub number_of : Refusal → ℕ
number_of CutShort = 1
number_of Operation = 2
number_of LengthOctet = 3
number_of ZeroInterval = 4
number_of ListLength = 5
number_of SwitchedOff = 6
number_of ChangeWaits = 7
number_of CycleTime = 8
number_of AboveLargest = 9
number_of BeforeClock = 10
number_of StepTooLong = 11
number_of HeadLength = 12
number_of Speed = 13
number_of MalformedPort = 14
number_of MalformedSheet = 15
number_of BufferShort = 16
number_of FrameSending = 17

-- an order is a list of tests, each with its refusal: the first test that holds gives the refusal
abbrev pub first_of : List (Bool × Refusal) → Option Refusal
first_of [] = none
first_of (x ∷ l) = cond x.0 (some x.1) (first_of l)

-- a call is accepted if no test of its order holds
abbrev pub accepted : Option Refusal → Bool
accepted none = true
accepted (some r) = false

-- the number of a refusal, none if there is none; and that of an answer, whatever an accepted call answers
abbrev pub numbered : Option Refusal → Option ℕ
numbered none = none
numbered (some r) = some (number_of r)

-- what an act answers: done, or refused for a reason
abbrev pub Answer : Type 0
Answer = Result Unit Refusal

abbrev pub number_in : {A : Type 0} → Result A Refusal → Option ℕ
number_in (Ok _) = none
number_in (Err r) = some (number_of r)

abbrev pub answer_number : Answer → Option ℕ
answer_number r = number_in r
