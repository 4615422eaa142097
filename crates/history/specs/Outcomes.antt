-- What a program sees that makes calls of which it knows the contracts alone: a list of calls with what each handed back, an answer, a record, the two
-- buffers after a step. Each is allowed by its contract on the record that the call before it left. What such a program has in the end is read off
-- what was handed back: the last record, the changes in the written places of the buffers, call after call, the acts that were answered done.
-- Assumes nothing.
use Rattle.std.specs.Prelude.{Bool, true, false, cond, List, [], ◌∷◌, ◌++◌, map, ℕ, eqb, take, Option, Result, Ok, Err}
use Rattle.rule.specs.Acts as rule
use Rattle.rule.specs.Machine.{Outcome, Try}
use Rattle.port.specs.declared.Port.{Port}
use Rattle.port.specs.declared.Acted.{Acted}
use Rattle.rule.specs.declared.Refusal.{Refusal}
use Rattle.port.specs.Answers.{written_of}
use Rattle.port.specs.Acts.{Performs, Looks}
use Rattle.frames.specs.declared.Sending.{Sending}
use Rattle.port.specs.Transmit.{Transmits}
use Rattle.port.specs.Step.{Steps}
use Rattle.driver.specs.declared.Answer as driver
use Rattle.driver.specs.Lent.{Lends}
use Rattle.history.specs.Calls.{Call, act, lend, step, look, asked, attempted}

-- a step's answer and record, and the buffers after it
pub record StepOutcome : Type 0 where
  pub result : Acted ℕ
  pub instants : List ℕ
  pub octets : List ℕ

-- the answer that C gets, and the lent record as the call returns
pub record LentOutcome : Type 0 where
  pub answer : driver.Answer
  pub port : Port

-- what a call hands back
abbrev pub Handed : Call → Type 0
Handed (act (rule.gates a)) = Acted Unit
Handed (act (rule.transmit heads speed)) = Acted (Option Sending)
Handed (lend heads speed) = LentOutcome
Handed (step goal instants octets) = StepOutcome
Handed (look t) = Result ℕ Refusal

-- its contract, on a record
abbrev pub Allowed : (c : Call) → Port → Handed c → Type 0
Allowed (act (rule.gates a)) p r = Performs (rule.gates a) p r
Allowed (act (rule.transmit heads speed)) p r = Transmits heads speed p r
Allowed (lend heads speed) p r = Lends heads speed p r.answer r.port
Allowed (step goal instants octets) p r = Steps p goal instants r.instants octets r.octets r.result
Allowed (look t) p r = Looks p t r

-- the record for the next call
abbrev pub next : (c : Call) → Port → Handed c → Port
next (act (rule.gates a)) p r = r.port
next (act (rule.transmit heads speed)) p r = r.port
next (lend heads speed) p r = r.port
next (step goal instants octets) p r = r.result.port
next (look t) p r = p

-- the changes in the written places of the buffers
abbrev pub paired : List ℕ → List ℕ → List (ℕ × ℕ)
paired [] os = []
paired (t ∷ at) [] = []
paired (t ∷ at) (o ∷ os) = (t, o) ∷ paired at os

abbrev pub written : (c : Call) → Handed c → List (ℕ × ℕ)
written (act a) r = []
written (lend heads speed) r = []
written (step goal instants octets) r =
    let n : ℕ = written_of r.result.answer in
    paired (take n r.instants) (take n r.octets)
written (look t) r = []

-- whether the answer is no refusal; a transmit that finds nothing is accepted too
abbrev pub is_done : {A : Type 0} → Result A Refusal → Bool
is_done (Ok _) = true
is_done (Err r) = false

abbrev pub taken : (c : Call) → Handed c → Bool
taken (act (rule.gates a)) r = is_done r.answer
taken (act (rule.transmit heads speed)) r = is_done r.answer
taken (lend heads speed) r = eqb r.answer.number 0
taken (step goal instants octets) r = false
taken (look t) r = false

-- the act, at the clock's instant, if it is not refused
abbrev pub done : (c : Call) → Port → Handed c → List (ℕ × rule.Act)
done c p r = cond (taken c r) (attempted (asked c) p) []

-- a call with what it handed back
pub record Event : Type 0 where
  pub call : Call
  pub back : Handed call

abbrev pub calls_of : List Event → List Call
calls_of es = map (λ (e : Event). e.call) es

-- each call kept its contract
unfoldable pub Kept : Port → List Event → Type 0
Kept p [] = Unit {0}
Kept p (e ∷ es) = Allowed e.call p e.back × Kept (next e.call p e.back) es

-- what a program has in the end
unfoldable pub outcome : Port → List Event → Outcome Port ℕ rule.Act
outcome p [] = record { port = p; out = []; acts = [] }
outcome p (e ∷ es) =
    let r = outcome (next e.call p e.back) es in
    record { port = r.port; out = written e.call e.back ++ r.out; acts = done e.call p e.back ++ r.acts }

-- the acts that it tried, each at its instant, and whether it was accepted
unfoldable pub tries : Port → List Event → List (Try rule.Act)
tries p [] = []
tries p (e ∷ es) = map (λ x. (x, taken e.call e.back)) (attempted (asked e.call) p) ++ tries (next e.call p e.back) es
