-- Document 01, 'What the gates show' and the orders of 'Numbers returned': what new, the acts and look promise of a record. 14 comes first, then the
-- order of the call; a refused act hands back the record that it got, a refused `new` the record of all zeros.
-- Assumes nothing.
use Rattle.std.specs.Prelude.{◌≡◌, ℕ, Bool, cond, not, List, ◌∷◌, Result}
use Rattle.std.proofs.Math.Option.{Option}
use Rattle.rule.specs.declared.Refusal.{Refusal}
use Rattle.rule.specs.declared.Refusal.TheVariants.{MalformedPort}
use Rattle.rule.specs.Refusals.{first_of, accepted, numbered, answer_number}
use Rattle.rule.specs.Timetable.{shown}
use Rattle.rule.specs.Port.{new_port}
use Rattle.rule.specs.Acts.{Act, Submission, perform}
use Rattle.rule.specs.Orders.{act_order, look_order, new_order}
use Rattle.gatelist.specs.declared.GateList.{GateList}
use Rattle.gatelist.specs.Coding.{list_of}
use Rattle.port.specs.declared.Port.{Port}
use Rattle.port.specs.declared.Acted.{Acted}
use Rattle.port.specs.Record.{well_formed}
use Rattle.port.specs.Coding.{decode, encode}
use Rattle.port.specs.Answers.{looked_number, looked_octet}

-- 14, then an order
abbrev pub formed_first : Port → List (Bool × Refusal) → Option Refusal
formed_first p order = first_of ((not (well_formed p), MalformedPort) ∷ order)

-- an act: what it declines with, and the record after it

unfoldable pub declines : Act → Port → Option Refusal
declines a p = formed_first p (act_order a (decode p))

unfoldable pub after : Act → Port → Port
after a p = cond (accepted (declines a p)) (encode (perform a (decode p))) p

pub record Performs (a : Act) (p : Port) (r : Acted Unit) : Type 0 where
  pub number : answer_number r.answer ≡ numbered (declines a p)
  pub port : r.port ≡ after a p

-- what is submitted: the list record, the cycle's numerator and denominator, the extension, the base time
abbrev pub submission : GateList → ℕ → ℕ → ℕ → ℕ → Submission
submission list numerator denominator extension base =
    record { numerator = numerator; denominator = denominator; extension = extension; base = base; list = list_of list }

-- a look

unfoldable pub look_declines : ℕ → Port → Option Refusal
look_declines t p = formed_first p (look_order t (decode p).gates)

pub record Looks (p : Port) (t : ℕ) (r : Result ℕ Refusal) : Type 0 where
  pub number : looked_number r ≡ numbered (look_declines t p)
  pub octet : looked_octet r ≡ cond (accepted (look_declines t p)) (shown (decode p).gates t) 0

-- a new port

pub record Makes (start standing : ℕ) (r : Acted Unit) : Type 0 where
  pub number : answer_number r.answer ≡ numbered (first_of (new_order start))
  pub port : r.port ≡ cond (accepted (first_of (new_order start))) (encode (new_port start standing)) (encode (new_port 0 0))
