-- Document 01, 'Step', and its order in 'Numbers returned': what a step of a record promises. The room is the smaller length of the two lent buffers; the
-- changes reported are written from place 0 on, everything else stays as it was. 14 comes first, then 9, 10, 11; a refused step hands back the record
-- that it got and writes nothing.
-- Assumes nothing.
use Rattle.std.specs.Prelude.{◌≡◌, ℕ, ◌-◌, min, cond, List, length}
use Rattle.std.proofs.Math.Option.{Option}
use Rattle.rule.specs.Limits.{largest_step}
use Rattle.rule.specs.declared.Refusal.{Refusal}
use Rattle.rule.specs.Refusals.{accepted, numbered}
use Rattle.rule.specs.Orders.{step_order}
use Rattle.rule.specs.Machine.{ticks, log, reach}
use Rattle.rule.specs.Machines.{machine}
use Rattle.course.specs.Columns.{into, instants_of, octets_of}
use Rattle.port.specs.declared.Port.{Port}
use Rattle.port.specs.declared.Acted.{Acted}
use Rattle.port.specs.Coding.{decode, encode}
use Rattle.port.specs.Answers.{stepped_number, written_of}
use Rattle.port.specs.Acts.{formed_first}

-- what a step declines with
unfoldable pub step_declines : ℕ → Port → Option Refusal
step_declines goal p = formed_first p (step_order largest_step goal (decode p).gates)

-- how many instants pass, with room for so many changes; and the changes of that many instants
unfoldable pub passes : Port → ℕ → ℕ → ℕ
passes p goal room = cond (accepted (step_declines goal p)) (reach machine (goal - p.gates.times.clock) room (decode p)) 0

unfoldable pub reported : Port → ℕ → List (ℕ × ℕ)
reported p k = log machine k (decode p)

-- the record k instants later, if the step is accepted
unfoldable pub after_step : Port → ℕ → ℕ → Port
after_step p goal k = cond (accepted (step_declines goal p)) (encode (ticks machine k (decode p))) p

-- a step that lets k instants pass
pub record StepsBy (k : ℕ) (p : Port) (goal : ℕ) (at at' os os' : List ℕ) (r : Acted ℕ) : Type 0 where
  pub number : stepped_number r.answer ≡ numbered (step_declines goal p)
  pub written : written_of r.answer ≡ length (reported p k)
  pub port : r.port ≡ after_step p goal k
  pub instants : at' ≡ into (instants_of (reported p k)) at
  pub octets : os' ≡ into (octets_of (reported p k)) os

abbrev pub Steps : Port → ℕ → List ℕ → List ℕ → List ℕ → List ℕ → Acted ℕ → Type 0
Steps p goal at at' os os' r = StepsBy (passes p goal (min (length at) (length os))) p goal at at' os os' r
