-- Document 01, 'Step', and its order in 'Numbers returned': what a travel of a timetable's record promises. The room is the smaller length of the two lent
-- buffers; the changes reported are written from place 0 on, everything else stays as it was. 14 comes first, and it looks at the rest of the record that
-- the timetable stands in too (`fit`); then 9, 10, 11, with the longest step a parameter. A refused travel writes nothing.
-- Assumes nothing.
use Rattle.std.specs.Prelude.{◌≡◌, ℕ, ◌+◌, ◌-◌, min, Bool, cond, not, ◌&&◌, List, ◌∷◌, length, Result, Ok, Err}
use Rattle.std.proofs.Math.Option.{Option, none, some}
use Rattle.rule.specs.declared.Refusal.{Refusal}
use Rattle.rule.specs.declared.Refusal.TheVariants.{MalformedPort}
use Rattle.rule.specs.Refusals.{first_of, accepted}
use Rattle.rule.specs.Orders.{step_order}
use Rattle.rule.specs.Machine.{log, reach}
use Rattle.rule.specs.TimetableMachine.{timetable_machine}
use Rattle.timetable.specs.declared.Timetable.{Timetable}
use Rattle.timetable.specs.Record.{timetable_formed}
use Rattle.timetable.specs.Coding.{decode}
use Rattle.timetable.specs.Checks.{Fine}
use Rattle.course.specs.declared.Reached.{Reached}
use Rattle.course.specs.Columns.{into, instants_of, octets_of}

-- what a travel declines with
unfoldable pub travel_declines : Bool → ℕ → ℕ → Timetable → Option Refusal
travel_declines fit longest goal g = first_of ((not (fit && timetable_formed g), MalformedPort) ∷ step_order longest goal (decode g))

-- how many instants pass, with room for so many changes; and the changes of that many instants
unfoldable pub passes : Bool → ℕ → ℕ → ℕ → Timetable → ℕ
passes fit longest goal room g =
    cond (accepted (travel_declines fit longest goal g)) (reach timetable_machine (goal - g.times.clock) room (decode g)) 0

unfoldable pub reported : ℕ → Timetable → List (ℕ × ℕ)
reported k g = log timetable_machine k (decode g)

-- refused, or so many changes written and the instant reached
abbrev pub course_of : Option Refusal → ℕ → ℕ → Result Reached Refusal
course_of none n e = Ok (record { written = n; at = e })
course_of (some r) n e = Err r

-- a travel that lets k instants pass; one that is not refused finds a fine record
pub record TravelsBy (k : ℕ) (fit : Bool) (longest goal : ℕ) (g : Timetable) (at at' os os' : List ℕ) (r : Result Reached Refusal) : Type 0 where
  pub answer : r ≡ course_of (travel_declines fit longest goal g) (length (reported k g)) (g.times.clock + k)
  pub instants : at' ≡ into (instants_of (reported k g)) at
  pub octets : os' ≡ into (octets_of (reported k g)) os
  pub fine : travel_declines fit longest goal g ≡ none → Fine g

abbrev pub Travels : Bool → ℕ → ℕ → Timetable → List ℕ → List ℕ → List ℕ → List ℕ → Result Reached Refusal → Type 0
Travels fit longest goal g at at' os os' r = TravelsBy (passes fit longest goal (min (length at) (length os)) g) fit longest goal g at at' os os' r
