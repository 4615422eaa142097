-- Demand 3 over the public calls of crates `port` and `driver`: a call is any of them with any arguments, and its meaning is the very definition that its
-- contract cites. A run is a list of calls on a record: the record at the end, the changes joined end to end, the accepted acts with their instants.
-- Arguments are numbers and lists of any size; what the types of a program allow is among them.
-- Assumes nothing.
use Rattle.std.specs.Prelude.{cond, List, [], ◌∷◌, ◌++◌, ℕ, min, length}
use Rattle.std.proofs.Math.Option.{Option, none, some}
use Rattle.rule.specs.Refusals.{accepted}
use Rattle.rule.specs.Acts as rule
use Rattle.rule.specs.Machine.{Outcome}
use Rattle.port.specs.declared.Port.{Port}
use Rattle.port.specs.Acts.{declines, after}
use Rattle.port.specs.Step.{passes, reported, after_step}

-- an act on a port by value, or C's transmit on a lent one; a step is lent two buffers, as they stand
pub data Call : Type 0 where
  act : (a : rule.Act) → Call
  lend : (heads : List ℕ) (speed : ℕ) → Call
  step : (goal : ℕ) (instants octets : List ℕ) → Call
  look : (t : ℕ) → Call

-- the room is the smaller length
abbrev pub room : List ℕ → List ℕ → ℕ
room instants octets = min (length instants) (length octets)

-- the record after a call, refused or not
unfoldable pub leaves : Call → Port → Port
leaves (act a) p = after a p
leaves (lend heads speed) p = after (rule.transmit heads speed) p
leaves (step goal instants octets) p = after_step p goal (passes p goal (room instants octets))
leaves (look t) p = p

-- the changes that it reports
unfoldable pub reports : Call → Port → List (ℕ × ℕ)
reports (act a) p = []
reports (lend heads speed) p = []
reports (step goal instants octets) p = reported p (passes p goal (room instants octets))
reports (look t) p = []

-- the act that it tries, at the clock's instant; and the same if it is accepted
abbrev pub asked : Call → Option rule.Act
asked (act a) = some a
asked (lend heads speed) = some (rule.transmit heads speed)
asked (step goal instants octets) = none
asked (look t) = none

abbrev pub attempted : Option rule.Act → Port → List (ℕ × rule.Act)
attempted none p = []
attempted (some a) p = (p.gates.times.clock, a) ∷ []

abbrev pub performed : Option rule.Act → Port → List (ℕ × rule.Act)
performed none p = []
performed (some a) p = cond (accepted (declines a p)) ((p.gates.times.clock, a) ∷ []) []

-- a run
unfoldable pub run : List Call → Port → Outcome Port ℕ rule.Act
run [] p = record { port = p; out = []; acts = [] }
run (c ∷ cs) p =
    let r = run cs (leaves c p) in
    record { port = r.port; out = reports c p ++ r.out; acts = performed (asked c) p ++ r.acts }
