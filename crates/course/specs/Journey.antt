-- What the walk of a step keeps from stretch to stretch (`WrittenUpTo`), and how it ends (`WalkEnds`): over any function of the instant, from the old clock
-- towards a goal, into two buffers. And what its parts promise: an octet passed, a span of what rules, the order of refusals.
-- Assumes nothing.
use Rattle.std.specs.Prelude.{◌≡◌, ℕ, ◌+◌, ◌-◌, ◌<◌, ◌≤◌, min, Bool, Result, List, ◌∷◌, length}
use Rattle.std.specs.Result.{MatchResult}
use Rattle.rule.specs.declared.Refusal.TheVariants.{MalformedPort}
use Rattle.rule.specs.Limits.{largest_instant}
use Rattle.rule.specs.Refusals.{first_of, Answer}
use Rattle.rule.specs.Answers.{answer_of}
use Rattle.rule.specs.Timetable as model
use Rattle.rule.specs.Orders.{step_order}
use Rattle.rule.specs.History.{changes}
use Rattle.rule.proofs.Walk.{reach_by}
use Rattle.timetable.specs.declared.Times.{Times}
use Rattle.timetable.specs.declared.Timetable.{Timetable}
use Rattle.timetable.specs.declared.ruling.Span.{Span}
use Rattle.timetable.specs.Coding.{decode}
use Rattle.timetable.specs.Regime.{Governs}
use Rattle.course.specs.declared.Reached.{Reached}
use Rattle.course.specs.declared.Walk.{Walk}
use Rattle.course.specs.Columns.{into, instants_of, octets_of}

-- a step: the function that it walks, the old clock, the goal, and what stood in the buffers
pub record Journey : Type 0 where
  pub shows : ℕ → ℕ
  pub clock : ℕ
  pub goal : ℕ
  pub instants : List ℕ
  pub octets : List ℕ

abbrev pub room : Journey → ℕ
room j = min (length j.instants) (length j.octets)

-- all changes up to t are written, n of them, and o is shown there
pub record WrittenUpTo (j : Journey) (t o n : ℕ) (at os : List ℕ) : Type 0 where
  pub from : j.clock ≤ t
  pub upto : t ≤ j.goal
  pub shows : o ≡ j.shows t
  pub count : n ≡ length (changes j.shows j.clock (t - j.clock))
  pub fits : n ≤ room j
  pub instants : at ≡ into (instants_of (changes j.shows j.clock (t - j.clock))) j.instants
  pub octets : os ≡ into (octets_of (changes j.shows j.clock (t - j.clock))) j.octets
  pub reaches : reach_by j.shows j.clock (j.goal - j.clock) (room j)
      ≡ (t - j.clock) + reach_by j.shows t (j.goal - t) (room j - n)

-- the walk ends at t: at the goal, or 1 ns before a change that has no room
pub record WalkEnds (j : Journey) (t n : ℕ) (at os : List ℕ) : Type 0 where
  pub from : j.clock ≤ t
  pub upto : t ≤ j.goal
  pub count : n ≡ length (changes j.shows j.clock (t - j.clock))
  pub instants : at ≡ into (instants_of (changes j.shows j.clock (t - j.clock))) j.instants
  pub octets : os ≡ into (octets_of (changes j.shows j.clock (t - j.clock))) j.octets
  pub reaches : reach_by j.shows j.clock (j.goal - j.clock) (room j) ≡ t - j.clock

-- a walk's answer: it goes on, or, where its next change finds no room, what the travel comes to
abbrev pub Walked : Type 0
Walked = Result Unit Reached

-- the buffers are those lent
pub record SameLoans (w w' : Walk) : Type 0 where
  pub instants : w'.instants.ghost_name ≡ w.instants.ghost_name
  pub octets : w'.octets.ghost_name ≡ w.octets.ghost_name

-- a walk that has written all changes up to t
abbrev pub Written : Journey → ℕ → Walk → Type 0
Written j t w = WrittenUpTo j t w.octet w.written w.instants.now w.octets.now

-- what is known of an answer, and of the walk then: it has come to t, or it ends before
abbrev pub WalkOutcome : Journey → ℕ → Walked → Walk → Type 0
WalkOutcome j t r w = MatchResult r (λ _. Written j t w) (λ e. WalkEnds j e.at e.written w.instants.now w.octets.now)

-- an octet x shown from u to before e, by any step that has walked to u − 1 and whose goal is e − 1 or later
abbrev pub PassPromise : ℕ → ℕ → ℕ → Walk → Walked → Walk → Type 0
PassPromise x u e w r w' = (j : Journey) → Written j (u - 1) w → e ≤ j.goal + 1 → ((v : ℕ) → u ≤ v → v < e → j.shows v ≡ x) → WalkOutcome j (e - 1) r w'

-- the step of a timetable towards a goal, into two buffers
abbrev pub journey_of : Timetable → ℕ → List ℕ → List ℕ → Journey
journey_of g goal at os = record { shows = model.shown (decode g); clock = g.times.clock; goal = goal; instants = at; octets = os }

-- a span of what a timetable with these numbers shows from t on
pub record Ahead (x : Times) (t : ℕ) (r : Span) : Type 0 where
  pub first : 1 ≤ t
  pub near : r.edge ≤ largest_instant + 1
  pub governs : Governs x t r

abbrev pub SpanPromise : Timetable → Span → ℕ → Walk → Walked → Walk → Type 0
SpanPromise g s t w r w' = (goal : ℕ) (at₀ os₀ : List ℕ) → s.edge ≤ goal + 1 → Written (journey_of g goal at₀ os₀) (t - 1) w
    → WalkOutcome (journey_of g goal at₀ os₀) (s.edge - 1) r w'

-- a walk that is to begin at the clock of a timetable
pub record AtClock (g : Timetable) (w : Walk) : Type 0 where
  pub octet : w.octet ≡ model.shown (decode g) g.times.clock
  pub none : w.written ≡ 0

-- the answer of the order of refusals, for any timetable with that clock
abbrev pub OrderPromise : Bool → ℕ → ℕ → ℕ → Answer → Type 0
OrderPromise malformed longest goal clock r =
    (m : model.Timetable) → m.clock ≡ clock → r ≡ answer_of (first_of ((malformed, MalformedPort) ∷ step_order longest goal m))
