-- A stretch of a step in which one list rules, and what its walk promises.
-- Assumes nothing.
use Rattle.std.specs.Prelude.{◌≡◌, ℕ, ◌+◌, ◌-◌, ◌<◌, ◌≤◌, List, slice_index}
use Rattle.rule.specs.Cycle.{Config, plain_octet}
use Rattle.course.specs.declared.Walk.{Walk}
use Rattle.timetable.specs.declared.cursor.Cursor.{Cursor}
use Rattle.timetable.specs.declared.cursor.Stretch.{Stretch}
use Rattle.course.specs.Journey.{Journey, Walked, Written, WalkOutcome}
use Rattle.timetable.specs.Cursor.{Points}
use Rattle.timetable.specs.Stretch.{Walkable, Plays, Runs, Safe}

-- what a walk that reports changes asks of a stretch: that it can be walked, and begins after instant 0
pub record Reportable (vs : List ℕ) (s : Stretch) : Type 0 where
  pub walkable : Walkable vs s
  pub first : 1 ≤ s.from

-- its parts: what comes before an edge; from an instant on, in a cycle that has begun at a base; and as far into a later cycle as it begins in its own
abbrev pub until_edge : Stretch → ℕ → Stretch
until_edge s e = record { list = s.list; period = s.period; base = s.base; from = s.from; edge = e }

abbrev pub with_base : Stretch → ℕ → ℕ → Stretch
with_base s b t = record { list = s.list; period = s.period; base = b; from = t; edge = s.edge }

abbrev pub by_cycles : Stretch → ℕ → Stretch
by_cycles s t = with_base s (s.base + (t - s.from)) t

-- the cycles of a configuration with that list and period rule from an instant to before the edge, which is no later than the goal's next
pub record CyclesShown (j : Journey) (f : Config) (os vs : List ℕ) (n period from edge : ℕ) : Type 0 where
  pub plays : Plays f os vs n period
  pub shows : (v : ℕ) → from ≤ v → v < edge → j.shows v ≡ plain_octet f v
  pub goal : edge ≤ j.goal + 1

abbrev pub ListPromise : List ℕ → List ℕ → Stretch → Walk → Walked → Walk → Type 0
ListPromise os vs s w r w' = (j : Journey) (f : Config) → CyclesShown j f os vs s.list.len s.period s.from s.edge → Runs f s → Written j (s.from - 1) w
    → WalkOutcome j (s.edge - 1) r w'

-- the same of a stretch with its own list
abbrev pub WalkPromise : Stretch → Walk → Walked → Walk → Type 0
WalkPromise s w r w' = ListPromise s.list.octets.now s.list.intervals.now s w r w'

-- the first n octets are one
abbrev pub Uniform : List ℕ → ℕ → Type 0
Uniform os n = (k : ℕ) → k < n → slice_index os k ≡ slice_index os 0

-- what the walk of a stretch keeps: a safe cursor, and, for every step and configuration that it is a stretch of, all changes before it
pub record Keeps (os vs : List ℕ) (n period edge : ℕ) (c₀ : Cursor) (w₀ : Walk) (c : Cursor) (w : Walk) : Type 0 where
  pub later : c₀.from ≤ c.from
  pub first : 1 ≤ c.from
  pub safe : Safe n period edge c
  pub walked : (j : Journey) (f : Config) → CyclesShown j f os vs n period c₀.from edge → Points f vs n c₀ → Written j (c₀.from - 1) w₀
      → Points f vs n c × Written j (c.from - 1) w
