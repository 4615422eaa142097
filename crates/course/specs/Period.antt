-- A round is the changes of one period of a list that rules. What it is to write it again, one period later, and to walk a stretch so.
-- Assumes nothing.
use Rattle.std.specs.Prelude.{◌≡◌, ℕ, ◌+◌, ◌-◌, ◌*◌, ◌%◌, ◌<◌, ◌≤◌, min, List, length, slice_index}
use Rattle.rule.specs.History.{changes}
use Rattle.rule.specs.Cycle.{Config}
use Rattle.course.specs.declared.Walk.{Walk}
use Rattle.timetable.specs.declared.cursor.Stretch.{Stretch}
use Rattle.timetable.specs.Stretch.{Runs}
use Rattle.course.specs.Journey.{Journey, Walked, Written, WalkOutcome}
use Rattle.course.specs.Stretch.{CyclesShown}

-- what it takes to write the places from n to before end, each from the one count places before it, in buffers of lengths a and b
pub record CanRepeat (count n end a b : ℕ) : Type 0 where
  pub upto : n ≤ end
  pub some : n < end → 1 ≤ count
  pub held : n < end → count ≤ n
  pub fits : n < end → end ≤ min a b

-- that they were written so: each is h of the one count places before it, and everything else is as it was
pub record WrittenAgain (h : ℕ → ℕ) (count n end : ℕ) (old new : List ℕ) : Type 0 where
  pub long : length new ≡ length old
  pub before : (i : ℕ) → i < n → slice_index new i ≡ slice_index old i
  pub repeats : (i : ℕ) → n ≤ i → i < end → slice_index new i ≡ h (slice_index new (i - count))
  pub behind : (i : ℕ) → end ≤ i → slice_index new i ≡ slice_index old i

-- h for the instants, one period later, and for the octets
abbrev pub later : ℕ → ℕ → ℕ
later period x = (x + period) % 18446744073709551616

abbrev pub same : ℕ → ℕ
same x = x

-- from t on, whole periods to no later than last, each with the last count changes written again
pub record GoneByPeriods (t last period count : ℕ) (w : Walk) (at : ℕ) (r : Walk) : Type 0 where
  pub periods : ℕ
  pub stands : at ≡ t + periods * period
  pub upto : at ≤ last
  pub octet : r.octet ≡ w.octet
  pub written : r.written ≡ w.written + periods * count
  pub repeatable : CanRepeat count w.written r.written (length w.instants.now) (length w.octets.now)
  pub instants : WrittenAgain (later period) count w.written r.written w.instants.now r.instants.now
  pub octets : WrittenAgain same count w.written r.written w.octets.now r.octets.now

-- the start of the cycle that runs at t: of the one from base, or of the next
pub record BaseAt (base period t r : ℕ) : Type 0 where
  pub same : t < base + period → r ≡ base
  pub next : base + period ≤ t → r ≡ base + period

-- the period after t, which no clock or start of a configuration cuts, has count changes
pub record PeriodChanges (j : Journey) (f : Config) (t period count : ℕ) : Type 0 where
  pub after : j.clock ≤ t
  pub started : f.start ≤ t
  pub has : count ≡ length (changes j.shows t period)

-- the walk of a stretch before which the changes of one period are the last written, those since there were so many; by any step and configuration that it
-- is a stretch of
abbrev pub RepeatPromise : List ℕ → List ℕ → Stretch → ℕ → Walk → Walked → Walk → Type 0
RepeatPromise os vs s since w r w' = (j : Journey) (f : Config) (t : ℕ) → s.from ≡ t + s.period + 1 → PeriodChanges j f t s.period (w.written - since)
    → CyclesShown j f os vs s.list.len s.period t s.edge → Runs f s → Written j (s.from - 1) w → WalkOutcome j (s.edge - 1) r w'

-- the same of a stretch with its own list
abbrev pub AgainPromise : Stretch → ℕ → Walk → Walked → Walk → Type 0
AgainPromise s since w r w' = RepeatPromise s.list.octets.now s.list.intervals.now s since w r w'
