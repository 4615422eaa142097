-- Document 01, 'Choosing a frame', as request 2 of document 02 amends it: what the look ahead of a transmit promises of the gates. Private to the crate.
-- Assumes nothing.
use Rattle.std.specs.Prelude.{◌≡◌, Bool, true, false, cond, not, ◌&&◌, ◌||◌, List, ℕ, ◌+◌, ◌-◌, ◌≤◌, ◌<◌, min, leb, ltb, get_or}
use Rattle.rule.specs.Gates.{is_open}
use Rattle.rule.specs.Limits.{largest_instant, largest_cycle}
use Rattle.rule.specs.Entries.{octet_at}
use Rattle.rule.specs.Cycle.{Config, plain_octet}
use Rattle.rule.specs.Timetable.{shown}
use Rattle.rule.specs.Choice.{stays_open}
use Rattle.gatelist.specs.declared.Entries.{Entries}
use Rattle.gatelist.specs.Coding.{list_of, lent}
use Rattle.gatelist.specs.Lookup.{sum_to}
use Rattle.timetable.specs.declared.Times.{Times}
use Rattle.timetable.specs.declared.Timetable.{Timetable}
use Rattle.timetable.specs.declared.ruling.Span.{Span}
use Rattle.timetable.specs.declared.cursor.Stretch.{Stretch}
use Rattle.timetable.specs.declared.ruling.Which.{Which}
use Rattle.timetable.specs.Record.{list_in, is_there}
use Rattle.timetable.specs.Coding.{decode}
use Rattle.timetable.specs.Regime.{Governs}
use Rattle.timetable.specs.Cursor.{Used}
use Rattle.timetable.specs.Stretch.{Plays, Runs}
use Rattle.timetable.proofs.Spans.{InTime}
use Rattle.frames.specs.declared.ahead.Gates.{Gates}

-- the class is one of an octet, and its frame ends by an instant
abbrev pub closed_by : ℕ → List ℕ → ℕ → ℕ → Bool
closed_by octet ends at k = is_open octet k && leb (get_or ends k 0) at

-- an octet is shown from an instant on: the classes that it closes are left no more, and those of them whose frames have ended are noted
pub record Narrows (octet at : ℕ) (ends : List ℕ) (g r : Gates) : Type 0 where
  pub left : (k : ℕ) → k < 8 → is_open r.left k ≡ is_open g.left k && is_open octet k
  pub ended : (k : ℕ) → k < 8 → is_open r.ended k ≡ is_open g.ended k || (is_open g.left k && not (is_open octet k) && leb (get_or ends k 0) at)

-- what is known of a class at u whose frame, begun at t, ends at e: its gate is open from t to before u; or it is known whether it is open to before e
pub record Open (h : ℕ → ℕ) (k t u : ℕ) (ended : Bool) : Type 0 where
  pub unmet : ended ≡ false
  pub stays : (v : ℕ) → t ≤ v → v < u → is_open (h v) k ≡ true

abbrev pub Known : (ℕ → ℕ) → ℕ → ℕ → ℕ → ℕ → Bool → Bool → Type 0
Known h k t u e ended true = Open h k t u ended
Known h k t u e ended false = ended ≡ stays_open h k t (e - t)

-- a walk over h from t has come to u
unfoldable pub Tells : (ℕ → ℕ) → ℕ → ℕ → ℕ → List ℕ → Gates → Type 0
Tells h t u wanted ends g =
    (k : ℕ) → k < 8 → is_open wanted k ≡ true → Known h k t u (get_or ends k 0) (is_open g.ended k) (is_open g.left k)

-- what a walk over the rest of a cycle asks for
pub record Sweepable (l : Entries) (place limit : ℕ) : Type 0 where
  pub few : l.len ≤ 128
  pub used : Used l.intervals.now l.len
  pub within : place ≤ l.len
  pub near : limit ≤ 9000000001000000000

-- how far a walk knows the cycle that has come to the entry at a place, which begins at u: to there, and past the last entry to the limit
abbrev pub reach : ℕ → ℕ → ℕ → ℕ → ℕ
reach n place u limit = cond (ltb place n) (min u limit) limit

-- h shows the cycle that begins at base, from lo to before the limit
abbrev pub Cycles : (ℕ → ℕ) → Entries → ℕ → ℕ → ℕ → Type 0
Cycles h l base lo limit = (v : ℕ) → lo ≤ v → v < limit → h v ≡ octet_at (list_of (lent l)) (v - base)

-- the walk from the entry at a place, which begins at from, has come to the entry at i, which begins at u
pub record Goes (l : Entries) (place from limit : ℕ) (ends : List ℕ) (g : Gates) (i u : ℕ) (r : Gates) : Type 0 where
  pub after : place ≤ i
  pub within : i ≤ l.len
  pub later : from ≤ u
  pub sums : (base : ℕ) → base + sum_to l.intervals.now place ≡ from → base + sum_to l.intervals.now i ≡ u
  pub told : (h : ℕ → ℕ) (t wanted base lo : ℕ) → Cycles h l base lo limit → base + sum_to l.intervals.now place ≡ from → (place < l.len → lo ≤ from) → t ≤ lo
      → Tells h t (reach l.len place from limit) wanted ends g → Tells h t (reach l.len i u limit) wanted ends r

-- to before the limit
unfoldable pub Sweeps : Entries → ℕ → ℕ → ℕ → List ℕ → Gates → Gates → Type 0
Sweeps l place from limit ends g r =
    (h : ℕ → ℕ) (t wanted base lo : ℕ) → Cycles h l base lo limit → base + sum_to l.intervals.now place ≡ from → (place < l.len → lo ≤ from) → t ≤ lo
    → Tells h t (reach l.len place from limit) wanted ends g → Tells h t limit wanted ends r

-- the walk of a stretch, whichever configuration runs there, for a function that shows its cycles and a walk that has come to its first instant
unfoldable pub SweepsList : Stretch → List ℕ → Gates → Gates → Type 0
SweepsList s ends g r = (f : Config) → Plays f s.list.octets.now s.list.intervals.now s.list.len s.period → Runs f s → (h : ℕ → ℕ) (t wanted : ℕ)
    → ((v : ℕ) → s.from ≤ v → v < s.edge → h v ≡ plain_octet f v) → t ≤ s.from → Tells h t s.from wanted ends g → Tells h t s.edge wanted ends r

-- what the look ahead asks of a timetable: numbers in time from its clock on, and lists that can be read
pub record Readable (g : Timetable) : Type 0 where
  pub in_time : (t : ℕ) → g.times.clock ≤ t → t ≤ largest_instant + largest_cycle → InTime g.times t
  pub lists : (w : Which) → is_there g.times w ≡ true → ((1 ≤ (list_in g w).len) × ((list_in g w).len ≤ 128)) × Used (list_in g w).intervals (list_in g w).len

-- a span that governs from t to an edge; and its walk
pub record Spans (x : Times) (t edge : ℕ) (r : Span) : Type 0 where
  pub after : t < edge
  pub upto : edge ≤ r.edge
  pub near : edge ≤ largest_instant + largest_cycle
  pub governs : Governs x t r

unfoldable pub SweepsSpan : Timetable → ℕ → ℕ → List ℕ → Gates → Gates → Type 0
SweepsSpan x t edge ends g r = (u wanted : ℕ) → u ≤ t → Tells (shown (decode x)) u t wanted ends g → Tells (shown (decode x)) u edge wanted ends r
