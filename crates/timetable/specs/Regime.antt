-- Document 01, 'What the gates show': which of the two lists rules at an instant, over which cycles, and until when that stays so. Only the numbers and
-- marks of a timetable decide that, whatever the lists hold.
-- Assumes nothing.
use Rattle.std.specs.Prelude.{◌≡◌, ℕ, ◌+◌, ◌-◌, ◌*◌, ◌/◌, ◌<◌, ◌≤◌, min, true, cond, not, Some, None, List, [], nat_le}
use Rattle.rule.specs.Limits.{largest_instant, largest_cycle}
use Rattle.rule.specs.Entries.{Entry}
use Rattle.rule.specs.Cycle.{start_no, last_no}
use Rattle.rule.specs.Timetable.{shown}
use Rattle.rule.proofs.Regime.{Rules}
use Rattle.timetable.specs.declared.Times.{Times}
use Rattle.timetable.specs.declared.ruling.Span.{Span}
use Rattle.timetable.specs.declared.ruling.Which.{Which}
use Rattle.timetable.specs.declared.ruling.Which.TheVariants.{Operating, Waiting}
use Rattle.timetable.specs.Record.{is_marked, is_there, by_which}
use Rattle.timetable.specs.Coding.{old_config, timetable_of}

-- no instant is later
abbrev pub never : ℕ
never = 18_446_744_073_709_551_615

-- the start of the plain cycle that runs at t
abbrev pub plain_from : ℕ → ℕ → ℕ → ℕ
plain_from start cycle t = start + (t - start) / cycle * cycle

-- the standing octet; a list, the operating or the waiting one's
abbrev pub standing_to : ℕ → Span
standing_to edge = record { list = None; start = 0; period = 0; edge = edge }

abbrev pub list_to : Which → ℕ → ℕ → ℕ → Span
list_to which start period edge = record { list = Some which; start = start; period = period; edge = edge }

-- the start of the last old cycle, or the change, if that comes first
unfoldable pub last_start : Times → ℕ
last_start x = min (start_no (old_config x []) (last_no (old_config x []) x.since x.change)) x.change

-- before the change, with one operating; while one waits; at any time
unfoldable pub span_bent : Times → ℕ → Span
span_bent x t =
    cond (nat_le (last_start x) t) (list_to Operating (last_start x) (x.change - last_start x) x.change)
    (list_to Operating (plain_from x.start x.cycle t) x.cycle (last_start x))

unfoldable pub span_waiting : Times → ℕ → Span
span_waiting x t =
    cond (nat_le x.change t) (list_to Waiting (plain_from x.change x.newcycle t) x.newcycle never)
    (cond (is_marked x.operates) (span_bent x t) (standing_to x.change))

unfoldable pub span_at : Times → ℕ → Span
span_at x t =
    cond (not (is_marked x.on)) (standing_to never)
    (cond (is_marked x.waits) (span_waiting x t)
    (cond (not (is_marked x.operates)) (standing_to never) (list_to Operating (plain_from x.start x.cycle t) x.cycle never)))

-- a span, cut no later than its own edge
abbrev pub cut_at : ℕ → Span → Span
cut_at e r = record { list = r.list; start = r.start; period = r.period; edge = e }

-- from t to before the edge the standing octet is shown, or one list is read over cycles
pub record Governs (x : Times) (t : ℕ) (r : Span) : Type 0 where
  pub after : t < r.edge
  pub flat : r.list ≡ None → (old new : List Entry) (v : ℕ) → t ≤ v → v < r.edge → shown (timetable_of x old new) v ≡ x.standing
  pub ruled : (w : Which) → r.list ≡ Some w → (old new : List Entry)
      → Rules (shown (timetable_of x old new)) (by_which w old new) r.period r.start t r.edge
  pub short : (w : Which) → r.list ≡ Some w → r.period ≤ largest_instant + largest_cycle
  pub there : (w : Which) → r.list ≡ Some w → is_there x w ≡ true
