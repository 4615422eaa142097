-- Document 01, 'What the gates show': the timetable of a gate. It has a clock, a mark, a standing value, perhaps a configuration that operates, perhaps one
-- that waits, and the counter ConfigChangeError; what it shows at any instant if no further act comes, and what falls due as the clock goes on by one
-- nanosecond (8.6.8.4, 8.6.9). What an entry shows is a number: for a port the octet of its eight gates.
-- Assumes nothing.
use Rattle.std.specs.Prelude.{Bool, false, cond, ℕ, suc, ◌+◌, ◌^◌, ◌%◌, leb}
use Rattle.std.proofs.Math.Option.{Option, none, some}
use Rattle.rule.specs.Cycle.{Config, plain_octet, bent_octet}

-- a configuration that waits since an instant, a, until its start, P
pub record Waiting : Type 0 where
  pub config : Config
  pub since : ℕ

pub record Timetable : Type 0 where
  pub clock : ℕ
  pub on : Bool
  pub standing : ℕ
  pub operating : Option Config
  pub waiting : Option Waiting
  pub errors : ℕ

-- off, at a given instant, with a given standing value and a zero counter
unfoldable pub new_timetable : ℕ → ℕ → Timetable
new_timetable t octet = record { clock = t; on = false; standing = octet; operating = none; waiting = none; errors = 0 }

-- a Counter64 goes from 2^64 − 1 to 0
unfoldable pub raise : ℕ → ℕ
raise n = (n + 1) % 2 ^ 64

-- the octet shown at t, with a standing octet, what operates and what waits: the waiting one replaces the operating one at its start, and until then
-- bends it
unfoldable pub octet_under : ℕ → Option Config → Option Waiting → ℕ → ℕ
octet_under standing none none t = standing
octet_under standing (some f) none t = plain_octet f t
octet_under standing none (some w) t = cond (leb w.config.start t) (plain_octet w.config t) standing
octet_under standing (some f) (some w) t =
    cond (leb w.config.start t) (plain_octet w.config t) (bent_octet f w.since w.config.start t)

-- what is shown at t, if no further act comes: the standing octet if the mark is off
unfoldable pub shown : Timetable → ℕ → ℕ
shown p t = cond p.on (octet_under p.standing p.operating p.waiting t) p.standing

unfoldable pub shown_now : Timetable → ℕ
shown_now p = shown p p.clock

-- what falls due at t: the waiting configuration is installed
abbrev pub operating_at : ℕ → Option Config → Option Waiting → Option Config
operating_at t o none = o
operating_at t o (some w) = cond (leb w.config.start t) (some w.config) o

abbrev pub waiting_at : ℕ → Option Waiting → Option Waiting
waiting_at t none = none
waiting_at t (some w) = cond (leb w.config.start t) none (some w)

abbrev pub due : ℕ → Timetable → Timetable
due t p = record {
  clock = t;
  on = p.on;
  standing = p.standing;
  operating = operating_at t p.operating p.waiting;
  waiting = waiting_at t p.waiting;
  errors = p.errors;
}

-- the next nanosecond
unfoldable pub tick : Timetable → Timetable
tick p = due (suc p.clock) p
