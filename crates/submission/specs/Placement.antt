-- The numbers of a timetable after a submission, field by field: the list operates from the change instant, or waits for it; and the record with them. That
-- this is the record of the timetable after the act is `placed-is` of proofs/Placing.
-- Assumes nothing.
use Rattle.std.specs.Prelude.{ℕ, ◌%◌, cond, ◌&&◌, [], nat_le, nat_lt}
use Rattle.rule.specs.Cycle.{cycle_of}
use Rattle.rule.specs.Timetable.{raise}
use Rattle.gatelist.specs.declared.GateList.{GateList}
use Rattle.gatelist.specs.Coding.{padded}
use Rattle.timetable.specs.declared.Times.{Times}
use Rattle.timetable.specs.declared.Timetable.{Timetable}
use Rattle.timetable.specs.Record.{is_marked}
use Rattle.timetable.specs.Checks.{change_by}
use Rattle.submission.specs.declared.Submission.{Submission}

-- ConfigChangeError, with a base time
unfoldable pub errors_for : ℕ → Times → ℕ
errors_for base x = cond (nat_lt base x.clock && is_marked x.operates) (raise x.errors) x.errors

-- it operates from start, and nothing waits; it waits for start
abbrev pub operating_by : ℕ → ℕ → ℕ → ℕ → ℕ → Times → Times
operating_by len c e s n x = record {
  clock = x.clock;
  on = x.on;
  standing = x.standing;
  operates = 1;
  waits = 0;
  len = len;
  cycle = c;
  extension = e;
  start = s;
  newlen = 0;
  newcycle = 0;
  newextension = 0;
  change = 0;
  since = 0;
  errors = n;
}

abbrev pub waiting_by : ℕ → ℕ → ℕ → ℕ → ℕ → Times → Times
waiting_by len c e s n x = record {
  clock = x.clock;
  on = x.on;
  standing = x.standing;
  operates = x.operates;
  waits = 1;
  len = x.len;
  cycle = x.cycle;
  extension = x.extension;
  start = x.start;
  newlen = len;
  newcycle = c;
  newextension = e;
  change = s;
  since = x.clock;
  errors = n;
}

abbrev pub placed_by : ℕ → ℕ → ℕ → ℕ → ℕ → Times → Times
placed_by len c e s n x = cond (nat_le s x.clock) (operating_by len c e s n x) (waiting_by len c e s n x)

unfoldable pub placed_times : ℕ → Submission → Times → Times
placed_times len s x =
    placed_by len (cycle_of s.numerator s.denominator) s.extension
    (change_by x.clock s.base (cycle_of s.numerator s.denominator) % 18446744073709551616) (errors_for s.base x) x

-- the record with these numbers, and with a list for what waits if that is marked, else for what operates, and then none for what waits
abbrev pub listed_in : GateList → Times → Timetable → Timetable
listed_in l x g =
    cond (is_marked x.waits) (record { times = x; octets = g.octets; intervals = g.intervals; newoctets = l.octets; newintervals = l.intervals })
    (record { times = x; octets = l.octets; intervals = l.intervals; newoctets = padded []; newintervals = padded [] })
