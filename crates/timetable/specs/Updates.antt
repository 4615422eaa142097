-- The records that the code makes of a timetable's record, field by field. What they mean for the timetable is in the law files of proofs/.
-- Assumes nothing.
use Rattle.std.specs.Prelude.{ℕ, cond, ◌&&◌, nat_le}
use Rattle.gatelist.specs.declared.GateList.{GateList}
use Rattle.gatelist.specs.Coding.{empty_list}
use Rattle.timetable.specs.declared.Times.{Times}
use Rattle.timetable.specs.declared.Timetable.{Timetable}
use Rattle.timetable.specs.Record.{is_marked}

-- other numbers
abbrev pub with_times : Times → Timetable → Timetable
with_times x g = record { times = x; octets = g.octets; intervals = g.intervals; newoctets = g.newoctets; newintervals = g.newintervals }

-- another mark and standing octet; another clock
abbrev pub switched : ℕ → ℕ → Times → Times
switched mark octet x = record {
  clock = x.clock;
  on = mark;
  standing = octet;
  operates = x.operates;
  waits = x.waits;
  len = x.len;
  cycle = x.cycle;
  extension = x.extension;
  start = x.start;
  newlen = x.newlen;
  newcycle = x.newcycle;
  newextension = x.newextension;
  change = x.change;
  since = x.since;
  errors = x.errors;
}

abbrev pub clocked : ℕ → Times → Times
clocked t x = record {
  clock = t;
  on = x.on;
  standing = x.standing;
  operates = x.operates;
  waits = x.waits;
  len = x.len;
  cycle = x.cycle;
  extension = x.extension;
  start = x.start;
  newlen = x.newlen;
  newcycle = x.newcycle;
  newextension = x.newextension;
  change = x.change;
  since = x.since;
  errors = x.errors;
}

-- off, with nothing operating and nothing waiting; l is the list of all zeros
abbrev pub cleared_with : GateList → Timetable → Timetable
cleared_with l g = record {
  times = record {
    clock = g.times.clock;
    on = 0;
    standing = g.times.standing;
    operates = 0;
    waits = 0;
    len = 0;
    cycle = 0;
    extension = 0;
    start = 0;
    newlen = 0;
    newcycle = 0;
    newextension = 0;
    change = 0;
    since = 0;
    errors = g.times.errors;
  };
  octets = l.octets;
  intervals = l.intervals;
  newoctets = l.octets;
  newintervals = l.intervals;
}

abbrev pub cleared_table : Timetable → Timetable
cleared_table g = cleared_with empty_list g

-- what waits is installed, at t
abbrev pub installed_with : GateList → ℕ → Timetable → Timetable
installed_with l t g = record {
  times = record {
    clock = t;
    on = g.times.on;
    standing = g.times.standing;
    operates = 1;
    waits = 0;
    len = g.times.newlen;
    cycle = g.times.newcycle;
    extension = g.times.newextension;
    start = g.times.change;
    newlen = 0;
    newcycle = 0;
    newextension = 0;
    change = 0;
    since = 0;
    errors = g.times.errors;
  };
  octets = g.newoctets;
  intervals = g.newintervals;
  newoctets = l.octets;
  newintervals = l.intervals;
}

-- the clock at t, and what falls due by then
abbrev pub moved_table : ℕ → Timetable → Timetable
moved_table t g = cond (is_marked g.times.waits && nat_le g.times.change t) (installed_with empty_list t g) (with_times (clocked t g.times) g)
