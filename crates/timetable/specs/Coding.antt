-- The record of a timetable stands for document 01's timetable (the model of crate `rule`): `decode` reads a record, `encode` writes the one record of a
-- timetable. An absent configuration is all zeros, and so are unused places of a list.
-- Assumes nothing.
use Rattle.std.specs.Prelude.{ℕ, Bool, true, false, cond, List, [], length}
use Rattle.std.proofs.Math.Option.{Option, none, some}
use Rattle.rule.specs.Entries.{Entry}
use Rattle.rule.specs.Cycle.{Config}
use Rattle.rule.specs.Timetable as model
use Rattle.rule.specs.Acts.{is_some}
use Rattle.gatelist.specs.Coding.{list_of, encode_list}
use Rattle.timetable.specs.declared.Times.{Times}
use Rattle.timetable.specs.declared.Timetable.{Timetable}
use Rattle.timetable.specs.Record.{is_marked, old_list, new_list}

-- a part that its mark says is there
abbrev pub present : {A : Type 0} → Bool → A → Option A
present true a = some a
present false a = none

-- from the record

abbrev pub old_config : Times → List Entry → Config
old_config x l = record { start = x.start; cycle = x.cycle; extension = x.extension; list = l }

abbrev pub new_waiting : Times → List Entry → model.Waiting
new_waiting x l = record { config = record { start = x.change; cycle = x.newcycle; extension = x.newextension; list = l }; since = x.since }

-- the timetable with these numbers, and the lists of what operates and of what waits
abbrev pub timetable_of : Times → List Entry → List Entry → model.Timetable
timetable_of x old new = record {
  clock = x.clock;
  on = is_marked x.on;
  standing = x.standing;
  operating = present (is_marked x.operates) (old_config x old);
  waiting = present (is_marked x.waits) (new_waiting x new);
  errors = x.errors;
}

unfoldable pub decode : Timetable → model.Timetable
decode g = timetable_of g.times (list_of (old_list g)) (list_of (new_list g))

-- to the record

abbrev pub mark_of : Bool → ℕ
mark_of b = cond b 1 0

abbrev pub no_config : Config
no_config = record { start = 0; cycle = 0; extension = 0; list = [] }

abbrev pub or_nothing : Option Config → Config
or_nothing none = no_config
or_nothing (some f) = f

abbrev pub or_no_waiting : Option model.Waiting → model.Waiting
or_no_waiting none = record { config = no_config; since = 0 }
or_no_waiting (some w) = w

-- the numbers with the parts that they are of
abbrev pub times_of : model.Timetable → Config → model.Waiting → Times
times_of m f w = record {
  clock = m.clock;
  on = mark_of m.on;
  standing = m.standing;
  operates = mark_of (is_some m.operating);
  waits = mark_of (is_some m.waiting);
  len = length f.list;
  cycle = f.cycle;
  extension = f.extension;
  start = f.start;
  newlen = length w.config.list;
  newcycle = w.config.cycle;
  newextension = w.config.extension;
  change = w.config.start;
  since = w.since;
  errors = m.errors;
}

unfoldable pub encode : model.Timetable → Timetable
encode m =
    let f : Config = or_nothing m.operating in
    let w : model.Waiting = or_no_waiting m.waiting in
    record {
      times = times_of m f w;
      octets = (encode_list f.list).octets;
      intervals = (encode_list f.list).intervals;
      newoctets = (encode_list w.config.list).octets;
      newintervals = (encode_list w.config.list).intervals;
    }
