-- Document 01, the sentence on 14, as far as it concerns a timetable: when its record is well formed, condition by condition. Any bit pattern of the fields
-- is judged. A mark is an octet, 0 or 1.
-- Assumes nothing.
use Rattle.std.specs.Prelude.{ℕ, ◌+◌, Bool, not, ◌&&◌, ◌||◌, ◌==◌, nat_le, nat_lt}
use Rattle.rule.specs.Limits.{largest_instant, largest_cycle}
use Rattle.gatelist.specs.declared.GateList.{GateList}
use Rattle.gatelist.specs.Sound.{list_formed}
use Rattle.timetable.specs.declared.Times.{Times}
use Rattle.timetable.specs.declared.Timetable.{Timetable}
use Rattle.timetable.specs.declared.ruling.Which.{Which}
use Rattle.timetable.specs.declared.ruling.Which.TheVariants.{Operating, Waiting}

-- the first if b holds, else the second; the first only if b holds
abbrev pub either : Bool → Bool → Bool → Bool
either b x y = (b && x) || (not b && y)

abbrev pub only_if : Bool → Bool → Bool
only_if b x = not b || x

abbrev pub mark_ok : ℕ → Bool
mark_ok n = nat_le n 1

abbrev pub is_marked : ℕ → Bool
is_marked n = n == 1

-- the lists of the record
abbrev pub old_list : Timetable → GateList
old_list g = record { octets = g.octets; intervals = g.intervals; len = g.times.len }

abbrev pub new_list : Timetable → GateList
new_list g = record { octets = g.newoctets; intervals = g.newintervals; len = g.times.newlen }

-- one of the two, and whether its configuration is there
abbrev pub list_in : Timetable → Which → GateList
list_in g Operating = old_list g
list_in g Waiting = new_list g

abbrev pub is_there : Times → Which → Bool
is_there x Operating = is_marked x.operates
is_there x Waiting = is_marked x.waits

-- one of two values
abbrev pub by_which : {A : Type 0} → Which → A → A → A
by_which Operating old new = old
by_which Waiting old new = new

-- the marks are marks
unfoldable pub marks_ok : Times → Bool
marks_ok x = mark_ok x.on && (mark_ok x.operates && mark_ok x.waits)

-- nothing operates or waits while off
unfoldable pub idle_while_off : Times → Bool
idle_while_off x = is_marked x.on || (not (is_marked x.operates) && not (is_marked x.waits))

-- cycles in range; an absent configuration is all zeros
unfoldable pub config_numbers : Bool → ℕ → ℕ → ℕ → Bool
config_numbers there cycle extension start =
    either there (nat_le 1 cycle && nat_le cycle largest_cycle) (cycle == 0 && (extension == 0 && start == 0))

-- I ≤ clock; a present list has 1 to 128 entries, used intervals not 0, unused places 0; an absent one is all zeros
unfoldable pub operating_formed : Timetable → Bool
operating_formed g =
    let x : Times = g.times in
    only_if (is_marked x.operates) (nat_le x.start x.clock)
    && (config_numbers (is_marked x.operates) x.cycle x.extension x.start && list_formed (is_marked x.operates) (old_list g))

-- a ≤ clock < P ≤ largest instant + 10^9 and, if one operates, I ≤ a
unfoldable pub waits_in_time : Times → Bool
waits_in_time x =
    nat_le x.since x.clock
    && (nat_lt x.clock x.change
    && (nat_le x.change (largest_instant + largest_cycle) && only_if (is_marked x.operates) (nat_le x.start x.since)))

unfoldable pub waiting_formed : Timetable → Bool
waiting_formed g =
    let x : Times = g.times in
    either (is_marked x.waits) (waits_in_time x) (x.since == 0)
    && (config_numbers (is_marked x.waits) x.newcycle x.newextension x.change && list_formed (is_marked x.waits) (new_list g))

-- clock within range, and the parts
unfoldable pub timetable_formed : Timetable → Bool
timetable_formed g =
    nat_le g.times.clock largest_instant && (marks_ok g.times && (idle_while_off g.times && (operating_formed g && waiting_formed g)))
