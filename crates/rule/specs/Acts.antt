-- Document 01, 'What the gates show': the acts on a timetable, on, off, standing and submit (8.6.9.3.1), and those on a port, which has transmit too
-- (8.6.8.4). Acts happen at the clock's instant; on a port the overrun test follows each.
-- Where 01 narrows the standard: writing the admin values and ConfigChange are one act; ConfigChangeError counts if a configuration operates.
-- Assumes nothing.
use Rattle.std.specs.Prelude.{Bool, true, false, cond, ◌&&◌, List, ℕ, ltb}
use Rattle.std.proofs.Math.Option.{Option, none, some}
use Rattle.rule.specs.Entries.{Entry}
use Rattle.rule.specs.Cycle.{Config, cycle_of, starting_at, change_instant}
use Rattle.rule.specs.Timetable.{Timetable, Waiting, raise, shown, operating_at, waiting_at}
use Rattle.rule.specs.Port.{Port, tested}
use Rattle.rule.specs.Choice.{chosen}

-- what is submitted: the cycle in seconds, the extension in ns, the base time
pub record Submission : Type 0 where
  pub numerator : ℕ
  pub denominator : ℕ
  pub extension : ℕ
  pub base : ℕ
  pub list : List Entry

-- a submission takes the place of what waits (document 02, Item 6), or is strict: document 01's, taken only if nothing waits
pub data GateAct : Type 0 where
  on off : GateAct
  standing : ℕ → GateAct
  submit strict : Submission → GateAct

pub data Act : Type 0 where
  gates : GateAct → Act
  transmit : (heads : List ℕ) (speed : ℕ) → Act

abbrev pub is_some : {A : Type 0} → Option A → Bool
is_some none = false
is_some (some a) = true

-- the timetable with another mark and standing octet, and with another operating and waiting configuration
abbrev pub with_gates : Bool → ℕ → Option Config → Option Waiting → Timetable → Timetable
with_gates mark octet o w p = record { clock = p.clock; on = mark; standing = octet; operating = o; waiting = w; errors = p.errors }

-- the configuration that a submission at a brings, begun at its change instant
unfoldable pub config_of : ℕ → Submission → Config
config_of a x =
    let f : Config = record { start = x.base; cycle = cycle_of x.numerator x.denominator; extension = x.extension; list = x.list } in
    starting_at (change_instant f x.base a) f

-- ConfigChangeError goes up by one if the base time is past and a configuration is operating
unfoldable pub errors_after : ℕ → Submission → Option Config → ℕ → ℕ
errors_after a x o n = cond (ltb x.base a && is_some o) (raise n) n

-- it waits from the clock on, in the place of what waits, unless its change instant is now: what is due then happens at once
unfoldable pub submitted : Submission → Timetable → Timetable
submitted x p =
    let w : Option Waiting = some (record { config = config_of p.clock x; since = p.clock }) in
    record {
      clock = p.clock;
      on = p.on;
      standing = p.standing;
      operating = operating_at p.clock p.operating w;
      waiting = waiting_at p.clock w;
      errors = errors_after p.clock x p.operating p.errors;
    }

abbrev pub perform_gates : GateAct → Timetable → Timetable
perform_gates on p = with_gates true p.standing p.operating p.waiting p
perform_gates off p = with_gates false p.standing none none p
perform_gates (standing octet) p = with_gates p.on octet p.operating p.waiting p
perform_gates (submit x) p = submitted x p
perform_gates (strict x) p = submitted x p

-- an act on a port itself, and with the overrun test
abbrev pub performed : Act → Port → Port
performed (gates a) p = record { gates = perform_gates a p.gates; frame = p.frame; overruns = p.overruns }
performed (transmit heads speed) p = record {
  gates = p.gates;
  frame = chosen heads speed p.gates.clock (shown p.gates);
  overruns = p.overruns;
}

unfoldable pub perform : Act → Port → Port
perform a p = tested (performed a p)
