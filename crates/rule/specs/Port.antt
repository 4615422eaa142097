-- Document 01, 'What the gates show' and 'Choosing a frame': a port has the timetable of its gates, perhaps a frame being sent, and eight TransmissionOverrun
-- counters. What falls due as the clock goes on by one nanosecond, and the overrun test.
-- Assumes nothing.
use Rattle.std.specs.Prelude.{Bool, true, false, cond, not, ◌&&◌, List, ℕ, suc, leb, ltb, get_or, set, replicate}
use Rattle.std.proofs.Math.Option.{Option, none, some}
use Rattle.rule.specs.Gates.{is_open}
use Rattle.rule.specs.Timetable.{Timetable, new_timetable, raise, shown_now, due}

-- a frame being sent: its last octet is out at last, and the next frame starts no sooner than end, the gap between frames later (document 02, Item 5);
-- counted: its overrun has been counted
pub record Frame : Type 0 where
  pub class : ℕ
  pub start : ℕ
  pub last : ℕ
  pub end : ℕ
  pub counted : Bool

-- the instant before which the frame is on the wire, and the instant at which it is forgotten
unfoldable pub last_octet_at : Frame → ℕ
last_octet_at f = f.last

unfoldable pub forgotten_at : Frame → ℕ
forgotten_at f = f.end

pub record Port : Type 0 where
  pub gates : Timetable
  pub frame : Option Frame
  pub overruns : List ℕ

-- a new port is off, at a given instant, with a given standing octet and zero counters
unfoldable pub new_port : ℕ → ℕ → Port
new_port t octet = record { gates = new_timetable t octet; frame = none; overruns = replicate 8 0 }

-- the frame is forgotten when the clock comes to its end
abbrev pub frame_at : ℕ → Option Frame → Option Frame
frame_at t none = none
frame_at t (some f) = cond (leb (forgotten_at f) t) none (some f)

-- the overrun test at t: the gate of the frame on the wire is closed in the octet shown, and that is counted, once per frame
abbrev pub overran : ℕ → ℕ → Option Frame → Bool
overran t octet none = false
overran t octet (some f) = not f.counted && (ltb t (last_octet_at f) && not (is_open octet f.class))

abbrev pub marked : Bool → Option Frame → Option Frame
marked b none = none
marked true (some f) = some (record { class = f.class; start = f.start; last = f.last; end = f.end; counted = true })
marked false (some f) = some f

abbrev pub counted : Bool → Option Frame → List ℕ → List ℕ
counted b none l = l
counted true (some f) l = set l f.class (raise (get_or l f.class 0))
counted false (some f) l = l

abbrev pub tested : Port → Port
tested p =
    let b : Bool = overran p.gates.clock (shown_now p.gates) p.frame in
    record { gates = p.gates; frame = marked b p.frame; overruns = counted b p.frame p.overruns }

-- the next nanosecond: what falls due happens, then the overrun test
unfoldable pub port_tick : Port → Port
port_tick p =
    let t : ℕ = suc p.gates.clock in
    tested (record { gates = due t p.gates; frame = frame_at t p.frame; overruns = p.overruns })
