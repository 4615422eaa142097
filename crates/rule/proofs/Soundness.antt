-- What document 01's sentence on 14 says of the timetable and the port that a record stands for: a sound one. The sentence itself is written over records
-- (crates `timetable` and `port`); that a sound port stays sound is in `Sound`.
-- Assumes nothing.
use mathlib.Core.Path.{◌≡◌}
use mathlib.Core.Bool.{false}
use mathlib.Core.Option.{Option, none, some}
use Prim.Native.Nat.{ℕ, ◌+◌, ◌-◌, ◌≤◌, ◌<◌}
use lib.ListN.{length}
use Rattle.rule.specs.Limits.{largest_list, largest_instant, largest_cycle, longest_span}
use Rattle.rule.specs.Cycle.{Config}
use Rattle.rule.specs.Timetable.{Timetable, Waiting}
use Rattle.rule.specs.Port.{Port, Frame}
use Rattle.rule.specs.Orders.{has_zero_interval}

-- a present list has 1 to 128 entries, used intervals not 0; cycles in range
pub record SoundConfig (f : Config) : Type 0 where
  pub some-entry : 1 ≤ length f.list
  pub few_entries : length f.list ≤ largest_list
  pub intervals : has_zero_interval f.list ≡ false
  pub some-time : 1 ≤ f.cycle
  pub short : f.cycle ≤ largest_cycle

-- I ≤ t
abbrev pub SoundOperating : ℕ → Option Config → Type 0
SoundOperating t none = Unit {0}
SoundOperating t (some f) = SoundConfig f × (f.start ≤ t)

-- a ≤ clock < P ≤ largest instant + 10^9 and, if one operates, I ≤ a
pub record SoundWait (t : ℕ) (o : Option Config) (w : Waiting) : Type 0 where
  pub config : SoundConfig w.config
  pub since : w.since ≤ t
  pub before : t < w.config.start
  pub near : w.config.start ≤ largest_instant + largest_cycle
  pub old : SoundOperating w.since o

abbrev pub SoundWaiting : ℕ → Option Config → Option Waiting → Type 0
SoundWaiting t o none = Unit {0}
SoundWaiting t o (some w) = SoundWait t o w

-- clock within range; nothing operates or waits while off; and the parts
pub record SoundTimetable (p : Timetable) : Type 0 where
  pub clock : p.clock ≤ largest_instant
  pub idle : p.on ≡ false → (p.operating ≡ none) × (p.waiting ≡ none)
  pub operating : SoundOperating p.clock p.operating
  pub waiting : SoundWaiting p.clock p.operating p.waiting

-- frame class at most 7, start ≤ clock < end, start < last < end, end − start ≤ 1,616,000
pub record SoundSending (t : ℕ) (f : Frame) : Type 0 where
  pub class : f.class ≤ 7
  pub begun : f.start ≤ t
  pub before : t < f.end
  pub some-octet : f.start < f.last
  pub some_gap : f.last < f.end
  pub short : f.end - f.start ≤ longest_span

abbrev pub SoundFrame : ℕ → Option Frame → Type 0
SoundFrame t none = Unit {0}
SoundFrame t (some f) = SoundSending t f

pub record Sound (p : Port) : Type 0 where
  pub gates : SoundTimetable p.gates
  pub frame : SoundFrame p.gates.clock p.frame
