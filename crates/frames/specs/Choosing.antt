-- Document 01, 'Choosing a frame': what the parts of a choice compute. An octet of classes holds one bit for each, as a gate octet does. Private to
-- the crate.
-- Assumes nothing.
use Rattle.std.specs.Prelude.{◌≡◌, Bool, true, not, ◌&&◌, ◌||◌, List, ℕ, ◌+◌, ◌/◌, ◌≤◌, ◌<◌, eqb, ltb, get_or}
use Rattle.std.proofs.Math.Option.{Option}
use Rattle.rule.specs.Limits.{largest_instant, largest_cycle, longest_frame, longest_span}
use Rattle.rule.specs.Gates.{is_open}
use Rattle.rule.specs.Choice.{duration, highest, frame_for, chosen}
use Rattle.rule.specs.Orders.{speed_offered}
use Rattle.rule.specs.Timetable.{Timetable, shown}
use Rattle.rule.specs.Port.{Frame}
use Rattle.frames.specs.declared.Frame as declared
use Rattle.frames.specs.Frame.{encode_frame}

-- the octet with one class's bit set, if b
abbrev pub Sets : ℕ → Bool → ℕ → ℕ → Type 0
Sets class b octet r = (k : ℕ) → k < 8 → is_open r k ≡ is_open octet k || (b && eqb k class)

-- the bits of the classes below n are those that pass; the others are not set
abbrev pub Forms : (ℕ → Bool) → ℕ → ℕ → Type 0
Forms q n r = (k : ℕ) → k < 8 → is_open r k ≡ ltb k n && q k

-- the class has a frame
abbrev pub headed : List ℕ → ℕ → Bool
headed heads k = not (eqb (get_or heads k 0) 0)

-- what a transmit asks for at t, of the classes below n: the octet of those that have a frame, when the last octet of each is out, and an instant by which
-- that is so of those that are there
pub record Asks (heads : List ℕ) (speed t n wanted last : ℕ) (ends : List ℕ) : Type 0 where
  pub formed : Forms (headed heads) n wanted
  pub each : (k : ℕ) → k < n → get_or ends k 0 ≡ t + duration (get_or heads k 0) speed
  pub from : t ≤ last
  pub upto : (k : ℕ) → k < n → headed heads k ≡ true → get_or ends k 0 ≤ last
  pub near : last ≤ t + longest_span

-- what an accepted transmit is asked with
pub record Offered (heads : List ℕ) (speed : ℕ) : Type 0 where
  pub fast : speed_offered speed ≡ true
  pub short : (k : ℕ) → get_or heads k 0 ≤ longest_frame

-- the gap after any of the eight frames lies in time
abbrev pub Near : List ℕ → ℕ → Type 0
Near ends gap = (k : ℕ) → k < 8 → get_or ends k 0 + gap ≤ largest_instant + largest_cycle

-- the frame of the highest class of an octet, by the last octets of the eight frames and the gap
abbrev pub Begins : ℕ → List ℕ → ℕ → ℕ → declared.Frame → Type 0
Begins octet ends gap t r = (heads : List ℕ) (speed : ℕ) → ((k : ℕ) → k < 8 → get_or ends k 0 ≡ t + duration (get_or heads k 0) speed) → gap ≡ 96_000 / speed
    → r ≡ encode_frame (frame_for heads speed t (highest (is_open octet) 8))

-- the frame that an accepted transmit begins
abbrev pub begun : List ℕ → ℕ → Timetable → Option Frame
begun heads speed m = chosen heads speed m.clock (shown m)
