-- Document 02, Item 5: how long a frame of a length takes at a speed, to its last octet and to the earliest next start. The order is 13, 12.
-- Assumes nothing.
use Rattle.std.specs.Prelude.{◌≡◌, List, [], ◌∷◌, ℕ, ◌+◌, ◌*◌, ◌/◌, ◌≤◌, Result, Ok, Err}
use Rattle.std.proofs.Math.Option.{Option, none, some}
use Rattle.rule.specs.declared.Refusal.{Refusal}
use Rattle.rule.specs.Limits.{longest_frame}
use Rattle.rule.specs.Refusals.{number_in, first_of}
use Rattle.rule.specs.Choice.{duration, next_start}
use Rattle.rule.specs.Orders.{duration_order}
use Rattle.frames.specs.declared.FrameTime.{FrameTime}

abbrev pub duration_of : ℕ → ℕ → Option Refusal → Result FrameTime Refusal
duration_of len speed none = Ok (record { last = duration len speed; next = next_start len speed })
duration_of len speed (some r) = Err r

-- the time of an octet: a frame and the gap take so many of them, and few of a frame's length do not take long
pub record OctetTime (speed r : ℕ) : Type 0 where
  pub frame : (len : ℕ) → (len + 8) * r ≡ duration len speed
  pub gap : 12 * r ≡ 96_000 / speed
  pub frame-short : (len : ℕ) → len ≤ longest_frame → (len + 8) * r ≤ 1_606_400
  pub gap-short : 12 * r ≤ 9_600

-- what `duration` promises
abbrev pub Lasts : ℕ → ℕ → Result FrameTime Refusal → Type 0
Lasts len speed r = r ≡ duration_of len speed (first_of (duration_order len speed))

-- the number of an answer, none for an accepted call; and its values: the two times, or zeros
abbrev pub duration_number : Result FrameTime Refusal → Option ℕ
duration_number r = number_in r

abbrev pub duration_values : Result FrameTime Refusal → List ℕ
duration_values (Ok time) = time.last ∷ time.next ∷ []
duration_values (Err r) = 0 ∷ 0 ∷ []
