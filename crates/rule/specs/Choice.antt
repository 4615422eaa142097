-- Document 01, 'Choosing a frame' (8.6.8.4), as request 2 of document 02 amends it: transmit picks the highest class that has a frame and whose gate is
-- open at each instant from now to before the frame's end. What is shown at an instant is handed in as a function; a port hands in what its timetable shows
-- if no further act comes, a change that waits included (NOTE 2 of 8.6.8.4).
-- Assumes nothing.
use Rattle.std.specs.Prelude.{Bool, true, false, cond, not, ◌&&◌, List, ℕ, zero, suc, ◌+◌, ◌*◌, ◌/◌, eqb, get_or}
use Rattle.std.proofs.Math.Option.{Option, none, some}
use Rattle.rule.specs.Gates.{is_open}
use Rattle.rule.specs.Port.{Frame}

-- so many ns a frame of a length takes at a speed in Mbit/s: to its last octet, and to the earliest next start, 12 octet times later
unfoldable pub duration : ℕ → ℕ → ℕ
duration len speed = (len + 8) * 8_000 / speed

unfoldable pub next_start : ℕ → ℕ → ℕ
next_start len speed = duration len speed + 96_000 / speed

-- the class's gate is open at each of the n instants from t on, as g shows them
unfoldable pub stays_open : (ℕ → ℕ) → ℕ → ℕ → ℕ → Bool
stays_open g class t zero = true
stays_open g class t (suc n) = is_open (g t) class && stays_open g class (suc t) n

-- at t, with g shown: the class has a frame, and its gate is open at each instant from t to before the frame's end
unfoldable pub qualifies : List ℕ → ℕ → ℕ → (ℕ → ℕ) → ℕ → Bool
qualifies heads speed t g class =
    let len : ℕ = get_or heads class 0 in
    not (eqb len 0) && stays_open g class t (duration len speed)

-- the highest class below n that passes
unfoldable pub highest : (ℕ → Bool) → ℕ → Option ℕ
highest q zero = none
highest q (suc k) = let r = highest q k in cond (q k) (some k) r

unfoldable pub frame_for : List ℕ → ℕ → ℕ → Option ℕ → Option Frame
frame_for heads speed t none = none
frame_for heads speed t (some k) =
    let len : ℕ = get_or heads k 0 in
    some (record { class = k; start = t; last = t + duration len speed; end = t + next_start len speed; counted = false })

unfoldable pub chosen : List ℕ → ℕ → ℕ → (ℕ → ℕ) → Option Frame
chosen heads speed t g = frame_for heads speed t (highest (qualifies heads speed t g) 8)
