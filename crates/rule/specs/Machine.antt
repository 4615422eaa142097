-- A machine that goes on by one nanosecond at a time, is acted on between, and shows something at every instant. Nothing of gates is in it: the changes of
-- a span, how far a step gets with its room, what acts alone come to and what refused tries are (document 01, 'Step', and demand 3) is said here, once.
-- Assumes nothing.
use Rattle.std.specs.Prelude.{◌≡◌, Bool, true, false, ◌⊎◌, List, [], ◌∷◌, ℕ, zero, suc, ◌-◌}

pub record Machine : Type 1 where
  pub State : Type 0
  pub Out : Type 0
  pub Act : Type 0
  -- the instant at which it stands; the next instant's state; what it shows; whether two of those are one
  pub clock : State → ℕ
  pub tick : State → State
  pub now : State → Out
  pub same : Out → Out → Bool
  -- whether an act is accepted, what it does if it is; whether the goal of a step is accepted
  pub accepts : Act → State → Bool
  pub perform : Act → State → State
  pub accepts_goal : ℕ → State → Bool

-- what a series of calls comes to: the final state, the changes joined end to end, the accepted acts with their instants
pub record Outcome (S O A : Type 0) : Type 0 where
  pub port : S
  pub out : List (ℕ × O)
  pub acts : List (ℕ × A)

-- one instant more, and the rest by f with the room that is left; a change wants room
abbrev pub onward : Bool → ℕ → (ℕ → ℕ) → ℕ
onward true m f = suc (f m)
onward false zero f = 0
onward false (suc r) f = suc (f r)

-- an act with its instant, and whether it is accepted
abbrev pub Try : Type 0 → Type 0
Try A = (ℕ × A) × Bool

-- the second series has the tries of the first, the same act at the same instant, and besides them only refused ones
unfoldable pub Besides : {A : Type 0} → List (Try A) → List (Try A) → Type 0
Besides [] [] = Unit {0}
Besides (x ∷ xs) [] = ⊥
Besides [] (y ∷ ys) = (y.1 ≡ false) × Besides [] ys
Besides (x ∷ xs) (y ∷ ys) = ((x.0 ≡ y.0) × Besides xs ys) ⊎ ((y.1 ≡ false) × Besides (x ∷ xs) ys)

module _ (M : Machine) where
  open M use {State, Out, Act, clock, tick, now, same, accepts, perform, accepts_goal}

  unfoldable pub ticks : ℕ → State → State
  ticks zero s = s
  ticks (suc n) s = ticks n (tick s)

  -- a change, instant and what is shown from then on, in front of the later ones; the test says that nothing changed
  unfoldable pub noted : Bool → State → List (ℕ × Out) → List (ℕ × Out)
  noted true s l = l
  noted false s l = (clock s, now s) ∷ l

  -- the changes of the n instants after the clock
  unfoldable pub log : ℕ → State → List (ℕ × Out)
  log zero s = []
  log (suc n) s = noted (same (now s) (now (tick s))) (tick s) (log n (tick s))

  -- how many of the next n instants a step gets through with room for m changes
  unfoldable pub reach : ℕ → ℕ → State → ℕ
  reach zero m s = 0
  reach (suc n) m s = onward (same (now s) (now (tick s))) m (λ r. reach n r (tick s))

  -- the acts alone, each at its instant, and the end: no steps, no rooms, no refusals
  unfoldable pub replay : List (ℕ × Act) → ℕ → State → State
  replay [] e s = ticks (e - clock s) s
  replay (x ∷ l) e s = replay l e (perform x.1 (ticks (x.0 - clock s) s))
