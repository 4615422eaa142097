-- A series of calls on a machine: what it lets pass, reports, leaves and tries; and the changes of the acts alone. The calls of a port are in crate `history`;
-- these are what its laws are proved over.
-- Assumes nothing.
use Rattle.std.specs.Prelude.{cond, List, [], ◌∷◌, ◌++◌, ℕ, ◌-◌}
use Rattle.rule.specs.Machine.{Machine, Outcome, Try, ticks, log, reach}

-- a call: a step towards a goal with room for so many changes, or an act; either may be refused
pub data Call (A : Type 0) : Type 0 where
  step : (goal room : ℕ) → Call A
  attempt : A → Call A

abbrev pub with_act : {S O A : Type 0} → ℕ → A → Outcome S O A → Outcome S O A
with_act t a r = record { port = r.port; out = r.out; acts = (t, a) ∷ r.acts }

module _ (M : Machine) where
  open M use {State, Out, Act, clock, accepts, perform, accepts_goal}

  -- the instants that a call lets pass: none if it is refused, or an act
  unfoldable pub elapsed : Call Act → State → ℕ
  elapsed (step goal room) s = cond (accepts_goal goal s) (reach M (goal - clock s) room s) 0
  elapsed (attempt a) s = 0

  unfoldable pub run : List (Call Act) → State → Outcome State Out Act
  run [] s = record { port = s; out = []; acts = [] }
  run (step goal room ∷ cs) s =
      let k : ℕ = elapsed (step goal room) s in
      let r = run cs (ticks M k s) in
      record { port = r.port; out = log M k s ++ r.out; acts = r.acts }
  run (attempt a ∷ cs) s = cond (accepts a s) (with_act (clock s) a (run cs (perform a s))) (run cs s)

  -- the changes of the acts alone, each at its instant, to the end
  unfoldable pub replay_log : List (ℕ × Act) → ℕ → State → List (ℕ × Out)
  replay_log [] e s = log M (e - clock s) s
  replay_log (x ∷ l) e s = log M (x.0 - clock s) s ++ replay_log l e (perform x.1 (ticks M (x.0 - clock s) s))

  -- the acts that are tried, each at its instant, with whether it is accepted
  unfoldable pub tries : List (Call Act) → State → List (Try Act)
  tries [] s = []
  tries (step goal room ∷ cs) s = tries cs (ticks M (elapsed (step goal room) s) s)
  tries (attempt a ∷ cs) s = ((clock s, a), accepts a s) ∷ tries cs (cond (accepts a s) (perform a s) s)
