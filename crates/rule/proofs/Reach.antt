-- Document 01, 'Step': what one step does with its room. It reports the first m changes; it reaches the goal if those are all; otherwise it stands 1 ns
-- before the next one (`stepped`). With room for at least one change it moves on unless the goal is now (`moves`). Over any machine.
-- Assumes nothing.
use mathlib.Core.Path.{◌≡◌, refl, ap, sym, ◌∙◌}
use mathlib.Core.Bool.{Bool, true, false}
use mathlib.Core.List.{◌∷◌}
use Prim.Native.Nat.{ℕ, zero, suc, ◌≤◌, ◌<◌}
use native.Mathlib.Omega.{arith}
use lib.ListN.{length, take}
use lib.Seq.{take-nil}
use Rattle.rule.specs.Machine.{Machine, onward, ticks, noted, log, reach}

module _ (M : Machine) where
  open M use {State, Out, clock, tick, now, same}

  -- the next instant shows the same
  unfoldable pub alike : State → Bool
  alike s = same (now s) (now (tick s))

  log-suc : (n : ℕ) (s : State) {b : Bool} → alike s ≡ b → log M (suc n) s ≡ noted M b (tick s) (log M n (tick s))
  unfolding log alike
  log-suc n s e = ap (λ b. noted M b (tick s) (log M n (tick s))) e

  reach-suc : (n m : ℕ) (s : State) {b : Bool} → alike s ≡ b → reach M (suc n) m s ≡ onward b m (λ r. reach M n r (tick s))
  unfolding reach alike
  reach-suc n m s e = ap (λ b. onward b m (λ r. reach M n r (tick s))) e

  -- k is how many of n instants a step with room for m changes gets through: it reports the first m changes; if there are no more it comes to
  -- the goal, and else it stands before the next change
  pub record Stepped (n m : ℕ) (s : State) (k : ℕ) : Type 0 where
    pub within : k ≤ n
    pub first : log M k s ≡ take m (log M n s)
    pub whole : length (log M n s) ≤ m → k ≡ n
    pub stops : m < length (log M n s) → (k < n) × (alike (ticks M k s) ≡ false)

  -- from the next instant's step; the test's outcome is b
  one_more : (n : ℕ) (s : State) → ((m : ℕ) → Stepped n m (tick s) (reach M n m (tick s))) → (b : Bool) → alike s ≡ b → (m : ℕ)
      → Stepped (suc n) m s (onward b m (λ r. reach M n r (tick s)))
  unfolding ticks noted log
  one_more n s ih true e m = record {
    within = omega (arith, (ih m).within);
    first = log-suc (reach M n m (tick s)) s e ∙ (ih m).first ∙ sym (ap (take m) (log-suc n s e));
    whole = rw (log-suc n s e) λ h. ap suc ((ih m).whole h);
    stops = rw (log-suc n s e) λ h. (omega (arith, ((ih m).stops h).0), ((ih m).stops h).1);
  }
  one_more n s ih false e zero = record {
    within = omega arith;
    first = refl;
    whole = rw (log-suc n s e) λ h. absurd (omega arith);
    stops = λ _. (omega arith, e);
  }
  one_more n s ih false e (suc r) = record {
    within = omega (arith, (ih r).within);
    first = log-suc (reach M n r (tick s)) s e ∙ ap (λ l. (clock (tick s), now (tick s)) ∷ l) (ih r).first ∙ sym (ap (take (suc r)) (log-suc n s e));
    whole = rw (log-suc n s e) λ h. ap suc ((ih r).whole (omega arith));
    stops = rw (log-suc n s e) λ h. let z = (ih r).stops (omega arith) in (omega (arith, z.0), z.1);
  }

  pub stepped : (n m : ℕ) (s : State) → Stepped n m s (reach M n m s)
  unfolding log reach
  stepped zero m s = record { within = omega arith; first = sym (take-nil m); whole = λ _. refl; stops = λ h. absurd (omega arith) }
  stepped (suc n) m s = rw (reach-suc n m s refl) (one_more n s (λ r. stepped n r (tick s)) (alike s) refl m)

  -- with room for one change a step moves on, unless the goal is now
  pub moves : (n m : ℕ) (s : State) → 0 < reach M (suc n) (suc m) s
  moves n m s = rw (reach-suc n (suc m) s refl) (go (alike s))
    where
      go : (b : Bool) → 0 < onward b (suc m) (λ r. reach M n r (tick s))
      go true = omega arith
      go false = omega arith
