-- A call on the record of a sound port is the machine's call on that port: acts, then steps. A run is then the machine's run (`Runs`).
-- Assumes nothing.
use mathlib.Core.Path.{◌≡◌, refl, ap, ap₂, sym, ◌∙◌}
use mathlib.Core.Bool.{Bool, true, false, cond, not}
use mathlib.Core.List.{◌∷◌}
use Prim.Native.Nat.{ℕ, ◌-◌}
use native.Mathlib.Omega.{arith}
use Rattle.rule.specs.Limits.{largest_step}
use Rattle.rule.specs.declared.Refusal.TheVariants.{MalformedPort}
use Rattle.rule.specs.Refusals.{first_of, accepted}
use Rattle.rule.specs.Port as model
use Rattle.rule.specs.Acts.{Act, perform}
use Rattle.rule.specs.Orders.{act_order, step_order, accepts, accepts_goal}
use Rattle.rule.specs.Machine.{ticks, log, reach}
use Rattle.rule.specs.Series.{elapsed, step}
use Rattle.rule.specs.Machines.{machine}
use Rattle.rule.proofs.Soundness.{Sound}
use Rattle.rule.proofs.Orders.{goal_passed}
use Rattle.rule.proofs.Reach.{stepped}
use Rattle.rule.proofs.Sound.{sound-ticks, sound-perform}
use Rattle.port.specs.Coding.{encode}
use Rattle.port.specs.Acts.{declines, after}
use Rattle.port.specs.Step.{step_declines, passes, reported, after_step}
use Rattle.port.proofs.Coding.{decode-encode, formed, clock-encode}

-- acts

module _ (m : model.Port) (s : Sound m) (a : Act) where
  pub accepted-is : accepted (declines a (encode m)) ≡ accepts a m
  unfolding declines accepts
  accepted-is = ap₂ (λ w d. accepted (first_of ((not w, MalformedPort) ∷ act_order a d))) (formed m s) (decode-encode m)

  pub after_is : after a (encode m) ≡ encode (cond (accepts a m) (perform a m) m)
  unfolding after
  after_is = ap₂ (λ b d. cond b (encode (perform a d)) (encode m)) accepted-is (decode-encode m) ∙ go (accepts a m)
    where
      go : (b : Bool) → cond b (encode (perform a m)) (encode m) ≡ encode (cond b (perform a m) m)
      go true = refl
      go false = refl

  pub sound-act : Sound (cond (accepts a m) (perform a m) m)
  sound-act = go (accepts a m) refl
    where
      go : (b : Bool) → accepts a m ≡ b → Sound (cond b (perform a m) m)
      go true e = sound-perform a m e s
      go false e = s

-- steps

module _ (m : model.Port) (s : Sound m) (goal : ℕ) where
  pub goal-is : accepted (step_declines goal (encode m)) ≡ accepts_goal goal m.gates
  unfolding step_declines accepts_goal
  goal-is = ap₂ (λ w d. accepted (first_of ((not w, MalformedPort) ∷ step_order largest_step goal d.gates))) (formed m s) (decode-encode m)

  pub passes-is : (room : ℕ) → passes (encode m) goal room ≡ elapsed machine (step goal room) m
  unfolding passes elapsed
  passes-is room i = cond (goal-is i) (reach machine (goal - clock-encode m i) room (decode-encode m i)) 0

  none_passes : (room : ℕ) → accepted (step_declines goal (encode m)) ≡ false → passes (encode m) goal room ≡ 0
  unfolding passes
  none_passes room e = rw e

  pub after_step-is : (room : ℕ) → after_step (encode m) goal (passes (encode m) goal room) ≡ encode (ticks machine (elapsed machine (step goal room) m) m)
  unfolding after_step ticks
  after_step-is room =
      ap (λ d. cond (accepted (step_declines goal (encode m))) (encode (ticks machine k d)) (encode m)) (decode-encode m)
      ∙ go (accepted (step_declines goal (encode m))) refl
      ∙ ap (λ n. encode (ticks machine n m)) (passes-is room)
    where
      k : ℕ
      k = passes (encode m) goal room

      go : (b : Bool) → accepted (step_declines goal (encode m)) ≡ b → cond b (encode (ticks machine k m)) (encode m) ≡ encode (ticks machine k m)
      go true e = refl
      go false e = sym (ap (λ n. encode (ticks machine n m)) (none_passes room e))

  pub reported-is : (room : ℕ) → reported (encode m) (passes (encode m) goal room) ≡ log machine (elapsed machine (step goal room) m) m
  unfolding reported
  reported-is room = ap₂ (λ n d. log machine n d) (passes-is room) (decode-encode m)

  pub sound-step : (room : ℕ) → Sound (ticks machine (elapsed machine (step goal room) m) m)
  unfolding elapsed
  sound-step room = go (accepts_goal goal m.gates) refl
    where
      go : (b : Bool) → accepts_goal goal m.gates ≡ b → Sound (ticks machine (cond b (reach machine (goal - m.gates.clock) room m) 0) m)
      go true e =
          let z = goal_passed goal m.gates e in
          sound-ticks (reach machine (goal - m.gates.clock) room m) m
          (omega (arith, z.reached, z.ahead, (stepped machine (goal - m.gates.clock) room m).within)) s
      go false e = sound-ticks 0 m (omega (arith, s.gates.clock)) s
