-- A run on the record of a sound port is the machine's run on that port, with the last record encoded (`run_is`); the port stays sound (`sound-run`); the
-- acts tried are the machine's (`tries-is`). What a program sees of a run is in `Given`.
-- Assumes nothing.
use mathlib.Core.Path.{◌≡◌, refl, ap, ◌∙◌}
use mathlib.Core.Bool.{Bool, true, false, cond}
use mathlib.Core.List.{List, [], ◌∷◌, ◌++◌}
use Prim.Native.Nat.{ℕ}
use Rattle.rule.specs.Port as model
use Rattle.rule.specs.Refusals.{accepted}
use Rattle.rule.specs.Acts as rule
use Rattle.rule.specs.Acts.{perform}
use Rattle.rule.specs.Orders.{accepts}
use Rattle.rule.specs.Series as series
use Rattle.rule.specs.Machine.{Outcome, ticks, log}
use Rattle.rule.specs.Series.{attempt, with_act, elapsed}
use Rattle.rule.specs.Machines.{machine}
use Rattle.rule.proofs.Soundness.{Sound}
use Rattle.rule.proofs.Cut.{cases}
use Rattle.rule.proofs.Sound.{sound-perform}
use Rattle.port.specs.declared.Port.{Port}
use Rattle.port.specs.Coding.{encode}
use Rattle.port.specs.Acts.{declines, after}
use Rattle.port.proofs.Coding.{clock-encode}
use Rattle.history.specs.Calls.{Call, act, lend, step, look, room, leaves, reports, run}
use Rattle.history.proofs.Given.{tries_of}
use Rattle.history.proofs.Modelled.{accepted-is, after_is, sound-act, after_step-is, reported-is, sound-step}

-- the machine's calls: a look is none
pub machine_calls : List Call → List (series.Call rule.Act)
machine_calls [] = []
machine_calls (act a ∷ cs) = attempt a ∷ machine_calls cs
machine_calls (lend heads speed ∷ cs) = attempt (rule.transmit heads speed) ∷ machine_calls cs
machine_calls (step goal instants octets ∷ cs) = series.step goal (room instants octets) ∷ machine_calls cs
machine_calls (look t ∷ cs) = machine_calls cs

-- the outcome with its port as a record
abbrev pub recorded : Outcome model.Port ℕ rule.Act → Outcome Port ℕ rule.Act
recorded o = record { port = encode o.port; out = o.out; acts = o.acts }

-- an act, accepted or not, in front of a run
abbrev acting : rule.Act → Bool → ℕ → Outcome Port ℕ rule.Act → Outcome Port ℕ rule.Act
acting a b t r = record { port = r.port; out = r.out; acts = cond b ((t, a) ∷ []) [] ++ r.acts }

-- from the rest of the run
abbrev pub Follows : List Call → Type 0
Follows cs = (m : model.Port) → Sound m → run cs (encode m) ≡ recorded (series.run machine (machine_calls cs) m)

abbrev pub TriesAs : List Call → Type 0
TriesAs cs = (m : model.Port) → Sound m → tries_of cs (encode m) ≡ series.tries machine (machine_calls cs) m

act_run : (cs : List Call) → Follows cs → (m : model.Port) → Sound m → (a : rule.Act)
    → acting a (accepted (declines a (encode m))) (encode m).gates.times.clock (run cs (after a (encode m)))
    ≡ recorded (series.run machine (attempt a ∷ machine_calls cs) m)
unfolding series.run
act_run cs f m s a =
    (λ i. acting a (accepted-is m s a i) (clock-encode m i) (run cs (after_is m s a i)))
    ∙ ap (acting a (accepts a m) m.gates.clock) (f (cond (accepts a m) (perform a m) m) (sound-act m s a))
    ∙ go (accepts a m)
  where
    l : List (series.Call rule.Act)
    l = machine_calls cs

    go : (b : Bool) → acting a b m.gates.clock (recorded (series.run machine l (cond b (perform a m) m)))
        ≡ recorded (cond b (with_act m.gates.clock a (series.run machine l (perform a m))) (series.run machine l m))
    go true = refl
    go false = refl

step_run : (cs : List Call) → Follows cs → (m : model.Port) → Sound m → (goal : ℕ) (instants octets : List ℕ)
    → run (step goal instants octets ∷ cs) (encode m) ≡ recorded (series.run machine (machine_calls (step goal instants octets ∷ cs)) m)
unfolding machine_calls run leaves reports series.run
step_run cs f m s goal instants octets =
    let n : ℕ = room instants octets in
    let q : model.Port = ticks machine (elapsed machine (series.step goal n) m) m in
    (λ i. reporting (reported-is m s goal n i) (run cs (after_step-is m s goal n i)))
    ∙ ap (reporting (log machine (elapsed machine (series.step goal n) m) m)) (f q (sound-step m s goal n))
  where
    reporting : List (ℕ × ℕ) → Outcome Port ℕ rule.Act → Outcome Port ℕ rule.Act
    reporting l r = record { port = r.port; out = l ++ r.out; acts = r.acts }

pub run_is : (cs : List Call) → Follows cs
unfolding machine_calls run leaves reports series.run
run_is [] m s = refl
run_is (act a ∷ cs) m s = act_run cs (run_is cs) m s a
run_is (lend heads speed ∷ cs) m s = act_run cs (run_is cs) m s (rule.transmit heads speed)
run_is (step goal instants octets ∷ cs) m s = step_run cs (run_is cs) m s goal instants octets
run_is (look t ∷ cs) m s = run_is cs m s

-- the acts tried

act-tries : (cs : List Call) → TriesAs cs → (m : model.Port) → Sound m → (a : rule.Act)
    → (((encode m).gates.times.clock, a), accepted (declines a (encode m))) ∷ tries_of cs (after a (encode m))
    ≡ series.tries machine (attempt a ∷ machine_calls cs) m
unfolding series.tries
act-tries cs f m s a =
    (λ i. ((clock-encode m i, a), accepted-is m s a i) ∷ tries_of cs (after_is m s a i))
    ∙ ap (λ l. ((m.gates.clock, a), accepts a m) ∷ l) (f (cond (accepts a m) (perform a m) m) (sound-act m s a))

pub tries-is : (cs : List Call) → TriesAs cs
unfolding machine_calls tries_of leaves series.tries
tries-is [] m s = refl
tries-is (act a ∷ cs) m s = act-tries cs (tries-is cs) m s a
tries-is (lend heads speed ∷ cs) m s = act-tries cs (tries-is cs) m s (rule.transmit heads speed)
tries-is (step goal instants octets ∷ cs) m s =
    let n : ℕ = room instants octets in
    ap (tries_of cs) (after_step-is m s goal n) ∙ tries-is cs _ (sound-step m s goal n)
tries-is (look t ∷ cs) m s = tries-is cs m s

-- the port stays sound

pub sound-run : (cs : List (series.Call rule.Act)) (m : model.Port) → Sound m → Sound (series.run machine cs m).port
unfolding series.run
sound-run [] m s = s
sound-run (series.step goal n ∷ cs) m s = sound-run cs _ (sound-step m s goal n)
sound-run (attempt a ∷ cs) m s =
    cases (λ (r : Outcome model.Port ℕ rule.Act). Sound r.port) (accepts a m) _ _
    (λ e. sound-run cs (perform a m) (sound-perform a m e s))
    (λ _. sound-run cs m s)
