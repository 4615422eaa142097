-- A port that can go to the end of its span: it is fine, and a step to the end is not refused. Of that there is only one proof, as a ghost field asks.
-- Assumes nothing.
use Rattle.std.specs.Prelude.{◌≡◌, true, ℕ}
use Rattle.std.specs.Coded.{Unit-prop}
use Rattle.std.proofs.Math.Option.{Option, none, some}
use Rattle.std.proofs.Props.{props}
use Rattle.rule.specs.Refusals.{accepted}
use Rattle.rule.specs.Cycle.{Config}
use Rattle.rule.specs.Timetable.{Waiting}
use Rattle.rule.specs.Port as model
use Rattle.rule.proofs.Soundness.{SoundOperating, SoundWaiting, SoundFrame}
use Rattle.port.specs.declared.Port.{Port}
use Rattle.port.specs.Checks.{Fine}
use Rattle.port.specs.Step.{step_declines}

pub record Ready (p : Port) (end : ℕ) : Type 0 where
  pub fine : Fine p
  pub goal : accepted (step_declines end p) ≡ true

operating_prop : (t : ℕ) (o : Option Config) → IsProp (SoundOperating t o)
operating_prop t none = Unit-prop
operating_prop t (some f) = Prim.hlevel props

waiting_prop : (t : ℕ) (o : Option Config) (w : Option Waiting) → IsProp (SoundWaiting t o w)
waiting_prop t o none = Unit-prop
waiting_prop t o (some w) = Prim.hlevel (operating_prop, props)

frame_prop : (t : ℕ) (f : Option model.Frame) → IsProp (SoundFrame t f)
frame_prop t none = Unit-prop
frame_prop t (some f) = Prim.hlevel props

pub ready_prop : (p : Port) (end : ℕ) → IsProp (Ready p end)
ready_prop p end = Prim.hlevel (operating_prop, waiting_prop, frame_prop, props)
