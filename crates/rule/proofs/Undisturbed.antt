-- Request 8 of document 02: a frame whose gate is open, by what is shown, at each instant until its last octet meets no closed gate as time goes on, and
-- no overrun is counted for it (`open_ticks`); a frame that a transmit chooses is such a frame (`open_chosen`). What is shown has the waiting
-- change in it, so that time alone never closes a gate on a chosen frame.
-- Assumes nothing.
use mathlib.Core.Path.{◌≡◌, refl, ap, ◌∙◌}
use mathlib.Core.Bool.{Bool, true, false, not, ◌&&◌}
use mathlib.Core.List.{List}
use mathlib.Core.Option.{Option, none, some}
use Prim.Native.Nat.{ℕ, suc, ◌+◌, ◌-◌, ◌≤◌, ◌<◌, min}
use native.Mathlib.Omega.{arith}
use lib.Dec.{ltb, eqb}
use lib.ListN.{get_or}
use borrow.Author.Tests.{ltb-true}
use Rattle.rule.specs.Gates.{is_open}
use Rattle.rule.specs.Timetable.{shown}
use Rattle.rule.specs.Port.{Port, Frame, last_octet_at, frame_at, overran, marked, counted}
use Rattle.rule.specs.Choice.{duration, qualifies, chosen}
use Rattle.rule.specs.Machine.{ticks}
use Rattle.rule.specs.Machines.{machine}
use Rattle.rule.specs.Frames.{meets_closed}
use Rattle.rule.proofs.Soundness.{Sound}
use Rattle.rule.proofs.Orders.{both}
use Rattle.rule.proofs.Choice.{Chosen, chosen_is, open_still, open_each}
use Rattle.rule.proofs.Jump.{meets, jump, ticks-jump, wait_ahead, frame-ahead, marked_no, counted_no, none_of}

-- the frame being sent, if there is one, has not been counted, and its gate is open in g at each instant from t on until its last octet
abbrev pub OpenFrom : (ℕ → ℕ) → ℕ → Option Frame → Type 0
OpenFrom g t none = Unit {0}
OpenFrom g t (some f) = (f.counted ≡ false) × ((u : ℕ) → t ≤ u → u < last_octet_at f → is_open (g u) f.class ≡ true)

-- the overrun test finds nothing, at t and at each of n instants after it
pub open_test : (g : ℕ → ℕ) (t : ℕ) (r : Option Frame) → OpenFrom g t r → overran t (g t) r ≡ false
open_test g t none h = refl
open_test g t (some f) h = go (ltb t (last_octet_at f)) refl
  where
    go : (b : Bool) → ltb t (last_octet_at f) ≡ b → not f.counted && (b && not (is_open (g t) f.class)) ≡ false
    go true e =
        ap (λ o. not f.counted && not o) (h.1 t (omega arith) (ltb-true t (last_octet_at f) e)) ∙ none_of (not f.counted)
    go false e = none_of (not f.counted)

open_meets : (g : ℕ → ℕ) (c n : ℕ) (r : Option Frame) → OpenFrom g c r → meets g c n r ≡ false
unfolding meets meets_closed
open_meets g c n none h = refl
open_meets g c n (some f) h =
    ap (λ b. not f.counted && not b) (open_still g f.class (suc c) (min n (last_octet_at f - suc c)) (λ v a b. h.1 v (omega arith) (omega arith)))
    ∙ none_of (not f.counted)

-- n instants on: the frame is as it was, or forgotten, and the counters are as they were
pub open_ticks : (n : ℕ) (p : Port) → Sound p → OpenFrom (shown p.gates) p.gates.clock p.frame
    → ((ticks machine n p).frame ≡ frame_at (p.gates.clock + n) p.frame) × ((ticks machine n p).overruns ≡ p.overruns)
unfolding jump
open_ticks n p s h =
    let e = open_meets (shown p.gates) p.gates.clock n p.frame h in
    let j = ticks-jump n p (wait_ahead p.gates.clock p.gates.operating p.gates.waiting s.gates.waiting) (frame-ahead p.gates.clock p.frame s.frame) in (
      ap (λ (q : Port). q.frame) j ∙ ap (λ b. frame_at (p.gates.clock + n) (marked b p.frame)) e ∙ ap (frame_at (p.gates.clock + n)) (marked_no p.frame),
      ap (λ (q : Port). q.overruns) j ∙ ap (λ b. counted b p.frame p.overruns) e ∙ counted_no p.frame p.overruns,
    )

-- a frame that is chosen at t

pub open_chosen : (heads : List ℕ) (speed t : ℕ) (g : ℕ → ℕ) → OpenFrom g t (chosen heads speed t g)
unfolding qualifies last_octet_at
open_chosen heads speed t g = go (chosen heads speed t g) (chosen_is heads speed t g)
  where
    go : (r : Option Frame) → Chosen heads speed t (qualifies heads speed t g) r → OpenFrom g t r
    go none h = tt
    go (some f) h =
        let z = both (not (eqb (get_or heads f.class 0) 0)) _ h.0.1.0 in (
          ap (λ (x : Frame). x.counted) h.1,
          λ u a b. open_each g f.class t (duration (get_or heads f.class 0) speed) z.1 u a (omega (arith, ap (λ (x : Frame). x.last) h.1)),
        )
