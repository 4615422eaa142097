-- A stretch in which the same octet is shown and nothing falls due only moves the clock, if the frame has had its overrun test (`ticks_still`); and every
-- port that a tick or an act leaves has had it. What an efficient step goes by between two changes.
-- Assumes nothing.
use mathlib.Core.Path.{◌≡◌, refl, ap, ◌∙◌}
use mathlib.Core.Bool.{Bool, true, false, not, ◌&&◌, true≢false}
use mathlib.Core.Option.{Option, none, some}
use Prim.Native.Nat.{ℕ, suc, ◌+◌, ◌-◌, ◌≤◌, min}
use native.Mathlib.Omega.{arith}
use lib.Dec.{ltb}
use borrow.Author.Tests.{ltb-false}
use Rattle.rule.specs.Gates.{is_open}
use Rattle.rule.specs.Timetable.{shown, shown_now, due}
use Rattle.rule.specs.Port.{Port, Frame, last_octet_at, frame_at, overran, marked, counted, port_tick}
use Rattle.rule.specs.Acts.{Act, performed, perform}
use Rattle.rule.specs.Machine.{ticks}
use Rattle.rule.specs.Machines.{machine}
use Rattle.rule.specs.Frames.{meets_closed}
use Rattle.rule.proofs.Choice.{open_still}
use Rattle.rule.proofs.Jump.{meets, jump, WaitPast, FramePast, wait_sooner, frame_sooner, operating-now, waiting-now, frame-now, closed_over, ticks-jump, marked_no, counted_no}

-- the frame has had its test with what is shown
abbrev pub Tested : Port → Type 0
Tested p = overran p.gates.clock (shown_now p.gates) p.frame ≡ false

tested_again : (t o : ℕ) (r : Option Frame) → overran t o (marked (overran t o r) r) ≡ false
tested_again t o none = refl
tested_again t o (some f) = go (not f.counted && (ltb t (last_octet_at f) && not (is_open o f.class))) refl
  where
    go : (b : Bool) → not f.counted && (ltb t (last_octet_at f) && not (is_open o f.class)) ≡ b → overran t o (marked b (some f)) ≡ false
    go true e = refl
    go false e = e

pub tested-tick : (p : Port) → Tested (port_tick p)
unfolding port_tick
tested-tick p =
    let t : ℕ = suc p.gates.clock in
    tested_again t (shown_now (due t p.gates)) (frame_at t p.frame)

pub tested-perform : (a : Act) (p : Port) → Tested (perform a p)
unfolding perform
tested-perform a p = tested_again (performed a p).gates.clock (shown_now (performed a p).gates) (performed a p).frame

meets_still : (g : ℕ → ℕ) (c n : ℕ) (r : Option Frame) → ((u : ℕ) → c ≤ u → u ≤ c + n → g u ≡ g c) → overran c (g c) r ≡ false → meets g c n r ≡ false
unfolding meets
meets_still g c n none s h = refl
meets_still g c n (some f) s h = go f.counted (ltb c (last_octet_at f)) refl (is_open (g c) f.class) refl h
  where
    k : ℕ
    k = min n (last_octet_at f - suc c)

    go : (q w : Bool) → ltb c (last_octet_at f) ≡ w → (o : Bool) → is_open (g c) f.class ≡ o → not q && (w && not o) ≡ false
        → not q && meets_closed g c n f ≡ false
    go true w i o e z = refl
    go false false i o e z = closed_over g c f n (omega (arith, ltb-false c (last_octet_at f) i))
    go false true i false e z = absurd (true≢false z)
    go false true i true e z =
        unfold meets_closed in ap not (open_still g f.class (suc c) k (λ u a b. ap (λ v. is_open v f.class) (s u (omega arith) (omega arith)) ∙ e))

-- the port with another clock
abbrev pub clock_at : ℕ → Port → Port
clock_at t p = record {
  gates = record {
    clock = t;
    on = p.gates.on;
    standing = p.gates.standing;
    operating = p.gates.operating;
    waiting = p.gates.waiting;
    errors = p.gates.errors;
  };
  frame = p.frame;
  overruns = p.overruns;
}

pub ticks_still : (n : ℕ) (p : Port) → Tested p → WaitPast (p.gates.clock + n) p.gates.waiting → FramePast (p.gates.clock + n) p.frame
    → ((u : ℕ) → p.gates.clock ≤ u → u ≤ p.gates.clock + n → shown p.gates u ≡ shown p.gates p.gates.clock)
    → ticks machine n p ≡ clock_at (p.gates.clock + n) p
unfolding jump shown_now
ticks_still n p k hw hf s =
    let c : ℕ = p.gates.clock in
    let t : ℕ = c + n in
    let b : meets (shown p.gates) c n p.frame ≡ false = meets_still (shown p.gates) c n p.frame s k in
    ticks-jump n p (wait_sooner c t p.gates.waiting (omega arith) hw) (frame_sooner c t p.frame (omega arith) hf)
    ∙ (λ i. record {
      gates = record {
        clock = t;
        on = p.gates.on;
        standing = p.gates.standing;
        operating = operating-now t p.gates.operating p.gates.waiting hw i;
        waiting = waiting-now t p.gates.waiting hw i;
        errors = p.gates.errors;
      };
      frame = (ap (λ q. frame_at t (marked q p.frame)) b ∙ ap (frame_at t) (marked_no p.frame) ∙ frame-now t p.frame hf) i;
      overruns = (ap (λ q. counted q p.frame p.overruns) b ∙ counted_no p.frame p.overruns) i;
    })
