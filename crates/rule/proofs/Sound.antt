-- A sound timetable and a sound port stay sound: what falls due and the overrun test keep them so (`sound-ticks`), and so does every accepted act (`sound-perform`); a new port
-- is sound (`sound-new`). In a sound timetable the last old cycle begins at the start that document 01's rule asks for (`sound-last`).
-- Assumes nothing.
use mathlib.Core.Path.{◌≡◌, refl, sym, ◌∙◌, subst⁻¹, subst₂}
use mathlib.Core.Bool.{Bool, true, false, cond, not, ◌&&◌, true≢false}
use mathlib.Core.List.{List, [], ◌∷◌}
use mathlib.Core.Option.{Option, none, some}
use Prim.Native.Nat.{ℕ, zero, suc, ◌+◌, ◌*◌, ◌/◌, ◌%◌, ◌≤◌}
use native.Mathlib.Nat.{mul-le-mul_left, div-mul-le_self, div-add-mod'}
use native.Mathlib.Omega.{arith}
use lib.Dec.{leb, eqb}
use lib.ListN.{length, get_or}
use borrow.Author.Tests.{leb-true, leb-false, eqb-true, not-false}
use Rattle.rule.specs.Limits.{largest_list, largest_instant, largest_cycle, longest_span, shortest_frame, longest_frame}
use Rattle.rule.specs.Cycle.{Config, Valid, cycle_of, cycle_offered, last_no}
use Rattle.rule.specs.Timetable.{Timetable, Waiting, new_timetable, shown, shown_now, operating_at, waiting_at, due}
use Rattle.rule.specs.Port.{Port, Frame, forgotten_at, new_port, frame_at, overran, marked, tested, port_tick}
use Rattle.rule.specs.Choice.{duration, next_start, qualifies, highest, frame_for, chosen}
use Rattle.rule.specs.Acts.{GateAct, on, off, standing, submit, strict, is_some, perform_gates, Act, gates, transmit, Submission, config_of, submitted, performed, perform}
use Rattle.rule.specs.Orders.{any, length_offered, frame_offered, head_offered, last_begun, accepts_gates, accepts}
use Rattle.rule.specs.Machine.{ticks}
use Rattle.rule.specs.Machines.{machine}
use Rattle.rule.proofs.Soundness.{SoundConfig, SoundOperating, SoundWaiting, SoundTimetable, SoundFrame, Sound}
use Rattle.rule.proofs.Cut.{cases}
use Rattle.rule.proofs.Laws.{timetable_lawful}
use Rattle.rule.proofs.Orders.{both, PassedSubmit, submit_passed, strict_passed, transmit_passed}
use Rattle.rule.proofs.Cycles.{Last, last_no_lem}
use Rattle.rule.proofs.ClosedForms.{change_near}
use Rattle.rule.proofs.Choice.{speed_range, duration-some, gap_some}

-- time

marked-sound : (t : ℕ) (b : Bool) (f : Option Frame) → SoundFrame t f → SoundFrame t (marked b f)
marked-sound t b none s = tt
marked-sound t true (some f) s = record { class = s.class; begun = s.begun; before = s.before; some-octet = s.some-octet; some_gap = s.some_gap; short = s.short }
marked-sound t false (some f) s = s

pub sound-tested : (p : Port) → Sound p → Sound (tested p)
sound-tested p s = record {
  gates = s.gates;
  frame = marked-sound p.gates.clock (overran p.gates.clock (shown_now p.gates) p.frame) p.frame s.frame;
}

operating-later : (c t : ℕ) (o : Option Config) → c ≤ t → SoundOperating c o → SoundOperating t o
operating-later c t none h s = tt
operating-later c t (some f) h s = (s.0, omega arith)

-- a change that waits, or that falls due at t
wait_due : (c t : ℕ) (o : Option Config) (w : Waiting) → c ≤ t → SoundOperating c o → SoundConfig w.config → w.since ≤ c
    → w.config.start ≤ largest_instant + largest_cycle → SoundOperating w.since o
    → SoundOperating t (operating_at t o (some w)) × SoundWaiting t (operating_at t o (some w)) (waiting_at t (some w))
wait_due c t o w h s k a n old = go (leb w.config.start t) refl
  where
    go : (b : Bool) → leb w.config.start t ≡ b
        → SoundOperating t (cond b (some w.config) o) × SoundWaiting t (cond b (some w.config) o) (cond b none (some w))
    go true e = ((k, leb-true w.config.start t e), tt)
    go false e =
        (operating-later c t o h s, record { config = k; since = omega arith; before = leb-false w.config.start t e; near = n; old = old })

configs_due : (c t : ℕ) (o : Option Config) (w : Option Waiting) → c ≤ t → SoundOperating c o → SoundWaiting c o w
    → SoundOperating t (operating_at t o w) × SoundWaiting t (operating_at t o w) (waiting_at t w)
configs_due c t o none h s k = (operating-later c t o h s, tt)
configs_due c t o (some w) h s k = wait_due c t o w h s k.config k.since k.near k.old

frame-due : (c t : ℕ) (f : Option Frame) → c ≤ t → SoundFrame c f → SoundFrame t (frame_at t f)
unfolding forgotten_at
frame-due c t none h s = tt
frame-due c t (some f) h s = go (leb f.end t) refl
  where
    go : (b : Bool) → leb f.end t ≡ b → SoundFrame t (cond b none (some f))
    go true e = tt
    go false e = let a = s.begun in record { class = s.class; begun = omega arith; before = leb-false f.end t e; some-octet = s.some-octet; some_gap = s.some_gap; short = s.short }

idle-due : (t : ℕ) (o : Option Config) (w : Option Waiting) → (o ≡ none) × (w ≡ none) → (operating_at t o w ≡ none) × (waiting_at t w ≡ none)
idle-due t o w z = (rw z.1 z.0, rw z.1)

gates-due : (t : ℕ) (p : Timetable) → p.clock ≤ t → t ≤ largest_instant → SoundTimetable p → SoundTimetable (due t p)
gates-due t p h k s =
    let z = configs_due p.clock t p.operating p.waiting h s.operating s.waiting in
    record {
      clock = k;
      idle = λ e. idle-due t p.operating p.waiting (s.idle e);
      operating = z.0;
      waiting = z.1;
    }

sound-tick : (p : Port) → suc p.gates.clock ≤ largest_instant → Sound p → Sound (port_tick p)
unfolding port_tick
sound-tick p h s =
    let t : ℕ = suc p.gates.clock in
    sound-tested (record { gates = due t p.gates; frame = frame_at t p.frame; overruns = p.overruns }) (record {
      gates = gates-due t p.gates (omega arith) h s.gates;
      frame = frame-due p.gates.clock t p.frame (omega arith) s.frame;
    })

pub sound-ticks : (n : ℕ) (p : Port) → p.gates.clock + n ≤ largest_instant → Sound p → Sound (ticks machine n p)
unfolding ticks
sound-ticks zero p h s = s
sound-ticks (suc n) p h s = sound-ticks n (port_tick p) (unfold port_tick in omega arith) (sound-tick p (omega arith) s)

-- acts

pub cycle_range : (n d : ℕ) → cycle_offered n d ≡ true → (1 ≤ cycle_of n d) × (cycle_of n d ≤ largest_cycle)
unfolding cycle_offered
cycle_range n d e =
    let t₁ = both (not (eqb d 0)) _ e in
    let t₂ = both (eqb (n * 1_000_000_000 % d) 0) _ t₁.1 in
    let t₃ = both (leb 1 (cycle_of n d)) (leb (cycle_of n d) largest_cycle) t₂.1 in
    (leb-true 1 (cycle_of n d) t₃.0, leb-true (cycle_of n d) largest_cycle t₃.1)

-- the cycle is a whole number of ns: c × denominator = numerator × 10^9
pub cycle-whole : (n d : ℕ) → cycle_offered n d ≡ true → cycle_of n d * d ≡ n * 1_000_000_000
unfolding cycle_offered
cycle-whole n d e =
    let t₁ = both (not (eqb d 0)) _ e in
    let t₂ = both (eqb (n * 1_000_000_000 % d) 0) _ t₁.1 in
    omega (arith, div-add-mod' (n * 1_000_000_000) d, eqb-true (n * 1_000_000_000 % d) 0 t₂.0)

submission-sound : (too_late : Bool) (x : Submission) (p : Timetable) → PassedSubmit too_late x p → SoundConfig (config_of p.clock x)
unfolding config_of length_offered
submission-sound too_late x p k =
    let r = cycle_range x.numerator x.denominator k.cycle in
    let l = both (leb 1 (length x.list)) (leb (length x.list) largest_list) k.entries in
    record {
      some-entry = leb-true 1 (length x.list) l.0;
      few_entries = leb-true (length x.list) largest_list l.1;
      intervals = k.intervals;
      some-time = r.0;
      short = r.1;
    }

submission-near : (too_late : Bool) (x : Submission) (p : Timetable) → p.clock ≤ largest_instant → PassedSubmit too_late x p
    → (config_of p.clock x).start ≤ largest_instant + largest_cycle
unfolding config_of
submission-near too_late x p h k =
    let r = cycle_range x.numerator x.denominator k.cycle in
    change_near _ x.base p.clock largest_instant largest_cycle r.0 r.1 k.base h

-- a head that is offered is at most the longest frame's
head_short : (n : ℕ) → not (head_offered n) ≡ false → n ≤ longest_frame
unfolding head_offered frame_offered
head_short n e = go (eqb n 0) refl (not-false (cond (eqb n 0) true (leb shortest_frame n && leb n longest_frame)) e)
  where
    go : (b : Bool) → eqb n 0 ≡ b → cond b true (leb shortest_frame n && leb n longest_frame) ≡ true → n ≤ longest_frame
    go true q h = let z = eqb-true n 0 q in omega arith
    go false q h = leb-true n longest_frame (both (leb shortest_frame n) (leb n longest_frame) h).1

pub heads_short : (l : List ℕ) → any (λ n. not (head_offered n)) l ≡ false → (k : ℕ) → get_or l k 0 ≤ longest_frame
heads_short [] e k = omega arith
heads_short (n ∷ l) e k = go (not (head_offered n)) refl e k (λ z j. heads_short l z j)
  where
    go : (b : Bool) → not (head_offered n) ≡ b → cond b true (any (λ n. not (head_offered n)) l) ≡ false → (k : ℕ)
        → (any (λ n. not (head_offered n)) l ≡ false → (j : ℕ) → get_or l j 0 ≤ longest_frame) → get_or (n ∷ l) k 0 ≤ longest_frame
    go true q e k f = absurd (true≢false e)
    go false q e zero f = head_short n q
    go false q e (suc k) f = f e k

pub duration-short : (n v : ℕ) → n ≤ longest_frame → 10 ≤ v → duration n v ≤ 1_606_400
unfolding duration
duration-short n v h k =
    let q : ℕ = (n + 8) * 8_000 / v in
    let a : q * v ≤ (n + 8) * 8_000 = div-mul-le_self ((n + 8) * 8_000) v in
    let b : q * 10 ≤ q * v = mul-le-mul_left q k in
    omega arith

pub next-short : (n v : ℕ) → n ≤ longest_frame → 10 ≤ v → next_start n v ≤ longest_span
unfolding next_start
next-short n v h k =
    let q : ℕ = 96_000 / v in
    let a : q * v ≤ 96_000 = div-mul-le_self 96_000 v in
    let b : q * 10 ≤ q * v = mul-le-mul_left q k in
    omega (arith, duration-short n v h k)

frame-sound : (t : ℕ) (heads : List ℕ) (v : ℕ) (q : ℕ → Bool) (n : ℕ) → n ≤ 8 → 10 ≤ v → v ≤ 1_000 → ((k : ℕ) → get_or heads k 0 ≤ longest_frame)
    → SoundFrame t (frame_for heads v t (highest q n))
unfolding frame_for highest next_start
frame-sound t heads v q zero a b c h = tt
frame-sound t heads v q (suc n) a b c h =
    cases (λ x. SoundFrame t (frame_for heads v t x)) (q n) (some n) (highest q n)
    (λ _. record {
      class = omega arith;
      begun = omega arith;
      before = omega (arith, duration-some (get_or heads n 0) v (omega arith) c);
      some-octet = omega (arith, duration-some (get_or heads n 0) v (omega arith) c);
      some_gap = omega (arith, gap_some v (omega arith) c);
      short = omega (arith, next-short (get_or heads n 0) v (h n) b);
    })
    (λ _. frame-sound t heads v q n (omega arith) b c h)

submitted-sound : (too_late : Bool) (x : Submission) (p : Timetable) → PassedSubmit too_late x p → SoundTimetable p → SoundTimetable (submitted x p)
unfolding submitted
submitted-sound too_late x p k s =
    let z = wait_due p.clock p.clock p.operating (record { config = config_of p.clock x; since = p.clock }) (omega arith) s.operating
    (submission-sound too_late x p k) (omega arith) (submission-near too_late x p s.clock k) s.operating in
    record { clock = s.clock; idle = λ z. absurd (true≢false (sym k.on ∙ z)); operating = z.0; waiting = z.1 }

pub gates-sound : (a : GateAct) (p : Timetable) → accepts_gates a p ≡ true → SoundTimetable p → SoundTimetable (perform_gates a p)
gates-sound on p e s = record { clock = s.clock; idle = λ z. absurd (true≢false z); operating = s.operating; waiting = s.waiting }
gates-sound off p e s = record { clock = s.clock; idle = λ _. (refl, refl); operating = tt; waiting = tt }
gates-sound (standing octet) p e s = record { clock = s.clock; idle = s.idle; operating = s.operating; waiting = s.waiting }
gates-sound (submit x) p e s = submitted-sound (last_begun p.clock p.operating p.waiting) x p (submit_passed x p e) s
gates-sound (strict x) p e s = submitted-sound (is_some p.waiting) x p (strict_passed x p e) s

pub performed-sound : (a : Act) (p : Port) → accepts a p ≡ true → Sound p → Sound (performed a p)
unfolding chosen
performed-sound (gates a) p e s = record {
  gates = gates-sound a p.gates (unfold accepts accepts_gates in e) s.gates;
  frame = subst⁻¹ (λ t. SoundFrame t p.frame) (timetable_lawful.clock-perform a p.gates) s.frame;
}
performed-sound (transmit heads v) p e s =
    let k = transmit_passed heads v p e in
    let r = speed_range v k.speed_offered_lem in
    let c : ℕ = p.gates.clock in
    record {
      gates = s.gates;
      frame = frame-sound c heads v (qualifies heads v c (shown p.gates)) 8 (omega arith) r.0 r.1
          (heads_short heads k.heads_offered);
    }

pub sound-perform : (a : Act) (p : Port) → accepts a p ≡ true → Sound p → Sound (perform a p)
unfolding perform
sound-perform a p e s = sound-tested (performed a p) (performed-sound a p e s)

pub sound-new : (t octet : ℕ) → t ≤ largest_instant → Sound (new_port t octet)
unfolding new_port new_timetable
sound-new t octet h = record { gates = record { clock = h; idle = λ _. (refl, refl); operating = tt; waiting = tt }; frame = tt }

-- the start that `bent_octet` is computed from is the one that document 01 means
pub sound-last : (p : Timetable) → SoundTimetable p → (f : Config) (w : Waiting) → p.operating ≡ some f → p.waiting ≡ some w
    → (valid : Valid f) → Last f valid w.since w.config.start (last_no f w.since w.config.start)
sound-last p s f w eo ew valid =
    let z : SoundWaiting p.clock (some f) (some w) = subst₂ (SoundWaiting p.clock) eo ew s.waiting in
    last_no_lem f valid w.since w.config.start z.old.1
