-- n ticks at once, the form that a program computes, is what the ticks come to: of a timetable (`ticks-due`) and of a port (`ticks-jump`). In order: nothing
-- overdue; what falls due on the way; a frame that meets a closed gate; the frame and the counters; the jump.
-- Assumes nothing.
use mathlib.Core.Path.{◌≡◌, refl, ap, sym, ◌∙◌}
use mathlib.Core.Bool.{Bool, true, false, cond, not, ◌&&◌}
use mathlib.Core.List.{List}
use mathlib.Core.Option.{Option, none, some}
use Prim.Native.Nat.{ℕ, zero, suc, ◌+◌, ◌-◌, ◌≤◌, ◌<◌, min}
use native.Mathlib.Nat.{add-zero}
use native.Mathlib.Omega.{arith}
use lib.Dec.{leb, ltb}
use lib.ListN.{set, get_or}
use borrow.Author.Tests.{leb-true, leb-false, ltb-true, ltb-false, le-leb, lt-leb}
use Rattle.rule.specs.Gates.{is_open}
use Rattle.rule.specs.Cycle.{Config}
use Rattle.rule.specs.Timetable.{Timetable, Waiting, shown, shown_now, operating_at, waiting_at, due, raise, tick}
use Rattle.rule.specs.Port.{Port, Frame, last_octet_at, forgotten_at, frame_at, overran, marked, counted, port_tick}
use Rattle.rule.specs.Choice.{stays_open}
use Rattle.rule.specs.Machine.{ticks}
use Rattle.rule.specs.Machines.{machine}
use Rattle.rule.specs.TimetableMachine.{timetable_machine}
use Rattle.rule.specs.Frames.{meets_closed}
use Rattle.rule.proofs.Soundness.{SoundWaiting, SoundFrame}
use Rattle.rule.proofs.Shown.{shown-tick}
use Rattle.rule.proofs.Choice.{stays_cong}

-- the frame is forgotten no sooner than its last octet is out
abbrev pub InOrder : Option Frame → Type 0
InOrder none = Unit {0}
InOrder (some f) = last_octet_at f ≤ forgotten_at f

-- nothing that was due is left: the waiting change and the frame's end lie past the clock
abbrev pub WaitPast : ℕ → Option Waiting → Type 0
WaitPast c none = Unit {0}
WaitPast c (some w) = c < w.config.start

abbrev pub FramePast : ℕ → Option Frame → Type 0
FramePast c none = Unit {0}
FramePast c (some f) = (c < forgotten_at f) × (last_octet_at f ≤ forgotten_at f)

past_order : (c : ℕ) (f : Option Frame) → FramePast c f → InOrder f
past_order c none k = tt
past_order c (some f) k = k.1

-- nothing is overdue in a sound port
pub wait_ahead : (t : ℕ) (o : Option Config) (w : Option Waiting) → SoundWaiting t o w → WaitPast t w
wait_ahead t o none k = tt
wait_ahead t o (some w) k = k.before

pub frame-ahead : (t : ℕ) (f : Option Frame) → SoundFrame t f → FramePast t f
unfolding last_octet_at forgotten_at
frame-ahead t none k = tt
frame-ahead t (some f) k = (k.before, omega (arith, k.some_gap))

pub wait_sooner : (c t : ℕ) (w : Option Waiting) → c ≤ t → WaitPast t w → WaitPast c w
wait_sooner c t none h k = tt
wait_sooner c t (some w) h k = omega arith

pub frame_sooner : (c t : ℕ) (f : Option Frame) → c ≤ t → FramePast t f → FramePast c f
frame_sooner c t none h k = tt
frame_sooner c t (some f) h k = (omega (arith, k.0), k.1)

pub operating-now : (c : ℕ) (o : Option Config) (w : Option Waiting) → WaitPast c w → operating_at c o w ≡ o
operating-now c o none h = refl
operating-now c o (some w) h = rw (lt-leb w.config.start c h)

pub waiting-now : (c : ℕ) (w : Option Waiting) → WaitPast c w → waiting_at c w ≡ w
waiting-now c none h = refl
waiting-now c (some w) h = rw (lt-leb w.config.start c h)

pub frame-now : (c : ℕ) (f : Option Frame) → FramePast c f → frame_at c f ≡ f
frame-now c none h = refl
frame-now c (some f) h = rw (lt-leb (forgotten_at f) c h.0)

pub marked_no : (f : Option Frame) → marked false f ≡ f
marked_no none = refl
marked_no (some f) = refl

pub counted_no : (f : Option Frame) (l : List ℕ) → counted false f l ≡ l
counted_no none l = refl
counted_no (some f) l = refl

-- due at u, then at t

operating_then : (u t : ℕ) (o : Option Config) (w : Option Waiting) → u ≤ t → operating_at t (operating_at u o w) (waiting_at u w) ≡ operating_at t o w
operating_then u t o none h = refl
operating_then u t o (some w) h = go (leb w.config.start u) refl
  where
    go : (b : Bool) → leb w.config.start u ≡ b → operating_at t (cond b (some w.config) o) (cond b none (some w)) ≡ operating_at t o (some w)
    go true e = rw (le-leb w.config.start t (omega (arith, leb-true)))
    go false e = refl

waiting_then : (u t : ℕ) (w : Option Waiting) → u ≤ t → waiting_at t (waiting_at u w) ≡ waiting_at t w
waiting_then u t none h = refl
waiting_then u t (some w) h = go (leb w.config.start u) refl
  where
    go : (b : Bool) → leb w.config.start u ≡ b → waiting_at t (cond b none (some w)) ≡ waiting_at t (some w)
    go true e = rw (le-leb w.config.start t (omega (arith, leb-true)))
    go false e = refl

-- a timetable

pub due-now : (p : Timetable) → WaitPast p.clock p.waiting → due (p.clock + 0) p ≡ p
due-now p h =
    let z : p.clock + 0 ≡ p.clock = add-zero p.clock in
    λ i. record {
      clock = z i;
      on = p.on;
      standing = p.standing;
      operating = (ap (λ u. operating_at u p.operating p.waiting) z ∙ operating-now p.clock p.operating p.waiting h) i;
      waiting = (ap (λ u. waiting_at u p.waiting) z ∙ waiting-now p.clock p.waiting h) i;
      errors = p.errors;
    }

pub due-tick : (n : ℕ) (p : Timetable) → due ((tick p).clock + n) (tick p) ≡ due (p.clock + suc n) p
unfolding tick
due-tick n p =
    let c : ℕ = p.clock in
    let e : suc c + n ≡ c + suc n = omega arith in
    let o : operating_at (suc c + n) (tick p).operating (tick p).waiting ≡ operating_at (c + suc n) p.operating p.waiting =
    ap (λ u. operating_at u (tick p).operating (tick p).waiting) e ∙ operating_then (suc c) (c + suc n) p.operating p.waiting (omega arith) in
    let w : waiting_at (suc c + n) (tick p).waiting ≡ waiting_at (c + suc n) p.waiting =
    ap (λ u. waiting_at u (tick p).waiting) e ∙ waiting_then (suc c) (c + suc n) p.waiting (omega arith) in
    λ i. record { clock = e i; on = p.on; standing = p.standing; operating = o i; waiting = w i; errors = p.errors }

pub wait_past : (u : ℕ) (w : Option Waiting) → WaitPast u (waiting_at u w)
wait_past u none = tt
wait_past u (some w) = go (leb w.config.start u) refl
  where
    go : (b : Bool) → leb w.config.start u ≡ b → WaitPast u (cond b none (some w))
    go true e = tt
    go false e = omega (arith, leb-false)

pub ticks-due : (n : ℕ) (p : Timetable) → WaitPast p.clock p.waiting → ticks timetable_machine n p ≡ due (p.clock + n) p
unfolding ticks
ticks-due zero p h = sym (due-now p h)
ticks-due (suc n) p h = ticks-due n (tick p) (unfold tick in wait_past (suc p.clock) p.waiting) ∙ due-tick n p

-- a frame that meets a closed gate

module _ (g : ℕ → ℕ) (c : ℕ) (f : Frame) where
  pub closed_none : meets_closed g c 0 f ≡ false
  unfolding meets_closed stays_open
  closed_none = let e : min 0 (last_octet_at f - suc c) ≡ 0 = omega arith in rw e

  module _ (n : ℕ) where
    -- its last octet is out by the next instant; its gate is closed there; open there
    pub closed_over : last_octet_at f ≤ suc c → meets_closed g c n f ≡ false
    unfolding meets_closed stays_open
    closed_over h = let e : min n (last_octet_at f - suc c) ≡ 0 = omega arith in rw e

    pub closed-now : suc c < last_octet_at f → is_open (g (suc c)) f.class ≡ false → meets_closed g c (suc n) f ≡ true
    unfolding meets_closed stays_open
    closed-now h o = let m : min (suc n) (last_octet_at f - suc c) ≡ suc (min n (last_octet_at f - suc (suc c))) = omega arith in rw (m, o)

    pub closed-later : suc c < last_octet_at f → is_open (g (suc c)) f.class ≡ true → meets_closed g c (suc n) f ≡ meets_closed g (suc c) n f
    unfolding meets_closed stays_open
    closed-later h o = let m : min (suc n) (last_octet_at f - suc c) ≡ suc (min n (last_octet_at f - suc (suc c))) = omega arith in rw (m, o)

-- and has not been counted
unfoldable pub meets : (ℕ → ℕ) → ℕ → ℕ → Option Frame → Bool
meets g c n none = false
meets g c n (some f) = not f.counted && meets_closed g c n f

pub none_of : (b : Bool) → b && false ≡ false
none_of true = refl
none_of false = refl

pub meets_none : (g : ℕ → ℕ) (c : ℕ) (f : Option Frame) → meets g c 0 f ≡ false
unfolding meets
meets_none g c none = refl
meets_none g c (some f) = rw (closed_none g c f) (none_of (not f.counted))

meets_cong : (g g' : ℕ → ℕ) (c n : ℕ) (f : Option Frame) → ((u : ℕ) → c < u → g u ≡ g' u) → meets g c n f ≡ meets g' c n f
unfolding meets meets_closed
meets_cong g g' c n none h = refl
meets_cong g g' c n (some f) h = ap (λ b. not f.counted && not b) (stays_cong g g' f.class (suc c) (min n (last_octet_at f - suc c)) h)

module _ (g : ℕ → ℕ) (c n : ℕ) (f : Frame) where
  meets-counted : f.counted ≡ true → meets g c n (some f) ≡ false
  unfolding meets
  meets-counted e = rw e

  meets_over : last_octet_at f ≤ suc c → meets g c n (some f) ≡ false
  unfolding meets
  meets_over h = rw (closed_over g c f n h) (none_of (not f.counted))

  meets_closed_lem : f.counted ≡ false → suc c < last_octet_at f → is_open (g (suc c)) f.class ≡ false → meets g c (suc n) (some f) ≡ true
  unfolding meets
  meets_closed_lem e h o = rw (closed-now g c f n h o, e)

  meets_open : suc c < last_octet_at f → is_open (g (suc c)) f.class ≡ true → meets g c (suc n) (some f) ≡ meets g (suc c) n (some f)
  unfolding meets
  meets_open h o = ap (λ b. not f.counted && b) (closed-later g c f n h o)

gone : (b : Bool) (f : Frame) (t : ℕ) → forgotten_at f ≤ t → frame_at t (marked b (some f)) ≡ none
unfolding forgotten_at
gone true f t h = rw (le-leb f.end t h)
gone false f t h = rw (le-leb f.end t h)

-- what the frame and the counters come to over n more instants, as a tick and then a jump leave them
module _ (g : ℕ → ℕ) (c n t : ℕ) (later : suc c ≤ t) where
  -- after the first instant
  first_frame : Option Frame → Option Frame
  first_frame r = let d : Option Frame = frame_at (suc c) r in marked (overran (suc c) (g (suc c)) d) d

  first_count : Option Frame → List ℕ → List ℕ
  first_count r l = let d : Option Frame = frame_at (suc c) r in counted (overran (suc c) (g (suc c)) d) d l

  record Same (r : Option Frame) (l : List ℕ) : Type 0 where
    fr : frame_at t (marked (meets g (suc c) n (first_frame r)) (first_frame r)) ≡ frame_at t (marked (meets g c (suc n) r) r)
    ct : counted (meets g (suc c) n (first_frame r)) (first_frame r) (first_count r l) ≡ counted (meets g c (suc n) r) r l

  by_first : (x : Option Frame) (y : List ℕ) {r : Option Frame} {l : List ℕ} → first_frame r ≡ x → first_count r l ≡ y
      → frame_at t (marked (meets g (suc c) n x) x) ≡ frame_at t (marked (meets g c (suc n) r) r)
      → counted (meets g (suc c) n x) x y ≡ counted (meets g c (suc n) r) r l → Same r l
  by_first x y p q a b = record { fr = rw p a; ct = rw (p, q) b }

  -- the frame's end has come; it was counted before; its last octet is out; its gate is closed; its gate is open
  same_some : (f : Frame) → InOrder (some f) → (l : List ℕ) (b : Bool) → leb (forgotten_at f) (suc c) ≡ b → (k : Bool) → f.counted ≡ k
      → (w : Bool) → ltb (suc c) (last_octet_at f) ≡ w → (o : Bool) → is_open (g (suc c)) f.class ≡ o → Same (some f) l
  unfolding first_frame first_count
  same_some f h l true e k p w r o q =
      let z : forgotten_at f ≤ suc c = leb-true (forgotten_at f) (suc c) e in
      by_first none l (rw e) (rw e) (sym (gone (meets g c (suc n) (some f)) f t (omega arith))) (rw (meets_over g c (suc n) f (omega (arith, h))))
  same_some f h l false e true p w r o q =
      by_first (some f) l (rw (e, p)) (rw (e, p)) (rw (meets-counted g (suc c) n f p, meets-counted g c (suc n) f p)) (rw (meets-counted g (suc c) n f p, meets-counted g c (suc n) f p))
  same_some f h l false e false p false r o q =
      let z : last_octet_at f ≤ suc c = ltb-false (suc c) (last_octet_at f) r in
      by_first (some f) l (rw (e, r, p)) (rw (e, r, p)) (rw (meets_over g (suc c) n f (omega arith), meets_over g c (suc n) f z)) (rw (meets_over g (suc c) n f (omega arith), meets_over g c (suc n) f z))
  same_some f h l false e false p true r false q =
      let z : suc c < last_octet_at f = ltb-true (suc c) (last_octet_at f) r in
      let f' : Frame = record { class = f.class; start = f.start; last = f.last; end = f.end; counted = true } in
      by_first (some f') (set l f.class (raise (get_or l f.class 0))) (rw (e, r, q, p)) (rw (e, r, q, p))
      (rw (meets_closed_lem g c n f p z q, meets-counted g (suc c) n f' refl)) (rw (meets_closed_lem g c n f p z q, meets-counted g (suc c) n f' refl))
  same_some f h l false e false p true r true q =
      let z : suc c < last_octet_at f = ltb-true (suc c) (last_octet_at f) r in
      by_first (some f) l (rw (e, r, q, p)) (rw (e, r, q, p)) (rw (meets_open g c n f z q)) (rw (meets_open g c n f z q))

  same : (r : Option Frame) → InOrder r → (l : List ℕ) → Same r l
  unfolding first_frame first_count
  same none h l = record { fr = refl; ct = refl }
  same (some f) h l = same_some f h l (leb (forgotten_at f) (suc c)) refl f.counted refl (ltb (suc c) (last_octet_at f)) refl (is_open (g (suc c)) f.class) refl

-- the jump

unfoldable pub jump : ℕ → Port → Port
jump n p =
    let t : ℕ = p.gates.clock + n in
    let b : Bool = meets (shown p.gates) p.gates.clock n p.frame in
    record { gates = due t p.gates; frame = frame_at t (marked b p.frame); overruns = counted b p.frame p.overruns }

tick-jump : (n : ℕ) (p : Port) → InOrder p.frame → jump n (port_tick p) ≡ jump (suc n) p
unfolding jump port_tick tick shown_now first_frame first_count
tick-jump n p h =
    let c : ℕ = p.gates.clock in
    let t : ℕ = c + suc n in
    let e : suc c + n ≡ t = omega arith in
    let g : ℕ → ℕ = shown p.gates in
    let q : Port = port_tick p in
    let e₀ : shown q.gates (suc c) ≡ g (suc c) = shown-tick p.gates (suc c) (omega arith) in
    let m : meets (shown q.gates) (suc c) n q.frame ≡ meets g (suc c) n q.frame =
    meets_cong (shown q.gates) g (suc c) n q.frame (λ u l. shown-tick p.gates u (omega arith)) in
    let s = same g c n t (omega arith) p.frame h p.overruns in
    let d : Option Frame = frame_at (suc c) p.frame in
    let frame_is : frame_at (suc c + n) (marked (meets (shown q.gates) (suc c) n q.frame) q.frame)
    ≡ frame_at t (marked (meets g c (suc n) p.frame) p.frame) =
    (λ i. frame_at (e i) (marked (m i) q.frame))
    ∙ ap (λ o. frame_at t (marked (meets g (suc c) n (marked (overran (suc c) o d) d)) (marked (overran (suc c) o d) d))) e₀
    ∙ s.fr in
    let count-is : counted (meets (shown q.gates) (suc c) n q.frame) q.frame q.overruns
    ≡ counted (meets g c (suc n) p.frame) p.frame p.overruns =
    ap (λ b. counted b q.frame q.overruns) m
    ∙ ap (λ o. counted (meets g (suc c) n (marked (overran (suc c) o d) d)) (marked (overran (suc c) o d) d) (counted (overran (suc c) o d) d p.overruns)) e₀
    ∙ s.ct in
    λ i. record { gates = due-tick n p.gates i; frame = frame_is i; overruns = count-is i }

frame_past : (u : ℕ) (b : Bool) (f : Option Frame) → InOrder f → FramePast u (marked b (frame_at u f))
unfolding last_octet_at forgotten_at
frame_past u b none h = tt
frame_past u b (some f) h = go b (leb f.end u) refl
  where
    go : (b d : Bool) → leb f.end u ≡ d → FramePast u (marked b (cond d none (some f)))
    go b true e = tt
    go true false e = (omega (arith, leb-false), h)
    go false false e = (omega (arith, leb-false), h)

jump_none : (p : Port) → WaitPast p.gates.clock p.gates.waiting → FramePast p.gates.clock p.frame → jump 0 p ≡ p
unfolding jump
jump_none p hw hf =
    let c : ℕ = p.gates.clock in
    let z : c + 0 ≡ c = add-zero c in
    let b : meets (shown p.gates) c 0 p.frame ≡ false = meets_none (shown p.gates) c p.frame in
    λ i. record {
      gates = due-now p.gates hw i;
      frame = ((λ j. frame_at (z j) (marked (b j) p.frame)) ∙ ap (frame_at c) (marked_no p.frame) ∙ frame-now c p.frame hf) i;
      overruns = (ap (λ q. counted q p.frame p.overruns) b ∙ counted_no p.frame p.overruns) i;
    }

pub ticks-jump : (n : ℕ) (p : Port) → WaitPast p.gates.clock p.gates.waiting → FramePast p.gates.clock p.frame → ticks machine n p ≡ jump n p
unfolding ticks port_tick
ticks-jump zero p hw hf = sym (jump_none p hw hf)
ticks-jump (suc n) p hw hf =
    ticks-jump n (port_tick p) (wait_past (suc p.gates.clock) p.gates.waiting) (frame_past (suc p.gates.clock) _ p.frame (past_order p.gates.clock p.frame hf)) ∙ tick-jump n p (past_order p.gates.clock p.frame hf)
