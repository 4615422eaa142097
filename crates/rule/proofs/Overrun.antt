-- The overrun counters count the frames that met a closed gate, by the rule over the accepted acts, modulo 2^64 (`run-overruns`), and the frame that a
-- transmit begins is the rule's (`chosen_by`). In order: the gates by the acts; a frame and the instants after; one counter; one instant more; an act; what
-- every port keeps; any series of calls.
-- Assumes nothing.
use mathlib.Core.Path.{◌≡◌, refl, ap, sym, ◌∙◌, subst}
use mathlib.Core.Bool.{Bool, true, false, cond, not, ◌&&◌, ◌||◌}
use mathlib.Core.List.{List, [], ◌∷◌}
use mathlib.Core.Option.{Option, none, some}
use Prim.Native.Nat.{ℕ, zero, suc, ◌+◌, ◌-◌, ◌^◌, ◌%◌, ◌≤◌, ◌<◌}
use native.Mathlib.Nat.{sub_self, add-zero, zero-add}
use native.Mathlib.Numerals.{add-one}
use native.Mathlib.Omega.{arith}
use lib.Dec.{leb, ltb, eqb}
use lib.ListN.{length, get_or, length-set, get_or-replicate}
use lib.Seq.{get_or-set_same, get_or-set_other}
use borrow.Author.Tests.{leb-true, ltb-true, ltb-false, le-ltb, eqb-true, eqb-false}
use Rattle.rule.specs.Gates.{is_open}
use Rattle.rule.specs.Timetable.{raise, shown, shown_now, tick}
use Rattle.rule.specs.Port.{Port, Frame, last_octet_at, forgotten_at, frame_at, overran, marked, counted, port_tick, new_port}
use Rattle.rule.specs.Choice.{duration, next_start, qualifies, highest, frame_for, chosen}
use Rattle.rule.specs.Acts.{Act, gates, transmit, performed, perform}
use Rattle.rule.specs.Orders.{accepts_gates, accepts}
use Rattle.rule.specs.Machine.{ticks, Outcome}
use Rattle.rule.specs.Series.{Call, step, attempt, run, elapsed}
use Rattle.rule.specs.Machines.{machine}
use Rattle.rule.specs.Frames.{PortHistory, gate_acts, octet_of, frame_begun, shut, shut_later, bit, overrun_of, rule_overruns}
use Rattle.rule.proofs.Cut.{cases, clock-ticks, Timely, timely_mono, run_timely}
use Rattle.rule.proofs.Laws.{clock-perform, lawful}
use Rattle.rule.proofs.Orders.{transmit_passed}
use Rattle.rule.proofs.Choice.{chosen-same}
use Rattle.rule.proofs.Jump.{InOrder, none_of, closed_none, closed_over, closed-now, closed-later}
use Rattle.rule.proofs.Track.{Tracks, raise-mod, tracks_tick, tracks_shown, tracks_perform, tracks_new}

-- the gates by the acts of the port

tracks_next : (s₀ : ℕ) (h : PortHistory) (p : Port) → Tracks s₀ (gate_acts h) p.gates → Tracks s₀ (gate_acts h) (port_tick p).gates
unfolding port_tick tick
tracks_next s₀ h p k = tracks_tick k

tracks_later : (s₀ : ℕ) (h : PortHistory) (n : ℕ) (p : Port) → Tracks s₀ (gate_acts h) p.gates → Tracks s₀ (gate_acts h) (ticks machine n p).gates
unfolding ticks
tracks_later s₀ h zero p k = k
tracks_later s₀ h (suc n) p k = tracks_later s₀ h n (port_tick p) (tracks_next s₀ h p k)

tracks_act : (s₀ : ℕ) (h : PortHistory) (p : Port) (a : Act) → accepts a p ≡ true → Tracks s₀ (gate_acts h) p.gates
    → Tracks s₀ (gate_acts ((p.gates.clock, a) ∷ h)) (perform a p).gates
unfolding gate_acts perform accepts accepts_gates
tracks_act s₀ h p (gates a) e k = tracks_perform a e k
tracks_act s₀ h p (transmit heads speed) e k = k

-- the port chooses what the rule chooses
pub chosen_by : (s₀ : ℕ) (h : PortHistory) (p : Port) (hs : List ℕ) (v : ℕ) → Tracks s₀ (gate_acts h) p.gates
    → (performed (transmit hs v) p).frame ≡ frame_begun s₀ h p.gates.clock (transmit hs v)
chosen_by s₀ h p hs v t = chosen-same hs v p.gates.clock (shown p.gates) (octet_of s₀ h) (tracks_shown t)

-- a frame and the later instants

module _ (s₀ : ℕ) (f : Frame) where
  later_over : (h : PortHistory) (c u : ℕ) (l : List (ℕ × Act)) (e : ℕ) → last_octet_at f ≤ suc c → last_octet_at f ≤ u → Timely machine lawful u l e
      → shut_later s₀ h f c l e ≡ false
  unfolding shut_later Timely
  later_over h c u [] e p q t = closed_over (octet_of s₀ h) c f (e - c) p
  later_over h c u (x ∷ l) e p q t =
      rw (closed_over (octet_of s₀ h) c f (x.0 - c) p, le-ltb x.0 (last_octet_at f) (omega (arith, t.0)))
      (later_over (x ∷ h) x.0 x.0 l e (omega (arith, t.0)) (omega (arith, t.0)) t.1)

  later-closed : (h : PortHistory) (c : ℕ) (l : List (ℕ × Act)) (e : ℕ) → suc c < last_octet_at f
      → is_open (octet_of s₀ h (suc c)) f.class ≡ false → Timely machine lawful (suc c) l e → shut_later s₀ h f c l e ≡ true
  unfolding shut_later Timely
  later-closed h c [] e q o t =
      let z : e - c ≡ suc (e - suc c) = omega arith in rw (z, closed-now (octet_of s₀ h) c f (e - suc c) q o)
  later-closed h c (x ∷ l) e q o t =
      let z : x.0 - c ≡ suc (x.0 - suc c) = omega (arith, t.0) in rw (z, closed-now (octet_of s₀ h) c f (x.0 - suc c) q o)

  later_open : (h : PortHistory) (c : ℕ) (l : List (ℕ × Act)) (e : ℕ) → suc c < last_octet_at f
      → is_open (octet_of s₀ h (suc c)) f.class ≡ true → Timely machine lawful (suc c) l e → shut_later s₀ h f c l e ≡ shut_later s₀ h f (suc c) l e
  unfolding shut_later Timely
  later_open h c [] e q o t =
      let z : e - c ≡ suc (e - suc c) = omega arith in rw (z, closed-later (octet_of s₀ h) c f (e - suc c) q o)
  later_open h c (x ∷ l) e q o t =
      let z : x.0 - c ≡ suc (x.0 - suc c) = omega (arith, t.0) in rw (z, closed-later (octet_of s₀ h) c f (x.0 - suc c) q o)

  -- an act at the clock itself
  later-act : (h : PortHistory) (c : ℕ) (a : Act) (l : List (ℕ × Act)) (e : ℕ)
      → shut_later s₀ h f c ((c, a) ∷ l) e ≡ shut s₀ ((c, a) ∷ h) f c || shut_later s₀ ((c, a) ∷ h) f c l e
  unfolding shut_later
  later-act h c a l e = rw (sub_self, closed_none (octet_of s₀ h) c f)

  -- the next instant, and what comes after it
  later-tick : (h : PortHistory) (c : ℕ) (l : List (ℕ × Act)) (e : ℕ) → Timely machine lawful (suc c) l e
      → shut s₀ h f (suc c) || shut_later s₀ h f (suc c) l e ≡ shut_later s₀ h f c l e
  later-tick h c l e t = go (ltb (suc c) (last_octet_at f)) refl (is_open (octet_of s₀ h (suc c)) f.class) refl
    where
      go : (w : Bool) → ltb (suc c) (last_octet_at f) ≡ w → (m : Bool) → is_open (octet_of s₀ h (suc c)) f.class ≡ m
          → (w && not m) || shut_later s₀ h f (suc c) l e ≡ shut_later s₀ h f c l e
      go false p m q =
          let z : last_octet_at f ≤ suc c = ltb-false (suc c) (last_octet_at f) p in
          later_over h (suc c) (suc c) l e (omega arith) z t ∙ sym (later_over h c (suc c) l e z z t)
      go true p false q = sym (later-closed h c l e (ltb-true (suc c) (last_octet_at f) p) q t)
      go true p true q = sym (later_open h c l e (ltb-true (suc c) (last_octet_at f) p) q t)

-- one count: the counter of class k is a number N modulo 2^64

-- q: the frame is of the class; n: it was counted before; z: its gate is closed; y: it meets a closed gate later
tested_bits : (q n z y : Bool) → bit (q && (not n && z)) + bit (q && (not (not n && z) && (not n && y))) ≡ bit (q && (not n && (z || y)))
tested_bits false n z y = refl
tested_bits true true z y = refl
tested_bits true false true y = refl
tested_bits true false false y = omega arith

-- the frame is of one of the eight classes, and forgotten no sooner than its last octet is out
abbrev FrameGood : Option Frame → Type 0
FrameGood none = Unit {0}
FrameGood (some f) = (f.class < 8) × InOrder (some f)

-- what the overrun test at t with the octet o adds to class k's counter
abbrev hit : ℕ → ℕ → ℕ → Option Frame → ℕ
hit k t o none = 0
hit k t o (some f) = bit (eqb f.class k && (not f.counted && (ltb t (last_octet_at f) && not (is_open o f.class))))

counted-at : (k t o n : ℕ) (r : Option Frame) (l : List ℕ) → FrameGood r → length l ≡ 8 → get_or l k 0 ≡ n % 2 ^ 64
    → get_or (counted (overran t o r) r l) k 0 ≡ (n + hit k t o r) % 2 ^ 64
counted-at k t o n none l g s e = rw add-zero e
counted-at k t o n (some f) l g s e = go (not f.counted && (ltb t (last_octet_at f) && not (is_open o f.class))) (eqb f.class k) refl
  where
    go : (b q : Bool) → eqb f.class k ≡ q → get_or (counted b (some f) l) k 0 ≡ (n + bit (q && b)) % 2 ^ 64
    go true true p =
        let z : f.class ≡ k = eqb-true f.class k p in
        rw z (get_or-set_same l k (raise (get_or l k 0)) 0 (omega arith) ∙ ap raise e ∙ raise-mod n ∙ ap (λ m. m % 2 ^ 64) (sym (add-one n)))
    go true false p = rw add-zero (get_or-set_other l f.class k (raise (get_or l f.class 0)) 0 (λ z. eqb-false f.class k p (sym z)) ∙ e)
    go false true p = rw add-zero e
    go false false p = rw add-zero e

length-counted : (b : Bool) (r : Option Frame) (l : List ℕ) → length (counted b r l) ≡ length l
length-counted b none l = refl
length-counted true (some f) l = length-set l f.class (raise (get_or l f.class 0))
length-counted false (some f) l = refl

-- what the frame that is being sent will add after c
pending : ℕ → ℕ → PortHistory → ℕ → List (ℕ × Act) → ℕ → Option Frame → ℕ
pending s₀ k h c l e none = 0
pending s₀ k h c l e (some f) = bit (eqb f.class k && (not f.counted && shut_later s₀ h f c l e))

pending_marked : (s₀ k : ℕ) (h : PortHistory) (c : ℕ) (l : List (ℕ × Act)) (e : ℕ) (f : Frame) (b : Bool)
    → pending s₀ k h c l e (marked b (some f)) ≡ bit (eqb f.class k && (not b && (not f.counted && shut_later s₀ h f c l e)))
unfolding pending
pending_marked s₀ k h c l e f true = refl
pending_marked s₀ k h c l e f false = refl

-- the overrun test at t by the history, then the instants after it: what the two add
tested_pending : (s₀ k : ℕ) (h : PortHistory) (t : ℕ) (l : List (ℕ × Act)) (e : ℕ) (f : Frame)
    → let o : ℕ = octet_of s₀ h t in
    hit k t o (some f) + pending s₀ k h t l e (marked (overran t o (some f)) (some f))
    ≡ bit (eqb f.class k && (not f.counted && (shut s₀ h f t || shut_later s₀ h f t l e)))
tested_pending s₀ k h t l e f =
    let o : ℕ = octet_of s₀ h t in
    ap (λ n. hit k t o (some f) + n) (pending_marked s₀ k h t l e f (overran t o (some f)))
    ∙ tested_bits (eqb f.class k) f.counted (shut s₀ h f t) (shut_later s₀ h f t l e)

-- one instant more

pending_tick : (s₀ k : ℕ) (h : PortHistory) (c : ℕ) (l : List (ℕ × Act)) (e : ℕ) (r : Option Frame) → FrameGood r → Timely machine lawful (suc c) l e
    → let o : ℕ = octet_of s₀ h (suc c) in let d : Option Frame = frame_at (suc c) r in
    hit k (suc c) o d + pending s₀ k h (suc c) l e (marked (overran (suc c) o d) d) ≡ pending s₀ k h c l e r
unfolding pending
pending_tick s₀ k h c l e none g t = refl
pending_tick s₀ k h c l e (some f) g t = go (leb (forgotten_at f) (suc c)) refl
  where
    o : ℕ
    o = octet_of s₀ h (suc c)

    go : (b : Bool) → leb (forgotten_at f) (suc c) ≡ b
        → hit k (suc c) o (cond b none (some f)) + pending s₀ k h (suc c) l e (marked (overran (suc c) o (cond b none (some f))) (cond b none (some f)))
        ≡ pending s₀ k h c l e (some f)
    go true p =
        let z : last_octet_at f ≤ suc c = omega (arith, leb-true (forgotten_at f) (suc c) p, g.1) in
        rw (later_over s₀ f h c (suc c) l e z z t, none_of (not f.counted), none_of (eqb f.class k))
    go false p =
        tested_pending s₀ k h (suc c) l e f
        ∙ ap (λ b. bit (eqb f.class k && (not f.counted && b))) (later-tick s₀ f h c l e t)

-- an act at the clock

-- one that leaves the frame alone
pending_kept : (s₀ k : ℕ) (h : PortHistory) (c : ℕ) (a : Act) (l : List (ℕ × Act)) (e : ℕ) (r : Option Frame)
    → let o : ℕ = octet_of s₀ ((c, a) ∷ h) c in
    hit k c o r + pending s₀ k ((c, a) ∷ h) c l e (marked (overran c o r) r) ≡ pending s₀ k h c ((c, a) ∷ l) e r + 0
unfolding pending
pending_kept s₀ k h c a l e none = refl
pending_kept s₀ k h c a l e (some f) =
    tested_pending s₀ k ((c, a) ∷ h) c l e f
    ∙ ap (λ b. bit (eqb f.class k && (not f.counted && b))) (sym (later-act s₀ f h c a l e))
    ∙ sym (add-zero _)

-- one that begins to send a frame, or finds none
pending_begun : (s₀ k : ℕ) (h : PortHistory) (c : ℕ) (l : List (ℕ × Act)) (e : ℕ) (hs : List ℕ) (v : ℕ) (x : Option ℕ)
    → let o : ℕ = octet_of s₀ h c in let r : Option Frame = frame_for hs v c x in
    hit k c o r + pending s₀ k h c l e (marked (overran c o r) r) ≡ overrun_of s₀ k h c l e r
unfolding pending frame_for
pending_begun s₀ k h c l e hs v none = refl
pending_begun s₀ k h c l e hs v (some j) =
    let len : ℕ = get_or hs j 0 in
    tested_pending s₀ k h c l e (record { class = j; start = c; last = c + duration len v; end = c + next_start len v; counted = false })

-- the chosen frame is one of those
frame_good : (c : ℕ) (hs : List ℕ) (v : ℕ) (q : ℕ → Bool) (n : ℕ) → n ≤ 8 → FrameGood (frame_for hs v c (highest q n))
unfolding frame_for highest last_octet_at forgotten_at next_start
frame_good c hs v q zero a = tt
frame_good c hs v q (suc n) a =
    cases (λ x. FrameGood (frame_for hs v c x)) (q n) (some n) (highest q n)
    (λ _. (omega arith, omega arith))
    (λ _. frame_good c hs v q n (omega arith))

-- the port's own

record Good (p : Port) : Type 0 where
  size : length p.overruns ≡ 8
  sent : FrameGood p.frame

good_marked : (b : Bool) (r : Option Frame) → FrameGood r → FrameGood (marked b r)
unfolding last_octet_at forgotten_at
good_marked b none g = tt
good_marked true (some f) g = g
good_marked false (some f) g = g

good_due : (c : ℕ) (r : Option Frame) → FrameGood r → FrameGood (frame_at c r)
good_due c none g = tt
good_due c (some f) g = go (leb (forgotten_at f) c)
  where
    go : (b : Bool) → FrameGood (cond b none (some f))
    go true = tt
    go false = g

-- the counter of class k after some of it: N' modulo 2^64, and what is still to come makes up the sum
record Counts (s₀ k : ℕ) (h : PortHistory) (l : List (ℕ × Act)) (e sum : ℕ) (p : Port) : Type 0 where
  so_far : ℕ
  reads : get_or p.overruns k 0 ≡ so_far % 2 ^ 64
  makes : so_far + pending s₀ k h p.gates.clock l e p.frame ≡ sum

record Kept (s₀ k : ℕ) (h : PortHistory) (l : List (ℕ × Act)) (e sum : ℕ) (p : Port) : Type 0 where
  good : Good p
  counts : Counts s₀ k h l e sum p

-- the overrun test, at the clock c, of a port with the frame r: what it leaves is kept, if the test and what comes after it make up the new sum
tested-kept : (s₀ k : ℕ) (h h' : PortHistory) (l l' : List (ℕ × Act)) (e sum sum' : ℕ) (p : Port) (c : ℕ) (q : Port) (r : Option Frame)
    → Kept s₀ k h l e sum p → FrameGood r → q.gates.clock ≡ c → shown_now q.gates ≡ octet_of s₀ h' c
    → q.frame ≡ marked (overran q.gates.clock (shown_now q.gates) r) r
    → q.overruns ≡ counted (overran q.gates.clock (shown_now q.gates) r) r p.overruns
    → (let o : ℕ = octet_of s₀ h' c in
    hit k c o r + pending s₀ k h' c l' e (marked (overran c o r) r) + sum ≡ pending s₀ k h p.gates.clock l e p.frame + sum')
    → Kept s₀ k h' l' e sum' q
tested-kept s₀ k h h' l l' e sum sum' p c q r x fg ec eo ef ev z =
    let o : ℕ = octet_of s₀ h' c in
    let b : overran q.gates.clock (shown_now q.gates) r ≡ overran c o r = (λ i. overran (ec i) (eo i) r) in
    let f : q.frame ≡ marked (overran c o r) r = ef ∙ ap (λ t. marked t r) b in
    let v : q.overruns ≡ counted (overran c o r) r p.overruns = ev ∙ ap (λ t. counted t r p.overruns) b in
    let w : pending s₀ k h' q.gates.clock l' e q.frame ≡ pending s₀ k h' c l' e (marked (overran c o r) r) =
    (λ i. pending s₀ k h' (ec i) l' e (f i)) in
    record {
      good = record {
        size = ap length v ∙ length-counted (overran c o r) r p.overruns ∙ x.good.size;
        sent = subst FrameGood (sym f) (good_marked (overran c o r) r fg);
      };
      counts = record {
        so_far = x.counts.so_far + hit k c o r;
        reads = ap (λ v. get_or v k 0) v ∙ counted-at k c o x.counts.so_far r p.overruns fg x.good.size x.counts.reads;
        makes = omega (arith, z, w, x.counts.makes);
      };
    }

kept-tick : (s₀ k : ℕ) (h : PortHistory) (l : List (ℕ × Act)) (e sum : ℕ) (p : Port) → Tracks s₀ (gate_acts h) p.gates
    → Timely machine lawful (suc p.gates.clock) l e → Kept s₀ k h l e sum p → Kept s₀ k h l e sum (port_tick p)
unfolding port_tick shown_now
kept-tick s₀ k h l e sum p tr t x =
    let c : ℕ = suc p.gates.clock in
    tested-kept s₀ k h h l l e sum sum p c (port_tick p) (frame_at c p.frame) x (good_due c p.frame x.good.sent) refl
    (tracks_shown (tracks_next s₀ h p tr) c (omega arith)) refl refl
    (ap (λ n. n + sum) (pending_tick s₀ k h p.gates.clock l e p.frame x.good.sent t))

kept-ticks : (s₀ k : ℕ) (h : PortHistory) (l : List (ℕ × Act)) (e sum n : ℕ) (p : Port) → Tracks s₀ (gate_acts h) p.gates
    → Timely machine lawful (p.gates.clock + n) l e → Kept s₀ k h l e sum p → Kept s₀ k h l e sum (ticks machine n p)
unfolding ticks
kept-ticks s₀ k h l e sum zero p tr t x = x
kept-ticks s₀ k h l e sum (suc n) p tr t x =
    let a : (port_tick p).gates.clock + n ≡ p.gates.clock + suc n = unfold port_tick in omega arith in
    kept-ticks s₀ k h l e sum n (port_tick p) (tracks_next s₀ h p tr) (subst (λ u. Timely machine lawful u l e) (sym a) t)
    (kept-tick s₀ k h l e sum p tr (timely_mono machine lawful l e (omega arith) t) x)

-- an accepted act: what it begins to send comes to the sum

-- the octet shown after it is the rule's
shown-act : (s₀ : ℕ) (h : PortHistory) (p : Port) (a : Act) → accepts a p ≡ true → Tracks s₀ (gate_acts h) p.gates
    → shown_now (perform a p).gates ≡ octet_of s₀ ((p.gates.clock, a) ∷ h) p.gates.clock
unfolding shown_now
shown-act s₀ h p a acc t =
    tracks_shown (tracks_act s₀ h p a acc t) (perform a p).gates.clock (omega arith) ∙ ap (octet_of s₀ ((p.gates.clock, a) ∷ h)) (clock-perform a p)

kept-perform : (s₀ k : ℕ) (h : PortHistory) (l : List (ℕ × Act)) (e sum : ℕ) (p : Port) (a : Act)
    → accepts a p ≡ true → Tracks s₀ (gate_acts h) p.gates → Kept s₀ k h ((p.gates.clock, a) ∷ l) e sum p
    → Kept s₀ k ((p.gates.clock, a) ∷ h) l e (sum + overrun_of s₀ k ((p.gates.clock, a) ∷ h) p.gates.clock l e (frame_begun s₀ h p.gates.clock a)) (perform a p)
unfolding perform chosen pending
kept-perform s₀ k h l e sum p (gates a) acc t x =
    let c : ℕ = p.gates.clock in
    let g : Act = gates a in
    tested-kept s₀ k h ((c, g) ∷ h) ((c, g) ∷ l) l e sum (sum + 0) p c (perform g p) p.frame x x.good.sent (clock-perform g p)
    (shown-act s₀ h p g acc t) refl refl (omega (arith, pending_kept s₀ k h c g l e p.frame))
kept-perform s₀ k h l e sum p (transmit hs v) acc t x =
    let c : ℕ = p.gates.clock in
    let g : Act = transmit hs v in
    let q : ℕ → Bool = qualifies hs v c (shown p.gates) in
    let z : pending s₀ k h c ((c, g) ∷ l) e p.frame ≡ 0 = ap (pending s₀ k h c ((c, g) ∷ l) e) (transmit_passed hs v p acc).none_sent in
    let y = pending_begun s₀ k ((c, g) ∷ h) c l e hs v (highest q 8) ∙ ap (overrun_of s₀ k ((c, g) ∷ h) c l e) (chosen_by s₀ h p hs v t) in
    tested-kept s₀ k h ((c, g) ∷ h) ((c, g) ∷ l) l e sum (sum + overrun_of s₀ k ((c, g) ∷ h) c l e (frame_begun s₀ h c g)) p c (perform g p)
    (performed g p).frame x (frame_good c hs v q 8 (omega arith)) (clock-perform g p) (shown-act s₀ h p g acc t) refl refl (omega (arith, y, z))

-- a series of calls

pending_end : (s₀ k : ℕ) (h : PortHistory) (c : ℕ) (r : Option Frame) → pending s₀ k h c [] c r ≡ 0
unfolding pending shut_later
pending_end s₀ k h c none = refl
pending_end s₀ k h c (some f) = rw (sub_self, closed_none (octet_of s₀ h) c f, none_of (not f.counted), none_of (eqb f.class k))

run-kept : (s₀ k sum : ℕ) (cs : List (Call Act)) (h : PortHistory) (p : Port) → Tracks s₀ (gate_acts h) p.gates
    → Kept s₀ k h (run machine cs p).acts (run machine cs p).port.gates.clock sum p
    → get_or (run machine cs p).port.overruns k 0
    ≡ (sum + rule_overruns s₀ k h (run machine cs p).acts (run machine cs p).port.gates.clock) % 2 ^ 64
unfolding run rule_overruns
run-kept s₀ k sum [] h p t x =
    let z : x.counts.so_far ≡ sum + 0 = omega (arith, pending_end s₀ k h p.gates.clock p.frame, x.counts.makes) in
    x.counts.reads ∙ ap (λ n. n % 2 ^ 64) z
run-kept s₀ k sum (step g m ∷ cs) h p t x =
    let n : ℕ = elapsed machine (step g m) p in
    let r = run machine cs (ticks machine n p) in
    run-kept s₀ k sum cs h (ticks machine n p) (tracks_later s₀ h n p t)
    (kept-ticks s₀ k h r.acts r.port.gates.clock sum n p t (subst (λ u. Timely machine lawful u r.acts r.port.gates.clock) (clock-ticks machine lawful n p) (run_timely machine lawful cs (ticks machine n p))) x)
run-kept s₀ k sum (attempt a ∷ cs) h p t w =
    cases (λ (r : Outcome Port ℕ Act). Kept s₀ k h r.acts r.port.gates.clock sum p
    → get_or r.port.overruns k 0 ≡ (sum + rule_overruns s₀ k h r.acts r.port.gates.clock) % 2 ^ 64) (accepts a p) _ _
    (λ acc x.
    let r = run machine cs (perform a p) in
    run-kept s₀ k (sum + overrun_of s₀ k ((p.gates.clock, a) ∷ h) p.gates.clock r.acts r.port.gates.clock (frame_begun s₀ h p.gates.clock a)) cs
    ((p.gates.clock, a) ∷ h) (perform a p) (tracks_act s₀ h p a acc t) (kept-perform s₀ k h _ _ sum p a acc t x) ∙ ap (λ n. n % 2 ^ 64) (omega arith))
    (λ _. run-kept s₀ k sum cs h p t)
    w

pub run-overruns : (t₀ s₀ k : ℕ) (cs : List (Call Act)) → k < 8
    → get_or (run machine cs (new_port t₀ s₀)).port.overruns k 0
    ≡ rule_overruns s₀ k [] (run machine cs (new_port t₀ s₀)).acts (run machine cs (new_port t₀ s₀)).port.gates.clock % 2 ^ 64
unfolding new_port pending gate_acts
run-overruns t₀ s₀ k cs h =
    run-kept s₀ k 0 cs [] (new_port t₀ s₀) (tracks_new t₀ s₀) (record {
      good = record { size = refl; sent = tt };
      counts = record { so_far = 0; reads = get_or-replicate 8 k 0 0 h; makes = refl };
    })
    ∙ ap (λ n. n % 2 ^ 64) (zero-add _)
