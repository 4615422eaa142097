-- What a timetable will show, if no act comes, does not depend on the clock that asks (`shown-ticks`): so the changes that steps report are those of one
-- function of the instant.
-- Assumes nothing.
use mathlib.Core.Path.{◌≡◌, refl, ap, ◌∙◌}
use mathlib.Core.Bool.{Bool, true, false, cond}
use mathlib.Core.Option.{Option, none, some}
use Prim.Native.Nat.{ℕ, zero, suc, ◌+◌, ◌≤◌, ◌<◌}
use native.Mathlib.Omega.{arith}
use lib.Dec.{leb}
use borrow.Author.Tests.{leb-true, le-leb}
use Rattle.rule.specs.Cycle.{Config}
use Rattle.rule.specs.Timetable.{Timetable, Waiting, octet_under, shown, shown_now, operating_at, waiting_at, tick}
use Rattle.rule.specs.Machine.{ticks}
use Rattle.rule.specs.TimetableMachine.{timetable_machine}
use Rattle.rule.proofs.Cut.{clock-ticks}
use Rattle.rule.proofs.Laws.{timetable_lawful}

-- a change that falls due at u is counted in from u on
due-octet : (st : ℕ) (o : Option Config) (w : Option Waiting) (u t : ℕ) → u ≤ t → octet_under st (operating_at u o w) (waiting_at u w) t ≡ octet_under st o w t
unfolding octet_under
due-octet st o none u t h = refl
due-octet st o (some w) u t h = go (leb w.config.start u) refl o
  where
    go : (b : Bool) → leb w.config.start u ≡ b → (o : Option Config)
        → octet_under st (cond b (some w.config) o) (cond b none (some w)) t ≡ octet_under st o (some w) t
    go true e none = rw (le-leb w.config.start t (omega (arith, leb-true)))
    go true e (some f) = rw (le-leb w.config.start t (omega (arith, leb-true)))
    go false e o = refl

pub shown-tick : (p : Timetable) (t : ℕ) → p.clock < t → shown (tick p) t ≡ shown p t
unfolding shown tick
shown-tick p t h = ap (λ n. cond p.on n p.standing) (due-octet p.standing p.operating p.waiting (suc p.clock) t h)

pub shown-ticks : (n : ℕ) (p : Timetable) (t : ℕ) → p.clock + n ≤ t → shown (ticks timetable_machine n p) t ≡ shown p t
unfolding ticks
shown-ticks zero p t h = refl
shown-ticks (suc n) p t h = shown-ticks n (tick p) t (unfold tick in omega arith) ∙ shown-tick p t (omega arith)

-- at every instant that steps come to, the gates show what the timetable showed for it before
pub now-ticks : (n : ℕ) (p : Timetable) → shown_now (ticks timetable_machine n p) ≡ shown p (p.clock + n)
unfolding shown_now
now-ticks n p = ap (shown (ticks timetable_machine n p)) (clock-ticks timetable_machine timetable_lawful n p) ∙ shown-ticks n p (p.clock + n) (omega arith)
