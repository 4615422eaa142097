-- Over a span in which the cycles of one list run, what is shown is that list read over them. In order: a cycle's start and the next; such a span; the plain
-- cycles and the last old cycle of a configuration; what a timetable shows, by its mark and what operates and waits.
-- Assumes nothing.
use mathlib.Core.Path.{◌≡◌, refl, ap, sym, ◌∙◌}
use mathlib.Core.Bool.{Bool, true, false, cond}
use mathlib.Core.List.{List}
use mathlib.Core.Option.{Option, none, some}
use Prim.Native.Nat.{ℕ, suc, ◌+◌, ◌-◌, ◌≤◌, ◌<◌}
use native.Mathlib.Omega.{arith}
use borrow.Author.Tests.{le-leb, lt-leb}
use Rattle.rule.specs.Entries.{Entry, octet_at}
use Rattle.rule.specs.Cycle.{Config, Valid, start_no, cycle_no, last_no, plain_start, bent_start, plain_octet, bent_octet}
use Rattle.rule.specs.Timetable.{Timetable, Waiting, octet_under, shown}
use Rattle.rule.proofs.Cycles.{start-zero, start-suc, start_own, plain_le, next_start_lem, same-cycle}

-- in one cycle the start is one, and the next is the start of its own

pub next-is : (f : Config) → Valid f → (t : ℕ) → start_no f (suc (cycle_no f t)) ≡ plain_start f t + f.cycle
unfolding plain_start
next-is f pos t = start-suc f pos (cycle_no f t)

pub same_start : (f : Config) → Valid f → (t v : ℕ) → f.start ≤ t → plain_start f t ≤ v → v < plain_start f t + f.cycle → plain_start f v ≡ plain_start f t
unfolding plain_start
same_start f pos t v h a b = let e = next-is f pos t in ap (start_no f) (same-cycle f pos t v h a (unfold plain_start in omega arith))

pub next_own : (f : Config) → Valid f → (t : ℕ) → plain_start f (plain_start f t + f.cycle) ≡ plain_start f t + f.cycle
next_own f pos t = ap (plain_start f) (sym (next-is f pos t)) ∙ start_own f pos (suc (cycle_no f t)) ∙ next-is f pos t

-- from t to before e, g is a list read over cycles of a period, of which one that started at s runs at t: as a configuration with that list and period
-- shows it
pub record Rules (g : ℕ → ℕ) (l : List Entry) (period s t e : ℕ) : Type 0 where
  pub config : Config
  pub valid : Valid config
  pub list : config.list ≡ l
  pub cycle : config.cycle ≡ period
  pub started : config.start ≤ t
  pub runs : plain_start config t ≡ s
  pub all : (v : ℕ) → t ≤ v → v < e → g v ≡ plain_octet config v

pub rules_as : (g h : ℕ → ℕ) (l : List Entry) (period s t e : ℕ) → ((v : ℕ) → t ≤ v → v < e → h v ≡ g v) → Rules g l period s t e → Rules h l period s t e
rules_as g h l period s t e q r = record {
  config = r.config;
  valid = r.valid;
  list = r.list;
  cycle = r.cycle;
  started = r.started;
  runs = r.runs;
  all = λ v a b. q v a b ∙ r.all v a b;
}

-- t lies in that cycle, and the octet at t is that of the time since its start
pub rules_inside : (g : ℕ → ℕ) (l : List Entry) (period s t e : ℕ) → Rules g l period s t e → (s ≤ t) × (t < s + period)
rules_inside g l period s t e r =
    let f : Config = r.config in
    let a : plain_start f t ≤ t = plain_le f r.valid t r.started in
    let b : t < start_no f (suc (cycle_no f t)) = next_start_lem f r.valid t (suc (cycle_no f t)) r.started (omega arith) in
    let c = next-is f r.valid t in
    let d = r.runs in
    let k = r.cycle in
    (omega arith, omega arith)

-- the first cycle
first-start : (f : Config) → Valid f → (t : ℕ) → f.start ≤ t → t < f.start + f.cycle → plain_start f t ≡ f.start
first-start f pos t a b =
    let e : plain_start f f.start ≡ f.start = ap (plain_start f) (sym (start-zero f pos)) ∙ start_own f pos 0 ∙ start-zero f pos in
    same_start f pos f.start t (omega arith) (omega arith) (omega arith) ∙ e

-- a plain cycle; the last old cycle, one of its own that takes from s to P; and the cycles before it
pub rules_plain : (f : Config) → Valid f → (t e : ℕ) → f.start ≤ t → Rules (plain_octet f) f.list f.cycle (plain_start f t) t e
rules_plain f pos t e h =
    record { config = f; valid = pos; list = refl; cycle = refl; started = h; runs = refl; all = λ v a b. refl }

module _ (f : Config) (a P s : ℕ) (is : s ≡ start_no f (last_no f a P)) where
  pub rules_last : (t e : ℕ) → s ≤ t → t < P → e ≤ P → Rules (bent_octet f a P) f.list (P - s) s t e
  unfolding bent_octet bent_start plain_octet Valid
  rules_last t e h k u =
      let q : Config = record { start = s; cycle = P - s; extension = 0; list = f.list } in
      let pos : 0 < P - s = omega arith in
      record {
        config = q;
        valid = pos;
        list = refl;
        cycle = refl;
        started = h;
        runs = first-start q pos t h (omega arith);
        all = λ v l m.
            let z : s ≤ v = omega arith in
            rw (← is, le-leb s v z) (sym (ap (λ w. octet_at f.list (v - w)) (first-start q pos v z (omega arith))));
      }

  pub rules_early : (t e s' : ℕ) → e ≤ s → Rules (plain_octet f) f.list f.cycle s' t e → Rules (bent_octet f a P) f.list f.cycle s' t e
  unfolding bent_octet bent_start plain_octet
  rules_early t e s' h r =
      rules_as (plain_octet f) (bent_octet f a P) f.list f.cycle s' t e (λ v l m. let z : v < s = omega arith in rw (← is, lt-leb s v z)) r

-- what a timetable shows at an instant
module _ (p : Timetable) where
  pub shows-off : p.on ≡ false → (v : ℕ) → shown p v ≡ p.standing
  unfolding shown
  shows-off e v = rw e

  pub shows-standing : p.operating ≡ none → p.waiting ≡ none → (v : ℕ) → shown p v ≡ p.standing
  unfolding shown octet_under
  shows-standing o w v = rw (o, w) (go p.on)
    where
      go : (b : Bool) → cond b p.standing p.standing ≡ p.standing
      go true = refl
      go false = refl

  module _ (e : p.on ≡ true) where
    pub shows_oper : (f : Config) → p.operating ≡ some f → p.waiting ≡ none → (v : ℕ) → shown p v ≡ plain_octet f v
    unfolding shown octet_under
    shows_oper f x w v = rw (e, x, w)

    module _ (w : Waiting) (i : p.waiting ≡ some w) where
      pub shows_installed : (v : ℕ) → w.config.start ≤ v → shown p v ≡ plain_octet w.config v
      shows_installed v h = go p.operating refl
        where
          go : (x : Option Config) → p.operating ≡ x → shown p v ≡ plain_octet w.config v
          go none x = unfold shown octet_under in rw (e, i, x, le-leb w.config.start v h)
          go (some f) x = unfold shown octet_under in rw (e, i, x, le-leb w.config.start v h)

      pub shows-before : p.operating ≡ none → (v : ℕ) → v < w.config.start → shown p v ≡ p.standing
      unfolding shown octet_under
      shows-before x v h = rw (e, i, x, lt-leb w.config.start v h)

      pub shows_bent : (f : Config) → p.operating ≡ some f → (v : ℕ) → v < w.config.start → shown p v ≡ bent_octet f w.since w.config.start v
      unfolding shown octet_under
      shows_bent f x v h = rw (e, i, x, lt-leb w.config.start v h)
