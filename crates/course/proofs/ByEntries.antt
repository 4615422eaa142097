-- The walk of one stretch, entry by entry: how it begins, what a pass leaves, how it goes on to the next entry; and of a list whose octets are one. The
-- walk by periods is in `ByPeriods`.
-- Assumes nothing.
use Rattle.std.proofs.Common.{◌≡◌, ℕ, ◌+◌, ◌-◌, ◌<◌, ◌≤◌, min, Bool, true, false, Ok, Err, eqb, List, length, get_or, take, sym, refl, ap, ◌∙◌, subst, true≢false, arith, eqb-true}
use mathlib.Core.Path.{subst⁻¹}
use Rattle.std.specs.List.{list_all}
use Rattle.std.proofs.lemmas.List.{get_or-take}
use Rattle.std.proofs.lemmas.List.Folds.{list_all_at}
use Rattle.rule.specs.Entries.{entry_no, octet_at}
use Rattle.rule.specs.Cycle.{Config, plain_start, plain_octet}
use Rattle.gatelist.specs.Coding.{entries_from}
use Rattle.gatelist.proofs.Lookup.{number-holds, number-octet}
use Rattle.course.specs.declared.Reached.{Reached}
use Rattle.course.specs.declared.Walk.{Walk}
use Rattle.timetable.specs.declared.cursor.Cursor.{Cursor}
use Rattle.timetable.specs.declared.cursor.Stretch.{Stretch}
use Rattle.course.specs.Journey.{Journey, Walked, Written, WalkOutcome, PassPromise}
use Rattle.timetable.specs.Cursor.{cursor_at, Placed, Points, Advances}
use Rattle.course.specs.Stretch.{Reportable, CyclesShown, ListPromise, Uniform, Keeps}
use Rattle.timetable.proofs.Pointing.{points_octet}
use Rattle.timetable.proofs.Stretches.{stretch_cursor, safe-start, points_start, from_stop, safe-next, points_next}

-- the first cursor, from which the walk to the edge is the walk of the stretch
module _ (vs : List ℕ) (s : Stretch) (h : Reportable vs s) (c : Cursor) (is : c ≡ cursor_at vs s.list.len s.period s.base s.from) where
  begins : (c.from ≡ s.from) × Placed vs s.list.len s.base (s.base + s.period) c
  begins = stretch_cursor vs s h.walkable c is

  pub keeps_start : (os : List ℕ) (w : Walk) → Keeps os vs s.list.len s.period s.edge c w c w
  keeps_start os w = let e = begins.0 in record {
    later = omega arith;
    first = omega (arith, h.first);
    safe = safe-start vs s h.walkable c e begins.1;
    walked = λ j f y p d. (p, d);
  }

  pub walks_list : (os : List ℕ) (w : Walk) (r : Walked) (w' : Walk) → ((j : Journey) (f : Config) → CyclesShown j f os vs s.list.len s.period c.from s.edge
      → Points f vs s.list.len c → Written j (c.from - 1) w → WalkOutcome j (s.edge - 1) r w') → ListPromise os vs s w r w'
  walks_list os w r w' k j f y x d =
      let e = begins.0 in
      k j f (subst⁻¹ (λ v. CyclesShown j f os vs s.list.len s.period v s.edge) e y) (points_start vs s c e begins.1 f y.plays.cycle x)
      (subst⁻¹ (λ v. Written j (v - 1) w) e d)

module _ (os vs : List ℕ) (n period edge : ℕ) (c₀ : Cursor) (w₀ : Walk) where
  -- what is to be shown of a walk that starts at the first cursor
  abbrev pub Ends : Walked → Walk → Type 0
  Ends r w = (j : Journey) (f : Config) → CyclesShown j f os vs n period c₀.from edge → Points f vs n c₀ → Written j (c₀.from - 1) w₀ → WalkOutcome j (edge - 1) r w

  module _ (c : Cursor) (w : Walk) (k : Keeps os vs n period edge c₀ w₀ c w) where
    -- the octet at the cursor's place is shown until it stops, or the stretch does
    pub keeps_pass : (u : ℕ) → u ≡ min c.stop edge → (r : Walked) (w' : Walk) → PassPromise (get_or os c.place 0) c.from u w r w'
        → (j : Journey) (f : Config) → CyclesShown j f os vs n period c₀.from edge → Points f vs n c₀ → Written j (c₀.from - 1) w₀ → WalkOutcome j (u - 1) r w'
    keeps_pass u e r w' p j f y x d =
        let z = k.walked j f y x d in
        let g = y.goal in
        let l = k.later in
        p j z.1 (omega arith)
        (λ v a b. y.shows v (omega arith) (omega arith) ∙ points_octet f y.plays.valid os vs n y.plays.list c z.0 v a (omega arith))

    -- no room: the walk ends
    pub keeps_full : (u : ℕ) → u ≡ min c.stop edge → (e : Reached) (w' : Walk) → PassPromise (get_or os c.place 0) c.from u w (Err e) w' → Ends (Err e) w'
    keeps_full u q e w' p j f y x d = keeps_pass u q (Err e) w' p j f y x d

    -- the edge: the walk has come to the end of the stretch
    pub keeps_edge : (u : ℕ) → u ≡ min c.stop edge → (w' : Walk) → PassPromise (get_or os c.place 0) c.from u w (Ok tt) w' → edge ≤ c.stop → Ends (Ok tt) w'
    keeps_edge u e w' p q j f y x d =
        let z : u ≡ edge = omega arith in
        subst (λ v. Written j (v - 1) w') z (keeps_pass u e (Ok tt) w' p j f y x d)

    -- the next entry
    pub keeps_more : (u : ℕ) → u ≡ min c.stop edge → (w' : Walk) → PassPromise (get_or os c.place 0) c.from u w (Ok tt) w' → c.stop < edge
        → (c' : Cursor) → Advances vs n period c c' → Keeps os vs n period edge c₀ w₀ c' w'
    keeps_more u e w' p b c' a =
        let t = k.safe in
        let o = k.later in
        let i : c'.from ≡ c.stop = from_stop os vs n period edge c c' t b a in
        let here : c'.from ≡ u = omega arith in
        record {
          later = omega (arith, t.after);
          first = omega (arith, k.first, t.after);
          safe = safe-next os vs n period edge c c' t b a;
          walked = λ j f y x d. (
            points_next os vs n period edge c c' t b a f y.plays (k.walked j f y x d).0,
            subst⁻¹ (λ v. Written j (v - 1) w') here (keeps_pass u e (Ok tt) w' p j f y x d),
          );
        }

-- a list whose octets are one shows it, all through its cycles

-- each octet is the first
pub uniform_all : (os : List ℕ) → list_all (λ o. eqb o (get_or os 0 0)) os ≡ true → Uniform os (length os)
uniform_all os e k h = pick (eqb (get_or os k 0) (get_or os 0 0)) refl
  where
    pick : (b : Bool) → eqb (get_or os k 0) (get_or os 0 0) ≡ b → get_or os k 0 ≡ get_or os 0 0
    pick true z = eqb-true (get_or os k 0) (get_or os 0 0) z
    pick false z = absurd (true≢false (sym e ∙ list_all_at (λ o. eqb o (get_or os 0 0)) os k 0 h z))

-- the used ones of a list
uniform_used : (os : List ℕ) (n : ℕ) → 1 ≤ n → length (take n os) ≡ n → Uniform (take n os) (length (take n os)) → Uniform os n
uniform_used os n some e u k h = sym (get_or-take n os k 0 h) ∙ u k (omega arith) ∙ get_or-take n os 0 0 some

-- it is shown at every instant
pub uniform-octet : (f : Config) → (os vs : List ℕ) (n : ℕ) → 1 ≤ n → f.list ≡ entries_from os vs 0 n → Uniform os n → (v : ℕ) → plain_octet f v ≡ get_or os 0 0
unfolding plain_octet
uniform-octet f os vs n some list u v =
    let o : ℕ = v - plain_start f v in
    ap (λ l. octet_at l o) list ∙ number-octet os vs n o some ∙ u (entry_no (entries_from os vs 0 n) o) (number-holds os vs n o some).one

-- so passing it is the walk of the stretch
pub walks_uniform : (os vs : List ℕ) (s : Stretch) (w : Walk) (r : Walked) (w' : Walk) → 1 ≤ s.list.len → length (take s.list.len os) ≡ s.list.len
    → Uniform (take s.list.len os) (length (take s.list.len os)) → PassPromise (get_or (take s.list.len os) 0 0) s.from s.edge w r w' → ListPromise os vs s w r w'
walks_uniform os vs s w r w' some fits u p j f y x d =
    p j d y.goal
    (λ v a b. y.shows v a b ∙ uniform-octet f os vs s.list.len some y.plays.list (uniform_used os s.list.len some fits u) v ∙ sym (get_or-take s.list.len os 0 0 some))
