-- The walk of a step: how it begins, a stretch that shows the same, a change with room and without, how it ends. In order: the buffers; the walk's own
-- laws; the ways out of `pass`.
-- Assumes nothing.
use Rattle.std.proofs.Common.{◌≡◌, ℕ, suc, ◌+◌, ◌-◌, ◌<◌, ◌≤◌, min, Bool, true, false, eqb, List, [], ◌∷◌, ◌++◌, map, length, get_or, drop, set, sym, refl, ap, ◌∙◌, subst, ap₂, append_assoc, arith, length-append, length-drop, drop-cons, eqb-true}
use native.Mathlib.Nat.{sub_self, sub-zero}
use borrow.Author.Tests.{eqb-false}
use lib.ListN.{length-map}
use lib.Seq.{set-append_seam}
use Rattle.rule.specs.History.{changes}
use Rattle.rule.proofs.Walk.{reach_by, changes-same, reach-same, changes-more, reach-more, reach_full, reach-goal}
use Rattle.timetable.specs.declared.Timetable.{Timetable}
use Rattle.course.specs.declared.Walk.{Walk}
use Rattle.course.specs.Journey.{Journey, room, WrittenUpTo, WalkEnds, Written, AtClock, journey_of}
use Rattle.course.specs.Columns.{into, instants_of, octets_of}

-- the buffers

into_more : (vs buf : List ℕ) (x : ℕ) → length vs < length buf → set (into vs buf) (length vs) x ≡ into (vs ++ x ∷ []) buf
unfolding into
into_more vs buf x h =
    let n : length (vs ++ x ∷ []) ≡ suc (length vs) = length-append vs (x ∷ []) ∙ omega arith in
    ap (λ r. set (vs ++ r) (length vs) x) (drop-cons buf (length vs) 0 h)
    ∙ set-append_seam vs (get_or buf (length vs) 0) (drop (suc (length vs)) buf) x
    ∙ sym (append_assoc vs (x ∷ []) (drop (length (vs ++ x ∷ [])) buf) ∙ ap (λ m. vs ++ x ∷ drop m buf) n)

pub length-into : (vs buf : List ℕ) → length vs ≤ length buf → length (into vs buf) ≡ length buf
unfolding into
length-into vs buf h = length-append vs (drop (length vs) buf) ∙ omega (arith, length-drop (length vs) buf)

map_snoc : (f : ℕ × ℕ → ℕ) (l : List (ℕ × ℕ)) (x : ℕ × ℕ) → map f (l ++ x ∷ []) ≡ map f l ++ f x ∷ []
map_snoc f [] x = refl
map_snoc f (y ∷ l) x = ap (λ r. f y ∷ r) (map_snoc f l x)

-- one more of a column of the changes l, written at the place that their number gives
column_more : (f : ℕ × ℕ → ℕ) (l : List (ℕ × ℕ)) (x : ℕ × ℕ) (n v : ℕ) (buf now : List ℕ) → n ≡ length l → n < length buf
    → now ≡ into (map f l) buf → v ≡ f x → set now n v ≡ into (map f (l ++ x ∷ [])) buf
column_more f l x n v buf now k h e q =
    let m : n ≡ length (map f l) = k ∙ sym (length-map l f) in
    ap₂ (λ r i. set r i v) e m ∙ into_more (map f l) buf v (omega arith) ∙ ap (λ y. into (map f l ++ y ∷ []) buf) q
    ∙ ap (λ r. into r buf) (sym (map_snoc f l x))

-- the walk

module _ (j : Journey) where
  pub written_start : (o : ℕ) → j.clock ≤ j.goal → o ≡ j.shows j.clock → WrittenUpTo j j.clock o 0 j.instants j.octets
  unfolding changes into
  written_start o h e = record {
    from = omega arith;
    upto = h;
    shows = e;
    count = rw (sub_self j.clock);
    fits = omega arith;
    instants = rw (sub_self j.clock);
    octets = rw (sub_self j.clock);
    reaches = rw (sub_self j.clock, sub-zero (room j)) (omega arith);
  }

  module _ (t o n : ℕ) (at os : List ℕ) (w : WrittenUpTo j t o n at os) where
    -- the buffers keep their lengths
    pub written-room : min (length at) (length os) ≡ room j
    written-room =
        let l : List (ℕ × ℕ) = changes j.shows j.clock (t - j.clock) in
        let k = w.count in
        let h = w.fits in
        let a : length at ≡ length j.instants = ap length w.instants ∙ length-into (instants_of l) j.instants (omega (arith, length-map l (λ (x : ℕ × ℕ). x.0))) in
        let b : length os ≡ length j.octets = ap length w.octets ∙ length-into (octets_of l) j.octets (omega (arith, length-map l (λ (x : ℕ × ℕ). x.1))) in
        ap₂ min a b

    pub written_same : (u : ℕ) → t ≤ u → u ≤ j.goal → ((v : ℕ) → t ≤ v → v ≤ u → j.shows v ≡ j.shows t) → WrittenUpTo j u o n at os
    written_same u h k same =
        let l = changes-same j.shows t u h same j.clock w.from in
        let a = w.from in
        record {
          from = omega arith;
          upto = k;
          shows = w.shows ∙ sym (same u h (omega arith));
          count = w.count ∙ ap length (sym l);
          fits = w.fits;
          instants = w.instants ∙ ap (λ r. into (instants_of r) j.instants) (sym l);
          octets = w.octets ∙ ap (λ r. into (octets_of r) j.octets) (sym l);
          reaches = w.reaches ∙ omega (arith, reach-same j.shows t u h same j.goal (room j - n) k);
        }

    pub written-more : (x : ℕ) → x ≡ j.shows (suc t) → (x ≡ o → ⊥) → suc t ≤ j.goal → n < room j
        → WrittenUpTo j (suc t) x (n + 1) (set at n (suc t)) (set os n x)
    written-more x e d h k =
        let a = w.from in
        let differs : j.shows (suc t) ≡ j.shows t → ⊥ = λ z. d (e ∙ z ∙ sym w.shows) in
        let l : List (ℕ × ℕ) = changes j.shows j.clock (t - j.clock) in
        let m = changes-more j.shows t differs j.clock w.from in
        let q : room j - n ≡ suc (room j - (n + 1)) = omega arith in
        record {
          from = omega arith;
          upto = h;
          shows = e;
          count = ap (λ v. v + 1) w.count ∙ sym (ap length m ∙ length-append l ((suc t, j.shows (suc t)) ∷ []));
          fits = omega arith;
          instants = column_more (λ (x : ℕ × ℕ). x.0) l (suc t, j.shows (suc t)) n (suc t) j.instants at w.count (omega arith) w.instants refl
              ∙ ap (λ r. into (instants_of r) j.instants) (sym m);
          octets = column_more (λ (x : ℕ × ℕ). x.1) l (suc t, j.shows (suc t)) n x j.octets os w.count (omega arith) w.octets e
              ∙ ap (λ r. into (octets_of r) j.octets) (sym m);
          reaches = w.reaches ∙ ap (λ r. (t - j.clock) + reach_by j.shows t (j.goal - t) r) q
              ∙ omega (arith, reach-more j.shows t differs j.goal (room j - (n + 1)) h);
        }

    ends : reach_by j.shows t (j.goal - t) (room j - n) ≡ 0 → WalkEnds j t n at os
    ends z = record {
      from = w.from;
      upto = w.upto;
      count = w.count;
      instants = w.instants;
      octets = w.octets;
      reaches = w.reaches ∙ omega (arith, z);
    }

    pub written_full : (x : ℕ) → x ≡ j.shows (suc t) → (x ≡ o → ⊥) → suc t ≤ j.goal → room j ≤ n → WalkEnds j t n at os
    written_full x e d h k =
        let q : room j - n ≡ 0 = omega arith in
        ends (ap (reach_by j.shows t (j.goal - t)) q ∙ reach_full j.shows t (λ z. d (e ∙ z ∙ sym w.shows)) j.goal h)

    pub written-goal : t ≡ j.goal → WalkEnds j t n at os
    written-goal e = ends (ap (λ v. reach_by j.shows v (j.goal - v) (room j - n)) e ∙ reach-goal j.shows j.goal (room j - n))

-- a walk that is to begin at the clock
pub begins_written : (g : Timetable) (goal : ℕ) (w : Walk) → AtClock g w → g.times.clock ≤ goal
    → Written (journey_of g goal w.instants.now w.octets.now) g.times.clock w
begins_written g goal w b h = rw b.none (written_start (journey_of g goal w.instants.now w.octets.now) w.octet h b.octet)

-- the ways out of `pass`

module _ (x u e : ℕ) (w : Walk) (some : 1 ≤ u) (after : u < e) (j : Journey) (k : Written j (u - 1) w) (goal : e ≤ j.goal + 1)
    (all : (v : ℕ) → u ≤ v → v < e → j.shows v ≡ x) where
  pub passes_same : x ≡ w.octet → Written j (e - 1) w
  passes_same q = written_same j (u - 1) w.octet w.written w.instants.now w.octets.now k (e - 1) (omega arith) (omega arith) same
    where
      same : (v : ℕ) → u - 1 ≤ v → v ≤ e - 1 → j.shows v ≡ j.shows (u - 1)
      same v a b = pick (eqb v (u - 1)) refl
        where
          pick : (c : Bool) → eqb v (u - 1) ≡ c → j.shows v ≡ j.shows (u - 1)
          pick true z = ap j.shows (eqb-true v (u - 1) z)
          pick false z = all v (omega (arith, eqb-false)) (omega arith) ∙ q ∙ k.shows

  pub passes_full : (x ≡ w.octet → ⊥) → min (length w.instants.now) (length w.octets.now) ≤ w.written → WalkEnds j (u - 1) w.written w.instants.now w.octets.now
  passes_full d h =
      let r = written-room j (u - 1) w.octet w.written w.instants.now w.octets.now k in
      let s : suc (u - 1) ≡ u = omega arith in
      written_full j (u - 1) w.octet w.written w.instants.now w.octets.now k x (sym (ap j.shows s ∙ all u (omega arith) after)) d (omega arith) (omega arith)

  pub passes-more : (x ≡ w.octet → ⊥) → w.written < min (length w.instants.now) (length w.octets.now)
      → WrittenUpTo j (e - 1) x (w.written + 1) (set w.instants.now w.written u) (set w.octets.now w.written x)
  passes-more d h =
      let r = written-room j (u - 1) w.octet w.written w.instants.now w.octets.now k in
      let s : suc (u - 1) ≡ u = omega arith in
      let m = written-more j (u - 1) w.octet w.written w.instants.now w.octets.now k x (sym (ap j.shows s ∙ all u (omega arith) after)) d (omega arith) (omega arith) in
      let m' : WrittenUpTo j u x (w.written + 1) (set w.instants.now w.written u) (set w.octets.now w.written x) =
      subst (λ v. WrittenUpTo j v x (w.written + 1) (set w.instants.now w.written v) (set w.octets.now w.written x)) s m in
      written_same j u x (w.written + 1) (set w.instants.now w.written u) (set w.octets.now w.written x) m' (e - 1) (omega arith) (omega arith)
      (λ v a b. all v a (omega arith) ∙ sym (all u (omega arith) after))
