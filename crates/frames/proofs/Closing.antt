-- When gates close. In order: an octet shown; what a walk knows; the rest of a cycle, entry by entry; a stretch; a span; what the look ahead may be asked of.
-- Assumes nothing.
use Rattle.std.proofs.Common.{◌≡◌, refl, ap, sym, ◌∙◌, subst, Bool, true, false, cond, not, ◌&&◌, ◌||◌, true≢false, List, [], ℕ, zero, suc, ◌+◌, ◌-◌, ◌≤◌, ◌<◌, min, arith, bit_and, bit_or, bit_xor, leb, ltb, get_or, leb-true, leb-false, ltb-true, ltb-false, lt-ltb, le-ltb}
use mathlib.Core.Path.{subst⁻¹}
use Rattle.rule.specs.Limits.{largest_instant, largest_cycle}
use Rattle.rule.specs.Gates.{is_open}
use Rattle.rule.specs.Entries.{octet_at}
use Rattle.rule.specs.Cycle.{Config, Valid, plain_start, plain_octet}
use Rattle.rule.specs.Timetable.{shown}
use Rattle.rule.proofs.Regime.{Rules, rules_inside, same_start, next_own}
use Rattle.std.specs.Prelude.{Some, None}
use Rattle.gatelist.specs.declared.GateList.{GateList}
use Rattle.gatelist.specs.declared.Entries.{Entries}
use Rattle.gatelist.specs.declared.Place.{Place}
use Rattle.gatelist.specs.Coding.{entries_from, list_of, lent}
use Rattle.gatelist.specs.Lookup.{sum_to, place_at}
use Rattle.gatelist.proofs.Lookup.{sum_more, Holds, holds-number, number-holds, number-octet}
use Rattle.timetable.specs.declared.Times.{Times}
use Rattle.timetable.specs.declared.Timetable.{Timetable}
use Rattle.timetable.specs.declared.ruling.Span.{Span}
use Rattle.timetable.specs.declared.cursor.Stretch.{Stretch}
use Rattle.timetable.specs.declared.ruling.Which.{Which}
use Rattle.timetable.specs.Record.{list_in}
use Rattle.timetable.specs.Cursor.{Used}
use Rattle.timetable.specs.Coding.{decode}
use Rattle.timetable.specs.Checks.{Fine}
use Rattle.timetable.specs.Regime.{span_at, Governs}
use Rattle.timetable.specs.Stretch.{Walkable, Plays, Runs}
use Rattle.timetable.proofs.Spans.{InTime, governs}
use Rattle.timetable.proofs.Stretches.{plain_round}
use Rattle.timetable.proofs.Records.{in_time, list-fine, list-used, table_flat, table_ruled}
use Rattle.frames.specs.declared.ahead.Gates.{Gates}
use Rattle.frames.specs.Choosing.{Forms}
use Rattle.frames.specs.Ahead.{closed_by, Narrows, Known, Tells, reach, Cycles, Goes, Sweeps, SweepsList, Readable, Spans, SweepsSpan}
use Rattle.frames.proofs.Octets.{gate-and, gate-or, gate_less, gate_none, forms_at}
use Rattle.frames.proofs.Classes.{stays_met}

-- an octet shown

-- it closes none of the classes that are left
pub narrows_none : (octet at : ℕ) (ends : List ℕ) (g : Gates) → bit_and g.left octet ≡ g.left → Narrows octet at ends g g
narrows_none octet at ends g e = record {
  left = λ k h. both k;
  ended = λ k h. go (is_open g.ended k) (is_open g.left k) (is_open octet k) (leb (get_or ends k 0) at) (both k);
}
  where
    both : (k : ℕ) → is_open g.left k ≡ is_open g.left k && is_open octet k
    both k = ap (λ n. is_open n k) (sym e) ∙ gate-and g.left octet k

    go : (w x y z : Bool) → x ≡ x && y → w ≡ w || (x && not y && z)
    go true x y z q = refl
    go false true true z q = refl
    go false true false z q = absurd (true≢false q)
    go false false y z q = refl

-- it closes some of them
pub narrows_some : (octet at : ℕ) (ends : List ℕ) (g : Gates) (n : ℕ) → Forms (closed_by (bit_xor g.left (bit_and g.left octet)) ends at) 8 n
    → Narrows octet at ends g (record { left = bit_and g.left octet; ended = bit_or g.ended n })
narrows_some octet at ends g n f = record {
  left = λ k h. gate-and g.left octet k;
  ended = λ k h. gate-or g.ended n k
      ∙ ap (λ b. is_open g.ended k || b) (forms_at (closed_by (bit_xor g.left (bit_and g.left octet)) ends at) n f k h
      ∙ ap (λ b. b && leb (get_or ends k 0) at) (gate_less g.left octet k) ∙ last (is_open g.left k) (not (is_open octet k)) (leb (get_or ends k 0) at));
}
  where
    last : (x y z : Bool) → (x && y) && z ≡ x && y && z
    last true y z = refl
    last false y z = refl

-- what a walk knows

module _ (h : ℕ → ℕ) (t wanted : ℕ) (ends : List ℕ) where
  pub tells_start : Tells h t t wanted ends (record { left = wanted; ended = 0 })
  unfolding Tells
  tells_start k b o =
      subst⁻¹ (λ x. Known h k t t (get_or ends k 0) (is_open 0 k) x) o (record { unmet = gate_none k; stays = λ v x y. absurd (omega arith) })

  -- an octet x is shown from u to before s
  pub tells_more : (u s x : ℕ) (g r : Gates) → t ≤ u → u < s → ((v : ℕ) → u ≤ v → v < s → h v ≡ x) → Narrows x u ends g r → Tells h t u wanted ends g
      → Tells h t s wanted ends r
  unfolding Tells
  tells_more u s x g r a b f n p k l o =
      subst⁻¹ (λ y. Known h k t s (get_or ends k 0) (is_open r.ended k) y) (n.left k l)
      (subst⁻¹ (λ z. Known h k t s (get_or ends k 0) z (is_open g.left k && is_open x k)) (n.ended k l)
      (go (is_open g.left k) (is_open x k) refl (is_open g.ended k) (p k l o)))
    where
      go : (y z : Bool) → is_open x k ≡ z → (w : Bool) → Known h k t u (get_or ends k 0) w y
          → Known h k t s (get_or ends k 0) (w || (y && not z && leb (get_or ends k 0) u)) (y && z)
      go true true e w q = record { unmet = ap (λ c. c || false) q.unmet; stays = λ v c d. side v c d (ltb v u) refl }
        where
          side : (v : ℕ) → t ≤ v → v < s → (w : Bool) → ltb v u ≡ w → is_open (h v) k ≡ true
          side v c d true w = q.stays v c (ltb-true v u w)
          side v c d false w = ap (λ m. is_open m k) (f v (ltb-false v u w) d) ∙ e
      go true false e w q =
          ap (λ c. c || leb (get_or ends k 0) u) q.unmet
          ∙ sym (stays_met h k t (get_or ends k 0) u a q.stays (ap (λ m. is_open m k) (f u (omega arith) b) ∙ e))
      go false z e w q = none w ∙ q
        where
          none : (c : Bool) → c || false ≡ c
          none true = refl
          none false = refl

  -- what is known up to u is known before; if no class is left, it is known for ever
  pub tells_less : (u e : ℕ) (g : Gates) → e ≤ u → Tells h t u wanted ends g → Tells h t e wanted ends g
  unfolding Tells
  tells_less u e g l p k b o = go (is_open g.left k) (p k b o)
    where
      go : (y : Bool) → Known h k t u (get_or ends k 0) (is_open g.ended k) y → Known h k t e (get_or ends k 0) (is_open g.ended k) y
      go true q = record { unmet = q.unmet; stays = λ v c d. q.stays v c (omega arith) }
      go false q = q

  pub tells_all : (u e : ℕ) (g : Gates) → g.left ≡ 0 → Tells h t u wanted ends g → Tells h t e wanted ends g
  unfolding Tells
  tells_all u e g z p k b o =
      let n : is_open g.left k ≡ false = ap (λ m. is_open m k) z ∙ gate_none k in
      subst⁻¹ (λ y. Known h k t e (get_or ends k 0) (is_open g.ended k) y) n (subst (λ y. Known h k t u (get_or ends k 0) (is_open g.ended k) y) n (p k b o))

  -- the walk came round a cycle, from u on, and the cycles go on to an edge
  module _ (f : Config) (valid : Valid f) (u edge : ℕ) (later : t ≤ u) (started : f.start ≤ u)
      (shows : (v : ℕ) → u ≤ v → v < edge → h v ≡ plain_octet f v) where
    comes_round : (k n v : ℕ) → ((v : ℕ) → u ≤ v → v < u + f.cycle → is_open (plain_octet f v) k ≡ true) → v ≤ n → u ≤ v → is_open (plain_octet f v) k ≡ true
    unfolding Valid
    comes_round k zero v o l c = o v c (omega (arith, valid))
    comes_round k (suc n) v o l c = go (ltb v (u + f.cycle)) refl (λ z. comes_round k n (v - f.cycle) o (omega (arith, valid)) z)
      where
        go : (b : Bool) → ltb v (u + f.cycle) ≡ b → (u ≤ v - f.cycle → is_open (plain_octet f (v - f.cycle)) k ≡ true) → is_open (plain_octet f v) k ≡ true
        go true z i = o v c (ltb-true v (u + f.cycle) z)
        go false z i =
            let w = ltb-false v (u + f.cycle) z in
            let e : v ≡ (v - f.cycle) + f.cycle = omega arith in
            ap (λ m. is_open (plain_octet f m) k) e ∙ ap (λ m. is_open m k) (plain_round f valid (v - f.cycle) (omega arith)) ∙ i (omega arith)

    pub tells_round : (e : ℕ) (g : Gates) → u + f.cycle ≤ e → e ≤ edge → Tells h t e wanted ends g → Tells h t edge wanted ends g
    unfolding Tells
    tells_round e g l m p k b o = go (is_open g.left k) (p k b o)
      where
        go : (y : Bool) → Known h k t e (get_or ends k 0) (is_open g.ended k) y → Known h k t edge (get_or ends k 0) (is_open g.ended k) y
        go true q = record { unmet = q.unmet; stays = λ v c d. side v c d (ltb v e) refl }
          where
            side : (v : ℕ) → t ≤ v → v < edge → (w : Bool) → ltb v e ≡ w → is_open (h v) k ≡ true
            side v c d true w = q.stays v c (ltb-true v e w)
            side v c d false w =
                let z = ltb-false v e w in
                ap (λ n. is_open n k) (shows v (omega arith) d)
                ∙ comes_round k v v (λ x i j. ap (λ n. is_open n k) (sym (shows x i (omega arith))) ∙ q.stays x (omega arith) (omega arith)) (omega arith) (omega arith)
        go false q = q

-- the rest of a cycle, entry by entry

-- an entry is shown from its beginning to its end, the last one on and on
entry-shows : (os vs : List ℕ) (n base i v : ℕ) → i < n → base + sum_to vs i ≤ v → (i + 1 < n → v < base + sum_to vs i + get_or vs i 0)
    → octet_at (entries_from os vs 0 n) (v - base) ≡ get_or os i 0
entry-shows os vs n base i v a b c =
    number-octet os vs n (v - base) (omega arith)
    ∙ ap (λ k. get_or os k 0) (holds-number os vs n (v - base) i (record { one = a; from = omega arith; upto = λ l. omega (arith, c l) }))

module _ (l : Entries) (limit : ℕ) (ends : List ℕ) where
  abbrev n : ℕ
  n = l.len

  abbrev os : List ℕ
  os = l.octets.now

  abbrev vs : List ℕ
  vs = l.intervals.now

  tells_entry : (base i at t wanted : ℕ) (h : ℕ → ℕ) (g r : Gates) → i < n → base + sum_to vs i ≤ at → (i + 1 < n → at < base + sum_to vs i + get_or vs i 0)
      → at < limit → t ≤ at → Cycles h l base at limit → Narrows (get_or os i 0) at ends g r → Tells h t at wanted ends g
      → Tells h t (reach n (i + 1) (base + sum_to vs i + get_or vs i 0) limit) wanted ends r
  tells_entry base i at t wanted h g r a b c d e s w p = go (ltb (i + 1) n) refl
    where
      go : (x : Bool) → ltb (i + 1) n ≡ x → Tells h t (cond x (min (base + sum_to vs i + get_or vs i 0) limit) limit) wanted ends r
      go true z =
          let y = c (ltb-true (i + 1) n z) in
          tells_more h t wanted ends at (min (base + sum_to vs i + get_or vs i 0) limit) (get_or os i 0) g r e (omega arith)
          (λ v j k. s v j (omega arith) ∙ entry-shows os vs n base i v a (omega arith) (λ _. omega arith)) w p
      go false z =
          let y = ltb-false (i + 1) n z in
          tells_more h t wanted ends at limit (get_or os i 0) g r e d
          (λ v j k. s v j k ∙ entry-shows os vs n base i v a (omega arith) (λ q. absurd (omega arith))) w p

  pub goes-start : (place from : ℕ) (g : Gates) → place ≤ n → Goes l place from limit ends g place from g
  goes-start place from g a = record { after = omega arith; within = a; later = omega arith; sums = λ b e. e; told = λ h t wanted base lo c e a b p. p }

  -- the entry at i begins, and the octet of it is shown
  -- two walks are one (docs/PORT.md names it; one loop goes both now)
  pub goes_on_lem : (place from i u k at : ℕ) (g r s : Gates) → Goes l place from limit ends g i u r → Goes l i u limit ends r k at s
      → Goes l place from limit ends g k at s
  goes_on_lem place from i u k at g r s x y =
      let a = x.after in
      let b = y.after in
      let c = x.later in
      let d = y.later in
      record {
        after = omega arith;
        within = y.within;
        later = omega arith;
        sums = λ base e. y.sums base (x.sums base e);
        told = λ h t wanted base lo c e f m p.
            y.told h t wanted base lo c (x.sums base e) (λ z. omega (arith, f (omega arith))) m (x.told h t wanted base lo c e f m p);
      }

  pub goes-more : (place from i u : ℕ) (g r s : Gates) → Goes l place from limit ends g i u r → i < n → u < limit → 0 < get_or vs i 0
      → Narrows (get_or os i 0) u ends r s → (x : ℕ) → x ≡ get_or vs i 0 → Goes l place from limit ends g (i + 1) (u + x) s
  goes-more place from i u g r s w a b z y x q =
      let j = w.later in
      let m = w.after in
      record {
        after = omega arith;
        within = omega arith;
        later = omega arith;
        sums = λ base e. omega (arith, w.sums base e, sum_more vs i);
        told = λ h t wanted base lo c e f d p.
            let o : base + sum_to vs i ≡ u = w.sums base e in
            let k : lo ≤ from = f (omega arith) in
            subst (λ v. Tells h t (reach n (i + 1) v limit) wanted ends s) (omega arith)
            (tells_entry base i u t wanted h r s a (omega arith) (λ _. omega arith) b (omega arith) (λ v j. c v (omega arith)) y
            (subst (λ v. Tells h t v wanted ends r) here (w.told h t wanted base lo c e f d p)));
      }
    where
      here : reach n i u limit ≡ u
      here = ap (λ x. cond x (min u limit) limit) (lt-ltb i n a) ∙ omega arith

  -- it has come to the limit, or to the end of the list, or no class is left
  module _ (place from i u : ℕ) (g r : Gates) (w : Goes l place from limit ends g i u r) where
    pub sweeps_limit : limit ≤ u → Sweeps l place from limit ends g r
    unfolding Sweeps
    sweeps_limit a h t wanted base lo c e f d p = subst (λ v. Tells h t v wanted ends r) (go (ltb i n)) (w.told h t wanted base lo c e f d p)
      where
        go : (x : Bool) → cond x (min u limit) limit ≡ limit
        go true = omega arith
        go false = refl

    pub sweeps_end : n ≤ i → Sweeps l place from limit ends g r
    unfolding Sweeps
    sweeps_end a h t wanted base lo c e f d p =
        subst (λ v. Tells h t v wanted ends r) (ap (λ x. cond x (min u limit) limit) (le-ltb i n a)) (w.told h t wanted base lo c e f d p)

    pub sweeps_none : r.left ≡ 0 → Sweeps l place from limit ends g r
    unfolding Sweeps
    sweeps_none z h t wanted base lo c e f d p = tells_all h t wanted ends (reach n i u limit) limit r z (w.told h t wanted base lo c e f d p)

-- a stretch: what is left of the cycle that runs, and the beginning of the next one

pub place-holds : (vs : List ℕ) (n o : ℕ) → 1 ≤ n → (p : Place) → p ≡ place_at vs n o
    → Holds vs n o p.number × (p.start ≡ sum_to vs p.number)
unfolding place_at
place-holds vs n o h p e =
    subst⁻¹ (λ (q : Place). Holds vs n o q.number × (q.start ≡ sum_to vs q.number)) e (number-holds [] vs n o h, refl)

-- the entry that runs at a stretch's first instant is one of the list's, and has begun
pub stands : (s : Stretch) → Walkable s.list.intervals.now s → (p : Place) → p ≡ place_at s.list.intervals.now s.list.len (s.from - s.base)
    → (p.number < s.list.len) × (p.number < 128) × (s.base + p.start ≤ 9000000001000000000)
stands s w p e =
    let k = place-holds s.list.intervals.now s.list.len (s.from - s.base) w.some p e in
    let a = w.begun in
    let b = w.before in
    let c = w.near in
    let d = w.few in
    (k.0.one, omega (arith, k.0.one), omega (arith, k.0.from, k.1))

module _ (s : Stretch) (w : Walkable s.list.intervals.now s) (short : s.edge ≤ s.from + s.period) (ends : List ℕ) (limit : ℕ)
    (is : limit ≡ min (s.base + s.period) s.edge) (p : Place) (found : p ≡ place_at s.list.intervals.now s.list.len (s.from - s.base)) (x : ℕ)
    (long : x ≡ get_or s.list.intervals.now p.number 0) (g b d : Gates) (first : Narrows (get_or s.list.octets.now p.number 0) s.from ends g b)
    (rest : Sweeps s.list (p.number + 1) (s.base + p.start + x) limit ends b d) where
  module _ (f : Config) (plays : Plays f s.list.octets.now s.list.intervals.now s.list.len s.period) (runs : Runs f s) (h : ℕ → ℕ) (t wanted : ℕ)
      (shows : (v : ℕ) → s.from ≤ v → v < s.edge → h v ≡ plain_octet f v) (later : t ≤ s.from) (told : Tells h t s.from wanted ends g) where
    cycle-shows : (start v : ℕ) → plain_start f v ≡ start → s.from ≤ v → v < s.edge → h v ≡ octet_at (entries_from s.list.octets.now s.list.intervals.now 0 s.list.len) (v - start)
    unfolding plain_octet
    cycle-shows start v e a c = shows v a c ∙ (λ i. octet_at (plays.list i) (v - e i))

    first-cycle : Tells h t limit wanted ends d
    unfolding Sweeps
    first-cycle =
        let k = place-holds s.list.intervals.now s.list.len (s.from - s.base) w.some p found in
        let l = w.begun in
        let y = w.ahead in
        let z = w.before in
        let m = k.0.from in
        let e = k.1 in
        let r = runs.base in
        let q = plays.cycle in
        let c : Cycles h s.list s.base s.from limit =
        (λ v i j. cycle-shows s.base v (same_start f plays.valid s.from v runs.started (omega arith) (omega arith) ∙ r) i (omega arith)) in
        rest h t wanted s.base s.from c (omega (arith, sum_more s.list.intervals.now p.number)) (λ l. omega (arith, k.0.upto l)) later
        (subst (λ v. Tells h t (reach s.list.len (p.number + 1) v limit) wanted ends b) (omega arith)
        (tells_entry s.list limit ends s.base p.number s.from t wanted h g b k.0.one (omega arith) (λ l. omega (arith, k.0.upto l)) (omega arith) later c
        first told))

    second_cycle : s.base + s.period < s.edge → (r : Gates) → Sweeps s.list 0 (s.base + s.period) s.edge ends d r → Tells h t s.edge wanted ends r
    unfolding Sweeps sum_to
    second_cycle l r k =
        let next : ℕ = s.base + s.period in
        let x = w.begun in
        let y = w.ahead in
        let a = runs.started in
        let e = runs.base in
        let q = plays.cycle in
        let z : plain_start f next ≡ next = ap (λ v. plain_start f v) (omega arith) ∙ next_own f plays.valid s.from ∙ omega arith in
        let c : Cycles h s.list next next s.edge =
        (λ v i j. cycle-shows next v (same_start f plays.valid next v (omega arith) (omega arith) (omega arith) ∙ z) (omega arith) j) in
        k h t wanted next next c (omega arith) (λ _. omega arith) (omega arith)
        (subst (λ v. Tells h t v wanted ends d) (omega arith ∙ sym (ap (λ o. cond o (min next s.edge) s.edge) (lt-ltb 0 s.list.len (omega (arith, w.some))))) first-cycle)

  pub list-first : s.edge ≤ s.base + s.period → SweepsList s ends g d
  unfolding SweepsList
  list-first l f y x h t wanted j k z = subst (λ v. Tells h t v wanted ends d) (omega arith) (first-cycle f y x h t wanted j k z)

  pub list_second : s.base + s.period < s.edge → (r : Gates) → Sweeps s.list 0 (s.base + s.period) s.edge ends d r → SweepsList s ends g r
  unfolding SweepsList
  list_second l r k f y x h t wanted j m z = second_cycle f y x h t wanted j m z l r k

-- a span

module _ (g : Timetable) (t edge : ℕ) (r : Span) (s : Spans g.times t edge r) (ends : List ℕ) (b d : Gates) where
  pub span_flat : r.list ≡ None → Narrows g.times.standing t ends b d → SweepsSpan g t edge ends b d
  unfolding SweepsSpan
  span_flat e n u wanted l p =
      let i = s.upto in
      tells_more (shown (decode g)) u wanted ends t edge g.times.standing b d l s.after
      (λ v x y. table_flat g t r s.governs e v x (omega arith)) n p

  module _ (k : Readable g) (w : Which) (q : r.list ≡ Some w) (l : Entries) (same : lent l ≡ list_in g w) (stop : ℕ) (is : stop ≡ min edge (t + r.period)) where
    abbrev pub stretch_of : Stretch
    stretch_of = record { list = l; period = r.period; base = r.start; from = t; edge = stop }

    ruled : Rules (shown (decode g)) (list_of (lent l)) r.period r.start t r.edge
    ruled = subst⁻¹ (λ m. Rules (shown (decode g)) (list_of m) r.period r.start t r.edge) same (table_ruled g t r s.governs w q)

    pub walkable : Walkable l.intervals.now stretch_of × (stop ≤ t + r.period)
    walkable =
        let u = subst⁻¹ (λ (m : GateList). ((1 ≤ m.len) × (m.len ≤ 128)) × Used m.intervals m.len) same (k.lists w (s.governs.there w q)) in
        let i = rules_inside (shown (decode g)) (list_of (lent l)) r.period r.start t r.edge ruled in
        let a = s.after in
        let n = s.near in
        let h = s.governs.short w q in (
          record {
            some = u.0.0;
            few = u.0.1;
            used = u.1;
            begun = i.0;
            ahead = i.1;
            before = omega (arith, i.0, i.1);
            near = omega arith;
            short = h;
          },
          omega arith,
        )

    pub span_ruled : SweepsList stretch_of ends b d → SweepsSpan g t edge ends b d
    unfolding SweepsSpan SweepsList ruled
    span_ruled c u wanted l p =
        let z = ruled in
        let i = s.upto in
        let w : Tells (shown (decode g)) u stop wanted ends d =
        c z.config (record { valid = z.valid; list = z.list; cycle = z.cycle }) (record { started = z.started; base = z.runs }) (shown (decode g)) u wanted
        (λ v x y. z.all v x (omega arith)) l p in
        go (leb edge (t + r.period)) refl w
      where
        go : (x : Bool) → leb edge (t + r.period) ≡ x → Tells (shown (decode g)) u stop wanted ends d → Tells (shown (decode g)) u edge wanted ends d
        go true y w = let j = leb-true edge (t + r.period) y in tells_less (shown (decode g)) u wanted ends stop edge d (omega arith) w
        go false y w =
            let j = leb-false edge (t + r.period) y in
            let z = ruled in
            let i = s.upto in
            let m = z.cycle in
            tells_round (shown (decode g)) u wanted ends z.config z.valid t edge l z.started (λ v x y. z.all v x (omega arith)) stop d (omega arith) (omega arith) w

-- a fine record is readable

pub fine_readable : (g : Timetable) → Fine g → Readable g
fine_readable g k = record { in_time = in_time g k; lists = λ b e. (list-fine g k b e, list-used g k b e) }

-- the span that rules at t, on the way to last

pub spans_on : (x : Times) (t last : ℕ) → InTime x t → last ≤ largest_instant + largest_cycle → t < last → (r : Span) → r ≡ span_at x t → (e : ℕ) → e ≡ min r.edge last
    → Spans x t e r
spans_on x t last k n h r is e q =
    let g : Governs x t r = subst⁻¹ (Governs x t) is (governs x t k) in
    let a = g.after in
    record { after = omega arith; upto = omega arith; near = omega arith; governs = g }
