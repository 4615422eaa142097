-- The changes of a function that comes again after a period, and a walk that goes on by repeating them. In order: changes, and how far a step gets past
-- them; the changes of one period after the other; the walk.
-- Assumes nothing.
use Rattle.std.proofs.Common.{◌≡◌, ℕ, zero, suc, ◌+◌, ◌-◌, ◌*◌, ◌<◌, ◌≤◌, Bool, true, false, cond, eqb, ltb, List, [], ◌∷◌, ◌++◌, map, length, get_or, sym, refl, ap, ◌∙◌, subst, ap₂, append_assoc, add-zero, mod-eq_of_lt, add_comm, suc-add, zero-add, zero-mul, arith, length-append, get_or-append-add, ltb-false, ltb-true}
use lib.ListN.{length-map, get_or-append, get_or-map}
use Rattle.rule.specs.Machine.{onward}
use Rattle.rule.specs.History.{changes}
use Rattle.rule.proofs.Changes.{changes-add}
use Rattle.rule.proofs.Walk.{reach_by}
use Rattle.course.specs.Columns.{into}
use Rattle.course.specs.Journey.{Journey, room, WrittenUpTo}
use Rattle.course.specs.Period.{CanRepeat, WrittenAgain, later, same}
use Rattle.course.proofs.ChangesWritten.{written-room}
use Rattle.course.proofs.PlacesAgain.{again_into}

-- lists of pairs

map-cond : (f : ℕ × ℕ → ℕ × ℕ) (b : Bool) (x : ℕ × ℕ) (l : List (ℕ × ℕ)) → cond b (map f l) (f x ∷ map f l) ≡ map f (cond b l (x ∷ l))
map-cond f true x l = refl
map-cond f false x l = refl

map-join : (f : ℕ × ℕ → ℕ) (l r : List (ℕ × ℕ)) → map f (l ++ r) ≡ map f l ++ map f r
map-join f [] r = refl
map-join f (x ∷ l) r = ap (λ q. f x ∷ q) (map-join f l r)

-- a column of two lists at a place
column_at : (x : ℕ × ℕ → ℕ) → x (0, 0) ≡ 0 → (l r : List (ℕ × ℕ)) (i : ℕ) → get_or (map x l ++ map x r) i 0 ≡ x (get_or (l ++ r) i (0, 0))
column_at x d l r i = ap (λ q. get_or q i 0) (sym (map-join x l r)) ∙ ap (get_or (map x (l ++ r)) i) (sym d) ∙ get_or-map x (l ++ r) i (0, 0)

-- a place that there is does not ask for what stands elsewhere
get_d_any : (l : List (ℕ × ℕ)) (i : ℕ) (d e : ℕ × ℕ) → i < length l → get_or l i d ≡ get_or l i e
get_d_any [] i d e h = absurd (omega arith)
get_d_any (x ∷ l) zero d e h = refl
get_d_any (x ∷ l) (suc i) d e h = get_d_any l i d e (omega arith)

-- changes

-- no change is later than the last instant
changes-upto : (g : ℕ → ℕ) (lo n i : ℕ) → (get_or (changes g lo n) i (0, 0)).0 ≤ lo + n
unfolding changes
changes-upto g lo zero i = omega arith
changes-upto g lo (suc n) i = go (λ k. changes-upto g (suc lo) n k) (eqb (g lo) (g (suc lo))) i
  where
    go : ((k : ℕ) → (get_or (changes g (suc lo) n) k (0, 0)).0 ≤ suc lo + n) → (b : Bool) (i : ℕ)
        → (get_or (cond b (changes g (suc lo) n) ((suc lo, g (suc lo)) ∷ changes g (suc lo) n)) i (0, 0)).0 ≤ lo + suc n
    go f true i = omega (arith, f i)
    go f false zero = omega arith
    go f false (suc i) = omega (arith, f i)

-- those of n instants more come after them
pub changes-on : (g : ℕ → ℕ) (c t n : ℕ) → c ≤ t → changes g c (t + n - c) ≡ changes g c (t - c) ++ changes g t n
changes-on g c t n h =
    let e : t + n - c ≡ (t - c) + n = omega arith in
    let e' : c + (t - c) ≡ t = omega arith in
    ap (changes g c) e ∙ changes-add g c (t - c) n ∙ ap (λ v. changes g c (t - c) ++ changes g v n) e'

-- changes that have room cost as much of it, and the step gets past them
reach_past : (g : ℕ → ℕ) (t n r m : ℕ) → reach_by g t (n + r) (length (changes g t n) + m) ≡ n + reach_by g (t + n) r m
unfolding reach_by changes
reach_past g t zero r m = ap₂ (λ j q. reach_by g t j q) (zero-add r) (zero-add m) ∙ ap (λ v. reach_by g v r m) (sym (add-zero t)) ∙ sym (zero-add (reach_by g (t + 0) r m))
reach_past g t (suc n) r m =
    let e : suc t + n ≡ t + suc n = omega arith in
    ap (λ j. reach_by g t j (length (changes g t (suc n)) + m)) (suc-add n r) ∙ go (reach_past g (suc t) n r m) (eqb (g t) (g (suc t)))
    ∙ ap (λ v. suc (n + reach_by g v r m)) e ∙ sym (suc-add n (reach_by g (t + suc n) r m))
  where
    go : reach_by g (suc t) (n + r) (length (changes g (suc t) n) + m) ≡ n + reach_by g (suc t + n) r m → (b : Bool)
        → onward b (length (cond b (changes g (suc t) n) ((suc t, g (suc t)) ∷ changes g (suc t) n)) + m) (λ q. reach_by g (suc t) (n + r) q)
        ≡ suc (n + reach_by g (suc t + n) r m)
    go e true = ap suc e
    go e false = ap (λ q. onward false q (λ q. reach_by g (suc t) (n + r) q)) (suc-add (length (changes g (suc t) n)) m) ∙ ap suc e

-- the changes of one period after the other

-- a change that comes again
abbrev shift : ℕ → ℕ × ℕ → ℕ × ℕ
shift p x = (x.0 + p, x.1)

-- those after c, to the end of the period after t; and then those of k periods more
abbrev rows_of : (ℕ → ℕ) → ℕ → ℕ → ℕ → ℕ → List (ℕ × ℕ)
rows_of g p t c k = changes g c (t + p - c) ++ changes g (t + p) (k * p)

-- a function that comes again after a period p, from t to before an edge
module _ (g : ℕ → ℕ) (p t edge : ℕ) (comes : (v : ℕ) → t ≤ v → v + p < edge → g (v + p) ≡ g v) where
  -- k periods later it is the same
  comes_times : (v k : ℕ) → t ≤ v → v + k * p < edge → g (v + k * p) ≡ g v
  comes_times v zero a b = let e : v + 0 * p ≡ v = omega (arith, zero-mul p) in ap g e
  comes_times v (suc k) a b =
      let e : v + suc k * p ≡ v + k * p + p = omega arith in
      ap g e ∙ comes (v + k * p) (omega arith) (omega arith) ∙ comes_times v k a (omega arith)

  -- its changes come again, one period later
  changes-shift : (lo n : ℕ) → t ≤ lo → lo + n + p < edge → changes g (lo + p) n ≡ map (shift p) (changes g lo n)
  unfolding changes
  changes-shift lo zero a b = refl
  changes-shift lo (suc n) a b =
      let e : suc (lo + p) ≡ suc lo + p = omega arith in
      let e₀ : g (lo + p) ≡ g lo = comes lo a (omega arith) in
      let e₁ : g (suc (lo + p)) ≡ g (suc lo) = ap g e ∙ comes (suc lo) (omega arith) (omega arith) in
      let r : changes g (suc (lo + p)) n ≡ map (shift p) (changes g (suc lo) n) = ap (λ v. changes g v n) e ∙ changes-shift (suc lo) n (omega arith) (omega arith) in
      (λ i. cond (eqb (e₀ i) (e₁ i)) (r i) ((e i, e₁ i) ∷ r i))
      ∙ map-cond (shift p) (eqb (g lo) (g (suc lo))) (suc lo, g (suc lo)) (changes g (suc lo) n)

  -- each period has as many
  changes_times : (k : ℕ) → t + k * p < edge → length (changes g t (k * p)) ≡ k * length (changes g t p)
  unfolding changes
  changes_times zero b = ap (λ n. length (changes g t n)) (zero-mul p) ∙ sym (zero-mul (length (changes g t p)))
  changes_times (suc k) b =
      let e : suc k * p ≡ p + k * p = omega arith in
      ap (λ n. length (changes g t n)) e ∙ ap length (changes-add g t p (k * p)) ∙ length-append (changes g t p) (changes g (t + p) (k * p))
      ∙ ap (λ n. length (changes g t p) + n) (ap length (changes-shift t (k * p) (omega arith) (omega arith)) ∙ length-map (changes g t (k * p)) (shift p)
      ∙ changes_times k (omega arith))
      ∙ omega arith

  -- k periods more have k times as many
  rows_times : (k : ℕ) → t + p + k * p < edge → length (changes g (t + p) (k * p)) ≡ k * length (changes g t p)
  rows_times k b =
      ap length (changes-shift t (k * p) (omega arith) (omega arith)) ∙ length-map (changes g t (k * p)) (shift p) ∙ changes_times k (omega arith)

  -- from the end of the first period on, each change is that of a period before, which stands as many places before it as a period has changes
  module _ (c k : ℕ) (after : c ≤ t) (upto : t + p + k * p < edge) where
    rows_here : (q : ℕ) → q < length (changes g t (k * p))
        → get_or (rows_of g p t c k) (length (changes g c (t + p - c)) + q) (0, 0) ≡ shift p (get_or (changes g t (k * p)) q (0, 0))
    rows_here q h =
        let l : List (ℕ × ℕ) = changes g t (k * p) in
        get_or-append-add (changes g c (t + p - c)) (changes g (t + p) (k * p)) q (0, 0)
        ∙ ap (λ r. get_or r q (0, 0)) (changes-shift t (k * p) (omega arith) (omega arith))
        ∙ get_d_any (map (shift p) l) q (0, 0) (shift p (0, 0)) (omega (arith, length-map l (shift p))) ∙ get_or-map (shift p) l q (0, 0)

    rows_before : (q : ℕ) → q < length (changes g t (k * p))
        → get_or (rows_of g p t c k) (length (changes g c (t - c)) + q) (0, 0) ≡ get_or (changes g t (k * p)) q (0, 0)
    rows_before q h =
        let f : List (ℕ × ℕ) = changes g c (t - c) in
        let l : List (ℕ × ℕ) = changes g t (k * p) in
        let z : List (ℕ × ℕ) = changes g (t + k * p) p in
        let e : rows_of g p t c k ≡ f ++ (l ++ z) =
        ap (λ r. r ++ changes g (t + p) (k * p)) (changes-on g c t p after) ∙ append_assoc f (changes g t p) (changes g (t + p) (k * p))
        ∙ ap (λ r. f ++ r) (sym (changes-add g t p (k * p)) ∙ ap (changes g t) (add_comm p (k * p)) ∙ changes-add g t (k * p) p) in
        ap (λ r. get_or r (length f + q) (0, 0)) e ∙ get_or-append-add f (l ++ z) q (0, 0) ∙ get_or-append l z (0, 0) q h

    rows_again : (i : ℕ) → length (changes g c (t + p - c)) ≤ i → i < length (changes g c (t + p - c)) + length (changes g t (k * p))
        → get_or (rows_of g p t c k) i (0, 0) ≡ shift p (get_or (rows_of g p t c k) (i - length (changes g t p)) (0, 0))
    rows_again i a b =
        let q : ℕ = i - length (changes g c (t + p - c)) in
        let m = ap length (changes-on g c t p after) ∙ length-append (changes g c (t - c)) (changes g t p) in
        let e : i ≡ length (changes g c (t + p - c)) + q = omega arith in
        let e' : i - length (changes g t p) ≡ length (changes g c (t - c)) + q = omega arith in
        ap (λ r. get_or (rows_of g p t c k) r (0, 0)) e ∙ rows_here q (omega arith)
        ∙ ap (shift p) (sym (ap (λ r. get_or (rows_of g p t c k) r (0, 0)) e' ∙ rows_before q (omega arith)))

-- the walk

-- an instant one period later, as a program adds
later-is : (p : ℕ) (y z : ℕ × ℕ) → z ≡ shift p y → z.0 < 18446744073709551616 → z.0 ≡ later p y.0
later-is p y z q v = let e : z.0 ≡ y.0 + p = ap (λ (x : ℕ × ℕ). x.0) q in e ∙ sym (mod-eq_of_lt (omega arith))

-- a walk that has come to t + p, of which the last period has count changes, and k rounds of them
module _ (j : Journey) (p t edge : ℕ) (comes : (v : ℕ) → t ≤ v → v + p < edge → j.shows (v + p) ≡ j.shows v) (after : j.clock ≤ t)
    (o n : ℕ) (at os : List ℕ) (w : WrittenUpTo j (t + p) o n at os) (count : ℕ) (has : count ≡ length (changes j.shows t p)) (k : ℕ) (upto : t + p + k * p < edge)
    (end : ℕ) (is : end ≡ n + k * count) (r : CanRepeat count n end (length at) (length os)) where
  -- there is room for them
  rounds_fit : end ≤ room j
  rounds_fit = go (ltb n end) refl
    where
      go : (b : Bool) → ltb n end ≡ b → end ≤ room j
      go true z = omega (arith, r.fits (ltb-true n end z), written-room j (t + p) o n at os w)
      go false z = let l = ltb-false n end z in let f = w.fits in omega arith

  -- the changes then
  rounds_on : changes j.shows j.clock (t + p + k * p - j.clock) ≡ rows_of j.shows p t j.clock k
  rounds_on = changes-on j.shows j.clock (t + p) (k * p) (omega arith)

  rounds_count : end ≡ length (rows_of j.shows p t j.clock k)
  rounds_count =
      let z = rows_times j.shows p t edge comes k upto ∙ ap (λ q. k * q) (sym has) in
      is ∙ ap₂ (λ x y. x + y) w.count (sym z) ∙ sym (length-append (changes j.shows j.clock (t + p - j.clock)) (changes j.shows (t + p) (k * p)))

  -- a column x of them, of which each place repeats by h
  module _ (x : ℕ × ℕ → ℕ) (none : x (0, 0) ≡ 0) (h : ℕ → ℕ) (turns : (y z : ℕ × ℕ) → z ≡ shift p y → z.0 ≤ t + p + k * p → x z ≡ h (x y)) where
    column_again : (i : ℕ) → n ≤ i → i < end
        → get_or (map x (changes j.shows j.clock (t + p - j.clock)) ++ map x (changes j.shows (t + p) (k * p))) i 0
        ≡ h (get_or (map x (changes j.shows j.clock (t + p - j.clock)) ++ map x (changes j.shows (t + p) (k * p))) (i - count) 0)
    column_again i a b =
        let g : ℕ → ℕ = j.shows in
        let l : List (ℕ × ℕ) = rows_of g p t j.clock k in
        let c = w.count in
        let z : length (changes g t (k * p)) ≡ k * count = changes_times g p t edge comes k (omega arith) ∙ ap (λ q. k * q) (sym has) in
        let e = rows_again g p t edge comes j.clock k after upto i (omega arith) (omega arith) in
        let u : (get_or l i (0, 0)).0 ≤ j.clock + (t + p + k * p - j.clock) =
        subst (λ (q : List (ℕ × ℕ)). (get_or q i (0, 0)).0 ≤ j.clock + (t + p + k * p - j.clock)) rounds_on (changes-upto g j.clock (t + p + k * p - j.clock) i) in
        column_at x none (changes g j.clock (t + p - j.clock)) (changes g (t + p) (k * p)) i
        ∙ turns (get_or l (i - length (changes g t p)) (0, 0)) (get_or l i (0, 0)) e (omega arith)
        ∙ ap (λ q. h (x (get_or l (i - q) (0, 0)))) (sym has)
        ∙ ap h (sym (column_at x none (changes g j.clock (t + p - j.clock)) (changes g (t + p) (k * p)) (i - count)))

    column_rounds : (buf old new : List ℕ) → end ≤ length buf → old ≡ into (map x (changes j.shows j.clock (t + p - j.clock))) buf
        → WrittenAgain h count n end old new → new ≡ into (map x (changes j.shows j.clock (t + p + k * p - j.clock))) buf
    column_rounds buf old new fits wrote q =
        let vs : List (ℕ × ℕ) = changes j.shows j.clock (t + p - j.clock) in
        let ws : List (ℕ × ℕ) = changes j.shows (t + p) (k * p) in
        let e : map x (vs ++ ws) ≡ map x vs ++ map x ws = map-join x vs ws in
        let c : length (map x vs ++ map x ws) ≡ end = ap length (sym e) ∙ length-map (vs ++ ws) x ∙ sym rounds_count in
        again_into h count n end (map x vs) (map x ws) buf old new q r.some r.held (length-map vs x ∙ sym w.count) c fits wrote column_again
        ∙ ap (λ l. into l buf) (sym e) ∙ ap (λ l. into (map x l) buf) (sym rounds_on)

  pub written_rounds : (at' os' : List ℕ) → t + p + k * p < 18446744073709551616 → edge ≤ j.goal + 1 → WrittenAgain (later p) count n end at at' → WrittenAgain same count n end os os'
      → WrittenUpTo j (t + p + k * p) o end at' os'
  written_rounds at' os' near goal a b =
      let g : ℕ → ℕ = j.shows in
      let f = w.from in
      let z = rows_times g p t edge comes k upto ∙ ap (λ q. k * q) (sym has) in
      let e = rounds_fit in
      let m : j.goal - (t + p) ≡ k * p + (j.goal - (t + p + k * p)) = omega arith in
      let m' : room j - n ≡ length (changes g (t + p) (k * p)) + (room j - end) = omega arith in
      record {
        from = omega arith;
        upto = omega arith;
        shows = w.shows ∙ sym (comes_times g p t edge comes (t + p) k (omega arith) upto);
        count = rounds_count ∙ ap length (sym rounds_on);
        fits = e;
        instants = column_rounds (λ x. x.0) refl (later p) (λ y z q v. later-is p y z q (omega arith)) j.instants at at' (omega arith) w.instants a;
        octets = column_rounds (λ x. x.1) refl same (λ y z q v. ap (λ (x : ℕ × ℕ). x.1) q) j.octets os os' (omega arith) w.octets b;
        reaches = w.reaches ∙ ap₂ (λ x y. (t + p - j.clock) + reach_by g (t + p) x y) m m'
            ∙ ap (λ x. (t + p - j.clock) + x) (reach_past g (t + p) (k * p) (j.goal - (t + p + k * p)) (room j - end)) ∙ omega arith;
      }
