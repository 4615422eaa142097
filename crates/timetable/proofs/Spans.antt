-- What rules at an instant, for numbers and marks alone. In order: the ways out of `regime`; what is shown, by the span, for any numbers (`span_shown`);
-- a span governs what is shown from the instant to its edge, where the numbers are in time (`governs`); a span cut short (`governs_cut`).
-- Assumes nothing.
use Rattle.std.proofs.Common.{◌≡◌, ℕ, ◌+◌, ◌-◌, ◌<◌, ◌≤◌, min, Bool, true, false, cond, not, leb, List, [], sym, refl, ap, ◌∙◌, subst, arith, eq-eqb, ne_eqb, le-leb, leb-false, leb-true}
use borrow.Author.Tests.{lt-leb}
use Rattle.rule.specs.Limits.{largest_instant, largest_cycle}
use Rattle.rule.specs.Entries.{Entry, octet_at}
use Rattle.rule.specs.Cycle.{Config, Valid, start_no, last_no, plain_start, plain_octet, bent_start, bent_octet}
use Rattle.rule.specs.Timetable as model
use Rattle.rule.proofs.ClosedForms.{last_start_lem, plain_start_lem}
use Rattle.rule.proofs.Regime.{Rules, rules_as, rules_plain, rules_last, rules_early, shows-off, shows-standing, shows_oper, shows_installed, shows-before, shows_bent}
use Rattle.timetable.specs.declared.Times.{Times}
use Rattle.gatelist.specs.Coding.{list_of}
use Rattle.timetable.specs.declared.Timetable.{Timetable}
use Rattle.timetable.specs.declared.ruling.Span.{Span}
use Rattle.timetable.specs.declared.ruling.Which.{Which}
use Rattle.timetable.specs.declared.ruling.Which.TheVariants.{Operating, Waiting}
use Rattle.timetable.specs.Record.{is_marked, old_list, new_list, list_in, is_there, by_which}
use Rattle.std.specs.Prelude.{Option, Some, None}
use Rattle.std.proofs.lemmas.Option.{none-some, cond_some}
use Rattle.timetable.specs.Coding.{old_config, new_waiting, timetable_of}
use Rattle.timetable.specs.Regime.{never, plain_from, standing_to, list_to, last_start, span_bent, span_waiting, span_at, cut_at, Governs}

-- the last start does not look at the list
pub last-any : (x : Times) (l : List Entry) → start_no (old_config x l) (last_no (old_config x l) x.since x.change)
    ≡ start_no (old_config x []) (last_no (old_config x []) x.since x.change)
last-any x l = sym (last_start_lem (old_config x l) x.since x.change) ∙ last_start_lem (old_config x []) x.since x.change

-- the ways out

module _ (x : Times) (t : ℕ) where
  pub last-is : (s : ℕ) → s ≡ min (start_no (old_config x []) (last_no (old_config x []) x.since x.change)) x.change → s ≡ last_start x
  unfolding last_start
  last-is s e = e

  module _ (s : ℕ) (e : s ≡ last_start x) where
    pub bent_last : s ≤ t → (d : ℕ) → d ≡ x.change - s → list_to Operating s d x.change ≡ span_bent x t
    unfolding span_bent
    bent_last h d q = rw (← e, le-leb s t h, q)

    pub bent_early : t < s → (r : Span) → r ≡ list_to Operating (plain_from x.start x.cycle t) x.cycle s → r ≡ span_bent x t
    unfolding span_bent
    bent_early h r q = rw (← e, lt-leb s t h) q

  pub waiting_installed : x.change ≤ t → (r : Span) → r ≡ list_to Waiting (plain_from x.change x.newcycle t) x.newcycle never → r ≡ span_waiting x t
  unfolding span_waiting
  waiting_installed h r q = rw (le-leb x.change t h) q

  module _ (h : t < x.change) where
    pub waiting_bent : x.operates ≡ 1 → (r : Span) → r ≡ span_bent x t → r ≡ span_waiting x t
    unfolding span_waiting
    waiting_bent o r q = rw (lt-leb x.change t h, eq-eqb x.operates 1 o) q

    pub waiting-before : (x.operates ≡ 1 → ⊥) → (r : Span) → r ≡ standing_to x.change → r ≡ span_waiting x t
    unfolding span_waiting
    waiting-before o r q = rw (lt-leb x.change t h, ne_eqb x.operates 1 o) q

  pub rules_off : (x.on ≡ 1 → ⊥) → (r : Span) → r ≡ standing_to never → r ≡ span_at x t
  unfolding span_at
  rules_off o r q = rw (ne_eqb x.on 1 o) q

  module _ (on : x.on ≡ 1) where
    pub rules_waiting : x.waits ≡ 1 → (r : Span) → r ≡ span_waiting x t → r ≡ span_at x t
    unfolding span_at
    rules_waiting w r q = rw (eq-eqb x.on 1 on, eq-eqb x.waits 1 w) q

    module _ (w : x.waits ≡ 1 → ⊥) where
      pub rules_standing : (x.operates ≡ 1 → ⊥) → (r : Span) → r ≡ standing_to never → r ≡ span_at x t
      unfolding span_at
      rules_standing o r q = rw (eq-eqb x.on 1 on, ne_eqb x.waits 1 w, ne_eqb x.operates 1 o) q

      pub rules_operating : x.operates ≡ 1 → (r : Span) → r ≡ list_to Operating (plain_from x.start x.cycle t) x.cycle never → r ≡ span_at x t
      unfolding span_at
      rules_operating o r q = rw (eq-eqb x.on 1 on, ne_eqb x.waits 1 w, eq-eqb x.operates 1 o) q

-- what is shown, by the span that rules

-- the octet of a span's list, or the standing octet
abbrev pub octet_by : Option Which → ℕ → List Entry → List Entry → ℕ → ℕ
octet_by None standing old new offset = standing
octet_by (Some w) standing old new offset = octet_at (by_which w old new) offset

abbrev pub span_octet : Times → List Entry → List Entry → ℕ → Span → ℕ
span_octet x old new t r = octet_by r.list x.standing old new (t - r.start)

module _ (x : Times) (old new : List Entry) (t : ℕ) where
  abbrev m : model.Timetable
  m = timetable_of x old new

  bent_shown : t < x.change → bent_octet (old_config x old) x.since x.change t ≡ span_octet x old new t (span_bent x t)
  unfolding bent_octet bent_start span_bent last_start
  bent_shown h =
      let s : ℕ = start_no (old_config x []) (last_no (old_config x []) x.since x.change) in
      ap (λ n. octet_at old (t - cond (leb n t) n (plain_start (old_config x old) t))) (last-any x old)
      ∙ go s (leb s t) refl
    where
      go : (s : ℕ) (b : Bool) → leb s t ≡ b → octet_at old (t - cond (leb s t) s (plain_start (old_config x old) t))
          ≡ span_octet x old new t (cond (leb (min s x.change) t) (list_to Operating (min s x.change) (x.change - min s x.change) x.change)
          (list_to Operating (plain_from x.start x.cycle t) x.cycle (min s x.change)))
      go s true e =
          let k = leb-true s t e in
          let z : min s x.change ≡ s = omega arith in
          rw (z, e)
      go s false e =
          let k = leb-false s t e in
          rw (e, lt-leb (min s x.change) t (omega arith)) (ap (λ n. octet_at old (t - n)) (sym (plain_start_lem (old_config x old) t)))

  pub span_shown : model.shown m t ≡ span_octet x old new t (span_at x t)
  unfolding span_at span_waiting
  span_shown = go (is_marked x.on) refl (is_marked x.waits) refl (is_marked x.operates) refl (leb x.change t) refl
    where
      plain : (f : Config) → plain_octet f t ≡ octet_at f.list (t - plain_from f.start f.cycle t)
      plain f = unfold plain_octet in ap (λ n. octet_at f.list (t - n)) (sym (plain_start_lem f t))

      go : (a : Bool) → is_marked x.on ≡ a → (b : Bool) → is_marked x.waits ≡ b → (c : Bool) → is_marked x.operates ≡ c → (d : Bool) → leb x.change t ≡ d
          → model.shown m t ≡ span_octet x old new t (cond (not a) (standing_to never)
          (cond b (cond d (list_to Waiting (plain_from x.change x.newcycle t) x.newcycle never) (cond c (span_bent x t) (standing_to x.change)))
          (cond (not c) (standing_to never) (list_to Operating (plain_from x.start x.cycle t) x.cycle never))))
      go false i b j c k d l = shows-off m i t
      go true i true j c k true l = shows_installed m i (new_waiting x new) (rw j) t (leb-true x.change t l) ∙ plain (new_waiting x new).config
      go true i true j true k false l = shows_bent m i (new_waiting x new) (rw j) (old_config x old) (rw k) t (leb-false x.change t l) ∙ bent_shown (leb-false x.change t l)
      go true i true j false k false l = shows-before m i (new_waiting x new) (rw j) (rw k) t (leb-false x.change t l)
      go true i false j true k d l = shows_oper m i (old_config x old) (rw k) (rw j) t ∙ plain (old_config x old)
      go true i false j false k d l = shows-standing m (rw k) (rw j) t

-- the list of the one asked for
pub list_by : (g : Timetable) (w : Which) → list_of (list_in g w) ≡ by_which w (list_of (old_list g)) (list_of (new_list g))
list_by g Operating = refl
list_by g Waiting = refl

-- the ways out of `shown_at`

module _ (x : Times) (old new : List Entry) (t : ℕ) (r : Span) (is : r ≡ span_at x t) where
  by_span : model.shown (timetable_of x old new) t ≡ span_octet x old new t r
  by_span = span_shown x old new t ∙ ap (span_octet x old new t) (sym is)

  pub shown-flat : r.list ≡ None → x.standing ≡ model.shown (timetable_of x old new) t
  shown-flat e = sym (by_span ∙ rw e)

  pub shown_listed : (w : Which) → r.list ≡ Some w → (offset o : ℕ) → offset ≡ t - r.start → o ≡ octet_at (by_which w old new) offset
      → o ≡ model.shown (timetable_of x old new) t
  shown_listed w e offset o q k = k ∙ ap (octet_at (by_which w old new)) q ∙ sym (by_span ∙ rw e)

-- a span governs

-- a cycle that has begun by t
pub record Cycling (start cycle t : ℕ) : Type 0 where
  pub some-time : 1 ≤ cycle
  pub short : cycle ≤ largest_cycle
  pub begun : start ≤ t

pub record Pending (x : Times) : Type 0 where
  pub some-time : 1 ≤ x.newcycle
  pub short : x.newcycle ≤ largest_cycle
  pub near : x.change ≤ largest_instant + largest_cycle

-- numbers of which one may ask at t
pub record InTime (x : Times) (t : ℕ) : Type 0 where
  pub near : t ≤ largest_instant + largest_cycle
  pub operating : is_marked x.operates ≡ true → Cycling x.start x.cycle t
  pub waiting : is_marked x.waits ≡ true → Pending x

valid : (f : Config) (t : ℕ) → Cycling f.start f.cycle t → Valid f
unfolding Valid
valid f t k = k.some-time

plain_span : (f : Config) (t e : ℕ) → Cycling f.start f.cycle t → Rules (plain_octet f) f.list f.cycle (plain_from f.start f.cycle t) t e
plain_span f t e k = subst (λ v. Rules (plain_octet f) f.list f.cycle v t e) (sym (plain_start_lem f t)) (rules_plain f (valid f t k) t e k.begun)

module _ (x : Times) (t : ℕ) where
  flat : (e : ℕ) → t < e → ((old new : List Entry) (v : ℕ) → t ≤ v → v < e → model.shown (timetable_of x old new) v ≡ x.standing) → Governs x t (standing_to e)
  flat e a f = record { after = a; flat = λ _. f; ruled = λ w z. absurd (none-some w z); short = λ w z. absurd (none-some w z); there = λ w z. absurd (none-some w z) }

  listed : (b : Which) (s d e : ℕ) → t < e → d ≤ largest_instant + largest_cycle → is_there x b ≡ true
      → ((old new : List Entry) → Rules (model.shown (timetable_of x old new)) (by_which b old new) d s t e) → Governs x t (list_to b s d e)
  listed b s d e a l h r = record {
    after = a;
    flat = λ z. absurd (none-some b (sym z));
    ruled = λ w z. subst (λ v. (old new : List Entry) → Rules (model.shown (timetable_of x old new)) (by_which v old new) d s t e) (the_list z) r;
    short = λ _ _. l;
    there = λ w z. subst (λ v. is_there x v ≡ true) (the_list z) h;
  }
    where
      the_list : {w : Which} → Some b ≡ Some w → b ≡ w
      the_list {w} z = (cond_some true b w z).1

  module _ (k : InTime x t) where
    governs_plain : is_marked x.on ≡ true → is_marked x.operates ≡ true → is_marked x.waits ≡ false
        → Governs x t (list_to Operating (plain_from x.start x.cycle t) x.cycle never)
    governs_plain on o w =
        let c = k.operating o in
        listed Operating (plain_from x.start x.cycle t) x.cycle never (omega (arith, k.near)) (omega (arith, c.short)) o
        (λ old new.
        rules_as (plain_octet (old_config x old)) (model.shown (timetable_of x old new)) old x.cycle (plain_from x.start x.cycle t) t never
        (λ v a b. shows_oper (timetable_of x old new) on (old_config x old) (rw o) (rw w) v)
        (plain_span (old_config x old) t never c))

    module _ (on : is_marked x.on ≡ true) (w : is_marked x.waits ≡ true) where
      governs_installed : x.change ≤ t → Governs x t (list_to Waiting (plain_from x.change x.newcycle t) x.newcycle never)
      governs_installed h =
          let p = k.waiting w in
          listed Waiting (plain_from x.change x.newcycle t) x.newcycle never (omega (arith, k.near)) (omega (arith, p.short)) w
          (λ old new.
          rules_as (plain_octet (new_waiting x new).config) (model.shown (timetable_of x old new)) new x.newcycle (plain_from x.change x.newcycle t) t never
          (λ v a b. shows_installed (timetable_of x old new) on (new_waiting x new) (rw w) v (omega arith))
          (plain_span (new_waiting x new).config t never (record { some-time = p.some-time; short = p.short; begun = h })))

      module _ (before : t < x.change) where
        governs-before : is_marked x.operates ≡ false → Governs x t (standing_to x.change)
        governs-before o = flat x.change before (λ old new v a b. shows-before (timetable_of x old new) on (new_waiting x new) (rw w) (rw o) v b)

        module _ (o : is_marked x.operates ≡ true) where
          abbrev last : ℕ
          last = start_no (old_config x []) (last_no (old_config x []) x.since x.change)

          bent : (s d e : ℕ) → t < e → e ≤ x.change → d ≤ largest_instant + largest_cycle
              → ((old : List Entry) → Rules (bent_octet (old_config x old) x.since x.change) old d s t e) → Governs x t (list_to Operating s d e)
          bent s d e a u l r =
              listed Operating s d e a l o
              (λ old new.
              rules_as (bent_octet (old_config x old) x.since x.change) (model.shown (timetable_of x old new)) old d s t e
              (λ v a b. shows_bent (timetable_of x old new) on (new_waiting x new) (rw w) (old_config x old) (rw o) v (omega arith)) (r old))

          governs_bent : Governs x t (span_bent x t)
          unfolding span_bent last_start
          governs_bent = go (leb (min last x.change) t) refl
            where
              go : (b : Bool) → leb (min last x.change) t ≡ b
                  → Governs x t (cond b (list_to Operating (min last x.change) (x.change - min last x.change) x.change)
                  (list_to Operating (plain_from x.start x.cycle t) x.cycle (min last x.change)))
              go true e =
                  let h = leb-true (min last x.change) t e in
                  let n = k.near in
                  let z : min last x.change ≡ last = omega arith in
                  bent (min last x.change) (x.change - min last x.change) x.change before (omega arith) (omega (arith, (k.waiting w).near))
                  (λ old. rules_last (old_config x old) x.since x.change (min last x.change) (z ∙ sym (last-any x old)) t x.change h before (omega arith))
              go false e =
                  let h = leb-false (min last x.change) t e in
                  bent (plain_from x.start x.cycle t) x.cycle (min last x.change) (omega arith) (omega arith) (omega (arith, (k.operating o).short))
                  (λ old. rules_early (old_config x old) x.since x.change last (sym (last-any x old)) t (min last x.change) (plain_from x.start x.cycle t)
                  (omega arith) (plain_span (old_config x old) t (min last x.change) (k.operating o)))

    pub governs : Governs x t (span_at x t)
    unfolding span_at span_waiting
    governs = go (is_marked x.on) refl (is_marked x.waits) refl (is_marked x.operates) refl (leb x.change t) refl
      where
        go : (a : Bool) → is_marked x.on ≡ a → (b : Bool) → is_marked x.waits ≡ b → (c : Bool) → is_marked x.operates ≡ c → (d : Bool) → leb x.change t ≡ d
            → Governs x t (cond (not a) (standing_to never)
            (cond b (cond d (list_to Waiting (plain_from x.change x.newcycle t) x.newcycle never) (cond c (span_bent x t) (standing_to x.change)))
            (cond (not c) (standing_to never) (list_to Operating (plain_from x.start x.cycle t) x.cycle never))))
        go false i b j c l d q = flat never (omega (arith, k.near)) (λ old new v a b. shows-off (timetable_of x old new) i v)
        go true i true j c l true q = governs_installed i j (leb-true x.change t q)
        go true i true j true l false q = governs_bent i j (leb-false x.change t q) l
        go true i true j false l false q = governs-before i j (leb-false x.change t q) l
        go true i false j true l d q = governs_plain i l j
        go true i false j false l d q = flat never (omega (arith, k.near)) (λ old new v a b. shows-standing (timetable_of x old new) (rw l) (rw j) v)

  -- a span cut short
  pub governs_cut : (r : Span) → Governs x t r → (e : ℕ) → t < e → e ≤ r.edge → Governs x t (cut_at e r)
  governs_cut r g e a u = record {
    after = a;
    flat = λ z old new v l h. g.flat z old new v l (omega arith);
    ruled = λ w z old new. let q = g.ruled w z old new in record {
      config = q.config;
      valid = q.valid;
      list = q.list;
      cycle = q.cycle;
      started = q.started;
      runs = q.runs;
      all = λ v l h. q.all v l (omega arith);
    };
    short = g.short;
    there = g.there;
  }
