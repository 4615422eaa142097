-- A well-formed record is the encoding of what it decodes to, which is sound (`fine`); the encoding of a sound timetable is well formed (`formed`) and
-- decodes to it (`decode-encode`). In order: back from the record; a new timetable's record; each part from the record; the record; the record of a sound
-- timetable.
-- Assumes nothing.
use Rattle.std.proofs.Common.{◌≡◌, ℕ, ◌+◌, ◌≤◌, Bool, true, false, not, ◌&&◌, ◌||◌, eqb, ltb, leb, List, [], length, sym, refl, ap, ◌∙◌, subst, true≢false, arith, ltb-true, lt-ltb, eqb-true, le-leb, leb-true}
use mathlib.Core.Option.{Option, none, some}
use borrow.Author.Tests.{eqb-false, not-true}
use Rattle.rule.specs.Limits.{largest_instant, largest_cycle}
use Rattle.rule.specs.Entries.{Entry}
use Rattle.rule.specs.Cycle.{Config}
use Rattle.rule.specs.Timetable as model
use Rattle.rule.specs.Acts.{is_some}
use Rattle.rule.specs.Orders.{has_zero_interval}
use Rattle.rule.proofs.Orders.{both}
use Rattle.rule.proofs.Soundness.{SoundConfig, SoundOperating, SoundWaiting, SoundTimetable}
use Rattle.gatelist.specs.declared.GateList.{GateList}
use Rattle.gatelist.specs.Coding.{list_from, entry_of, list_of, padded, encode_list, empty_list}
use Rattle.gatelist.specs.Places.{Places}
use Rattle.gatelist.specs.Sound.{list_formed}
use Rattle.gatelist.proofs.Coding.{length_from, list_decoded}
use Rattle.gatelist.proofs.Sound.{list-used, list_free, list_encoded, list-empty, encoded_ok, empty_none}
use Rattle.timetable.specs.declared.Times.{Times}
use Rattle.timetable.specs.declared.Timetable.{Timetable}
use Rattle.timetable.specs.Record.{is_marked, mark_ok, only_if, old_list, new_list, marks_ok, idle_while_off, config_numbers, operating_formed, waits_in_time, waiting_formed, timetable_formed}
use Rattle.timetable.specs.Coding.{present, old_config, new_waiting, decode, mark_of, no_config, or_nothing, or_no_waiting, encode}
use Rattle.timetable.specs.Checks.{Fine, Checked}

-- back from the record

-- the list of a record that was encoded, whose length stands with the numbers
list_back : (l : List Entry) → list_of (record { octets = (encode_list l).octets; intervals = (encode_list l).intervals; len = length l }) ≡ l
unfolding encode_list
list_back l = list_decoded l

operating-back : (o : Option Config) → let f : Config = or_nothing o in
    present (is_marked (mark_of (is_some o)))
    (record { start = f.start; cycle = f.cycle; extension = f.extension; list = list_of (record { octets = (encode_list f.list).octets; intervals = (encode_list f.list).intervals; len = length f.list }) }) ≡ o
operating-back none = refl
operating-back (some f) = λ i. some (record { start = f.start; cycle = f.cycle; extension = f.extension; list = list_back f.list i })

waiting-back : (o : Option model.Waiting) → let w : model.Waiting = or_no_waiting o in let f : Config = w.config in
    present (is_marked (mark_of (is_some o))) (record {
      config = record { start = f.start; cycle = f.cycle; extension = f.extension; list = list_of (record { octets = (encode_list f.list).octets; intervals = (encode_list f.list).intervals; len = length f.list }) };
      since = w.since;
    }) ≡ o
waiting-back none = refl
waiting-back (some w) = λ i. some (record {
  config = record { start = w.config.start; cycle = w.config.cycle; extension = w.config.extension; list = list_back w.config.list i };
  since = w.since;
})

pub marked-back : (b : Bool) → is_marked (mark_of b) ≡ b
marked-back true = refl
marked-back false = refl

pub decode-encode : (m : model.Timetable) → decode (encode m) ≡ m
unfolding decode encode
decode-encode m i = record {
  clock = m.clock;
  on = marked-back m.on i;
  standing = m.standing;
  operating = operating-back m.operating i;
  waiting = waiting-back m.waiting i;
  errors = m.errors;
}

-- a new timetable's record

-- the numbers of a timetable at an instant with a standing octet and nothing else
abbrev pub start_times : ℕ → ℕ → Times
start_times start octet = record {
  clock = start;
  on = 0;
  standing = octet;
  operates = 0;
  waits = 0;
  len = 0;
  cycle = 0;
  extension = 0;
  start = 0;
  newlen = 0;
  newcycle = 0;
  newextension = 0;
  change = 0;
  since = 0;
  errors = 0;
}

abbrev pub start_with : ℕ → ℕ → GateList → Timetable
start_with start octet l =
    record { times = start_times start octet; octets = l.octets; intervals = l.intervals; newoctets = l.octets; newintervals = l.intervals }

pub new_record : (start octet : ℕ) (l : GateList) → l ≡ empty_list → start_with start octet l ≡ encode (model.new_timetable start octet)
unfolding encode model.new_timetable encode_list empty_list padded
new_record start octet l e = ap (start_with start octet) e

-- each part from the record

pub one_of : (x : Bool) → x || false ≡ true → x ≡ true
one_of true e = refl
one_of false e = absurd (true≢false (sym e))

absent : {A : Type 0} (b : Bool) (a : A) → b ≡ false → present b a ≡ none
absent b a e = rw e

pub mark_there : {A : Type 0} (b : Bool) (a : A) → is_some (present b a) ≡ b
mark_there true a = refl
mark_there false a = refl

pub mark_kept : (n : ℕ) → mark_ok n ≡ true → mark_of (is_marked n) ≡ n
mark_kept n e = go (eqb n 1) refl
  where
    go : (b : Bool) → eqb n 1 ≡ b → mark_of b ≡ n
    go true q = sym (eqb-true n 1 q)
    go false q = omega (arith, leb-true n 1 e, eqb-false n 1 q)

length-list : (l : GateList) → length (list_of l) ≡ l.len
length-list l = length_from (entry_of l.octets l.intervals) 0 l.len

list_none_lem : (l : GateList) → list_formed false l ≡ true → Places l → l ≡ empty_list
unfolding list_formed
list_none_lem l e u = list-empty l e u

empty_list_lem : list_of empty_list ≡ []
unfolding empty_list list_from
empty_list_lem = refl

-- a list that is formed is the record of its list
list-whole : (there : Bool) (l : GateList) → list_formed there l ≡ true → Places l → encode_list (list_of l) ≡ l
unfolding list_formed encode_list empty_list padded
list-whole true l e u = sym (list_encoded l e u)
list-whole false l e u = ap (λ r. encode_list (list_of r)) (list_none_lem l e u) ∙ ap encode_list empty_list_lem ∙ sym (list_none_lem l e u)

-- the numbers and the list of a configuration: present, it is sound; absent, it is the one of zeros
module _ (l : GateList) (u : Places l) (c x s : ℕ) where
  numbers_sound : config_numbers true c x s ≡ true → list_formed true l ≡ true → SoundConfig (record { start = s; cycle = c; extension = x; list = list_of l })
  unfolding config_numbers list_formed
  numbers_sound e f =
      let a = both (leb 1 c) (leb c largest_cycle) (one_of (leb 1 c && leb c largest_cycle) e) in
      let k = list-used l f in
      let n = length-list l in
      record {
        some-entry = omega (arith, k.some);
        few_entries = omega (arith, k.few);
        intervals = list_free l f;
        some-time = leb-true 1 c a.0;
        short = leb-true c largest_cycle a.1;
      }

  numbers_none : config_numbers false c x s ≡ true → list_formed false l ≡ true → no_config ≡ record { start = s; cycle = c; extension = x; list = list_of l }
  unfolding config_numbers
  numbers_none e f =
      let a = both (eqb c 0) _ e in
      let b = both (eqb x 0) (eqb s 0) a.1 in
      λ i. record {
        start = sym (eqb-true s 0 b.1) i;
        cycle = sym (eqb-true c 0 a.0) i;
        extension = sym (eqb-true x 0 b.0) i;
        list = sym (ap list_of (list_none_lem l f u) ∙ empty_list_lem) i;
      }

module _ (g : Timetable) (u : Places (old_list g)) (v : Places (new_list g)) where
  abbrev x : Times
  x = g.times

  abbrev old : Config
  old = old_config x (list_of (old_list g))

  abbrev new : model.Waiting
  new = new_waiting x (list_of (new_list g))

  -- what operates
  record OperatingPart (b : Bool) : Type 0 where
    config : or_nothing (present b old) ≡ old
    sound : SoundOperating x.clock (present b old)
    list : list_formed b (old_list g) ≡ true

  operating-part : (b : Bool) → is_marked x.operates ≡ b → operating_formed g ≡ true → OperatingPart b
  unfolding operating_formed
  operating-part true q e =
      let a = both (leb x.start x.clock) _ (rw q at e) in
      let d = both (config_numbers true x.cycle x.extension x.start) (list_formed true (old_list g)) a.1 in
      record {
        config = refl;
        sound = (numbers_sound (old_list g) u x.cycle x.extension x.start d.0 d.1, leb-true x.start x.clock a.0);
        list = d.1;
      }
  operating-part false q e =
      let d = both (config_numbers false x.cycle x.extension x.start) (list_formed false (old_list g)) (rw q at e) in
      record { config = numbers_none (old_list g) u x.cycle x.extension x.start d.0 d.1; sound = tt; list = d.1 }

  old-part : (b : Bool) → SoundOperating x.clock (present b old) → only_if b (leb x.start x.since) ≡ true → SoundOperating x.since (present b old)
  old-part true k e = (k.0, leb-true x.start x.since e)
  old-part false k e = tt

  -- what waits
  record WaitingPart (b : Bool) : Type 0 where
    waits : or_no_waiting (present b new) ≡ new
    sound : SoundWaiting x.clock (present (is_marked x.operates) old) (present b new)
    list : list_formed b (new_list g) ≡ true

  waiting-part : (b : Bool) → is_marked x.waits ≡ b → SoundOperating x.clock (present (is_marked x.operates) old) → waiting_formed g ≡ true → WaitingPart b
  unfolding waiting_formed waits_in_time
  waiting-part true q k e =
      let z = both (waits_in_time x || false) _ (rw q at e) in
      let d = both (config_numbers true x.newcycle x.newextension x.change) (list_formed true (new_list g)) z.1 in
      let a = both (leb x.since x.clock) _ (one_of (waits_in_time x) z.0) in
      let b = both (ltb x.clock x.change) _ a.1 in
      let c = both (leb x.change (largest_instant + largest_cycle)) _ b.1 in
      record {
        waits = refl;
        sound = record {
          config = numbers_sound (new_list g) v x.newcycle x.newextension x.change d.0 d.1;
          since = leb-true x.since x.clock a.0;
          before = ltb-true x.clock x.change b.0;
          near = leb-true x.change (largest_instant + largest_cycle) c.0;
          old = old-part (is_marked x.operates) k c.1;
        };
        list = d.1;
      }
  waiting-part false q k e =
      let z = both (eqb x.since 0) _ (rw q at e) in
      let d = both (config_numbers false x.newcycle x.newextension x.change) (list_formed false (new_list g)) z.1 in
      record {
        waits = λ i. record { config = numbers_none (new_list g) v x.newcycle x.newextension x.change d.0 d.1 i; since = sym (eqb-true x.since 0 z.0) i };
        sound = tt;
        list = d.1;
      }

  idle-part : is_marked x.on ≡ false → idle_while_off x ≡ true → (present (is_marked x.operates) old ≡ none) × (present (is_marked x.waits) new ≡ none)
  unfolding idle_while_off
  idle-part q e =
      let z = both (not (is_marked x.operates)) (not (is_marked x.waits)) (rw q at e) in
      (absent (is_marked x.operates) old (not-true _ z.0), absent (is_marked x.waits) new (not-true _ z.1))

  -- the record

  pub fine : timetable_formed g ≡ true → Fine g
  unfolding timetable_formed marks_ok decode encode
  fine e =
      let a = both (leb x.clock largest_instant) _ e in
      let b = both (marks_ok x) _ a.1 in
      let m₁ = both (mark_ok x.on) _ b.0 in
      let m₂ = both (mark_ok x.operates) (mark_ok x.waits) m₁.1 in
      let c = both (idle_while_off x) _ b.1 in
      let d = both (operating_formed g) (waiting_formed g) c.1 in
      let o = operating-part (is_marked x.operates) refl d.0 in
      let w = waiting-part (is_marked x.waits) refl o.sound d.1 in
      let p = list-whole (is_marked x.operates) (old_list g) o.list u in
      let q = list-whole (is_marked x.waits) (new_list g) w.list v in
      record {
        whole = λ i. record {
          times = record {
            clock = x.clock;
            on = mark_kept x.on m₁.0 i;
            standing = x.standing;
            operates = (ap mark_of (mark_there (is_marked x.operates) old) ∙ mark_kept x.operates m₂.0) i;
            waits = (ap mark_of (mark_there (is_marked x.waits) new) ∙ mark_kept x.waits m₂.1) i;
            len = (ap (λ (f : Config). length f.list) o.config ∙ length-list (old_list g)) i;
            cycle = (o.config i).cycle;
            extension = (o.config i).extension;
            start = (o.config i).start;
            newlen = (ap (λ (n : model.Waiting). length n.config.list) w.waits ∙ length-list (new_list g)) i;
            newcycle = (w.waits i).config.cycle;
            newextension = (w.waits i).config.extension;
            change = (w.waits i).config.start;
            since = (w.waits i).since;
            errors = x.errors;
          };
          octets = (ap (λ (f : Config). (encode_list f.list).octets) o.config ∙ ap (λ (l : GateList). l.octets) p) i;
          intervals = (ap (λ (f : Config). (encode_list f.list).intervals) o.config ∙ ap (λ (l : GateList). l.intervals) p) i;
          newoctets = (ap (λ (n : model.Waiting). (encode_list n.config.list).octets) w.waits ∙ ap (λ (l : GateList). l.octets) q) i;
          newintervals = (ap (λ (n : model.Waiting). (encode_list n.config.list).intervals) w.waits ∙ ap (λ (l : GateList). l.intervals) q) i;
        };
        sound = record {
          clock = leb-true x.clock largest_instant a.0;
          idle = λ z. idle-part z c.0;
          operating = o.sound;
          waiting = w.sound;
        };
      }

  pub checked : (b : Bool) → b ≡ timetable_formed g → Checked g b
  checked b e = record { is = e; fine = λ q. fine (sym e ∙ q) }

-- the record of a sound timetable

pub encoded_fine : (m : model.Timetable) (g : Timetable) → SoundTimetable m → g ≡ encode m → Fine g
encoded_fine m g s e =
    let d : decode g ≡ m = ap decode e ∙ decode-encode m in
    record { whole = ap encode d ∙ sym e; sound = subst SoundTimetable (sym d) s }

pub mark_formed : (b : Bool) → mark_ok (mark_of b) ≡ true
mark_formed true = refl
mark_formed false = refl

-- a list that a record holds, its length with the numbers
list_formed_lem : (l : List Entry) → 1 ≤ length l → length l ≤ 128 → has_zero_interval l ≡ false
    → list_formed true (record { octets = (encode_list l).octets; intervals = (encode_list l).intervals; len = length l }) ≡ true
unfolding list_formed encode_list
list_formed_lem l a b c = unfold encode_list in encoded_ok l a b c

none_formed : list_formed false (record { octets = (encode_list []).octets; intervals = (encode_list []).intervals; len = length {A = Entry} [] }) ≡ true
unfolding list_formed encode_list empty_list padded
none_formed = empty_none

config-formed : (f : Config) → SoundConfig f → config_numbers true f.cycle f.extension f.start
    && list_formed true (record { octets = (encode_list f.list).octets; intervals = (encode_list f.list).intervals; len = length f.list }) ≡ true
unfolding config_numbers
config-formed f k =
    simp (le-leb 1 f.cycle k.some-time, le-leb f.cycle largest_cycle k.short, list_formed_lem f.list k.some-entry k.few_entries k.intervals)

operating_formed_lem : (m : model.Timetable) (o : Option Config) → m.operating ≡ o → SoundOperating m.clock o → operating_formed (encode m) ≡ true
unfolding operating_formed encode config_numbers
operating_formed_lem m none e k = rw e none_formed
operating_formed_lem m (some f) e k = rw e (simp (le-leb f.start m.clock k.1, config-formed f k.0))

old-formed : (m : model.Timetable) (t : ℕ) (o : Option Config) → m.operating ≡ o → SoundOperating t o → only_if (is_marked (mark_of (is_some m.operating))) (leb (or_nothing m.operating).start t) ≡ true
old-formed m t none e k = rw e
old-formed m t (some f) e k = rw e (le-leb f.start t k.1)

waiting_formed_lem : (m : model.Timetable) (w : Option model.Waiting) → m.waiting ≡ w → SoundWaiting m.clock m.operating w → waiting_formed (encode m) ≡ true
unfolding waiting_formed waits_in_time encode config_numbers
waiting_formed_lem m none e k = rw e none_formed
waiting_formed_lem m (some w) e k =
    rw e
    (simp (
      le-leb w.since m.clock k.since,
      lt-ltb m.clock w.config.start k.before,
      le-leb w.config.start (largest_instant + largest_cycle) k.near,
      old-formed m w.since m.operating refl k.old,
      config-formed w.config k.config,
    ))

idle-formed : (b : Bool) (o : Option Config) (w : Option model.Waiting) → (b ≡ false → (o ≡ none) × (w ≡ none))
    → is_marked (mark_of b) || (not (is_marked (mark_of (is_some o))) && not (is_marked (mark_of (is_some w)))) ≡ true
idle-formed true o w k = refl
idle-formed false o w k = let z = k refl in rw (z.0, z.1)

all_true : (a b c d e : Bool) → a ≡ true → b ≡ true → c ≡ true → d ≡ true → e ≡ true → a && (b && (c && (d && e))) ≡ true
all_true a b c d e h i j k l = rw (h, i, j, k, l)

pub formed : (m : model.Timetable) → SoundTimetable m → timetable_formed (encode m) ≡ true
unfolding timetable_formed marks_ok idle_while_off encode
formed m s =
    all_true (leb m.clock largest_instant)
    (mark_ok (mark_of m.on) && (mark_ok (mark_of (is_some m.operating)) && mark_ok (mark_of (is_some m.waiting)))) _
    (operating_formed (encode m)) (waiting_formed (encode m))
    (le-leb m.clock largest_instant s.clock)
    (rw (mark_formed m.on, mark_formed (is_some m.operating), mark_formed (is_some m.waiting)))
    (idle-formed m.on m.operating m.waiting s.idle)
    (operating_formed_lem m m.operating refl s.operating)
    (waiting_formed_lem m m.waiting refl s.waiting)
