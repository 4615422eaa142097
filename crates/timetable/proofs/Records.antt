-- What a fine record of a timetable says where its parts are looked at. In order: its numbers are in time; its lists; what is shown over a span; what the acts
-- and time make of it, in the record and in the model.
-- Assumes nothing.
use Rattle.std.proofs.Common.{◌≡◌, ℕ, ◌+◌, ◌<◌, ◌≤◌, Bool, true, false, cond, leb, get_or, sym, refl, ap, ◌∙◌, subst, lt_of_not-le, zero-add, arith}
use mathlib.Core.Option.{Option, none, some}
use Rattle.rule.specs.Limits.{largest_instant, largest_cycle}
use Rattle.rule.specs.Cycle.{Config}
use Rattle.rule.specs.Timetable as model
use Rattle.rule.specs.Acts.{on, off, standing, perform_gates}
use Rattle.rule.specs.Orders.{has_zero_interval}
use Rattle.rule.proofs.Regime.{Rules}
use Rattle.rule.proofs.Soundness.{SoundOperating, SoundWait, SoundWaiting}
use Rattle.gatelist.specs.Coding.{entry_of, list_of, padded, encode_list, empty_list}
use Rattle.gatelist.proofs.Coding.{length_from}
use Rattle.gatelist.proofs.Sound.{zero_free}
use Rattle.timetable.specs.declared.Times.{Times}
use Rattle.timetable.specs.declared.Timetable.{Timetable}
use Rattle.timetable.specs.declared.ruling.Span.{Span}
use Rattle.timetable.specs.declared.ruling.Which.{Which}
use Rattle.timetable.specs.declared.ruling.Which.TheVariants.{Operating, Waiting}
use Rattle.timetable.specs.Record.{is_marked, old_list, new_list, list_in, is_there, by_which}
use Rattle.std.specs.Prelude.{Some, None}
use Rattle.timetable.specs.Coding.{present, old_config, new_waiting, decode, encode}
use Rattle.timetable.specs.Checks.{Fine}
use Rattle.timetable.specs.Regime.{Governs}
use Rattle.timetable.specs.Cursor.{Used}
use Rattle.timetable.specs.Updates.{with_times, switched, clocked, cleared_table, installed_with, moved_table}
use Rattle.timetable.proofs.Spans.{InTime}

module _ (g : Timetable) (k : Fine g) where
  abbrev x : Times
  x = g.times

  -- the numbers

  pub clock-fine : x.clock ≤ largest_instant
  unfolding decode
  clock-fine = k.sound.clock

  pub operating-fine : is_marked x.operates ≡ true → SoundOperating x.clock (some (old_config x (list_of (old_list g))))
  unfolding decode
  operating-fine e = subst (λ b. SoundOperating x.clock (present b (old_config x (list_of (old_list g))))) e k.sound.operating

  pub waiting-fine : is_marked x.waits ≡ true
      → SoundWait x.clock (present (is_marked x.operates) (old_config x (list_of (old_list g)))) (new_waiting x (list_of (new_list g)))
  unfolding decode
  waiting-fine e =
      subst (λ b. SoundWaiting x.clock (present (is_marked x.operates) (old_config x (list_of (old_list g)))) (present b (new_waiting x (list_of (new_list g))))) e
      k.sound.waiting

  pub in_time : (t : ℕ) → x.clock ≤ t → t ≤ largest_instant + largest_cycle → InTime x t
  in_time t h n = record {
    near = n;
    operating = λ e. let o = operating-fine e in record { some-time = o.0.some-time; short = o.0.short; begun = omega (arith, o.1) };
    waiting = λ e. let w = waiting-fine e in record { some-time = w.config.some-time; short = w.config.short; near = w.near };
  }

  -- the lists: 1 to 128 entries, and no interval of 0

  pub list-fine : (w : Which) → is_there x w ≡ true → (1 ≤ (list_in g w).len) × ((list_in g w).len ≤ 128)
  list-fine Waiting e =
      let w = (waiting-fine e).config in
      let n = length_from (entry_of g.newoctets g.newintervals) 0 x.newlen in
      (omega (arith, w.some-entry), omega (arith, w.few_entries))
  list-fine Operating e =
      let w = (operating-fine e).0 in
      let n = length_from (entry_of g.octets g.intervals) 0 x.len in
      (omega (arith, w.some-entry), omega (arith, w.few_entries))

  pub list-used : (b : Which) → is_there x b ≡ true → Used (list_in g b).intervals (list_in g b).len
  list-used b e j h = lt_of_not-le (λ (z : get_or (list_in g b).intervals j 0 ≤ 0).
      zero_free (entry_of (list_in g b).octets (list_in g b).intervals) 0 (list_in g b).len (free b e) j h (rw zero-add (omega arith)))
    where
      free : (b : Which) → is_there x b ≡ true → has_zero_interval (list_of (list_in g b)) ≡ false
      free Waiting e = (waiting-fine e).config.intervals
      free Operating e = (operating-fine e).0.intervals

-- what is shown over a span

module _ (g : Timetable) (t : ℕ) (r : Span) (h : Governs g.times t r) where
  pub table_flat : r.list ≡ None → (v : ℕ) → t ≤ v → v < r.edge → model.shown (decode g) v ≡ g.times.standing
  unfolding decode
  table_flat e v a b = h.flat e (list_of (old_list g)) (list_of (new_list g)) v a b

  pub table_ruled : (w : Which) → r.list ≡ Some w → Rules (model.shown (decode g)) (list_of (list_in g w)) r.period r.start t r.edge
  unfolding decode
  table_ruled w e = go w (h.ruled w e (list_of (old_list g)) (list_of (new_list g)))
    where
      go : (w : Which) → Rules (model.shown (decode g)) (by_which w (list_of (old_list g)) (list_of (new_list g))) r.period r.start t r.edge
          → Rules (model.shown (decode g)) (list_of (list_in g w)) r.period r.start t r.edge
      go Waiting y = y
      go Operating y = y

-- the acts and time

module _ (g : Timetable) (k : Fine g) where
  pub on-is : with_times (switched 1 g.times.standing g.times) g ≡ encode (perform_gates on (decode g))
  unfolding encode decode
  on-is = ap (λ (h : Timetable). with_times (switched 1 h.times.standing h.times) h) (sym k.whole)

  pub standing-is : (octet : ℕ) → with_times (switched g.times.on octet g.times) g ≡ encode (perform_gates (standing octet) (decode g))
  unfolding encode decode
  standing-is octet = ap (λ (h : Timetable). with_times (switched h.times.on octet h.times) h) (sym k.whole)

  pub off-is : cleared_table g ≡ encode (perform_gates off (decode g))
  unfolding encode decode encode_list empty_list padded
  off-is = refl

-- the timetable at an instant, with these configurations
abbrev placed : ℕ → Option Config → Option model.Waiting → model.Timetable → model.Timetable
placed t o w m = record { clock = t; on = m.on; standing = m.standing; operating = o; waiting = w; errors = m.errors }

moved_model : (t : ℕ) (m : model.Timetable) → moved_table t (encode m) ≡ encode (model.due t m)
unfolding encode encode_list empty_list padded
moved_model t m = go m.waiting
  where
    both : (b : Bool) (w : model.Waiting) → let g : Timetable = encode (placed m.clock m.operating (some w) m) in
        cond b (installed_with empty_list t g) (with_times (clocked t g.times) g) ≡ encode (placed t (cond b (some w.config) m.operating) (cond b none (some w)) m)
    both true w = refl
    both false w = refl

    go : (w : Option model.Waiting) → moved_table t (encode (placed m.clock m.operating w m)) ≡ encode (model.due t (placed m.clock m.operating w m))
    go none = refl
    go (some w) = both (leb w.config.start t) w

pub moved-is : (g : Timetable) → Fine g → (t : ℕ) → moved_table t g ≡ encode (model.due t (decode g))
moved-is g k t = ap (moved_table t) (sym k.whole) ∙ moved_model t (decode g)
