-- The record after a submission is that of the timetable after the act (`placed-is`), for a fine record and a submission that is taken. In order: the
-- record of a timetable; its parts, as the code has them; any fine record.
-- Assumes nothing.
use Rattle.std.proofs.Common.{◌≡◌, ℕ, ◌%◌, ◌≤◌, Bool, true, false, cond, leb, [], length, sym, refl, ap, ◌∙◌, mod-eq_of_lt, arith, leb-true}
use Rattle.rule.specs.Limits.{largest_instant, largest_cycle}
use Rattle.rule.specs.Cycle.{Config, cycle_of}
use Rattle.rule.specs.Timetable as model
use Rattle.rule.specs.Acts.{config_of, errors_after, submitted}
use Rattle.rule.specs.Acts as act
use Rattle.rule.specs.Orders.{length_offered}
use Rattle.rule.proofs.ClosedForms.{change_near}
use Rattle.rule.proofs.Orders.{both, PassedSubmit}
use Rattle.rule.proofs.Sound.{cycle_range}
use Rattle.gatelist.specs.declared.GateList.{GateList}
use Rattle.gatelist.specs.Coding.{entry_of, list_of, encode_list}
use Rattle.gatelist.specs.Places.{cleaned_list, Places}
use Rattle.gatelist.proofs.Coding.{length_from, cleaned_encoded}
use Rattle.timetable.specs.declared.Times.{Times}
use Rattle.timetable.specs.declared.Timetable.{Timetable}
use Rattle.timetable.specs.Record.{is_marked}
use Rattle.timetable.specs.Coding.{old_config, decode, encode}
use Rattle.timetable.specs.Checks.{Fine, change_by}
use Rattle.timetable.proofs.Beginnings.{change_by_lem}
use Rattle.timetable.proofs.Coding.{mark_there}
use Rattle.timetable.proofs.Records.{clock-fine}
use Rattle.submission.specs.declared.Submission.{Submission}
use Rattle.submission.specs.Judgement.{submission_of}
use Rattle.submission.specs.Placement.{errors_for, operating_by, waiting_by, placed_by, placed_times, listed_in}

-- the record of a timetable

module _ (x : act.Submission) (m : model.Timetable) where
  abbrev f : Config
  f = config_of m.clock x

  abbrev n : ℕ
  n = errors_after m.clock x m.operating m.errors

  abbrev len : ℕ
  len = length f.list

  -- the record with these numbers and the list
  abbrev with : Times → Timetable
  with y = listed_in (encode_list f.list) y (encode m)

  placed-now : leb f.start m.clock ≡ true → with (operating_by len f.cycle f.extension f.start n (encode m).times) ≡ encode (submitted x m)
  unfolding encode submitted encode_list
  placed-now h = rw h

  placed-later : leb f.start m.clock ≡ false → with (waiting_by len f.cycle f.extension f.start n (encode m).times) ≡ encode (submitted x m)
  unfolding encode submitted encode_list
  placed-later h = rw h

  placed_model : with (placed_by len f.cycle f.extension f.start n (encode m).times) ≡ encode (submitted x m)
  unfolding encode
  placed_model = go (leb f.start m.clock) refl
    where
      go : (b : Bool) → leb f.start m.clock ≡ b
          → with (cond b (operating_by len f.cycle f.extension f.start n (encode m).times) (waiting_by len f.cycle f.extension f.start n (encode m).times))
          ≡ encode (submitted x m)
      go true h = placed-now h
      go false h = placed-later h

-- its parts, as the code has them

pub placed_parts : (x : Times) (len : ℕ) (s : Submission) (c e start n : ℕ) → c ≡ cycle_of s.numerator s.denominator → e ≡ s.extension
    → start ≡ change_by x.clock s.base c % 18446744073709551616 → n ≡ errors_for s.base x → placed_by len c e start n x ≡ placed_times len s x
unfolding placed_times
placed_parts x len s c e start n p q r z =
    (λ i. placed_by len (p i) (q i) ((r ∙ ap (λ c. change_by x.clock s.base c % 18446744073709551616) p) i) (z i) x)

-- any fine record

module _ (g : Timetable) (k : Fine g) (list : GateList) (u : Places list) (s : Submission)
    (too_late : Bool) (passed : PassedSubmit too_late (submission_of (list_of list) s) (decode g)) where
  abbrev x : act.Submission
  x = submission_of (list_of list) s

  few : list.len ≤ 128
  unfolding length_offered
  few =
      let l = both (leb 1 (length (list_of list))) (leb (length (list_of list)) 128) passed.entries in
      omega (arith, length_from (entry_of list.octets list.intervals) 0 list.len, leb-true (length (list_of list)) 128 l.1)

  abbrev c : ℕ
  c = cycle_of s.numerator s.denominator

  abbrev a : ℕ
  a = g.times.clock

  -- the change instant fits 64 bits
  change_fits : change_by a s.base c % 18446744073709551616 ≡ change_by a s.base c
  change_fits =
      let r = cycle_range s.numerator s.denominator passed.cycle in
      let z = change_near (record { start = s.base; cycle = c; extension = 0; list = [] }) s.base a largest_instant largest_cycle r.0 r.1 passed.base (clock-fine g k) in
      mod-eq_of_lt (omega arith)

  start_is : change_by a s.base c % 18446744073709551616 ≡ (config_of (decode g).clock x).start
  unfolding config_of decode
  start_is = change_fits ∙ sym (change_by_lem a s.base c (record { start = s.base; cycle = c; extension = s.extension; list = list_of list }) refl)

  errors-is : errors_for s.base g.times ≡ errors_after (decode g).clock x (decode g).operating (decode g).errors
  unfolding errors_for errors_after decode
  errors-is = sym (rw (mark_there (is_marked g.times.operates) (old_config g.times (list_of (record { octets = g.octets; intervals = g.intervals; len = g.times.len })))))

  pub placed-is : listed_in (cleaned_list list) (placed_times list.len s g.times) g ≡ encode (submitted x (decode g))
  unfolding placed_times config_of
  placed-is =
      let l = length_from (entry_of list.octets list.intervals) 0 list.len in
      (λ i. listed_in (cleaned_encoded list u few i) (placed_by (sym l i) c s.extension (start_is i) (errors-is i) (sym k.whole i).times) (sym k.whole i))
      ∙ placed_model x (decode g)
