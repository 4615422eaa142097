-- What a check of a timetable's record tells, whether the last old cycle has begun, and the change instant of a submission: what crates above take from this one.
-- Assumes nothing.
use Rattle.std.specs.Prelude.{◌≡◌, ℕ, Bool, true, []}
use Rattle.rule.specs.Cycle.{change_instant}
use Rattle.rule.proofs.Soundness.{SoundTimetable}
use Rattle.rule.specs.Timetable as model
use Rattle.rule.specs.Orders.{last_begun}
use Rattle.timetable.specs.declared.Times.{Times}
use Rattle.timetable.specs.declared.Timetable.{Timetable}
use Rattle.timetable.specs.Record.{timetable_formed}
use Rattle.timetable.specs.Coding.{timetable_of, decode, encode}

-- a record that is the encoding of a sound timetable; and what the check of a record tells
pub record Fine (g : Timetable) : Type 0 where
  pub whole : encode (decode g) ≡ g
  pub sound : SoundTimetable (decode g)

pub record Checked (g : Timetable) (answer : Bool) : Type 0 where
  pub is : answer ≡ timetable_formed g
  pub fine : answer ≡ true → Fine g

-- whether the last old cycle has begun under what waits depends on the numbers alone
abbrev pub begun_by : Times → Bool
begun_by x = let m : model.Timetable = timetable_of x [] [] in last_begun m.clock m.operating m.waiting

-- the change instant depends on the cycle alone
abbrev pub change_by : ℕ → ℕ → ℕ → ℕ
change_by a base c = change_instant (record { start = base; cycle = c; extension = 0; list = [] }) base a
