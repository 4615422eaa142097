-- A stretch in which one list rules, and a cursor on its way through it.
-- Assumes nothing.
use Rattle.std.specs.Prelude.{◌≡◌, ℕ, ◌+◌, ◌<◌, ◌≤◌, List}
use Rattle.rule.specs.Cycle.{Config, Valid, plain_start}
use Rattle.gatelist.specs.Coding.{entries_from}
use Rattle.timetable.specs.declared.cursor.Cursor.{Cursor}
use Rattle.timetable.specs.declared.cursor.Stretch.{Stretch}
use Rattle.timetable.specs.Cursor.{Used}

-- what a walk asks of a stretch: a list, a cycle that runs at its first instant, and numbers that fit
pub record Walkable (vs : List ℕ) (s : Stretch) : Type 0 where
  pub some : 1 ≤ s.list.len
  pub few : s.list.len ≤ 128
  pub used : Used vs s.list.len
  pub begun : s.base ≤ s.from
  pub ahead : s.from < s.base + s.period
  pub before : s.from < s.edge
  pub near : s.edge ≤ 9000000001000000000
  pub short : s.period ≤ 9000000001000000000

-- a configuration with that list and period
pub record Plays (f : Config) (os vs : List ℕ) (n period : ℕ) : Type 0 where
  pub valid : Valid f
  pub list : f.list ≡ entries_from os vs 0 n
  pub cycle : f.cycle ≡ period

-- one of its cycles runs from the stretch's base at its first instant
pub record Runs (f : Config) (s : Stretch) : Type 0 where
  pub started : f.start ≤ s.from
  pub base : plain_start f s.from ≡ s.base

-- a cursor on its way to the edge
pub record Safe (n period edge : ℕ) (c : Cursor) : Type 0 where
  pub one : c.place < n
  pub before : c.from < edge
  pub after : c.from < c.stop
  pub upto : c.stop ≤ c.next
  pub near : c.next ≤ c.from + period
  pub more : c.stop < c.next → c.place + 1 < n
