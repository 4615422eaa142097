-- `gatelist::Entries::entry_at` meets its contract: the loop's invariant is that what the rest lacks of the offset is the sum of the intervals before entry i; the
-- measure is what is left of the list. Each way out of the loop knows the entry's number.
-- Assumes nothing.
use mathlib.Core.Path.{◌≡◌}
use mathlib.Core.List.{List}
use Prim.Native.Nat.{ℕ, ◌≤◌, ◌-◌, ◌*◌}
use Rattle.gatelist.specs.Lookup.{sum_to}
use Rattle.gatelist.proofs.Entries.entry_at.Given as goal

pub record Inv (intervals : List ℕ) (len offset rest i : ℕ) : Type 0 where
  pub within : i ≤ len - 1
  pub few : i ≤ 128
  pub left : rest ≤ offset
  pub sum : offset - rest ≡ sum_to intervals i
  pub small : offset - rest ≤ i * 4294967296

abbrev pub invariant-loop-i : goal.invariant-loop-i
invariant-loop-i l = Inv l.intervals l.len l.offset l.rest l.i

abbrev pub decreases-loop-i : goal.decreases-loop-i
decreases-loop-i l = 128 - l.i
