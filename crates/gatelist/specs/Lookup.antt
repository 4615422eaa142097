-- Document 01, 'What the gates show' (8.6.9.2), over a list record's intervals: the number of the entry whose stretch contains an offset, where that
-- stretch starts and where it ends. The octets have no part in it.
-- Assumes nothing.
use Rattle.std.specs.Prelude.{List, [], ℕ, zero, suc, ◌+◌, get_or}
use Rattle.rule.specs.Entries.{entry_no}
use Rattle.gatelist.specs.declared.Place.{Place}
use Rattle.gatelist.specs.Coding.{entries_from}

-- the sum of the intervals before entry i
unfoldable pub sum_to : List ℕ → ℕ → ℕ
sum_to is zero = 0
sum_to is (suc i) = sum_to is i + get_or is i 0

-- entry i, with its stretch
abbrev pub place_of : List ℕ → ℕ → Place
place_of is i = record { number = i; start = sum_to is i; end = sum_to is i + get_or is i 0 }

-- of a list of n intervals, the entry at an offset
unfoldable pub place_at : List ℕ → ℕ → ℕ → Place
place_at is n offset = place_of is (entry_no (entries_from [] is 0 n) offset)
