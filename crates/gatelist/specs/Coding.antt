-- Document 01, 'The list and its octets' (17.7.22): a list record always has 128 places, of which the first `len` are used; the list that it stands
-- for, and the record that a list has: unused places are zero. A place that the arrays do not have reads as 0.
-- Assumes nothing.
use Rattle.std.specs.Prelude.{List, [], ◌∷◌, ◌++◌, map, ℕ, zero, suc, ◌-◌, length, get_or, replicate}
use Rattle.rule.specs.Limits.{largest_list}
use Rattle.rule.specs.Entries.{Entry}
use Rattle.gatelist.specs.declared.GateList.{GateList}
use Rattle.gatelist.specs.declared.Entries.{Entries}

-- f i, f (i + 1) and so on, n of them
unfoldable pub list_from : {A : Type 0} → (ℕ → A) → ℕ → ℕ → List A
list_from f i zero = []
list_from f i (suc n) = f i ∷ list_from f (suc i) n

-- the entry at a place of the two arrays
abbrev pub entry_of : List ℕ → List ℕ → ℕ → Entry
entry_of os is k = record { octet = get_or os k 0; interval = get_or is k 0 }

abbrev pub entries_from : List ℕ → List ℕ → ℕ → ℕ → List Entry
entries_from os is i n = list_from (entry_of os is) i n

-- the list that a record stands for
abbrev pub list_of : GateList → List Entry
list_of l = entries_from l.octets l.intervals 0 l.len

-- the list record of entries that are lent
abbrev pub lent : Entries → GateList
lent e = record { octets = e.octets.now; intervals = e.intervals.now; len = e.len }

-- 128 places, the unused ones zero
unfoldable pub padded : List ℕ → List ℕ
padded l = l ++ replicate (largest_list - length l) 0

unfoldable pub encode_list : List Entry → GateList
encode_list l = record { octets = padded (map (λ e. e.octet) l); intervals = padded (map (λ e. e.interval) l); len = length l }

-- all zeros
unfoldable pub empty_list : GateList
empty_list = record { octets = replicate largest_list 0; intervals = replicate largest_list 0; len = 0 }
