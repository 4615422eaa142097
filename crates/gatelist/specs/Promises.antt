-- What each public function promises of its answer r, for any arguments: one predicate for each, which its contract and its uniqueness theorem name. That
-- of `Entries::formed` is `Checked`, in `Places`.
-- Assumes nothing.
use Rattle.std.specs.Prelude.{◌≡◌, Bool, List, [], ℕ, ◌<◌, ◌-◌, ◌++◌, take, length, replicate}
use Rattle.rule.specs.Limits.{largest_list}
use Rattle.rule.specs.Gates.{is_open}
use Rattle.rule.specs.Entries.{octet_at}
use Rattle.rule.specs.Orders.{has_zero_interval}
use Rattle.gatelist.specs.declared.GateList.{GateList}
use Rattle.gatelist.specs.declared.Place.{Place}
use Rattle.gatelist.specs.Coding.{entries_from, empty_list, padded}
use Rattle.gatelist.specs.Lookup.{place_at}

-- `GateList::empty`
abbrev pub Empty : GateList → Type 0
Empty r = r ≡ empty_list

-- `put` of octets and of intervals: of an array the first n places, the others zero
abbrev pub CopiesUsed : List ℕ → ℕ → List ℕ → Type 0
CopiesUsed xs n r = r ≡ padded (take n xs)

-- `put`, of any type whose default is one value: that value is the zero. Of numbers it is `CopiesUsed` (`puts_copies`)
abbrev pub Puts : {A : Type 0} → (A → Type 0) → List A → ℕ → List A → Type 0
Puts {A} is_default xs n r = (none : A) → ((x : A) → is_default x → x ≡ none) → r ≡ take n xs ++ replicate (largest_list - length (take n xs)) none

-- `has_zero`, over the intervals of n entries; the octets have no part in it
abbrev pub FindsZero : List ℕ → ℕ → Bool → Type 0
FindsZero is n r = r ≡ has_zero_interval (entries_from [] is 0 n)

-- `entry_at`, over the intervals of n entries
abbrev pub FindsPlace : List ℕ → ℕ → ℕ → Place → Type 0
FindsPlace is n offset r = r ≡ place_at is n offset

-- `octet_at`, over the octets and the intervals of n entries
abbrev pub FindsOctet : List ℕ → List ℕ → ℕ → ℕ → ℕ → Type 0
FindsOctet os is n offset r = r ≡ octet_at (entries_from os is 0 n) offset

-- `gate`
abbrev pub ShowsGate : ℕ → ℕ → Bool → Type 0
ShowsGate octet class r = r ≡ is_open octet class

-- `wide`: the same number, which the type of x bounds
abbrev pub Widens : ℕ → ℕ → Type 0
Widens x r = (r ≡ x) × (r < 4_294_967_296)
