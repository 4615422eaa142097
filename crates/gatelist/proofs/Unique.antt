-- Each public contract leaves one outcome: two answers that it allows for the same arguments are the same answer.
-- Assumes nothing.
use mathlib.Core.Path.{◌≡◌, sym, ◌∙◌}
use mathlib.Core.Bool.{Bool}
use mathlib.Core.List.{List}
use Prim.Native.Nat.{ℕ}
use Rattle.gatelist.specs.declared.GateList.{GateList}
use Rattle.gatelist.specs.declared.Place.{Place}
use Rattle.gatelist.specs.declared.Entries.{Entries}
use Rattle.gatelist.specs.Coding.{lent}
use Rattle.gatelist.specs.Places.{Checked}
use Rattle.gatelist.specs.Promises.{Widens, FindsZero, Empty, CopiesUsed, Puts, ShowsGate, FindsPlace, FindsOctet}

pub empty_unique : (x y : GateList) → Empty x → Empty y → x ≡ y
empty_unique x y p q = p ∙ sym q

pub copied_unique : (xs : List ℕ) (n : ℕ) (x y : List ℕ) → CopiesUsed xs n x → CopiesUsed xs n y → x ≡ y
copied_unique xs n x y p q = p ∙ sym q

pub puts_unique : {A : Type 0} (is_default : A → Type 0) (none : A) → ((x : A) → is_default x → x ≡ none) → (xs : List A) (n : ℕ) (x y : List A)
    → Puts is_default xs n x → Puts is_default xs n y → x ≡ y
puts_unique is_default none d xs n x y p q = p none d ∙ sym (q none d)

pub entries_unique : (l : GateList) (x y : Entries) → lent x ≡ l → lent y ≡ l → lent x ≡ lent y
entries_unique l x y p q = p ∙ sym q

pub formed_unique : (l : GateList) (there x y : Bool) → Checked l there x → Checked l there y → x ≡ y
formed_unique l there x y p q = p.found ∙ sym q.found

pub has_zero_unique : (is : List ℕ) (n : ℕ) (x y : Bool) → FindsZero is n x → FindsZero is n y → x ≡ y
has_zero_unique is n x y p q = p ∙ sym q

pub entry_at_unique : (is : List ℕ) (n offset : ℕ) (x y : Place) → FindsPlace is n offset x → FindsPlace is n offset y → x ≡ y
entry_at_unique is n offset x y p q = p ∙ sym q

pub octet_at_unique : (os is : List ℕ) (n offset x y : ℕ) → FindsOctet os is n offset x → FindsOctet os is n offset y → x ≡ y
octet_at_unique os is n offset x y p q = p ∙ sym q

pub gate_unique : (octet class : ℕ) (x y : Bool) → ShowsGate octet class x → ShowsGate octet class y → x ≡ y
gate_unique octet class x y p q = p ∙ sym q

pub wide_unique : (x r s : ℕ) → Widens x r → Widens x s → r ≡ s
wide_unique x r s p q = p.0 ∙ sym q.0
