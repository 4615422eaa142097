-- Document 01, 'The sheet and the listing program': a number in groups of seven bits, lowest group first, top bit set on all octets but the last,
-- shortest form only, below 2 to its width: its octets, and what any octets hold at a place. A number cut short, overlong or out of its width is 15.
-- Assumes nothing.
use Rattle.std.specs.Prelude.{cond, List, [], ◌∷◌, ℕ, zero, suc, ◌+◌, ◌-◌, ◌*◌, ◌/◌, ◌%◌, ◌^◌, ltb, leb, eqb, drop, Option, Some, None, option_map}
use Rattle.rule.specs.declared.Refusal.TheVariants.{MalformedSheet}
use Rattle.rule.specs.Refusals.{number_of}

-- a number and the place after it, if there is one
abbrev pub Number : Type 0
Number = Option (ℕ × ℕ)

-- the octets of a number, as far as k of them

unfoldable pub groups_of : ℕ → ℕ → List ℕ
groups_of zero n = []
groups_of (suc k) n = cond (ltb n 128) (n ∷ []) ((128 + n % 128) ∷ groups_of k (n / 128))

-- a number has fewer groups than n + 1
unfoldable pub octets_of : ℕ → List ℕ
octets_of n = groups_of (suc n) n

-- an octet with its top bit set, before a number: of a shortest form, that number is not 0
unfoldable pub joined : ℕ → Number → Number
joined b None = None
joined b (Some g) = cond (eqb g.0 0) None (Some (128 * g.0 + (b - 128), g.1))

-- the number at the front of octets, of which the first has this place
unfoldable pub groups_at : List ℕ → ℕ → Number
groups_at [] at = None
groups_at (b ∷ s) at = cond (ltb b 128) (Some (b, at + 1)) (joined b (groups_at s (at + 1)))

-- no number above the largest
unfoldable pub up_to : ℕ → Number → Number
up_to largest None = None
up_to largest (Some g) = cond (leb g.0 largest) (Some g) None

abbrev pub read_up_to : ℕ → List ℕ → ℕ → Number
read_up_to largest s at = up_to largest (groups_at (drop at s) at)

-- the number of so many bits at a place
abbrev pub read_number : ℕ → List ℕ → ℕ → Number
read_number width s at = read_up_to (2 ^ width - 1) s at

-- what is read: document 01's number (0: a number is read), its value, and the place after it; zeros where there is none
pub record Reading : Type 0 where
  pub number : ℕ
  pub value : ℕ
  pub next : ℕ

-- the number and the values of an answer
abbrev pub reading_of : Number → Reading
reading_of (Some g) = record { number = 0; value = g.0; next = g.1 }
reading_of None = record { number = number_of MalformedSheet; value = 0; next = 0 }

-- an answer of any width, whose value stands for a number
abbrev pub stands_for : {A : Type 0} → (A → ℕ) → Option (A × ℕ) → Number
stands_for value r = option_map (λ g. (value g.0, g.1)) r
