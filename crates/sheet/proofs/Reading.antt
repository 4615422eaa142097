-- Laws of reading a sheet: the record's numbers one after the other; a sheet without one of them.
-- Assumes nothing.
use mathlib.Core.Path.{◌≡◌, ap, ◌∙◌}
use mathlib.Core.List.{List}
use Prim.Native.Nat.{ℕ}
use Rattle.std.specs.Prelude.{Option, Some, None}
use Rattle.numbers.specs.Groups.{Number, read_number, reading_of}
use Rattle.numbers.proofs.Unique.{number-told}
use Rattle.sheet.specs.Sheet.{and_then, contents_of}

pub missing : {A : Type 0} (n : Number) (k : ℕ → ℕ → Option A) → reading_of None ≡ reading_of n → None ≡ and_then n k
missing n k e = ap (λ m. and_then m k) (number-told None n e)

pub there : {A : Type 0} (n : Number) (k : ℕ → ℕ → Option A) (v next : ℕ) (x : Option A) → reading_of (Some (v, next)) ≡ reading_of n → x ≡ k v next → x ≡ and_then n k
there n k v next x e q = q ∙ ap (λ m. and_then m k) (number-told (Some (v, next)) n e)

-- a sheet with no third number of 32 bits, which is its extension, has no record
module _ (s : List ℕ) (standing a numerator b denominator c : ℕ) where
  pub no_extension : read_number 8 s 0 ≡ Some (standing, a) → read_number 32 s a ≡ Some (numerator, b) → read_number 32 s b ≡ Some (denominator, c)
      → read_number 32 s c ≡ None → None ≡ contents_of s
  unfolding contents_of
  no_extension e1 e2 e3 h = simp (e1, e2, e3, h)
