-- A number as its shortest decimal digits in ASCII.
-- Assumes nothing.
use Rattle.std.specs.Prelude.{cond, List, [], ◌∷◌, ◌++◌, ℕ, zero, suc, ◌+◌, ◌/◌, ◌%◌, ltb}

-- as far as k digits
unfoldable pub digits_up_to : ℕ → ℕ → List ℕ
digits_up_to zero n = []
digits_up_to (suc k) n = cond (ltb n 10) ((48 + n) ∷ []) (digits_up_to k (n / 10) ++ ((48 + n % 10) ∷ []))

-- a number has fewer digits than n + 2
unfoldable pub decimal_of : ℕ → List ℕ
decimal_of n = digits_up_to (suc n) n
