-- Document 01, 'The list and its octets' (17.7.22): a gate octet holds eight gates. Class 7 is its most significant bit, class 0 the least;
-- 1 is open, 0 closed.
-- Assumes nothing.
use Rattle.std.specs.Prelude.{Bool, ℕ, ◌^◌, ◌/◌, ◌%◌, eqb}

unfoldable pub is_open : ℕ → ℕ → Bool
is_open octet class = eqb (octet / 2 ^ class % 2) 1
