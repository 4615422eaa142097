-- Document 01, 'Step': the changes in two lent buffers, instant and octet, from place 0 on; what stands behind them stays.
-- Assumes nothing.
use Rattle.std.specs.Prelude.{ℕ, List, ◌++◌, map, length, drop}

-- the values from place 0 on, and what stood behind them
unfoldable pub into : List ℕ → List ℕ → List ℕ
into vs buf = vs ++ drop (length vs) buf

abbrev pub instants_of : List (ℕ × ℕ) → List ℕ
instants_of l = map (λ (x : ℕ × ℕ). x.0) l

abbrev pub octets_of : List (ℕ × ℕ) → List ℕ
octets_of l = map (λ (x : ℕ × ℕ). x.1) l
