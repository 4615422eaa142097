-- Document 01, 'The list and its octets' and, in 'What the gates show', the lookup (8.6.9.2): entry 1 covers offset 0 up to its interval, and so on;
-- the lookup stops at the first entry whose end lies past the offset and yields its number; beyond all entries the last one holds.
-- Assumes nothing.
use Rattle.std.specs.Prelude.{cond, List, [], ◌∷◌, map, ℕ, suc, ◌-◌, ltb, get_or}

pub record Entry : Type 0 where
  pub octet : ℕ
  pub interval : ℕ

-- the entry's number, counted from 0
unfoldable pub entry_no : List Entry → ℕ → ℕ
entry_no [] offset = 0
entry_no (x ∷ []) offset = 0
entry_no (x ∷ y ∷ l) offset = cond (ltb offset x.interval) 0 (suc (entry_no (y ∷ l) (offset - x.interval)))

unfoldable pub octet_at : List Entry → ℕ → ℕ
octet_at l offset = get_or (map (λ (x : Entry). x.octet) l) (entry_no l offset) 0
