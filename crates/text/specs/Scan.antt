-- What a scan has left of its line: at its first token, behind a token, at the line's end; the first place with an octet; a hexadecimal digit's value; two runs of octets that are the same.
-- Assumes nothing.
use Rattle.std.specs.Prelude.{Bool, true, false, cond, not, ◌&&◌, ◌||◌, List, [], ◌∷◌, ℕ, suc, ◌+◌, ◌-◌, leb, ltb, eqb, length, take, drop, Option, Some, None, is_none, option_copied}
use Rattle.text.specs.declared.scan.Scan.{Scan}

-- how many octets stand before the first of a kind, all if there is none
unfoldable pub before : ℕ → List ℕ → ℕ
before octet [] = 0
before octet (x ∷ l) = cond (eqb x octet) 0 (suc (before octet l))

-- the first place from a place on
abbrev pub find_from : List ℕ → ℕ → ℕ → ℕ
find_from s at octet = at + before octet (drop at s)

-- what a scan has left of its line, none behind the last token
abbrev pub left_of : Scan → Option (List ℕ)
left_of c = option_copied c.rest

-- at its first token a scan has the whole line left
abbrev pub whole_line : List ℕ → Option (List ℕ)
whole_line s = Some s

-- the next token, up to a space
abbrev pub token_of : Option (List ℕ) → Option (List ℕ)
token_of None = None
token_of (Some s) = Some (take (before 32 s) s)

-- what is left behind the next token and its space
abbrev pub behind_token : Option (List ℕ) → Option (List ℕ)
behind_token None = None
behind_token (Some s) = cond (ltb (before 32 s) (length s)) (Some (drop (before 32 s + 1) s)) None

-- no token is left
abbrev pub none_left : Option (List ℕ) → Bool
none_left left = is_none left

-- the line has no octet
abbrev pub is_blank : Option (List ℕ) → Bool
is_blank None = false
is_blank (Some s) = eqb (length s) 0

-- the whole line is taken: no token is left, or there are none and none was asked for
abbrev pub at_end : Scan → Bool
at_end c = none_left (left_of c) || (not c.begun && is_blank (left_of c))

-- the value of a hexadecimal digit, `0` to `9`, `A` to `F`, `a` to `f`; 16 for any other octet
abbrev pub hex_value : ℕ → ℕ
hex_value x = cond (leb 48 x && leb x 57) (x - 48) (cond (leb 65 x && leb x 70) (x - 55) (cond (leb 97 x && leb x 102) (x - 87) 16))

unfoldable pub same_octets : List ℕ → List ℕ → Bool
same_octets [] [] = true
same_octets [] (y ∷ t) = false
same_octets (x ∷ s) [] = false
same_octets (x ∷ s) (y ∷ t) = eqb x y && same_octets s t
