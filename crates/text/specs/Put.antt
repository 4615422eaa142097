-- What putting text into a buffer gives and leaves there; an octet as two hexadecimal digits.
-- Assumes nothing.
use Rattle.std.specs.Prelude.{◌≡◌, cond, List, [], ◌∷◌, ℕ, ◌+◌, ◌/◌, ◌%◌, leb, ltb, length}
use Rattle.std.proofs.Math.Seq.{paste}

-- the next place, and the buffer as it is left
pub record Put : Type 0 where
  pub next : ℕ
  pub buffer : List ℕ

-- the text stands at the place, if it fits; else all stays
unfoldable pub put_at : List ℕ → ℕ → List ℕ → Put
put_at s at b = cond (leb (at + length s) (length b)) (record { next = at + length s; buffer = paste b at s (length s) }) (record { next = at; buffer = b })

abbrev pub Puts : List ℕ → ℕ → List ℕ → ℕ → List ℕ → Type 0
Puts s at b next buffer = ◌≡◌ {A = Put} (record { next = next; buffer = buffer }) (put_at s at b)

-- one text, then another behind it, each if it fits
abbrev pub PutsBehind : List ℕ → List ℕ → ℕ → List ℕ → ℕ → List ℕ → Type 0
PutsBehind s t at b next buffer = Puts t (put_at s at b).next (put_at s at b).buffer next buffer

-- the ASCII code of a digit below 16: `0` to `9`, then `A` to `F`
abbrev pub glyph_of : ℕ → ℕ
glyph_of d = cond (ltb d 10) (48 + d) (55 + d)

abbrev pub hex_of : ℕ → List ℕ
hex_of octet = glyph_of (octet / 16) ∷ glyph_of (octet % 16) ∷ []
