-- Four octets and their number, most significant first: the octets of a number made of four, and the number of a number's four octets. Each is std's law of
-- `u32::from_be_bytes` and `to_be_bytes`.
-- Assumes nothing.
use mathlib.Core.Path.{◌≡◌, refl, ap}
use mathlib.Core.List.{[], ◌∷◌}
use Prim.Native.Nat.{ℕ, zero, suc, ◌+◌, ◌*◌, ◌/◌, ◌%◌, ◌<◌}
use native.Mathlib.Omega.{arith}
use lib.ListN.{get_or}
use Rattle.std.proofs.lemmas.Nat.{be_bytes_4, from_be_bytes-to_be_bytes_4}
use Rattle.octets.specs.Octets.{entry_octets}

-- the octets of a number made of four
pub octets-word : (o a b c d : ℕ) → a < 256 → b < 256 → c < 256 → d < 256
    → entry_octets (record { octet = o; interval = a * 16_777_216 + b * 65_536 + c * 256 + d }) ≡ 0 ∷ 5 ∷ o ∷ a ∷ b ∷ c ∷ d ∷ []
octets-word o a b c d ha hb hc hd = ap (λ l. 0 ∷ 5 ∷ o ∷ l) (be_bytes_4 (a ∷ b ∷ c ∷ d ∷ []) _ refl small (omega arith))
  where
    small : (i : ℕ) → get_or (a ∷ b ∷ c ∷ d ∷ []) i 0 < 256
    small zero = ha
    small (suc zero) = hb
    small (suc (suc zero)) = hc
    small (suc (suc (suc zero))) = hd
    small (suc (suc (suc (suc i)))) = omega arith

-- the number of the four octets of a number below 2 ^ 32
pub word-octets : (v : ℕ) → v < 4_294_967_296 → v / 16_777_216 % 256 * 16_777_216 + v / 65_536 % 256 * 65_536 + v / 256 % 256 * 256 + v % 256 ≡ v
word-octets v h = from_be_bytes-to_be_bytes_4 v h
