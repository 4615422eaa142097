-- A class above 7 has no gate in an octet: it counts as closed.
-- Assumes nothing.
use mathlib.Core.Path.{◌≡◌}
use mathlib.Core.Bool.{false}
use Prim.Native.Nat.{ℕ, ◌^◌, ◌/◌, ◌≤◌, ◌<◌}
use native.Mathlib.Nat.{div-eq_of_lt, pow-le-pow_right}
use native.Mathlib.Omega.{arith}
use Rattle.rule.specs.Gates.{is_open}

pub closed_above : (octet class : ℕ) → octet < 256 → 7 < class → false ≡ is_open octet class
unfolding is_open
closed_above octet class a h =
    let b : 2 ^ 8 ≤ 2 ^ class = pow-le-pow_right (omega arith) h in
    let z : octet / 2 ^ class ≡ 0 = div-eq_of_lt (omega arith) in
    rw z
