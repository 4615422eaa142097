-- What the contract of `list` leaves open: only whether standard output took all. Two listings of one sheet that it took whole have the same number of octets,
-- that of the sheet's text.
-- Assumes nothing.
use mathlib.Core.Path.{◌≡◌, sym, ◌∙◌}
use mathlib.Core.List.{List}
use Prim.Native.Nat.{ℕ}
use Rattle.std.specs.Prelude.{Ok}
use Rattle.lister.specs.Lines.{listing}
use Rattle.lister.specs.Pages.{Lists}

pub list_unique : (s : List ℕ) (m n : ℕ) → Lists (listing s) (Ok m) → Lists (listing s) (Ok n) → m ≡ n
list_unique s m n p q = p ∙ sym q
