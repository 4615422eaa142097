-- The public contract leaves one outcome: two answers that it allows for one sheet are the same answer.
-- Assumes nothing.
use mathlib.Core.Path.{◌≡◌, ap, sym, ◌∙◌}
use mathlib.Core.List.{List}
use mathlib.Core.Option.{some}
use Prim.Native.Nat.{ℕ, ◌<◌}
use lib.ListN.{length}
use borrow.Author.Tests.{lt-ltb}
use Rattle.std.specs.Prelude.{Result, Ok, Err}
use Rattle.rule.specs.declared.Refusal.{Refusal}
use Rattle.rule.proofs.Refusals.{number_same, number-some}
use Rattle.sheet.specs.declared.Sheet.{Sheet}
use Rattle.sheet.specs.Sheet.{read_sheet, Reading, reading_of}

-- number and contents settle the answer
pub sheet_told : (x y : Result Sheet Refusal) → reading_of x ≡ reading_of y → x ≡ y
sheet_told (Ok h) (Ok k) e = let z : h ≡ k = some_same h k (ap (λ (r : Reading). r.contents) e) in ap Ok z
  where
    some_same : (h k : Sheet) → some h ≡ some k → h ≡ k
    some_same h k q = cc
sheet_told (Ok h) (Err r) e = absurd (number-some r (sym (ap (λ (r : Reading). r.number) e)))
sheet_told (Err r) (Ok k) e = absurd (number-some r (ap (λ (r : Reading). r.number) e))
sheet_told (Err r) (Err t) e = ap Err (number_same r t (ap (λ (r : Reading). r.number) e))

pub read_unique : (s : List ℕ) (x y : Result Sheet Refusal) → reading_of x ≡ reading_of (read_sheet s) → reading_of y ≡ reading_of (read_sheet s) → x ≡ y
read_unique s x y p q = sheet_told x y (p ∙ sym q)

-- a sheet of more than 1,024 octets has the number 15, whatever is in it
pub long-number : (s : List ℕ) → 1024 < length s → (reading_of (read_sheet s)).number ≡ 15
unfolding read_sheet
long-number s h = simp (lt-ltb _ _ h)
