-- Each public contract leaves one outcome: two answers that it allows for one input are the same answer, and so are two buffers. In order: reading, at any
-- width; writing.
-- Assumes nothing.
use mathlib.Core.Path.{◌≡◌, refl, ap, sym, ◌∙◌}
use mathlib.Core.List.{List}
use Prim.Native.Nat.{ℕ}
use native.Mathlib.Omega.{arith}
use Rattle.std.specs.Prelude.{Option, Some, None, Result, Ok, Err}
use Rattle.rule.specs.declared.Refusal.{Refusal}
use Rattle.rule.proofs.Refusals.{number_same, number-some}
use Rattle.numbers.proofs.Reading.{some_same}
use Rattle.numbers.specs.Groups.{Number, read_number, Reading, reading_of, stands_for}
use Rattle.numbers.specs.Writing.{Writing, writing_of, write_number}

-- reading: number, value and place settle the answer
pub number-told : (x y : Number) → reading_of x ≡ reading_of y → x ≡ y
number-told (Some g) (Some h) e = ap (λ (r : Reading). Some (r.value, r.next)) e
number-told (Some g) None e = let z : ◌≡◌ {A = ℕ} 0 15 = ap (λ (r : Reading). r.number) e in absurd (omega arith)
number-told None (Some h) e = let z : ◌≡◌ {A = ℕ} 15 0 = ap (λ (r : Reading). r.number) e in absurd (omega arith)
number-told None None e = refl

pub read_unique : (width : ℕ) (s : List ℕ) (at : ℕ) (x y : Number) → reading_of x ≡ reading_of (read_number width s at)
    → reading_of y ≡ reading_of (read_number width s at) → x ≡ y
read_unique width s at x y p q = number-told x y (p ∙ sym q)

-- the same of an answer of any width: its value is settled by its number
pub read_unique_as : {A : Type 0} (value : A → ℕ) → ((a b : A) → value a ≡ value b → a ≡ b) → (width : ℕ) (s : List ℕ) (at : ℕ) (x y : Option (A × ℕ))
    → reading_of (stands_for value x) ≡ reading_of (read_number width s at) → reading_of (stands_for value y) ≡ reading_of (read_number width s at) → x ≡ y
read_unique_as value told width s at x y p q = go x y (read_unique width s at (stands_for value x) (stands_for value y) p q)
  where
    go : (x y : Option (_ × ℕ)) → stands_for value x ≡ stands_for value y → x ≡ y
    go (Some g) (Some h) e = let z = some_same _ _ e in λ i. Some (told g.0 h.0 z.0 i, z.1 i)
    go (Some g) None e = let z : ◌≡◌ {A = ℕ} 0 1 = cc in absurd (omega arith)
    go None (Some h) e = let z : ◌≡◌ {A = ℕ} 0 1 = cc in absurd (omega arith)
    go None None e = refl

-- writing: number, count and buffer settle the answer and the memory

writing-same : (a b : Result ℕ Refusal) (u v : List ℕ) → writing_of a u ≡ writing_of b v → (a ≡ b) × (u ≡ v)
writing-same (Ok m) (Ok n) u v e = (ap (λ (w : Writing). Ok w.count) e, ap (λ (w : Writing). w.buffer) e)
writing-same (Ok m) (Err r) u v e = absurd (number-some r (sym (ap (λ (w : Writing). w.number) e)))
writing-same (Err r) (Ok n) u v e = absurd (number-some r (ap (λ (w : Writing). w.number) e))
writing-same (Err r) (Err t) u v e = (ap Err (number_same r t (ap (λ (w : Writing). w.number) e)), ap (λ (w : Writing). w.buffer) e)

pub write_unique : (n : ℕ) (b : List ℕ) (x y : Result ℕ Refusal) (u v : List ℕ) → writing_of x u ≡ write_number n b → writing_of y v ≡ write_number n b
    → (x ≡ y) × (u ≡ v)
write_unique n b x y u v p q = writing-same x y u v (p ∙ sym q)
