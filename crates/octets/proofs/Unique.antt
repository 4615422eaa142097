-- Each public contract leaves one outcome: two answers that it allows for the same arguments are the same answer, and so are two buffers. In order: reading;
-- writing.
-- Assumes nothing.
use mathlib.Core.Path.{◌≡◌, ap, sym, ◌∙◌}
use mathlib.Core.List.{List}
use Prim.Native.Nat.{ℕ}
use Rattle.std.specs.Prelude.{Result, Ok, Err}
use Rattle.rule.specs.declared.Refusal.{Refusal}
use Rattle.rule.proofs.Refusals.{number_same, number-some}
use Rattle.gatelist.specs.declared.GateList.{GateList}
use Rattle.octets.specs.declared.ReadError.{ReadError}
use Rattle.octets.specs.Octets.{Reading, reading_of, Reads, Writing, writing_of, Writes}

-- number and place, or the list, settle the answer
reading-same : (x y : Result GateList ReadError) → reading_of x ≡ reading_of y → x ≡ y
reading-same (Ok l) (Ok m) e = ap (λ (r : Reading). Ok r.list) e
reading-same (Ok l) (Err d) e = absurd (number-some d.refusal (sym (ap (λ (r : Reading). r.number) e)))
reading-same (Err c) (Ok m) e = absurd (number-some c.refusal (ap (λ (r : Reading). r.number) e))
reading-same (Err c) (Err d) e =
    let n : c.refusal ≡ d.refusal = number_same c.refusal d.refusal (ap (λ (r : Reading). r.number) e) in
    let k : c.place ≡ d.place = ap (λ (r : Reading). r.place) e in
    λ j. Err (record { refusal = n j; place = k j })

pub read_unique : (s : List ℕ) (n : ℕ) (x y : Result GateList ReadError) → Reads s n x → Reads s n y → x ≡ y
read_unique s n x y p q = reading-same x y (p ∙ sym q)

-- number, count and buffer settle the answer and the memory
writing-same : (a b : Result ℕ Refusal) (u v : List ℕ) → writing_of a u ≡ writing_of b v → (a ≡ b) × (u ≡ v)
writing-same (Ok m) (Ok n) u v e = (ap (λ (w : Writing). Ok w.count) e, ap (λ (w : Writing). w.buffer) e)
writing-same (Ok m) (Err r) u v e = absurd (number-some r (sym (ap (λ (w : Writing). w.number) e)))
writing-same (Err r) (Ok n) u v e = absurd (number-some r (ap (λ (w : Writing). w.number) e))
writing-same (Err r) (Err t) u v e = (ap Err (number_same r t (ap (λ (w : Writing). w.number) e)), ap (λ (w : Writing). w.buffer) e)

pub write_unique : (l : GateList) (b : List ℕ) (x y : Result ℕ Refusal) (u v : List ℕ) → Writes l b x u → Writes l b y v → (x ≡ y) × (u ≡ v)
write_unique l b x y u v p q = writing-same x y u v (p ∙ sym q)
