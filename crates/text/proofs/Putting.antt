-- Laws of putting text into a buffer: where it does not fit; the copy one octet after the other; the whole; that the contract leaves one outcome; what is
-- put where it fits; and that one text put behind another is both put (`put-append`).
-- Assumes nothing.
use mathlib.Core.Path.{◌≡◌, refl, ap, sym, ◌∙◌}
use mathlib.Core.List.{List, ◌++◌}
use Prim.Native.Nat.{ℕ, ◌+◌, ◌≤◌, ◌<◌}
use native.Mathlib.Omega.{arith}
use borrow.Author.Tests.{le-leb, lt-leb}
use borrow.Rule.Slice.PartMut.{put_mid}
use lib.ListN.{length, length-append}
use lib.Seq.{paste, length-paste}
use Rattle.std.proofs.lemmas.Slice.{put_mid-paste}
use Rattle.std.proofs.lemmas.List.Edits.{paste-paste}
use Rattle.text.specs.Put.{Put, put_at, Puts}

module _ (s : List ℕ) (at : ℕ) (b : List ℕ) where
  pub put_none : length b < at + length s → Puts s at b at b
  unfolding put_at
  put_none h = simp (lt-leb _ _ h)

  pub put_fits : at + length s ≤ length b → (k : ℕ) (x : List ℕ) → x ≡ s → k ≡ length s → Puts s at b (at + length s) (put_mid at k b x)
  unfolding put_at
  put_fits h k x e l =
      (λ j. record { next = at + length s; buffer = put_mid-paste at k b x s (length s) e (sym l) refl j }) ∙ simp (le-leb _ _ h)

  pub put_unique : (m n : ℕ) (x y : List ℕ) → Puts s at b m x → Puts s at b n y → (m ≡ n) × (x ≡ y)
  put_unique m n x y p q = (ap (λ (z : Put). z.next) (p ∙ sym q), ap (λ (z : Put). z.buffer) (p ∙ sym q))

  -- where it fits
  put_fitting : at + length s ≤ length b → put_at s at b ≡ record { next = at + length s; buffer = paste b at s (length s) }
  unfolding put_at
  put_fitting h = simp (le-leb _ _ h)

  pub record Stands (n : ℕ) (x : List ℕ) : Type 0 where
    pub next : n ≡ at + length s
    pub buffer : x ≡ paste b at s (length s)
    pub long : length x ≡ length b

  pub put-stands : at + length s ≤ length b → (n : ℕ) (x : List ℕ) → Puts s at b n x → Stands n x
  put-stands h n x p =
      let z = p ∙ put_fitting h in
      let e : x ≡ paste b at s (length s) = ap (λ (y : Put). y.buffer) z in
      record { next = ap (λ (y : Put). y.next) z; buffer = e; long = ap length e ∙ length-paste b at s (length s) h (omega arith) }

  pub stands-put : at + length s ≤ length b → (n : ℕ) (x : List ℕ) → Stands n x → Puts s at b n x
  stands-put h n x z = (λ j. record { next = z.next j; buffer = z.buffer j }) ∙ sym (put_fitting h)

-- one text behind another

pub put-append : (s t : List ℕ) (at : ℕ) (b : List ℕ) → at + length s + length t ≤ length b → (n : ℕ) (x : List ℕ) → Puts s at b n x
    → (m : ℕ) (y : List ℕ) → Puts t n x m y → Puts (s ++ t) at b m y
put-append s t at b h n x p m y q =
    let z = put-stands s at b (omega arith) n x p in
    let w = put-stands t n x (omega (arith, z.next, z.long)) m y q in
    let k : length (s ++ t) ≡ length s + length t = length-append s t in
    stands-put (s ++ t) at b (omega (arith, k)) m y (record {
      next = omega (arith, w.next, z.next, k);
      buffer =
          w.buffer ∙ (λ j. paste (z.buffer j) (z.next j) t (length t)) ∙ paste-paste b at s t (length s) (length t) refl refl (omega arith)
          ∙ ap (paste b at (s ++ t)) (sym k);
      long = w.long ∙ z.long;
    })
