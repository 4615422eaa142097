-- Each public contract leaves one outcome: what is put, one text or two (`put_unique` is in `Putting`); the answers of a scan.
-- Assumes nothing.
use mathlib.Core.Path.{◌≡◌, refl, ap, sym, ◌∙◌}
use mathlib.Core.Bool.{Bool, true, false, not, ◌&&◌, ◌||◌}
use mathlib.Core.List.{List, []}
use Prim.Native.Nat.{ℕ}
use Rattle.std.specs.Prelude.{Option}
use Rattle.text.specs.Put.{put_at, PutsBehind}
use Rattle.text.specs.declared.scan.Scan.{Scan}
use Rattle.text.specs.Scan.{left_of, whole_line, token_of, behind_token, none_left, is_blank, at_end, find_from, same_octets}
use Rattle.text.proofs.Putting.{put_unique}

or-false : (b : Bool) → b || false ≡ b
or-false true = refl
or-false false = refl

pub spaced_unique : (s t : List ℕ) (at : ℕ) (b : List ℕ) (m n : ℕ) (x y : List ℕ) → PutsBehind s t at b m x → PutsBehind s t at b n y → (m ≡ n) × (x ≡ y)
spaced_unique s t at b m n x y p q = put_unique t (put_at s at b).next (put_at s at b).buffer m n x y p q

pub new_unique : (s : List ℕ) (x y : Option (List ℕ)) → x ≡ whole_line s → y ≡ whole_line s → x ≡ y
new_unique s x y p q = p ∙ sym q

pub token_unique : (c x y : Option (List ℕ)) → x ≡ token_of c → y ≡ token_of c → x ≡ y
token_unique c x y p q = p ∙ sym q

pub left_unique : (c x y : Option (List ℕ)) → x ≡ behind_token c → y ≡ behind_token c → x ≡ y
left_unique c x y p q = p ∙ sym q

pub start_unique : (s : List ℕ) (x y : Option (List ℕ)) (a b : Bool) → x ≡ whole_line s → a ≡ false → y ≡ whole_line s → b ≡ false → (x ≡ y) × (a ≡ b)
start_unique s x y a b p q r t = (new_unique s x y p r, q ∙ sym t)

pub at_end_unique : (c : Scan) (x y : Bool) → x ≡ at_end c → y ≡ at_end c → x ≡ y
at_end_unique c x y p q = p ∙ sym q

-- a scan of a line of no octet is at its end before a token is asked for; one that was asked is at its end if no token is left
pub at_end_blank : (c : Scan) → left_of c ≡ whole_line [] → c.begun ≡ false → at_end c ≡ true
at_end_blank c p q = rw (p, q)

pub at_end_begun : (c : Scan) → c.begun ≡ true → at_end c ≡ none_left (left_of c)
at_end_begun c q = ap (λ b. none_left (left_of c) || (not b && is_blank (left_of c))) q ∙ or-false (none_left (left_of c))

pub end_unique : (c : Option (List ℕ)) (x y : Bool) → x ≡ none_left c → y ≡ none_left c → x ≡ y
end_unique c x y p q = p ∙ sym q

pub same_unique : (a b : List ℕ) (x y : Bool) → x ≡ same_octets a b → y ≡ same_octets a b → x ≡ y
same_unique a b x y p q = p ∙ sym q

pub find_unique : (s : List ℕ) (at octet m n : ℕ) → m ≡ find_from s at octet → n ≡ find_from s at octet → m ≡ n
find_unique s at octet m n p q = p ∙ sym q
