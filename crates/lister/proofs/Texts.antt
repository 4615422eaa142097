-- Laws of the listing's text: how long a line is; lines put into a page piece by piece; the lines of a step's two columns; lines joined.
-- Assumes nothing.
use mathlib.Core.Path.{◌≡◌, refl, ap, sym, subst, ◌∙◌}
use mathlib.Core.List.{List, [], ◌∷◌, ◌++◌, map, append_assoc, append-nil}
use Prim.Native.Nat.{ℕ, ◌+◌, ◌*◌, ◌≤◌, ◌<◌, min}
use native.Mathlib.Nat.{zero-add}
use native.Mathlib.Numerals.{add-one}
use native.Mathlib.Omega.{arith}
use lib.ListN.{length, get_or, take, drop, length-append, length-map}
use Rattle.std.specs.List.{zip}
use Rattle.std.proofs.lemmas.Slice.Zip.{length-zip, get_or-zip}
use lib.Seq.{take-length, take-suc, paste-zero}
use Rattle.std.proofs.Math.Seq.{take-append_seam}
use Rattle.rule.specs.declared.Refusal.{Refusal}
use Rattle.rule.specs.Refusals.{number_of}
use Rattle.course.specs.Columns.{into, instants_of, octets_of}
use Rattle.text.specs.Decimal.{decimal_of}
use Rattle.text.specs.Put.{hex_of, Puts}
use Rattle.text.proofs.Putting.{put-stands, stands-put, put-append}
use Rattle.text.proofs.Decimals.{decimal-short}
use Rattle.lister.specs.Lines.{line_end, space, refused_word, start_word, end_word, errors_word, moment_text, change_line, change_lines, refused_line, start_line, end_line}
use Rattle.lister.specs.Pages.{Fills}

-- lengths

number_short : (n : ℕ) → n < 18_446_744_073_709_551_616 → length (decimal_of n) ≤ 20
number_short n h = decimal-short 19 n (omega arith)

module _ (t octet : ℕ) (h : t < 18_446_744_073_709_551_616) where
  moment-length : length (moment_text t octet) ≡ length (decimal_of t) + 3
  unfolding moment_text
  moment-length =
      length-append (decimal_of t ++ space) (hex_of octet) ∙ ap (λ n. n + 2) (length-append (decimal_of t) space) ∙ omega arith

  pub moment-short : length (moment_text t octet) ≤ 23
  moment-short = omega (arith, moment-length, number_short t h)

  pub line_short : length (change_line t octet) ≤ 24
  unfolding change_line
  line_short = omega (arith, length-append (moment_text t octet) line_end, moment-short)

-- one piece behind another, where the page has room

module _ (at : ℕ) (b : List ℕ) (t octet : ℕ) (h : t < 18_446_744_073_709_551_616) where
  pub moment-put : at + 23 ≤ length b → (n : ℕ) (x : List ℕ) → Puts (decimal_of t) at b n x → (m : ℕ) (y : List ℕ) → Puts space n x m y
      → (k : ℕ) (z : List ℕ) → Puts (hex_of octet) m y k z → Puts (moment_text t octet) at b k z
  unfolding moment_text
  moment-put room n x p m y q k z r =
      let s = number_short t h in
      let l : length (decimal_of t ++ space) ≡ length (decimal_of t) + 1 = length-append (decimal_of t) space in
      put-append (decimal_of t ++ space) (hex_of octet) at b (omega (arith, s, l)) m y
      (put-append (decimal_of t) space at b (omega (arith, s)) n x p m y q) k z r

  pub line-put : at + 24 ≤ length b → (n : ℕ) (x : List ℕ) → Puts (moment_text t octet) at b n x → (m : ℕ) (y : List ℕ) → Puts line_end n x m y
      → Puts (change_line t octet) at b m y
  unfolding change_line
  line-put room n x p m y q = put-append (moment_text t octet) line_end at b (omega (arith, moment-short t octet h)) n x p m y q

-- a text put at a page's first place fills it

put_fills : (s b : List ℕ) → length b ≡ 24_576 → length s ≤ 24_576 → (n : ℕ) (x : List ℕ) → Puts s 0 b n x → Fills s b x n
unfolding into
put_fills s b long h n x p =
    let z = put-stands s 0 b (omega arith) n x p in
    record {
      count = z.next ∙ zero-add (length s);
      begins = z.buffer ∙ (λ i. take-length s i ++ drop (zero-add (length s) i) b);
      long = z.long ∙ long;
    }

module _ (b : List ℕ) (long : length b ≡ 24_576) where
  -- behind a word there is room for a line
  pub word_room : (s : List ℕ) → length s ≤ 8 → (n : ℕ) (x : List ℕ) → Puts s 0 b n x → (k : ℕ) → k ≤ 24 → n + k ≤ length x
  word_room s h n x p k l = let z = put-stands s 0 b (omega (arith, long)) n x p in omega (arith, z.next, z.long, long)

  pub refused_fills : (r : Refusal) (v : ℕ) → v ≡ number_of r → v < 256 → (n : ℕ) (x : List ℕ) → Puts refused_word 0 b n x → (m : ℕ) (y : List ℕ)
      → Puts (decimal_of v) n x m y → (k : ℕ) (z : List ℕ) → Puts line_end m y k z → Fills (refused_line r) b z k
  unfolding refused_line
  refused_fills r v e h n x p m y q k z w =
      let d : List ℕ = decimal_of v in
      let s : length d ≤ 20 = number_short v (omega arith) in
      let l : length (refused_word ++ d) ≡ 8 + length d = length-append refused_word d in
      let j : length ((refused_word ++ d) ++ line_end) ≡ 9 + length d = length-append (refused_word ++ d) line_end ∙ omega (arith, l) in
      subst (λ u. Fills ((refused_word ++ decimal_of u) ++ line_end) b z k) e
      (put_fills ((refused_word ++ d) ++ line_end) b long (omega (arith, s, j)) k z
      (put-append (refused_word ++ d) line_end 0 b (omega (arith, s, l)) m y
      (put-append refused_word d 0 b (omega (arith, s)) n x p m y q) k z w))

  module _ (t octet : ℕ) (h : t < 18_446_744_073_709_551_616) where
    pub start_fills : (n : ℕ) (x : List ℕ) → Puts start_word 0 b n x → (m : ℕ) (y : List ℕ) → Puts (change_line t octet) n x m y
        → Fills (start_line t octet) b y m
    unfolding start_line
    start_fills n x p m y q =
        let s = line_short t octet h in
        put_fills (start_word ++ change_line t octet) b long (omega (arith, s, length-append start_word (change_line t octet))) m y
        (put-append start_word (change_line t octet) 0 b (omega (arith, s)) n x p m y q)

    pub end_fills : (errors : ℕ) → errors < 18_446_744_073_709_551_616 → (n : ℕ) (x : List ℕ) → Puts end_word 0 b n x
        → (m : ℕ) (y : List ℕ) → Puts (moment_text t octet) n x m y → (k : ℕ) (z : List ℕ) → Puts errors_word m y k z
        → (i : ℕ) (u : List ℕ) → Puts (decimal_of errors) k z i u → (j : ℕ) (v : List ℕ) → Puts line_end i u j v → Fills (end_line t octet errors) b v j
    unfolding end_line
    end_fills errors g n x p m y q k z r i u w j v f =
        let a : List ℕ = moment_text t octet in
        let d : List ℕ = decimal_of errors in
        let s : length a ≤ 23 = moment-short t octet h in
        let c : length d ≤ 20 = number_short errors g in
        let l₁ : length (end_word ++ a) ≡ 4 + length a = length-append end_word a in
        let l₂ : length ((end_word ++ a) ++ errors_word) ≡ 12 + length a = length-append (end_word ++ a) errors_word ∙ omega (arith, l₁) in
        let l₃ : length (((end_word ++ a) ++ errors_word) ++ d) ≡ 12 + length a + length d =
        length-append ((end_word ++ a) ++ errors_word) d ∙ omega (arith, l₂) in
        let l₄ : length ((((end_word ++ a) ++ errors_word) ++ d) ++ line_end) ≡ 13 + length a + length d =
        length-append (((end_word ++ a) ++ errors_word) ++ d) line_end ∙ omega (arith, l₃) in
        put_fills ((((end_word ++ a) ++ errors_word) ++ d) ++ line_end) b long (omega (arith, s, c, l₄)) j v
        (put-append (((end_word ++ a) ++ errors_word) ++ d) line_end 0 b (omega (arith, s, c, l₃)) i u
        (put-append ((end_word ++ a) ++ errors_word) d 0 b (omega (arith, s, c, l₂)) k z
        (put-append (end_word ++ a) errors_word 0 b (omega (arith, s, l₁)) m y
        (put-append end_word a 0 b (omega (arith, s)) n x p m y q) k z r) i u w) j v f)

-- a text by another name
pub fills_as : (s t b x : List ℕ) (n : ℕ) → s ≡ t → Fills s b x n → Fills t b x n
fills_as s t b x n e f = subst (λ y. Fills y b x n) e f

-- lines joined

pub lines-append : (l r : List (ℕ × ℕ)) → change_lines (l ++ r) ≡ change_lines l ++ change_lines r
unfolding change_lines
lines-append [] r = refl
lines-append (x ∷ l) r = ap (λ q. change_line x.0 x.1 ++ q) (lines-append l r) ∙ sym (append_assoc (change_line x.0 x.1) (change_lines l) (change_lines r))

lines-more : (l : List (ℕ × ℕ)) (i : ℕ) → i < length l
    → change_lines (take (i + 1) l) ≡ change_lines (take i l) ++ change_line (get_or l i (0, 0)).0 (get_or l i (0, 0)).1
unfolding change_lines
lines-more l i h =
    let x : ℕ × ℕ = get_or l i (0, 0) in
    ap (λ k. change_lines (take k l)) (add-one i) ∙ ap change_lines (take-suc l i (0, 0) h) ∙ lines-append (take i l) (x ∷ [])
    ∙ ap (λ q. change_lines (take i l) ++ q) (append-nil (change_line x.0 x.1))

-- the lines of the first i changes of two columns stand at the front of the page
pub record Lining (instants octets b : List ℕ) (page : List ℕ) (at i : ℕ) : Type 0 where
  pub put : Puts (change_lines (take i (zip instants octets))) 0 b at page
  pub next : at ≡ length (change_lines (take i (zip instants octets)))
  pub short : at ≤ 24 * i
  pub long : length page ≡ 24_576
  pub whole : length b ≡ 24_576

module _ {instants octets b : List ℕ} where
  pub lining_start : length b ≡ 24_576 → Lining instants octets b b 0 0
  unfolding change_lines
  lining_start long =
      record { put = stands-put [] 0 b (omega arith) 0 b (record { next = refl; buffer = paste-zero b 0 []; long = refl }); next = refl; short = omega arith; long = long; whole = long }

  pub lining_more : {page : List ℕ} {at i : ℕ} → Lining instants octets b page at i → i < length instants → i < length octets → i < 1024
      → {t octet : ℕ} → ((d : ℕ) → t ≡ get_or instants i d) → ((d : ℕ) → octet ≡ get_or octets i d) → length (change_line t octet) ≤ 24
      → {n : ℕ} {x : List ℕ} → Puts (change_line t octet) at page n x → {j : ℕ} → j ≡ i + 1 → Lining instants octets b x n j
  lining_more {page} {at} {i} c h k few {t} {octet} f g s {n} {x} p v =
      let l : List (ℕ × ℕ) = zip instants octets in
      let q : List ℕ = change_lines (take i l) in
      let z = put-stands (change_line t octet) at page (omega (arith, c.short, c.long)) n x p in
      let e : q ++ change_line t octet ≡ change_lines (take (i + 1) l) =
      (λ y. q ++ change_line (f 0 y) (g 0 y)) ∙ ap (λ (y : ℕ × ℕ). q ++ change_line y.0 y.1) (sym (get_or-zip instants octets i (0, 0) h k))
      ∙ sym (lines-more l i (omega (arith, length-zip instants octets))) in
      let w : n ≡ length (q ++ change_line t octet) = z.next ∙ omega (arith, c.next, length-append q (change_line t octet)) in
      subst (λ y. Lining instants octets b x n y) (sym v) (record {
        put =
            subst (λ y. Puts y 0 b n x) e
            (put-append q (change_line t octet) 0 b (omega (arith, s, c.short, c.next, c.whole)) at page c.put n x p);
        next = w ∙ ap length e;
        short = omega (arith, z.next, s, c.short);
        long = z.long ∙ c.long;
        whole = c.whole;
      })

  pub lining_fills : {page : List ℕ} {at i : ℕ} → Lining instants octets b page at i → i ≡ min (length instants) (length octets) → i ≤ 1024
      → Fills (change_lines (zip instants octets)) b page at
  lining_fills {page} {at} {i} c e h =
      let l : List (ℕ × ℕ) = zip instants octets in
      subst (λ k. Fills (change_lines k) b page at) (ap (λ k. take k l) (e ∙ sym (length-zip instants octets)) ∙ take-length l)
      (put_fills (change_lines (take i l)) b c.whole (omega (arith, c.next, c.short)) at page c.put)

-- the changes that two columns begin with

zip-map : (l : List (ℕ × ℕ)) → zip (instants_of l) (octets_of l) ≡ l
zip-map [] = refl
zip-map (x ∷ l) = ap (λ r. x ∷ r) (zip-map l)

into-take : (f : ℕ × ℕ → ℕ) (l : List (ℕ × ℕ)) (b : List ℕ) → take (length l) (into (map f l) b) ≡ map f l
unfolding into
into-take f l b =
    ap (λ n. take n (map f l ++ drop (length (map f l)) b)) (sym (length-map l f)) ∙ take-append_seam (map f l) (drop (length (map f l)) b)

pub zip-columns : (l : List (ℕ × ℕ)) (a b : List ℕ) → zip (take (length l) (into (instants_of l) a)) (take (length l) (into (octets_of l) b)) ≡ l
zip-columns l a b = (λ i. zip (into-take (λ (x : ℕ × ℕ). x.0) l a i) (into-take (λ (x : ℕ × ℕ). x.1) l b i)) ∙ zip-map l

-- a page's text is no longer than the page
pub fills_few : {s b x : List ℕ} {n : ℕ} → Fills s b x n → n ≤ 24_576
unfolding into
fills_few {s} {b} f = omega (arith, f.count, f.long, ap length f.begins, length-append s (drop (length s) b))
