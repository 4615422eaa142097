-- Laws of a list record's coding. In order: lists made place by place; 128 places; the list of a record and the record of a list; unused places
-- zeroed. When a record is well formed is in `Sound`.
-- Assumes nothing.
use mathlib.Core.Path.{◌≡◌, refl, ap, ap₂, sym, ◌∙◌}
use mathlib.Core.Bool.{Bool, true, false}
use mathlib.Core.List.{List, [], ◌∷◌, ◌++◌, map, append_assoc}
use Prim.Native.Nat.{ℕ, zero, suc, ◌+◌, ◌-◌, ◌≤◌, ◌<◌, min}
use native.Mathlib.Nat.{add-zero, add-suc, suc-add, zero-add}
use native.Mathlib.Omega.{arith}
use lib.Dec.{leb}
use borrow.Author.Tests.{leb-true, leb-false}
use lib.ListN.{length, get_or, set, take, drop, replicate, length-take, length-drop, length-append, length-map, take-append-drop, get_or-append, get_or-map}
use Rattle.std.proofs.lemmas.List.{drop-replicate, drop_all, length-set}
use lib.Seq.{set_at, take_all, length-take-le, ext_get_or, get_or-take, get_or-append-add, get_or-drop}
use Rattle.rule.specs.Entries.{Entry}
use Rattle.gatelist.specs.declared.GateList.{GateList}
use Rattle.gatelist.specs.Coding.{list_from, entry_of, list_of, padded, encode_list}
use Rattle.gatelist.specs.Places.{cleaned_list, Places}
use Rattle.gatelist.specs.Promises.{CopiesUsed, Puts}

-- lists made place by place

module _ {A : Type 0} (f : ℕ → A) where
  pub length_from : (i n : ℕ) → length (list_from f i n) ≡ n
  unfolding list_from
  length_from i zero = refl
  length_from i (suc n) = ap suc (length_from (suc i) n)

  pub from-add : (i k m : ℕ) → list_from f i (k + m) ≡ list_from f i k ++ list_from f (i + k) m
  unfolding list_from
  from-add i zero m = rw (zero-add, add-zero)
  from-add i (suc k) m = rw (suc-add, add-suc, ← suc-add, from-add (suc i) k m)

  -- one place more
  pub from_more : (n : ℕ) → list_from f 0 (n + 1) ≡ list_from f 0 n ++ f n ∷ []
  unfolding list_from
  from_more n = from-add 0 n 1 ∙ rw zero-add

  pub get_d_from : (i n k : ℕ) (d : A) → k < n → get_or (list_from f i n) k d ≡ f (i + k)
  unfolding list_from
  get_d_from i zero k d h = absurd (omega arith)
  get_d_from i (suc n) zero d h = ap f (sym (add-zero i))
  get_d_from i (suc n) (suc k) d h = get_d_from (suc i) n k d (omega arith) ∙ ap f (suc-add i k ∙ sym (add-suc i k))

pub map-from : {A B : Type 0} (g : A → B) (f : ℕ → A) (i n : ℕ) → map g (list_from f i n) ≡ list_from (λ k. g (f k)) i n
unfolding list_from
map-from g f i zero = refl
map-from g f i (suc n) = ap (λ l. g (f i) ∷ l) (map-from g f (suc i) n)

-- the first places of an array
take-from : (l : List ℕ) (n : ℕ) → n ≤ length l → list_from (λ k. get_or l k 0) 0 n ≡ take n l
take-from l n h =
    ext_get_or 0 _ _ (length_from (λ k. get_or l k 0) 0 n ∙ sym (length-take-le n l h))
    (λ i b. let b' : i < n = rw (length_from (λ k. get_or l k 0) 0 n) at b in
    get_d_from (λ k. get_or l k 0) 0 n i 0 b' ∙ ap (λ k. get_or l k 0) (zero-add i) ∙ sym (get_or-take n l i 0 b'))

-- 128 places

pub padded_in : (l : List ℕ) (k : ℕ) → k < length l → get_or (padded l) k 0 ≡ get_or l k 0
unfolding padded
padded_in l k h = get_or-append l (replicate (128 - length l) 0) 0 k h

zeros_at : (n k : ℕ) → ◌≡◌ {A = ℕ} (get_or (replicate n 0) k 0) 0
zeros_at zero k = refl
zeros_at (suc n) zero = refl
zeros_at (suc n) (suc k) = zeros_at n k

pub padded-out : (l : List ℕ) (k : ℕ) → length l ≤ k → get_or (padded l) k 0 ≡ 0
unfolding padded
padded-out l k h =
    let e : k ≡ length l + (k - length l) = omega arith in
    ap (λ j. get_or (l ++ replicate (128 - length l) 0) j 0) e ∙ get_or-append-add l (replicate (128 - length l) 0) (k - length l) 0
    ∙ zeros_at (128 - length l) (k - length l)

-- one place filled
pub padded-more : (l : List ℕ) (i v : ℕ) → length l ≡ i → i < 128 → set (padded l) i v ≡ padded (l ++ v ∷ [])
unfolding padded
padded-more l i v e h =
    let a : 128 - length l ≡ suc (128 - (i + 1)) = omega arith in
    let b : 128 - (i + 1) ≡ 128 - length (l ++ v ∷ []) = rw (length-append l (v ∷ []), e) in
    ap (λ n. set (l ++ replicate n 0) i v) a ∙ set_at l 0 (replicate (128 - (i + 1)) 0) v i e
    ∙ sym (append_assoc l (v ∷ []) (replicate (128 - (i + 1)) 0)) ∙ ap (λ n. (l ++ v ∷ []) ++ replicate n 0) b

zeros : (l : List ℕ) → ((k : ℕ) → k < length l → get_or l k 0 ≡ 0) → l ≡ replicate (length l) 0
zeros [] z = refl
zeros (x ∷ l) z = ap₂ (λ y r. y ∷ r) (z 0 (omega arith)) (zeros l (λ k h. z (suc k) (omega arith)))

-- 128 places of which those from n on are zero
pub padded-same : (l : List ℕ) (n : ℕ) → length l ≡ 128 → n ≤ 128 → ((k : ℕ) → n ≤ k → k < 128 → get_or l k 0 ≡ 0) → padded (take n l) ≡ l
unfolding padded
padded-same l n h k z =
    let e : 128 - length (take n l) ≡ length (drop n l) = rw (length-take n l, length-drop n l, h) (omega arith) in
    ap (λ m. take n l ++ replicate m 0) e
    ∙ ap (λ r. take n l ++ r) (sym (zeros (drop n l) (λ j b. get_or-drop n l j 0 ∙ z (n + j) (omega arith) (omega (arith, length-drop n l)))))
    ∙ take-append-drop n l

-- an array of zeros whose first i places are filled by f
pub record Filled (f : ℕ → ℕ) (a : List ℕ) (i : ℕ) : Type 0 where
  pub long : length a ≡ 128
  pub same : a ≡ padded (list_from f 0 i)

pub filled_none : (f : ℕ → ℕ) → Filled f (replicate 128 0) 0
unfolding padded list_from
filled_none f = record { long = refl; same = refl }

pub filled_more : (f : ℕ → ℕ) (a : List ℕ) (i v : ℕ) → i < 128 → v ≡ f i → Filled f a i → Filled f (set a i v) (i + 1)
filled_more f a i v h e c = record {
  long = length-set a i v ∙ c.long;
  same = ap₂ (λ l w. set l i w) c.same e ∙ padded-more (list_from f 0 i) i (f i) (length_from f 0 i) h ∙ ap padded (sym (from_more f i));
}

-- no more than the places that there are
module _ {A : Type 0} (xs : List A) (n m : ℕ) (s : length xs ≡ 128) (e : m ≡ min n 128) where
  few : {P : Type 0} → (m ≡ n → P) → (length xs ≤ m → length xs ≤ n → P) → P
  few {P} f g = go (leb n 128) refl
    where
      go : (b : Bool) → leb n 128 ≡ b → P
      go true q = let h = leb-true n 128 q in f (omega arith)
      go false q = let h = leb-false n 128 q in g (omega arith) (omega arith)

  pub take_few : take m xs ≡ take n xs
  take_few = few (ap (λ k. take k xs)) (λ a b. take_all m xs a ∙ sym (take_all n xs b))

  pub drop_few : drop m xs ≡ drop n xs
  drop_few = few (ap (λ k. drop k xs)) (λ a b. drop_all m xs a ∙ sym (drop_all n xs b))

-- an array of one value, whose first places are those of another array, as far as there are some
pub copied_first : {A : Type 0} (xs : List A) (n m : ℕ) (x y : A) → length xs ≡ 128 → m ≡ min n 128 → x ≡ y
    → take m xs ++ drop m (replicate 128 x) ≡ take n xs ++ replicate (128 - length (take n xs)) y
copied_first xs n m x y s e q =
    ap (λ l. l ++ drop m (replicate 128 x)) (take_few xs n m s e)
    ∙ ap (λ l. take n xs ++ l) (drop-replicate m 128 x ∙ ap₂ (λ k z. replicate k z) (omega (arith, length-take n xs)) q)

-- copied places of numbers are those with zeros behind them
pub puts_copies : (xs r : List ℕ) (n : ℕ) → Puts (λ x. x ≡ 0) xs n r → CopiesUsed xs n r
unfolding padded
puts_copies xs r n h = h 0 (λ x e. e)

-- the list of a record, and the record of a list

-- a column of entries, padded, has each entry's value in its place
column_at : (g : Entry → ℕ) (l : List Entry) (k : ℕ) (d : Entry) → g d ≡ 0 → k < length l → get_or (padded (map g l)) k 0 ≡ g (get_or l k d)
column_at g l k d e h =
    padded_in (map g l) k (omega (arith, length-map l g)) ∙ ap (get_or (map g l) k) (sym e) ∙ get_or-map g l k d

pub list_decoded : (l : List Entry) → list_of (encode_list l) ≡ l
unfolding encode_list
list_decoded l =
    let os : List ℕ = map (λ (e : Entry). e.octet) l in
    let is : List ℕ = map (λ (e : Entry). e.interval) l in
    let d : Entry = record { octet = 0; interval = 0 } in
    let n = length_from (entry_of (padded os) (padded is)) 0 (length l) in
    ext_get_or d _ _ n
    (λ k b. let b' : k < length l = rw n at b in
    let a = column_at (λ e. e.octet) l k d refl b' in
    let v = column_at (λ e. e.interval) l k d refl b' in
    get_d_from (entry_of (padded os) (padded is)) 0 (length l) k d b' ∙ ap (entry_of (padded os) (padded is)) (zero-add k)
    ∙ (λ j. record { octet = a j; interval = v j }))

pub encoded_from : (g : ℕ → Entry) (n : ℕ)
    → encode_list (list_from g 0 n) ≡ record { octets = padded (list_from (λ k. (g k).octet) 0 n); intervals = padded (list_from (λ k. (g k).interval) 0 n); len = n }
unfolding encode_list
encoded_from g n = λ j. record {
  octets = padded (map-from (λ (e : Entry). e.octet) g 0 n j);
  intervals = padded (map-from (λ (e : Entry). e.interval) g 0 n j);
  len = length_from g 0 n j;
}

-- unused places zeroed: the record of the list, for up to 128 entries
pub cleaned_encoded : (l : GateList) → Places l → l.len ≤ 128 → cleaned_list l ≡ encode_list (list_of l)
unfolding cleaned_list
cleaned_encoded l p h =
    let o = p.octets in
    let v = p.intervals in
    (λ j. record {
      octets = padded (sym (take-from l.octets l.len (omega arith)) j);
      intervals = padded (sym (take-from l.intervals l.len (omega arith)) j);
      len = l.len;
    })
    ∙ sym (encoded_from (entry_of l.octets l.intervals) l.len)

pub cleaned_same : (l : GateList) → Places l → l.len ≤ 128
    → ((k : ℕ) → l.len ≤ k → k < 128 → (get_or l.intervals k 0 ≡ 0) × (get_or l.octets k 0 ≡ 0)) → cleaned_list l ≡ l
unfolding cleaned_list
cleaned_same l p h z = λ j. record {
  octets = padded-same l.octets l.len p.octets h (λ k a b. (z k a b).1) j;
  intervals = padded-same l.intervals l.len p.intervals h (λ k a b. (z k a b).0) j;
  len = l.len;
}
