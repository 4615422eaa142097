-- The entry that an offset falls into, by the sum of the intervals before it: what a loop over the entries keeps. In order: the sum; the lookup inside an
-- entry's stretch and past all; the octet of either.
-- Assumes nothing.
use mathlib.Core.Path.{◌≡◌, refl, ap, ◌∙◌}
use mathlib.Core.List.{List, [], ◌∷◌, ◌++◌, map}
use Prim.Native.Nat.{ℕ, suc, ◌+◌, ◌-◌, ◌≤◌, ◌<◌}
use native.Mathlib.Omega.{arith}
use lib.ListN.{length, get_or}
use borrow.Author.Tests.{lt-ltb, le-ltb}
use Rattle.rule.specs.Entries.{Entry, entry_no, octet_at}

unfoldable pub total : List Entry → ℕ
total [] = 0
total (x ∷ l) = x.interval + total l

-- the offset lies in x's stretch
pub entry_no_in : (pre : List Entry) (x : Entry) (post : List Entry) (o : ℕ) → total pre ≤ o → o < total pre + x.interval
    → entry_no (pre ++ x ∷ post) o ≡ length pre
unfolding entry_no total
entry_no_in [] x [] o l h = refl
entry_no_in [] x (y ∷ post) o l h = rw (lt-ltb o x.interval (omega arith))
entry_no_in (z ∷ []) x post o l h =
    rw (le-ltb o z.interval (omega arith)) (ap suc (entry_no_in [] x post (o - z.interval) (omega arith) (omega arith)))
entry_no_in (z ∷ y ∷ pre) x post o l h =
    rw (le-ltb o z.interval (omega arith)) (ap suc (entry_no_in (y ∷ pre) x post (o - z.interval) (omega arith) (omega arith)))

-- the offset lies past all: the last holds
pub entry_no-last : (pre : List Entry) (x : Entry) (o : ℕ) → total pre ≤ o → entry_no (pre ++ x ∷ []) o ≡ length pre
unfolding entry_no total
entry_no-last [] x o l = refl
entry_no-last (z ∷ []) x o l = rw (le-ltb o z.interval (omega arith))
entry_no-last (z ∷ y ∷ pre) x o l =
    rw (le-ltb o z.interval (omega arith)) (ap suc (entry_no-last (y ∷ pre) x (o - z.interval) (omega arith)))

-- the entry of a number is the one that stands there
entry-there : (pre : List Entry) (x : Entry) (post : List Entry) → get_or (map (λ (e : Entry). e.octet) (pre ++ x ∷ post)) (length pre) 0 ≡ x.octet
entry-there [] x post = refl
entry-there (z ∷ pre) x post = entry-there pre x post

pub octet_at_in : (pre : List Entry) (x : Entry) (post : List Entry) (o : ℕ) → total pre ≤ o → o < total pre + x.interval
    → octet_at (pre ++ x ∷ post) o ≡ x.octet
unfolding octet_at
octet_at_in pre x post o l h =
    ap (λ n. get_or (map (λ (e : Entry). e.octet) (pre ++ x ∷ post)) n 0) (entry_no_in pre x post o l h) ∙ entry-there pre x post

pub octet_at-last : (pre : List Entry) (x : Entry) (o : ℕ) → total pre ≤ o → octet_at (pre ++ x ∷ []) o ≡ x.octet
unfolding octet_at
octet_at-last pre x o l =
    ap (λ n. get_or (map (λ (e : Entry). e.octet) (pre ++ x ∷ [])) n 0) (entry_no-last pre x o l) ∙ entry-there pre x []
