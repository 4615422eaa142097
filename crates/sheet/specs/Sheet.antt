-- Document 01, 'The sheet and the listing program': what any octets hold as a sheet. The order is standing octet, numerator, denominator, extension, base,
-- start, end, list length, at 8, 32, 32, 32, 64, 64, 64, 64 bits, then the list's octets; more than 1,024 octets in all are no sheet, looked at first.
-- Assumes nothing.
use Rattle.std.specs.Prelude.{cond, List, ℕ, ltb, length, Option, Some, None, Result, Ok, Err, ok_or}
use Rattle.std.proofs.Math.Option as maybe
use Rattle.rule.specs.declared.Refusal.{Refusal}
use Rattle.rule.specs.declared.Refusal.TheVariants.{MalformedSheet}
use Rattle.rule.specs.Refusals.{number_of}
use Rattle.numbers.specs.Groups.{Number, read_number}
use Rattle.sheet.specs.declared.Sheet.{Sheet}

-- a number and the place after it, handed on, if it is there
abbrev pub and_then : {A : Type 0} → Number → (ℕ → ℕ → Option A) → Option A
and_then None k = None
and_then (Some g) k = k g.0 g.1

-- standing octet, numerator, denominator, extension, base, start, end, list length
unfoldable pub contents_of : List ℕ → Option Sheet
contents_of s =
    and_then (read_number 8 s 0) (λ standing a.
    and_then (read_number 32 s a) (λ numerator b.
    and_then (read_number 32 s b) (λ denominator c.
    and_then (read_number 32 s c) (λ extension d.
    and_then (read_number 64 s d) (λ base e.
    and_then (read_number 64 s e) (λ start f.
    and_then (read_number 64 s f) (λ end g.
    and_then (read_number 64 s g) (λ size list.
    Some (record {
      standing = standing;
      numerator = numerator;
      denominator = denominator;
      extension = extension;
      base = base;
      start = start;
      end = end;
      length = size;
      list = list;
    })))))))))

unfoldable pub read_sheet : List ℕ → Result Sheet Refusal
read_sheet s = cond (ltb 1024 (length s)) (Err MalformedSheet) (ok_or (contents_of s) MalformedSheet)

-- what is read: document 01's number (0: a sheet is read), and the sheet's record, if there is one
pub record Reading : Type 0 where
  pub number : ℕ
  pub contents : maybe.Option Sheet

-- the number and the values of an answer
abbrev pub reading_of : Result Sheet Refusal → Reading
reading_of (Err r) = record { number = number_of r; contents = maybe.none }
reading_of (Ok x) = record { number = 0; contents = maybe.some x }
