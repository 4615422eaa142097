-- What the private functions on one entry promise: an entry read at a place, and an entry written at the front of a part of the buffer.
-- Assumes nothing.
use Rattle.std.specs.Prelude.{List, ◌++◌, ℕ, ◌+◌, get_or, drop, Result, Ok, Err}
use Rattle.std.proofs.Math.Option.{Option, none, some}
use Rattle.rule.specs.declared.Refusal.{Refusal}
use Rattle.rule.specs.Refusals.{first_of}
use Rattle.rule.specs.Entries.{Entry}
use Rattle.octets.specs.declared.ReadError.{ReadError}
use Rattle.octets.specs.Octets.{entry_octets, entry_order, interval_at}

-- the octet and the interval, or the refusal with the place of the entry
abbrev pub entry_answer : Option Refusal → ℕ → ℕ → ℕ → Result (ℕ × ℕ) ReadError
entry_answer none at o v = Ok (o, v)
entry_answer (some r) at o v = Err (record { refusal = r; place = at })

unfoldable pub entry_read : List ℕ → ℕ → Result (ℕ × ℕ) ReadError
entry_read s at = entry_answer (first_of (entry_order s at)) at (get_or s (at + 2) 0) (interval_at s (at + 3))

abbrev pub entry_into : Entry → List ℕ → List ℕ
entry_into e part = entry_octets e ++ drop 7 part
