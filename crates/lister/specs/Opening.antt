-- Document 01, 'The sheet and the listing program': what the octets of a sheet come to. The program reads the sheet, reads the list, makes a port at start,
-- switches it on, submits and steps to end; the first refusal met in that order is the sheet's, and without one there is a port after the submission and
-- an end of the span. 15 comes first, then the list's own, then start 9, cycle 8, base 9, end 9, 10, 11 (proofs/Order).
-- Assumes nothing.
use Rattle.std.specs.Prelude.{Bool, List, ◌++◌, ℕ, drop, Result, Ok, Err}
use Rattle.std.proofs.Math.Option.{Option, none, some}
use Rattle.rule.specs.Limits.{largest_step}
use Rattle.rule.specs.declared.Refusal.{Refusal}
use Rattle.rule.specs.Refusals.{first_of}
use Rattle.rule.specs.Entries.{Entry}
use Rattle.rule.specs.Port.{Port, new_port}
use Rattle.rule.specs.Acts.{Act, gates, on, submit, perform}
use Rattle.rule.specs.Orders.{act_order, step_order, new_order}
use Rattle.gatelist.specs.Coding.{list_from}
use Rattle.octets.specs.Octets.{entry_at, read_refusal}
use Rattle.sheet.specs.declared.Sheet.{Sheet}
use Rattle.sheet.specs.Sheet.{read_sheet}

-- the octets of a sheet's list, which go to the sheet's end, and the entries in them
abbrev pub list_octets : List ℕ → Sheet → List ℕ
list_octets s h = drop h.list s

abbrev pub entries_of : List ℕ → Sheet → List Entry
entries_of s h = list_from (entry_at (list_octets s h)) 0 h.length

-- the acts of the listing
abbrev pub switch_on : Act
switch_on = gates on

abbrev pub submits : Sheet → List Entry → Act
submits h l =
    gates (submit (record { numerator = h.numerator; denominator = h.denominator; extension = h.extension; base = h.base; list = l }))

-- the port made at start; switched on; after the submission
abbrev pub made_port : Sheet → Port
made_port h = new_port h.start h.standing

abbrev pub switched_port : Sheet → Port
switched_port h = perform switch_on (made_port h)

abbrev pub submitted_port : Sheet → List Entry → Port
submitted_port h l = perform (submits h l) (switched_port h)

-- the order of a step
abbrev pub steps_to : ℕ → Port → List (Bool × Refusal)
steps_to end p = step_order largest_step end p.gates

-- the orders of the calls, one after the other: new, on, submit, step to the end
unfoldable pub calls_order : Sheet → List Entry → List (Bool × Refusal)
calls_order h l =
    new_order h.start ++ (act_order switch_on (made_port h) ++ (act_order (submits h l) (switched_port h) ++ steps_to h.end (submitted_port h l)))

-- a refusal, or the port after the submission and the end of the span
pub data Opening : Type 0 where
  refused : Refusal → Opening
  spans : Port → ℕ → Opening

abbrev pub unless_refused : Option Refusal → Opening → Opening
unless_refused none x = x
unless_refused (some r) x = refused r

abbrev pub unless_declined : Option (Refusal × ℕ) → Opening → Opening
unless_declined none x = x
unless_declined (some r) x = refused r.0

-- of a sheet with the entries of its list
unfoldable pub opening_with : Sheet → List Entry → Opening
opening_with h l = unless_refused (first_of (calls_order h l)) (spans (submitted_port h l) h.end)

abbrev pub opening_of : List ℕ → Result Sheet Refusal → Opening
opening_of s (Err r) = refused r
opening_of s (Ok h) = unless_declined (read_refusal (list_octets s h) h.length) (opening_with h (entries_of s h))

unfoldable pub opening : List ℕ → Opening
opening s = opening_of s (read_sheet s)
