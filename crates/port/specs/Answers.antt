-- Document 01, 'Numbers returned when a call declines': the number of each answer of a port's calls, and its values. No two answers of a kind have the same
-- number and values (proofs/Numbers). The answers of acts are in crate `rule`, those of transmit in crate `frames`.
-- Assumes nothing.
use Rattle.std.proofs.Math.Option.{Option}
use Rattle.std.specs.Prelude.{ℕ, Result, Ok, Err}
use Rattle.rule.specs.declared.Refusal.{Refusal}
use Rattle.rule.specs.Refusals.{number_in}

-- a look: the number, none if it is accepted, and the octet, 0 if it is refused
abbrev pub looked_number : Result ℕ Refusal → Option ℕ
looked_number r = number_in r

abbrev pub looked_octet : Result ℕ Refusal → ℕ
looked_octet (Ok octet) = octet
looked_octet (Err r) = 0

-- a step: the number, and the changes that it wrote, 0 if it is refused
abbrev pub stepped_number : Result ℕ Refusal → Option ℕ
stepped_number r = number_in r

abbrev pub written_of : Result ℕ Refusal → ℕ
written_of (Ok n) = n
written_of (Err r) = 0
