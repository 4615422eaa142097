-- Document 01, 'Choosing a frame' (8.6.8.4): what a transmit answers, with document 01's number and values.
-- Assumes nothing.
use Rattle.std.specs.Prelude.{List, [], ◌∷◌, ℕ, Some, None, Result, Ok, Err}
use Rattle.std.specs.Prelude as std
use Rattle.std.proofs.Math.Option.{Option, none, some}
use Rattle.rule.specs.declared.Refusal.{Refusal}
use Rattle.rule.specs.Refusals.{number_in}
use Rattle.rule.specs.Port as model
use Rattle.frames.specs.declared.Sending.{Sending}

-- what a transmit answers: a frame's class, start, last octet and end, or nothing, or refused
abbrev pub Choice : Type 0
Choice = Result (std.Option Sending) Refusal

abbrev pub sending_of : Option model.Frame → std.Option Sending
sending_of none = None
sending_of (some f) = Some (record { class = f.class; start = f.start; last = f.last; end = f.end })

abbrev pub choice_of : Option Refusal → Option model.Frame → Choice
choice_of none f = Ok (sending_of f)
choice_of (some r) f = Err r

-- document 01's number of an answer, none for an accepted call; and its values: 1 with class, start, last and end, or zeros
abbrev pub choice_number : Choice → Option ℕ
choice_number r = number_in r

abbrev pub choice_values : Choice → List ℕ
choice_values (Ok (Some f)) = 1 ∷ f.class ∷ f.start ∷ f.last ∷ f.end ∷ []
choice_values (Ok None) = 0 ∷ 0 ∷ 0 ∷ 0 ∷ 0 ∷ []
choice_values (Err r) = 0 ∷ 0 ∷ 0 ∷ 0 ∷ 0 ∷ []
