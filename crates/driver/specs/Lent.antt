-- Document 01, 'Choosing a frame' ('The driver lends its one port record to the transmit call, which stores class, start and end there'): what the lent
-- call promises of its answer and of the whole record as it returns. It is the transmit of crate `port`: 14, 13, 17, 12; a refused call leaves the record.
-- Assumes nothing.
use Rattle.std.specs.Prelude.{◌≡◌, List, ℕ, Some, None, Ok, Err}
use Rattle.rule.specs.Refusals.{number_of}
use Rattle.rule.specs.Acts.{transmit, performed}
use Rattle.frames.specs.Decision.{Choice, choice_of}
use Rattle.port.specs.declared.Port.{Port}
use Rattle.port.specs.Coding.{decode}
use Rattle.port.specs.Acts.{declines, after}
use Rattle.driver.specs.declared.Answer.{Answer}

-- an answer in numbers; no two answers have the same
abbrev pub answer_for : Choice → Answer
answer_for (Ok (Some f)) = record { number = 0; chosen = 1; class = f.class; start = f.start; last = f.last; end = f.end }
answer_for (Ok None) = record { number = 0; chosen = 0; class = 0; start = 0; last = 0; end = 0 }
answer_for (Err r) = record { number = number_of r; chosen = 0; class = 0; start = 0; last = 0; end = 0 }

-- what the conversion of a choice to an answer gives
abbrev pub Answers : Choice → Answer → Type 0
Answers choice r = r ≡ answer_for choice

-- what a transmit on the port answers
abbrev pub answer_to : List ℕ → ℕ → Port → Answer
answer_to heads speed p = answer_for (choice_of (declines (transmit heads speed) p) (performed (transmit heads speed) (decode p)).frame)

-- the lent port is q as the call returns
pub record Lends (heads : List ℕ) (speed : ℕ) (p : Port) (r : Answer) (q : Port) : Type 0 where
  pub answer : r ≡ answer_to heads speed p
  pub port : q ≡ after (transmit heads speed) p
