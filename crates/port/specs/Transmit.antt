-- Document 01, 'Choosing a frame' (8.6.8.4): what transmit promises of a record. 14, 13, 17, 12; a refused transmit hands back the record that it got. The
-- frame that it answers is the one that the act begins.
-- Assumes nothing.
use Rattle.std.specs.Prelude.{◌≡◌, ℕ, List, Option}
use Rattle.rule.specs.Refusals.{numbered}
use Rattle.rule.specs.Acts.{transmit, performed}
use Rattle.frames.specs.declared.Sending.{Sending}
use Rattle.frames.specs.Decision.{choice_number, choice_values, choice_of}
use Rattle.port.specs.declared.Port.{Port}
use Rattle.port.specs.declared.Acted.{Acted}
use Rattle.port.specs.Coding.{decode}
use Rattle.port.specs.Acts.{declines, after}
use Rattle.port.specs.Updates.{with_frame}

pub record Transmits (heads : List ℕ) (speed : ℕ) (p : Port) (r : Acted (Option Sending)) : Type 0 where
  pub number : choice_number r.answer ≡ numbered (declines (transmit heads speed) p)
  pub values : choice_values r.answer ≡ choice_values (choice_of (declines (transmit heads speed) p) (performed (transmit heads speed) (decode p)).frame)
  pub port : r.port ≡ after (transmit heads speed) p

-- and so nothing but the frame changes: the gate of a chosen class is open, and the overrun test finds nothing
pub record Stores (heads : List ℕ) (speed : ℕ) (p : Port) (r : Acted (Option Sending)) : Type 0 where
  pub transmits : Transmits heads speed p r
  pub rest : r.port ≡ with_frame r.port.frame p
