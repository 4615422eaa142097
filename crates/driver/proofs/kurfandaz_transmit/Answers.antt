-- `driver::kurfandaz_transmit` meets its contract: the decision on the record's parts, whose frame is stored field by field, is the port's transmit.
-- Assumes nothing.
use Rattle.std.proofs.Common.{Option, ◌≡◌, ◌∙◌, List, ℕ, ap, sym}
use Rattle.rule.specs.Acts.{transmit, performed}
use Rattle.frames.proofs.Unique.{choice_told}
use Rattle.frames.specs.Decision.{choice_of}
use Rattle.frames.specs.declared.Sending.{Sending}
use Rattle.port.specs.declared.Port.{Port}
use Rattle.port.specs.declared.Acted.{Acted}
use Rattle.port.specs.Coding.{decode}
use Rattle.port.specs.Acts.{declines}
use Rattle.port.specs.Transmit.{Transmits}
use Rattle.port.proofs.Numbers.{choice_number_lem}
use Rattle.port.proofs.Transmissions.{transmit_stores}
use Rattle.driver.specs.Lent.{answer_for, answer_to}
use Rattle.driver.proofs.kurfandaz_transmit.Goals as goal

-- the number and the values of an answer tell which it is
answered : (heads : List ℕ) (speed : ℕ) (p : Port) (t : Acted (Option Sending)) → Transmits heads speed p t → answer_for t.answer ≡ answer_to heads speed p
answered heads speed p t k =
    let d = declines (transmit heads speed) p in
    let f = (performed (transmit heads speed) (decode p)).frame in
    ap answer_for (choice_told t.answer (choice_of d f) (k.number ∙ sym (choice_number_lem d f)) k.values)

pub returns : goal.returns
returns c =
    let a = c.args in
    let t = transmit_stores a.heads.now a.speed a.p.now c.decide-d.result c.decide-d.ensures in
    record {
      answer = c.from.ensures ∙ answered a.heads.now a.speed a.p.now _ t.transmits;
      port = t.transmits.port;
    }
