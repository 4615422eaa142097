-- Each contract leaves one outcome: any two outcomes of a call of the port that its contract allows on one record are equal, buffers and all
-- (`handed_unique`); and so is what a program has in the end (`outcome_unique`). The calls one by one are in port/proofs/Unique, driver/proofs/Outcome and
-- gatelist/proofs/Unique.
-- Assumes nothing.
use mathlib.Core.Path.{◌≡◌, ap, sym, ◌∙◌}
use mathlib.Core.List.{List}
use Rattle.rule.specs.Acts as rule
use Rattle.port.specs.declared.Port.{Port}
use Rattle.port.proofs.Unique.{performs_unique, transmits_unique, steps_unique, looks_unique}
use Rattle.driver.proofs.Outcome.{lends_unique}
use Rattle.history.specs.Calls.{Call, act, lend, step, look, run}
use Rattle.history.specs.Outcomes.{Handed, Allowed, Event, calls_of, Kept, outcome}
use Rattle.history.proofs.Given.{outcome-is}

by_unique : (a : rule.Act) (p : Port) (r s : Handed (act a)) → Allowed (act a) p r → Allowed (act a) p s → r ≡ s
by_unique (rule.gates a) p r s k l = performs_unique (rule.gates a) p r s k l
by_unique (rule.transmit heads speed) p r s k l = transmits_unique heads speed p r s k l

pub handed_unique : (c : Call) (p : Port) (r s : Handed c) → Allowed c p r → Allowed c p s → r ≡ s
handed_unique (act a) p r s k l = by_unique a p r s k l
handed_unique (lend heads speed) p r s k l =
    let z = lends_unique heads speed p r.answer r.port k s.answer s.port l in
    λ i. record { answer = z.0 i; port = z.1 i }
handed_unique (step goal instants octets) p r s k l =
    let z = steps_unique p goal instants octets r.result r.instants r.octets s.result s.instants s.octets k l in
    λ i. record { result = z.0 i; instants = z.1.0 i; octets = z.1.1 i }
handed_unique (look t) p r s k l = looks_unique p t r s k l

-- two programs that make the same calls
pub outcome_unique : (p : Port) (es fs : List Event) → Kept p es → Kept p fs → calls_of es ≡ calls_of fs → outcome p es ≡ outcome p fs
outcome_unique p es fs k l e = outcome-is p es k ∙ ap (λ cs. run cs p) e ∙ sym (outcome-is p fs l)
