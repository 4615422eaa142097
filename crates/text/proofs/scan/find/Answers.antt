-- `text::find` meets its contract: `position` finds the first place of what is left.
-- Assumes nothing.
use Rattle.std.proofs.Common.{◌≡◌, ap, sym, ◌∙◌, ◌+◌, ℕ, List, rules, tests, arith, eqb, position}
use Rattle.std.proofs.lemmas.Iterator.{YieldsList-from_slice}
use Rattle.std.proofs.lemmas.Iterator.Search.{position_from_yields_List}
use Rattle.std.proofs.lemmas.Slice.{between_to_end}
use Rattle.text.specs.Scan.{before}
use Rattle.text.proofs.Finding.{found_is, find-past}
use Rattle.text.proofs.scan.find.Goals as goal

pub returns-in_default : goal.returns-in_default
returns-in_default c = let a = c.args in sym (find-past a.s.now a.at a.octet (omega (arith, c.in_default.ensures.lookup)))

pub returns : goal.returns
returns c =
    let a = c.args in
    let l = c.in-Some.ensures.lookup in
    let rest : List ℕ = c.in-Some.rest.now in
    let found : c.position.result ≡ position (λ x. eqb x a.octet) rest = position_from_yields_List (λ x. eqb x a.octet) _ _ c.position.result c.position.ensures.ran (YieldsList-from_slice _ c.iter.ensures.rest) (λ x b q k. search (rules, tests)) in
    ap (λ n. a.at + n) (c.unwrap_or.ensures ∙ found_is a.octet rest _ found ∙ ap (before a.octet) (l.0.2 ∙ between_to_end a.s.now a.at _ (omega arith)))
