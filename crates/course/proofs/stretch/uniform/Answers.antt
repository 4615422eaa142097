-- `course::stretch::uniform` meets its contract: the fold tells whether each used octet is the first.
-- Assumes nothing.
use Rattle.std.proofs.Common.{◌≡◌, ℕ, Bool, ◌&&◌, eqb, List, get_or, sym, refl, ap, ◌∙◌, arith, rules}
use Rattle.std.specs.List.{list_all}
use Rattle.std.proofs.lemmas.List.Folds.{list_all-append}
use Rattle.std.proofs.lemmas.Fn.{fold_over, slice_gives, fronts}
use Rattle.std.proofs.lemmas.Grind.{common_steps}
use Rattle.course.proofs.ByEntries.{uniform_all}
use Rattle.course.proofs.stretch.uniform.Goals as goal

pub returns : goal.returns
returns c =
    let os : List ℕ = c.args.octets.now in
    let is : ℕ → Bool = λ o. eqb o (get_or os 0 0) in
    let e : c.fold.result ≡ list_all is c.iter.result.rest.now =
    fold_over fronts (λ y. y.now) _ (λ (ys : List ℕ) (b : Bool). b ≡ list_all is ys) _
    (λ ys b x b' f' j h. ((let q : b' ≡ b && is x.now = search rules in q ∙ grind (arith, common_steps, j, list_all-append)), search rules))
    c.iter.result _ _ _ (slice_gives c.iter.result) refl c.fold.ensures.ran in
    λ z. uniform_all os (ap (list_all is) (sym c.iter.ensures.rest) ∙ sym e ∙ z)
