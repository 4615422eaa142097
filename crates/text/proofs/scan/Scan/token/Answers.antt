-- `text::scan::Scan::token` meets its contract: what is left is cut where `find` finds a space.
-- Assumes nothing.
use Rattle.std.proofs.Common.{ap, sym, ◌∙◌, arith, option_copied}
use Rattle.text.specs.Scan.{behind_token}
use Rattle.text.proofs.Finding.{find-within, behind_cut}
use Rattle.text.proofs.scan.Scan.token.Goals as goal

pub split_at-requires : goal.split_at-requires
split_at-requires c = omega (arith, c.find-end.ensures, find-within c.in_ok-rest.rest.now 32)

pub returns-clause-left : goal.returns-clause-left
returns-clause-left c =
    behind_cut c.in_ok-rest.rest.now c.split_at.result.1.now c.find-end.result c.get-self.result c.find-end.ensures c.split_at.ensures.back
    c.get-self.ensures.lookup
    ∙ ap behind_token (sym (ap option_copied c.in_ok-rest.was))
