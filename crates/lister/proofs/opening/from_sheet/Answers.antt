-- `lister::opening::from_sheet` meets its contract: 15, then the list's own refusal, then the calls'.
-- Assumes nothing.
use mathlib.Core.Path.{sym, ◌∙◌}
use Rattle.sheet.proofs.Unique.{sheet_told}
use Rattle.lister.proofs.Opened.{opens_exit, sheet_malformed, sheet_declined, sheet_accepted}
use Rattle.lister.proofs.opening.from_sheet.Goals as goal

pub returns-in_err-h : goal.returns-in_err-h
returns-in_err-h c =
    opens_exit c.from_residual.ensures.1 (sheet_malformed c.args.s.now (sym (sheet_told _ _ c.read.ensures) ∙ c.in_err-h.was))

pub returns-in-Ok : goal.returns-in-Ok
returns-in-Ok c =
    sheet_accepted c.args.s.now (sym (sheet_told _ _ c.read.ensures) ∙ c.in_ok-h.was) c.in-Ok.ensures c.with_list.ensures

pub returns-in-Err : goal.returns-in-Err
returns-in-Err c = sheet_declined c.args.s.now (sym (sheet_told _ _ c.read.ensures) ∙ c.in_ok-h.was) c.in-Err.ensures
