-- `lister::opening::with_list` meets its contract: one law for each call that may refuse, and one for the port after all of them.
-- Assumes nothing.
use Rattle.gatelist.specs.Coding.{list_of}
use Rattle.lister.proofs.Opened.{opens_exit, new-opens, submit-opens, step-opens, submit_ready, spans-opens}
use Rattle.lister.proofs.opening.with_list.Goals as goal

pub returns-in_err-made : goal.returns-in_err-made
returns-in_err-made c =
    opens_exit c.from_residual.ensures.1
    (new-opens c.args.h (list_of c.args.list) c.new-made.ensures c.in_err-made.was)

pub returns-in_err-done : goal.returns-in_err-done
returns-in_err-done c =
    opens_exit c.from_residual-in_err-done.ensures.1
    (submit-opens c.args.h (list_of c.args.list) c.new-made.ensures c.in_ok-made.was c.on.ensures c.submit-done.ensures c.in_err-done.was)

pub returns-in_err-step : goal.returns-in_err-step
returns-in_err-step c =
    opens_exit c.from_residual-in_err-step.ensures.1
    (step-opens c.args.h (list_of c.args.list) c.new-made.ensures c.in_ok-made.was c.on.ensures c.submit-done.ensures c.in_ok-done.was
    c.step.ensures.number c.in_err-step.was)

pub invariant_of-result : goal.invariant_of-result
invariant_of-result c = record {
  ready =
      submit_ready c.args.h (list_of c.args.list) c.new-made.ensures c.in_ok-made.was c.on.ensures c.submit-done.ensures c.in_ok-done.was
      c.step.ensures.number c.in_ok-step.was;
}

pub returns : goal.returns
returns c =
    spans-opens c.args.h (list_of c.args.list) c.new-made.ensures c.in_ok-made.was c.on.ensures c.submit-done.ensures c.in_ok-done.was
    c.step.ensures.number c.in_ok-step.was
