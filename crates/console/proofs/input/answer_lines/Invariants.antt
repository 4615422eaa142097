-- `console::input::answer_lines` answers no more than the octets given: what is left to cut is a part of them.
-- Assumes nothing.
use Rattle.std.proofs.Common.{◌≤◌, length}
use Rattle.console.proofs.input.answer_lines.Given as goal

abbrev pub invariant-loop-line : goal.invariant-loop-line
invariant-loop-line l = length l.line-iterator.rest.now ≤ length l.initial.s
