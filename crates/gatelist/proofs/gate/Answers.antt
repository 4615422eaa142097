-- `gatelist::gate` meets its contract: the bit shifted down and masked is the octet divided and taken modulo 2; a class above 7 divides every octet
-- to 0.
-- Assumes nothing.
use Prim.Native.Nat.{◌/◌, ◌^◌}
use borrow.Author.Rules.{rules}
use lib.Bits.{and_mask}
use Rattle.rule.specs.Gates.{is_open}
use Rattle.gatelist.proofs.Gates.{closed_above}
use Rattle.gatelist.proofs.gate.Goals as goal

pub returns-then-class-gt7 : goal.returns-then-class-gt7
returns-then-class-gt7 c = closed_above _ _ (search rules) c.if-class-gt7.true

pub returns : goal.returns
unfolding is_open
returns c = rw (and_mask (c.args.octet / 2 ^ c.args.class) 1)
