-- What a check of a port's record tells.
-- Assumes nothing.
use Rattle.std.specs.Prelude.{◌≡◌, Bool, true}
use Rattle.rule.proofs.Soundness.{Sound}
use Rattle.port.specs.declared.Port.{Port}
use Rattle.port.specs.Record.{well_formed}
use Rattle.port.specs.Coding.{decode, encode}

-- a record that is the encoding of a sound port; and what the check of a record tells
pub record Fine (p : Port) : Type 0 where
  pub whole : encode (decode p) ≡ p
  pub sound : Sound (decode p)

pub record Checked (p : Port) (answer : Bool) : Type 0 where
  pub is : answer ≡ well_formed p
  pub fine : answer ≡ true → Fine p
