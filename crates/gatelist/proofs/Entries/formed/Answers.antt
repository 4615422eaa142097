-- `gatelist::Entries::formed` meets its contract: each branch makes the tests of its side of the definition.
-- Assumes nothing.
use mathlib.Core.Path.{ap, sym, ◌∙◌}
use Rattle.gatelist.specs.Sound.{list_formed}
use Rattle.gatelist.proofs.Sound.{ok_test, none_test}
use Rattle.gatelist.proofs.Entries.formed.Goals as goal

pub returns-then-there : goal.returns-then-there
returns-then-there c =
    let a = c.args in
    record {
      found = ok_test (record { octets = a.self.octets.now; intervals = a.self.intervals.now; len = a.self.len }) _ c.places_ok-good.ensures.places
          ∙ ap (λ b. list_formed b (record { octets = a.self.octets.now; intervals = a.self.intervals.now; len = a.self.len })) (sym c.if-there.true);
      places = record { octets = c.places_ok-good.ensures.octets; intervals = c.places_ok-good.ensures.intervals };
    }

pub returns : goal.returns
returns c =
    let a = c.args in
    record {
      found = none_test (record { octets = a.self.octets.now; intervals = a.self.intervals.now; len = a.self.len }) _ c.places_ok-good.ensures.places
          ∙ ap (λ b. list_formed b (record { octets = a.self.octets.now; intervals = a.self.intervals.now; len = a.self.len })) (sym c.if-there.false);
      places = record { octets = c.places_ok-good.ensures.octets; intervals = c.places_ok-good.ensures.intervals };
    }
