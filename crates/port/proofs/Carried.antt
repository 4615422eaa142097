-- What the calls promise of a record is what crate `rule` says of the port that the record stands for: acts, look and new of a well-formed record are
-- those of `decode p` (`act_carried`, `look_carried`, `new_carried`). So every fact of `rule` on `perform`, `shown` and the orders, the bench cases 2 to 8
-- and 10 of document 01 among them, holds of the record. And no accepted act and no new port is malformed (`act-formed`, `new-formed`).
-- Assumes nothing.
use Rattle.std.proofs.Common.{◌≡◌, ℕ, Bool, true, false, cond, ltb, sym, refl, ap, ◌∙◌, arith, ltb-false, Result}
use mathlib.Core.Option.{Option, none, some}
use Rattle.rule.specs.Limits.{largest_instant}
use Rattle.rule.specs.declared.Refusal.{Refusal}
use Rattle.rule.specs.declared.Refusal.TheVariants.{AboveLargest}
use Rattle.rule.specs.Refusals.{first_of, accepted, numbered}
use Rattle.rule.specs.Answers.{answer_of}
use Rattle.rule.specs.Timetable.{shown}
use Rattle.rule.specs.Port.{new_port}
use Rattle.rule.specs.Acts.{Act, perform}
use Rattle.rule.specs.Orders.{act_order, look_order, new_order, accepts}
use Rattle.rule.proofs.Sound.{sound-new, sound-perform}
use Rattle.port.specs.declared.Port.{Port}
use Rattle.port.specs.declared.Acted.{Acted}
use Rattle.port.specs.Record.{well_formed}
use Rattle.port.specs.Coding.{decode, encode}
use Rattle.port.specs.Checks.{Fine}
use Rattle.port.specs.Acts.{declines, after, Performs, look_declines, Looks, Makes}
use Rattle.port.proofs.Numbers.{number_of_lem, answer-told, looked_of, looked_number_lem, looked_octet_lem, looked_told}
use Rattle.port.proofs.Coding.{decode-encode, formed}

-- an act

module _ (p : Port) (w : well_formed p ≡ true) (a : Act) where
  declines-is : declines a p ≡ first_of (act_order a (decode p))
  unfolding declines
  declines-is = rw w

  after_is : after a p ≡ cond (accepts a (decode p)) (encode (perform a (decode p))) p
  unfolding after accepts
  after_is = ap (λ o. cond (accepted o) (encode (perform a (decode p))) p) declines-is

  -- the record after it stands for the port after it
  pub port_carried : (q : Port) → q ≡ after a p → decode q ≡ cond (accepts a (decode p)) (perform a (decode p)) (decode p)
  port_carried q k = ap decode (k ∙ after_is) ∙ go (accepts a (decode p))
    where
      go : (b : Bool) → decode (cond b (encode (perform a (decode p))) p) ≡ cond b (perform a (decode p)) (decode p)
      go true = decode-encode (perform a (decode p))
      go false = refl

  -- and is well formed
  pub port-formed : Fine p → (q : Port) → q ≡ after a p → well_formed q ≡ true
  port-formed f q k = ap well_formed (k ∙ after_is) ∙ go (accepts a (decode p)) refl
    where
      go : (b : Bool) → accepts a (decode p) ≡ b → well_formed (cond b (encode (perform a (decode p))) p) ≡ true
      go true e = formed (perform a (decode p)) (sound-perform a (decode p) e f.sound)
      go false e = w

  -- its answer is the rule's
  pub act_carried : (r : Acted Unit) → Performs a p r
      → (r.answer ≡ answer_of (first_of (act_order a (decode p)))) × (decode r.port ≡ cond (accepts a (decode p)) (perform a (decode p)) (decode p))
  act_carried r k =
      let o : Option Refusal = first_of (act_order a (decode p)) in
      (answer-told r.answer (answer_of o) (k.number ∙ ap numbered declines-is ∙ sym (number_of_lem o)), port_carried r.port k.port)

  pub act-formed : Fine p → (r : Acted Unit) → Performs a p r → well_formed r.port ≡ true
  act-formed f r k = port-formed f r.port k.port

-- a look

module _ (p : Port) (w : well_formed p ≡ true) (t : ℕ) where
  look_declines_lem : look_declines t p ≡ first_of (look_order t (decode p).gates)
  unfolding look_declines
  look_declines_lem = rw w

  pub look_carried : (r : Result ℕ Refusal) → Looks p t r → r ≡ looked_of (first_of (look_order t (decode p).gates)) (shown (decode p).gates t)
  look_carried r k =
      let o : Option Refusal = first_of (look_order t (decode p).gates) in
      let octet : ℕ = shown (decode p).gates t in
      looked_told r (looked_of o octet) (k.number ∙ ap numbered look_declines_lem ∙ sym (looked_number_lem o octet))
      (k.octet ∙ ap (λ d. cond (accepted d) octet 0) look_declines_lem ∙ sym (looked_octet_lem o octet))

-- a new port

module _ (start octet : ℕ) (r : Acted Unit) (k : Makes start octet r) where
  pub new_carried : accepted (first_of (new_order start)) ≡ true → decode r.port ≡ new_port start octet
  new_carried e = ap decode (k.port ∙ rw e) ∙ decode-encode (new_port start octet)

  -- it is well formed, and so is the record of all zeros
  pub new-formed : well_formed r.port ≡ true
  unfolding new_order
  new-formed = ap well_formed k.port ∙ go (ltb largest_instant start) refl
    where
      go : (b : Bool) → ltb largest_instant start ≡ b
          → well_formed (cond (accepted (cond b (some AboveLargest) none)) (encode (new_port start octet)) (encode (new_port 0 0))) ≡ true
      go true e = formed (new_port 0 0) (sound-new 0 0 (omega arith))
      go false e = formed (new_port start octet) (sound-new start octet (ltb-false largest_instant start e))
