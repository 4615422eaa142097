-- How long a frame takes, by the time of an octet; and the ways out of `duration`, each with what it knows.
-- Assumes nothing.
use Rattle.std.proofs.Common.{◌≡◌, ℕ, ◌+◌, ◌*◌, ◌/◌, ◌<◌, ◌≤◌, Bool, true, false, not, true≢false, leb, sym, refl, ap₂, ◌∙◌, leb-true, arith}
use Rattle.std.specs.Prelude.{Ok, Err}
use Rattle.rule.specs.Limits.{shortest_frame, longest_frame}
use Rattle.rule.specs.declared.Refusal.TheVariants.{Speed, HeadLength}
use Rattle.rule.specs.Choice.{duration, next_start}
use Rattle.rule.specs.Orders.{speed_offered, frame_offered, duration_order}
use Rattle.rule.proofs.Choice.{by_speed, speed_range}
use Rattle.rule.proofs.Orders.{both}
use Rattle.frames.specs.Lengths.{OctetTime, Lasts}

pub octet_times : (v : ℕ) → speed_offered v ≡ true → OctetTime v (8_000 / v)
unfolding duration
octet_times = by_speed (λ v. OctetTime v (8_000 / v))
    (record { frame = λ n. omega arith; gap = refl; frame-short = λ n h. omega arith; gap-short = omega arith })
    (record { frame = λ n. omega arith; gap = refl; frame-short = λ n h. omega arith; gap-short = omega arith })
    (record { frame = λ n. omega arith; gap = refl; frame-short = λ n h. omega arith; gap-short = omega arith })

pub gap_times : (v : ℕ) → speed_offered v ≡ true → 12 * (8_000 / v) ≡ 96_000 / v
gap_times v e = (octet_times v e).gap

pub speed_some : (v : ℕ) → speed_offered v ≡ true → 0 < v
speed_some v e = omega (arith, (speed_range v e).0)

pub few-octets : (n : ℕ) → frame_offered n ≡ true → n ≤ longest_frame
unfolding frame_offered
few-octets n q = leb-true n longest_frame (both (leb shortest_frame n) (leb n longest_frame) q).1

-- a test that fails, and one that holds (docs/PORT.md names them; the check goes by the tests themselves)
pub fails : (a b : Bool) → a ≡ b → not a ≡ true → b ≡ false
fails true b e q = absurd (true≢false (sym q))
fails false b e q = sym e

pub holds : (a b : Bool) → a ≡ b → not a ≡ false → b ≡ true
holds true b e q = sym e
holds false b e q = absurd (true≢false q)

-- the ways out

module _ (n v : ℕ) where
  pub wrong_speed : speed_offered v ≡ false → Lasts n v (Err Speed)
  unfolding duration_order
  wrong_speed e = sym (rw e)

  module _ (e : speed_offered v ≡ true) where
    pub wrong_length : frame_offered n ≡ false → Lasts n v (Err HeadLength)
    unfolding duration_order
    wrong_length q = sym (rw (e, q))

    module _ (q : frame_offered n ≡ true) where
      pub lasts : (r : ℕ) → OctetTime v r → Lasts n v (Ok (record { last = (n + 8) * r; next = (n + 8) * r + 12 * r }))
      unfolding duration_order next_start
      lasts r t = ap₂ (λ x y. Ok (record { last = x; next = y })) (t.frame n) (ap₂ (λ x y. x + y) (t.frame n) t.gap) ∙ sym (rw (e, q))
