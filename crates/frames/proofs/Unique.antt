-- `decide` promises `Decides` and `duration` promises `Lasts`, which leave one outcome; `Frame::formed`, `Frame::none` and `Frame::sending` promise an equation. Document 01's number,
-- with the values of an accepted call, tells an answer from every other (`choice_told`, `duration-told`).
-- Assumes nothing.
use Rattle.std.proofs.Common.{◌≡◌, refl, ap, sym, ◌∙◌, List, ◌∷◌, ℕ, arith}
use Rattle.rule.specs.declared.Refusal.{Refusal}
use Rattle.rule.specs.Refusals.{number_of}
use Rattle.rule.proofs.Refusals.{refusal_told, none_some}
use Rattle.timetable.specs.declared.Timetable.{Timetable}
use Rattle.frames.specs.declared.Frame.{Frame}
use Rattle.frames.specs.declared.Decided.{Decided}
use Rattle.frames.specs.declared.FrameTime.{FrameTime}
use Rattle.std.specs.Prelude.{Some, None, Result, Ok, Err}
use Rattle.frames.specs.Decision.{Choice, choice_number, choice_values}
use Rattle.frames.specs.Deciding.{Decides}
use Rattle.frames.specs.Lengths.{Lasts, duration_number, duration_values}

pub decides_unique : (heads : List ℕ) (speed : ℕ) (g : Timetable) (f : Frame) (r s : Decided) → Decides heads speed g f r → Decides heads speed g f s → r ≡ s
decides_unique heads speed g f r s k l i = record { answer = (k.answer ∙ sym l.answer) i; frame = (k.frame ∙ sym l.frame) i }

no_frame_lem : (l m : List ℕ) → ◌≡◌ {A = List ℕ} (0 ∷ l) (1 ∷ m) → ⊥
no_frame_lem l m e = let z : ◌≡◌ {A = ℕ} 0 1 = cc in omega arith

pub choice_told : (r s : Choice) → choice_number r ≡ choice_number s → choice_values r ≡ choice_values s → r ≡ s
choice_told (Ok (Some f)) (Ok (Some g)) p q =
    let x : f.class ≡ g.class = cc in
    let y : f.start ≡ g.start = cc in
    let z : f.last ≡ g.last = cc in
    let w : f.end ≡ g.end = cc in
    λ i. Ok (Some (record { class = x i; start = y i; last = z i; end = w i }))
choice_told (Ok (Some f)) (Ok None) p q = absurd (no_frame_lem _ _ (sym q))
choice_told (Ok None) (Ok (Some g)) p q = absurd (no_frame_lem _ _ q)
choice_told (Ok None) (Ok None) p q = refl
choice_told (Ok f) (Err r) p q = absurd (none_some (number_of r) p)
choice_told (Err r) (Ok f) p q = absurd (none_some (number_of r) (sym p))
choice_told (Err r) (Err s) p q = ap Err (refusal_told r s p)

pub lasts_unique : (len speed : ℕ) (r s : Result FrameTime Refusal) → Lasts len speed r → Lasts len speed s → r ≡ s
lasts_unique len speed r s p q = p ∙ sym q

pub duration-told : (r s : Result FrameTime Refusal) → duration_number r ≡ duration_number s → duration_values r ≡ duration_values s → r ≡ s
duration-told (Ok a) (Ok b) p q =
    let x : a.last ≡ b.last = cc in
    let y : a.next ≡ b.next = cc in
    λ i. Ok (record { last = x i; next = y i })
duration-told (Ok a) (Err r) p q = absurd (none_some (number_of r) p)
duration-told (Err r) (Ok a) p q = absurd (none_some (number_of r) (sym p))
duration-told (Err r) (Err s) p q = ap Err (refusal_told r s p)
