-- The frame's record as the code changes it: marked (`marked-is`), counted (`counted_is`), forgotten (`forgotten-is`), in the record and in the model.
-- Assumes nothing.
use Rattle.std.proofs.Common.{◌≡◌, ℕ, Bool, true, false, cond, leb, List, sym, refl, ap, ◌∙◌, le-leb}
use mathlib.Core.Option.{Option, none, some}
use Rattle.rule.specs.Port as model
use Rattle.rule.proofs.Soundness.{SoundFrame}
use Rattle.frames.specs.declared.Frame.{Frame}
use Rattle.frames.specs.Frame.{decode_frame, no_frame, encode_frame}
use Rattle.frames.specs.Deciding.{FineFrame}
use Rattle.port.specs.Updates.{marked_frame, counted_for, forgotten_frame}

marked_model : (b : Bool) (o : Option model.Frame) → marked_frame b (encode_frame o) ≡ encode_frame (model.marked b o)
marked_model true none = refl
marked_model false none = refl
marked_model true (some f) = refl
marked_model false (some f) = refl

counted_model : (b : Bool) (t : ℕ) (o : Option model.Frame) (l : List ℕ) → SoundFrame t o → counted_for b (encode_frame o) l ≡ model.counted b o l
counted_model true t none l k = refl
counted_model false t none l k = refl
counted_model true t (some f) l k = rw (le-leb f.class 7 k.class)
counted_model false t (some f) l k = refl

pub marked-is : (b : Bool) (f : Frame) (t : ℕ) → FineFrame f t → marked_frame b f ≡ encode_frame (model.marked b (decode_frame f))
marked-is b f t k = ap (marked_frame b) (sym k.whole) ∙ marked_model b (decode_frame f)

pub counted_is : (b : Bool) (f : Frame) (t : ℕ) (l : List ℕ) → FineFrame f t → counted_for b f l ≡ model.counted b (decode_frame f) l
counted_is b f t l k = ap (λ (g : Frame). counted_for b g l) (sym k.whole) ∙ counted_model b t (decode_frame f) l k.sound

pub forgotten-is : (t : ℕ) (o : Option model.Frame) → forgotten_frame t (encode_frame o) ≡ encode_frame (model.frame_at t o)
unfolding model.forgotten_at
forgotten-is t none = refl
forgotten-is t (some f) = both (leb f.end t)
  where
    both : (b : Bool) → cond b no_frame (encode_frame (some f)) ≡ encode_frame (cond b none (some f))
    both true = refl
    both false = refl
