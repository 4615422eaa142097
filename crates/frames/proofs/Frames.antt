-- The frame's record: a well-formed one is the encoding of its frame, which is sound (`frame-fine`); the encoding of a sound frame is well formed
-- (`frame_formed_lem`) and decodes to it (`frame_decoded`).
-- Assumes nothing.
use Rattle.std.proofs.Common.{◌≡◌, ℕ, ◌-◌, Bool, true, false, ◌&&◌, leb, ltb, eqb, refl, sym, ap, ◌∙◌, leb-true, le-leb, lt-ltb, eqb-true, eq-eqb, ne_eqb, arith}
use Rattle.std.proofs.Math.Option.{Option, none, some}
use Rattle.std.proofs.Math.Bool.{or-false}
use Rattle.std.proofs.lemmas.Bool.{ltb-true, lt-leb, eqb-false}
use Rattle.rule.specs.Limits.{longest_span}
use Rattle.rule.specs.Port as model
use Rattle.rule.proofs.Orders.{both}
use Rattle.rule.proofs.Soundness.{SoundFrame}
use Rattle.timetable.specs.Record.{is_marked, mark_ok, either}
use Rattle.timetable.specs.Coding.{present}
use Rattle.timetable.proofs.Coding.{marked-back, mark_kept, mark_formed, one_of}
use Rattle.frames.specs.declared.Frame.{Frame}
use Rattle.frames.specs.Frame.{sent_frame, decode_frame, encode_frame, frame_ok, frame_none, frame_formed}
use Rattle.frames.specs.Deciding.{FineFrame}

pub frame_decoded : (o : Option model.Frame) → decode_frame (encode_frame o) ≡ o
unfolding decode_frame
frame_decoded none = refl
frame_decoded (some f) = λ i. some (record { class = f.class; start = f.start; last = f.last; end = f.end; counted = marked-back f.counted i })

-- a mark that is not set is 0
unmarked : (n : ℕ) → mark_ok n ≡ true → is_marked n ≡ false → n ≡ 0
unmarked n e q = omega (arith, leb-true n 1 e, eqb-false n 1 q)

frame-part : (f : Frame) (t : ℕ) → mark_ok f.present ≡ true → mark_ok f.counted ≡ true → (b : Bool) → is_marked f.present ≡ b → either b (frame_ok f t) (frame_none f) ≡ true
    → (encode_frame (present b (sent_frame f)) ≡ f) × SoundFrame t (present b (sent_frame f))
unfolding frame_ok frame_none
frame-part f t n m true q e =
    let z = one_of (frame_ok f t) e in
    let a = both (leb f.class 7) _ z in
    let b = both (leb f.start t) _ a.1 in
    let c = both (ltb t f.end) _ b.1 in
    let d = both (ltb f.start f.last) _ c.1 in
    let g = both (ltb f.last f.end) _ d.1 in (
      (λ i. record { present = sym (eqb-true f.present 1 q) i; class = f.class; counted = mark_kept f.counted m i; start = f.start; last = f.last; end = f.end }),
      record {
        class = leb-true f.class 7 a.0;
        begun = leb-true f.start t b.0;
        before = ltb-true t f.end c.0;
        some-octet = ltb-true f.start f.last d.0;
        some_gap = ltb-true f.last f.end g.0;
        short = leb-true (f.end - f.start) longest_span g.1;
      },
    )
frame-part f t n m false q e =
    let a = both (eqb f.class 0) _ e in
    let b = both (eqb f.start 0) _ a.1 in
    let d = both (eqb f.last 0) _ b.1 in
    let c = both (eqb f.end 0) (eqb f.counted 0) d.1 in (
      (λ i. record {
        present = sym (unmarked f.present n q) i;
        class = sym (eqb-true f.class 0 a.0) i;
        counted = sym (eqb-true f.counted 0 c.1) i;
        start = sym (eqb-true f.start 0 b.0) i;
        last = sym (eqb-true f.last 0 d.0) i;
        end = sym (eqb-true f.end 0 c.0) i;
      }),
      tt,
    )

pub frame-fine : (f : Frame) (t : ℕ) → frame_formed f t ≡ true → FineFrame f t
unfolding frame_formed decode_frame
frame-fine f t e =
    let a = both (mark_ok f.present && mark_ok f.counted) _ e in
    let m = both (mark_ok f.present) (mark_ok f.counted) a.0 in
    let z = frame-part f t m.0 m.1 (is_marked f.present) refl a.1 in
    record { whole = z.0; sound = z.1 }

pub frame_formed_lem : (t : ℕ) (f : Option model.Frame) → SoundFrame t f → frame_formed (encode_frame f) t ≡ true
unfolding frame_formed frame_ok frame_none
frame_formed_lem t none k = refl
frame_formed_lem t (some f) k =
    rw (mark_formed f.counted)
    (simp (le-leb f.class 7 k.class, le-leb f.start t k.begun, lt-ltb t f.end k.before, lt-ltb f.start f.last k.some-octet, lt-ltb f.last f.end k.some_gap, le-leb (f.end - f.start) longest_span k.short))

-- as the code judges it: a frame that is there by its numbers, an absent one as no frame

pub formed-there : (f : Frame) (t : ℕ) → f.present ≡ 1 → leb f.counted 1 && frame_ok f t ≡ frame_formed f t
unfolding frame_formed
formed-there f t e = sym (rw (eq-eqb f.present 1 e, or-false (frame_ok f t), le-leb f.present 1 (omega arith)))

-- the mark of an absent frame is 0, and so is that of its overrun: the tests of both say no more
pub formed-absent : (f : Frame) (t : ℕ) → (f.present ≡ 1 → ⊥)
    → eqb f.present 0 && (eqb f.class 0 && (eqb f.counted 0 && (eqb f.start 0 && (eqb f.last 0 && eqb f.end 0)))) ≡ frame_formed f t
unfolding frame_formed frame_none
formed-absent f t n =
    go (eqb f.present 0) (eqb f.class 0) (eqb f.counted 0) (eqb f.start 0) (eqb f.last 0) (eqb f.end 0) (leb f.counted 1)
    (λ e. le-leb f.counted 1 (omega (arith, eqb-true f.counted 0 e)))
    ∙ sym (rw (ne_eqb f.present 1 n, mark (eqb f.present 0) refl))
  where
    mark : (b : Bool) → eqb f.present 0 ≡ b → leb f.present 1 ≡ b
    mark true e = le-leb f.present 1 (omega (arith, eqb-true f.present 0 e))
    mark false e = lt-leb f.present 1 (omega (arith, n, eqb-false f.present 0 e))

    none : (m s l e : Bool) → false ≡ m && (s && (l && (e && false)))
    none false s l e = refl
    none true false l e = refl
    none true true false e = refl
    none true true true false = refl
    none true true true true = refl

    go : (p k c s l e m : Bool) → (c ≡ true → m ≡ true) → p && (k && (c && (s && (l && e)))) ≡ (p && m) && (k && (s && (l && (e && c))))
    go false k c s l e m h = refl
    go true false c s l e true h = refl
    go true false c s l e false h = refl
    go true true false s l e m h = none m s l e
    go true true true s l true m h = ap (λ m. m && (s && (l && true))) (sym (h refl))
    go true true true s l false m h = ap (λ m. m && (s && (l && false))) (sym (h refl))
