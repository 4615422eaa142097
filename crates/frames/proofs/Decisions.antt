-- Transmit's decision. In order: the tests of speeds and heads; the order as the code evaluates it; the ways out.
-- Assumes nothing.
use Rattle.std.proofs.Common.{◌≡◌, ℕ, Bool, true, false, cond, not, ◌&&◌, ◌||◌, eqb, List, [], ◌∷◌, refl, ap, sym, ◌∙◌, true≢false, arith}
use Rattle.std.proofs.Math.Option.{Option, none, some}
use Rattle.std.specs.List.{list_any}
use Rattle.std.specs.Prelude.{Ok, Err}
use Rattle.std.specs.Prelude as std
use Rattle.rule.specs.declared.Refusal.{Refusal}
use Rattle.rule.specs.declared.Refusal.TheVariants.{MalformedPort, Speed, FrameSending, HeadLength}
use Rattle.rule.specs.Refusals.{first_of, accepted, Answer}
use Rattle.rule.specs.Answers.{answer_of}
use Rattle.rule.specs.Orders.{any, speed_offered, frame_offered, head_offered, transmit_order}
use Rattle.rule.proofs.Orders.{both, order_passed}
use Rattle.rule.proofs.Refusals.{Chain}
use Rattle.rule.proofs.Sound.{heads_short}
use Rattle.timetable.specs.declared.Timetable.{Timetable}
use Rattle.timetable.specs.Record.{is_marked, timetable_formed}
use Rattle.timetable.specs.Coding.{decode}
use Rattle.timetable.specs.Checks.{Checked}
use Rattle.timetable.proofs.Coding.{mark_there}
use Rattle.frames.specs.declared.Frame.{Frame}
use Rattle.frames.specs.declared.Sending.{Sending}
use Rattle.frames.specs.Frame.{sent_frame, decode_frame, encode_frame, frame_formed}
use Rattle.frames.specs.Deciding.{send_declines, Declines, Decides}
use Rattle.frames.specs.Choosing.{begun}
use Rattle.frames.specs.Decision.{sending_of, choice_of}
use Rattle.frames.proofs.Frames.{frame_decoded, frame-fine}

-- the tests

pub speed_test : (v : ℕ) → eqb v 10 || (eqb v 100 || eqb v 1_000) ≡ speed_offered v
unfolding speed_offered
speed_test v = go (eqb v 10) (eqb v 100) (eqb v 1_000)
  where
    go : (a b c : Bool) → a || (b || c) ≡ cond a true (cond b true (cond c true false))
    go true b c = refl
    go false true c = refl
    go false false true = refl
    go false false false = refl

pub head_test : (n : ℕ) (b : Bool) → b ≡ frame_offered n → eqb n 0 || b ≡ head_offered n
unfolding head_offered
head_test n b e = go (eqb n 0) ∙ ap (λ x. cond (eqb n 0) true x) e
  where
    go : (a : Bool) → a || b ≡ cond a true b
    go true = refl
    go false = refl

heads_test : (f : ℕ → Bool) (l : List ℕ) → list_any f l ≡ any f l
heads_test f [] = refl
heads_test f (n ∷ l) = go (f n) (heads_test f l)
  where
    go : (b : Bool) → list_any f l ≡ any f l → b || list_any f l ≡ cond b true (any f l)
    go true e = refl
    go false e = e

-- the order

-- what an accepted transmit has passed
formed_then : (b : Bool) (o : Option Refusal) → accepted (cond (not b) (some MalformedPort) o) ≡ true → (b ≡ true) × (accepted o ≡ true)
formed_then true o q = (refl, q)
formed_then false o q = absurd (true≢false (sym q))

module _ (heads : List ℕ) (speed : ℕ) (g : Timetable) (f : Frame) where
  passed : send_declines heads speed g f ≡ none
      → (timetable_formed g && frame_formed f g.times.clock ≡ true) × (accepted (first_of (transmit_order heads speed (decode_frame f))) ≡ true)
  unfolding send_declines
  passed z = formed_then _ _ (ap accepted z)

  pub declines : (r : Answer) (formed sent offered wrong : Bool) → Checked g formed → sent ≡ frame_formed f g.times.clock → offered ≡ speed_offered speed
      → wrong ≡ list_any (λ n. not (head_offered n)) heads
      → Chain ((not (formed && sent), MalformedPort) ∷ (not offered, Speed) ∷ (is_marked f.present, FrameSending) ∷ (wrong, HeadLength) ∷ []) r
      → Declines heads speed g f r
  unfolding send_declines transmit_order decode_frame
  declines r formed sent offered wrong a b c d e = record {
    is = e.answers ∙ rw (a.is, b, c, d, heads_test (λ n. not (head_offered n)) heads) (sym (rw (mark_there (is_marked f.present) (sent_frame f))));
    fine = λ z.
        let y = both (timetable_formed g) (frame_formed f g.times.clock) (passed z).0 in
        (a.fine (a.is ∙ y.0), frame-fine f g.times.clock y.1);
    offered = λ z.
        let p = order_passed heads speed (decode_frame f) (passed z).1 in
        record { fast = p.speed_offered_lem; short = heads_short heads p.heads_offered };
  }

  -- the ways out

  one_declined : (o : Option Refusal) (w : Refusal) → answer_of o ≡ Err w → o ≡ some w
  one_declined none w e = let z : ◌≡◌ {A = ℕ} 0 1 = cc in absurd (omega arith)
  one_declined (some q) w e = cc

  none_declined : (o : Option Refusal) → answer_of o ≡ (Ok tt) → o ≡ none
  none_declined none e = refl
  none_declined (some q) e = let z : ◌≡◌ {A = ℕ} 0 1 = cc in absurd (omega arith)

  module _ (r : Answer) (d : Declines heads speed g f r) where
    pub decides-refused : (w : Refusal) → r ≡ Err w → Decides heads speed g f (record { answer = Err w; frame = f })
    decides-refused w e =
        let z = one_declined (send_declines heads speed g f) w (sym d.is ∙ e) in
        record {
          answer = sym (ap (λ o. choice_of o (begun heads speed (decode g))) z);
          frame = sym (ap (λ o. cond (accepted o) (encode_frame (begun heads speed (decode g))) f) z);
          fine = d.fine;
        }

    module _ (e : r ≡ (Ok tt)) where
      pub accepts : send_declines heads speed g f ≡ none
      accepts = none_declined (send_declines heads speed g f) (sym d.is ∙ e)

      pub decides-done : (h : Frame) → h ≡ encode_frame (begun heads speed (decode g)) → (x : std.Option Sending) → x ≡ sending_of (decode_frame h)
          → Decides heads speed g f (record { answer = Ok x; frame = h })
      decides-done h i x j = record {
        answer = ap Ok (j ∙ ap sending_of (ap decode_frame i ∙ frame_decoded (begun heads speed (decode g)))) ∙ sym (ap (λ o. choice_of o (begun heads speed (decode g))) accepts);
        frame = i ∙ sym (ap (λ o. cond (accepted o) (encode_frame (begun heads speed (decode g))) f) accepts);
        fine = d.fine;
      }
