-- What a frame met in a step, read back from the changes that the step wrote: change by change, until one meets a closed gate, the frame has ended, or no
-- change is left.
-- Assumes nothing.
use Rattle.std.proofs.Common.{◌≡◌, ℕ, suc, ◌+◌, ◌-◌, ◌<◌, ◌≤◌, max, Bool, true, false, ◌||◌, List, [], map, length, get_or, drop, sym, refl, ap, ◌∙◌, subst, ap₂, add-one, arith, drop_of_length-le, drop-cons}
use mathlib.Core.Path.{subst⁻¹}
use mathlib.Core.Option.{Option, none}
use lib.ListN.{length-map, get_or-append}
use Rattle.std.proofs.lemmas.List.{get_or-map}
use Rattle.rule.specs.Port.{Frame, last_octet_at}
use Rattle.rule.specs.History.{changes}
use Rattle.rule.proofs.Jump.{meets, meets_none}
use Rattle.rule.proofs.Walk.{First, ReadBack, read_back, shut_in, meets-more, meets-later, meets-ended}
use Rattle.timetable.specs.Record.{is_marked}
use Rattle.timetable.specs.Coding.{present}
use Rattle.course.specs.Columns.{into}
use Rattle.frames.specs.declared.Frame as record-frame
use Rattle.frames.specs.Frame.{sent_frame, decode_frame}
use Rattle.port.specs.Meeting.{Holds, MetBy}

-- a place of a column of the changes l that was written
get_d_into : (f : ℕ × ℕ → ℕ) (l : List (ℕ × ℕ)) (buf now : List ℕ) (i : ℕ) → now ≡ into (map f l) buf → i < length l → get_or now i 0 ≡ f (get_or l i (0, 0))
unfolding into
get_d_into f l buf now i e h =
    ap (λ r. get_or r i 0) e ∙ get_or-append (map f l) _ 0 i (omega (arith, length-map l f)) ∙ get_or-map f l i (0, 0) 0 h

meets_nothing : (g : ℕ → ℕ) (c n : ℕ) → meets g c n none ≡ false
unfolding meets
meets_nothing g c n = refl

module _ (g : ℕ → ℕ) (clock end n : ℕ) (at os : List ℕ) (w : Holds g clock end n at os) where
  abbrev told : List (ℕ × ℕ)
  told = changes g clock (end - clock)

  -- the changes before place i are behind, the last of them at `from`; no closed gate was met before `from`, nor up to the clock
  pub record Behind (r : Option Frame) (i from shown : ℕ) : Type 0 where
    pub later : clock ≤ from
    pub upto : from ≤ end
    pub shows : shown ≡ g from
    pub rest : drop i (changes g clock (end - clock)) ≡ changes g from (end - from)
    pub free : meets g clock (max from (clock + 1) - 1 - clock) r ≡ false

  behind-start : (r : Option Frame) (shown : ℕ) → shown ≡ g clock → Behind r 0 clock shown
  behind-start r shown e =
      let z : max clock (clock + 1) - 1 - clock ≡ 0 = omega arith in
      record {
        later = omega arith;
        upto = w.from;
        shows = e;
        rest = refl;
        free = ap (λ k. meets g clock k r) z ∙ meets_none g clock r;
      }

  module _ (r : Option Frame) (i from shown : ℕ) (k : Behind r i from shown) where
    -- up to before hi what is shown is what was shown at `from`
    met-upto : (hi : ℕ) → from < hi → hi ≤ end + 1 → ((v : ℕ) → from ≤ v → v < hi → g v ≡ g from)
        → shut_in r shown (max from (clock + 1)) hi ≡ meets g clock (hi - 1 - clock) r
    met-upto hi a b same =
        let l = k.later in
        let e : max from (clock + 1) ≡ (max from (clock + 1) - 1) + 1 = omega arith in
        let e' : hi ≡ (hi - 1) + 1 = omega arith in
        ap₂ (λ x y. shut_in r shown x y) e e'
        ∙ ap (λ b. b || shut_in r shown ((max from (clock + 1) - 1) + 1) ((hi - 1) + 1)) (sym k.free)
        ∙ meets-more g clock (max from (clock + 1) - 1) (hi - 1) shown r (omega arith) (omega arith)
        (λ v p q. same v (omega arith) (omega arith) ∙ sym k.shows)

    -- a change is left: the next
    module _ (h : i < n) where
      next : First g from (end - from) (get_or told i (0, 0)) (drop (suc i) told)
      next =
          subst (ReadBack g from (end - from)) (sym k.rest ∙ drop-cons told i (0, 0) (omega (arith, w.count))) (read_back g from (end - from))

      change_is : get_or at i 0 ≡ (get_or told i (0, 0)).0
      change_is = get_d_into (λ (x : ℕ × ℕ). x.0) told w.at₀ at i w.instants (omega (arith, w.count))

      octet-is : get_or os i 0 ≡ (get_or told i (0, 0)).1
      octet-is = get_d_into (λ (x : ℕ × ℕ). x.1) told w.os₀ os i w.octets (omega (arith, w.count))

      change_after : (from < get_or at i 0) × (get_or at i 0 ≤ end)
      change_after = let x = next in let e = change_is in let u = k.upto in (omega (arith, x.after), omega (arith, x.upto))

      met_change : shut_in r shown (max from (clock + 1)) (get_or at i 0) ≡ meets g clock (get_or at i 0 - 1 - clock) r
      met_change =
          let x = next in
          let e = change_is in
          let a = change_after in
          met-upto (get_or at i 0) a.0 (omega (arith, a.1)) (λ v p q. x.same v p (omega arith))

      -- the gate was closed before the change; the frame ends by then; neither
      behind-met : shut_in r shown (max from (clock + 1)) (get_or at i 0) ≡ true → true ≡ meets g clock (end - clock) r
      behind-met e =
          let a = change_after in
          sym (meets-later g clock (get_or at i 0 - 1 - clock) (end - clock) r (omega arith) (sym met_change ∙ e))

      behind_over : (b : Bool) (f : Frame) → r ≡ present b f → shut_in r shown (max from (clock + 1)) (get_or at i 0) ≡ false → last_octet_at f ≤ get_or at i 0
          → false ≡ meets g clock (end - clock) r
      behind_over true f q e l =
          let a = change_after in
          let b = k.later in
          sym e ∙ met_change ∙ ap (meets g clock (get_or at i 0 - 1 - clock)) q
          ∙ sym (meets-ended g clock (get_or at i 0 - 1) end f (omega arith) (omega arith) (omega arith))
          ∙ ap (meets g clock (end - clock)) (sym q)
      behind_over false f q e l = sym (ap (meets g clock (end - clock)) q ∙ meets_nothing g clock (end - clock))

      behind_more : shut_in r shown (max from (clock + 1)) (get_or at i 0) ≡ false → Behind r (i + 1) (get_or at i 0) (get_or os i 0)
      behind_more e =
          let x = next in
          let q = change_is in
          let a = change_after in
          let b = k.later in
          let u = k.upto in
          let c : ℕ = (get_or told i (0, 0)).0 in
          let d : from + (end - from) - c ≡ end - c = omega arith in
          let z : max (get_or at i 0) (clock + 1) - 1 - clock ≡ get_or at i 0 - 1 - clock = omega (arith, a.0) in
          record {
            later = omega arith;
            upto = a.1;
            shows = octet-is ∙ x.shows ∙ ap g (sym q);
            rest = ap (λ m. drop m told) (add-one i) ∙ x.rest ∙ ap (changes g c) d ∙ ap (λ v. changes g v (end - v)) (sym q);
            free = ap (λ m. meets g clock m r) z ∙ sym met_change ∙ e;
          }

    -- no change is left
    behind-last : n ≤ i → shut_in r shown (max from (clock + 1)) (end + 1) ≡ meets g clock (end - clock) r
    behind-last h =
        let u = k.upto in
        let still : ReadBack g from (end - from) [] =
        subst (ReadBack g from (end - from)) (sym k.rest ∙ drop_of_length-le told {i = i} (omega (arith, w.count))) (read_back g from (end - from)) in
        let e : end + 1 - 1 ≡ end = omega arith in
        met-upto (end + 1) (omega arith) (omega arith) (λ v a b. still v a (omega arith)) ∙ ap (λ v. meets g clock (v - clock) r) e

-- the same for every function whose changes these are: what the loop of `met` keeps, and its ways out

module _ (f : record-frame.Frame) (octet clock end n : ℕ) (at os : List ℕ) where
  abbrev pub Back : ℕ → ℕ → ℕ → Type 0
  Back i from shown = (g : ℕ → ℕ) (w : Holds g clock end n at os) → octet ≡ g clock → Behind g clock end n at os w (decode_frame f) i from shown

  pub back_start : Back 0 clock octet
  back_start g w o = behind-start g clock end n at os w (decode_frame f) octet o

  module _ (i from shown : ℕ) (k : Back i from shown) (lo : ℕ) (first : lo ≡ max from (clock + 1)) where
    -- the test, with the instant at which it begins
    tested : (hi : ℕ) (b : Bool) → b ≡ shut_in (decode_frame f) shown lo hi → shut_in (decode_frame f) shown (max from (clock + 1)) hi ≡ b
    tested hi b e = sym (e ∙ ap (λ v. shut_in (decode_frame f) shown v hi) first)

    module _ (h : i < n) (change : ℕ) (is : change ≡ get_or at i 0) (b : Bool) (shut : b ≡ shut_in (decode_frame f) shown lo change) where
      shut_here : shut_in (decode_frame f) shown (max from (clock + 1)) (get_or at i 0) ≡ b
      shut_here = subst (λ v. shut_in (decode_frame f) shown (max from (clock + 1)) v ≡ b) is (tested change b shut)

      pub back-met : b ≡ true → MetBy f octet clock end n at os true
      back-met e g w o = behind-met g clock end n at os w (decode_frame f) i from shown (k g w o) h (shut_here ∙ e)

      pub back_over : b ≡ false → f.last ≤ change → MetBy f octet clock end n at os false
      unfolding decode_frame last_octet_at
      back_over e l g w o =
          behind_over g clock end n at os w (decode_frame f) i from shown (k g w o) h (is_marked f.present) (sent_frame f) refl (shut_here ∙ e) (omega arith)

      pub back_more : b ≡ false → (next : ℕ) → next ≡ get_or os i 0 → Back (i + 1) change next
      back_more e next z g w o =
          subst⁻¹ (λ v. Behind g clock end n at os w (decode_frame f) (i + 1) v next) is
          (subst⁻¹ (λ v. Behind g clock end n at os w (decode_frame f) (i + 1) (get_or at i 0) v) z
          (behind_more g clock end n at os w (decode_frame f) i from shown (k g w o) h (shut_here ∙ e)))

    pub back_last : n ≤ i → (b : Bool) → b ≡ shut_in (decode_frame f) shown lo (end + 1) → MetBy f octet clock end n at os b
    back_last h b e g w o = sym (tested (end + 1) b e) ∙ behind-last g clock end n at os w (decode_frame f) i from shown (k g w o) h

-- no frame meets nothing
pub none_met : (f : record-frame.Frame) → is_marked f.present ≡ false → (g : ℕ → ℕ) (c n : ℕ) → false ≡ meets g c n (decode_frame f)
unfolding decode_frame
none_met f e g c n = sym (ap (λ b. meets g c n (present b (sent_frame f))) e ∙ meets_nothing g c n)
