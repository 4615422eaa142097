-- Laws of opening a sheet: a sound record is well formed, and what it shows; refusals; a step's refusal; an act and a new port; the list's reading; the whole sheet. The order
-- itself, refusal by refusal, is in `Order`.
-- Assumes nothing.
use mathlib.Core.Path.{◌≡◌, refl, ap, sym, subst, ◌∙◌}
use mathlib.Core.Bool.{Bool, true, false, cond, true≢false}
use mathlib.Core.List.{List, [], ◌∷◌, ◌++◌}
use mathlib.Core.Option.{Option, none, some}
use Prim.Native.Nat.{ℕ, ◌≤◌}
use native.Mathlib.Omega.{arith}
use borrow.Author.Tests.{le-ltb}
use Rattle.rule.specs.Limits.{largest_instant}
use Rattle.std.specs.Prelude.{Result, Ok, Err}
use Rattle.std.specs.Result.{result_unwrap_or, IsErrAnd}
use Rattle.std.proofs.lemmas.Result.{err_from_is_err_and}
use Rattle.rule.specs.declared.Refusal.{Refusal}
use Rattle.rule.specs.Refusals.{first_of, accepted, number_of, numbered, number_in}
use Rattle.rule.specs.Entries.{Entry}
use Rattle.rule.specs.Timetable.{shown, shown_now}
use Rattle.rule.specs.Port as model
use Rattle.rule.specs.Acts.{Act, perform}
use Rattle.rule.specs.Orders.{act_order, look_order, new_order, accepts}
use Rattle.rule.proofs.Refusals.{number_same, number-some, refusal_told, none_some}
use Rattle.rule.proofs.Orders.{new_passed}
use Rattle.rule.proofs.Sound.{sound-perform, sound-new}
use Rattle.gatelist.specs.declared.GateList.{GateList}
use Rattle.gatelist.specs.Coding.{list_of, encode_list}
use Rattle.gatelist.proofs.Coding.{list_decoded}
use Rattle.octets.specs.declared.ReadError.{ReadError}
use Rattle.octets.specs.Octets.{Reading, reading, reading_of, read_list, read_refusal}
use Rattle.timetable.specs.Coding as timetable
use Rattle.port.specs.declared.Port.{Port}
use Rattle.port.specs.declared.Acted.{Acted}
use Rattle.port.specs.Record.{well_formed}
use Rattle.port.specs.Coding.{decode, encode}
use Rattle.port.specs.Checks.{Fine}
use Rattle.port.specs.Answers.{looked_octet, stepped_number}
use Rattle.port.specs.Acts.{declines, after, Performs, Makes, look_declines, Looks}
use Rattle.port.specs.Step.{step_declines}
use Rattle.port.proofs.Coding.{decode-encode, formed, encoded_fine}
use Rattle.sheet.specs.declared.Sheet.{Sheet}
use Rattle.sheet.specs.Sheet.{read_sheet}
use Rattle.lister.specs.declared.span.Span.{Span}
use Rattle.lister.specs.Ready.{Ready}
use Rattle.lister.specs.Opening.{Opening, refused, spans, steps_to, unless_refused, unless_declined, list_octets, entries_of, switch_on, submits, switched_port, submitted_port, calls_order, opening_with, opening_of, opening}
use Rattle.lister.specs.Pages.{clock_of, errors_of, Opens}

pub fine-formed : (p : Port) → Fine p → well_formed p ≡ true
fine-formed p f = subst (λ q. well_formed q ≡ true) f.whole (formed (decode p) f.sound)

-- a record's clock and ConfigChangeError are those of its port
pub clock-decode : (p : Port) → (decode p).gates.clock ≡ clock_of p
unfolding decode timetable.decode
clock-decode p = refl

pub errors-decode : (p : Port) → (decode p).gates.errors ≡ errors_of p
unfolding decode timetable.decode
errors-decode p = refl

-- the octet that it shows there

octet-there : (r : Result ℕ Refusal) → result_unwrap_or r 0 ≡ looked_octet r
octet-there (Ok o) = refl
octet-there (Err q) = refl

module _ (s : Span) (r : Result ℕ Refusal) (k : Looks s.port (clock_of s.port) r) where
  look-taken : look_declines (clock_of s.port) s.port ≡ none
  unfolding look_declines look_order
  look-taken =
      simp (
        fine-formed s.port s.ready.fine,
        le-ltb largest_instant (clock_of s.port) (subst (λ t. t ≤ largest_instant) (clock-decode s.port) s.ready.fine.sound.gates.clock),
        le-ltb (clock_of s.port) (decode s.port).gates.clock (omega (arith, clock-decode s.port)),
      )

  pub look_shown : result_unwrap_or r 0 ≡ shown_now (decode s.port).gates
  unfolding shown_now
  look_shown =
      octet-there r ∙ k.octet ∙ ap (λ o. cond (accepted o) (shown (decode s.port).gates (clock_of s.port)) 0) look-taken
      ∙ ap (shown (decode s.port).gates) (sym (clock-decode s.port))

-- refusals

opens_refused : (o : Option Refusal) (y : Opening) (r : Refusal) → o ≡ some r → Opens (unless_refused o y) (Err r)
opens_refused o y r e = record { is = ap (λ q. unless_refused q y) (sym e) }

-- what a `?` returns
pub opens_exit : {x : Result Span Refusal} {q : Refusal} {y : Opening} → IsErrAnd x (λ e. e ≡ q) → Opens y (Err q) → Opens y x
opens_exit {x} {q} {y} i o = let p = err_from_is_err_and x i in rw (p.1, p.2) o

-- one order behind another
first_passed : (a b : List (Bool × Refusal)) → first_of a ≡ none → first_of (a ++ b) ≡ first_of b
first_passed [] b e = refl
first_passed (x ∷ a) b e = go x.0 (first_passed a b) e
  where
    go : (t : Bool) → (first_of a ≡ none → first_of (a ++ b) ≡ first_of b) → cond t (some x.1) (first_of a) ≡ none
        → cond t (some x.1) (first_of (a ++ b)) ≡ first_of b
    go true ih q = absurd (true≢false (sym (ap accepted q)))
    go false ih q = ih q

first-met : (a b : List (Bool × Refusal)) (r : Refusal) → first_of a ≡ some r → first_of (a ++ b) ≡ some r
first-met [] b r e = absurd (true≢false (ap accepted e))
first-met (x ∷ a) b r e = go x.0 (first-met a b r) e
  where
    go : (t : Bool) → (first_of a ≡ some r → first_of (a ++ b) ≡ some r) → cond t (some x.1) (first_of a) ≡ some r
        → cond t (some x.1) (first_of (a ++ b)) ≡ some r
    go true ih q = q
    go false ih q = ih q

-- what an answer tells of its order

module _ {T : Type 0} where
  pub refused-told : (o : Option Refusal) (x : Result T Refusal) (r : Refusal) → number_in x ≡ numbered o → x ≡ Err r → o ≡ some r
  refused-told none x r k e = absurd (none_some (number_of r) (sym k ∙ ap number_in e))
  refused-told (some q) x r k e = ap some (refusal_told q r (sym k ∙ ap number_in e))

  taken-told : (o : Option Refusal) (x : Result T Refusal) (v : T) → number_in x ≡ numbered o → x ≡ Ok v → o ≡ none
  taken-told none x v k e = refl
  taken-told (some q) x v k e = absurd (none_some (number_of q) (sym (ap number_in e) ∙ k))

-- a step with any room

module _ (p : Port) (f : Fine p) (end : ℕ) where
  pub declines-step : step_declines end p ≡ first_of (steps_to end (decode p))
  unfolding step_declines
  declines-step = rw (fine-formed p f)

-- an act

module _ (a : Act) (p : Port) (f : Fine p) (r : Acted Unit) (k : Performs a p r) where
  declines-act : declines a p ≡ first_of (act_order a (decode p))
  unfolding declines
  declines-act = rw (fine-formed p f)

  act-refused : (q : Refusal) → r.answer ≡ Err q → first_of (act_order a (decode p)) ≡ some q
  act-refused q e = sym declines-act ∙ refused-told (declines a p) r.answer q k.number e

  act-done : r.answer ≡ (Ok tt) → first_of (act_order a (decode p)) ≡ none
  act-done e = sym declines-act ∙ taken-told (declines a p) r.answer tt k.number e

  module _ (e : first_of (act_order a (decode p)) ≡ none) where
    act-port : r.port ≡ encode (perform a (decode p))
    unfolding after
    act-port = k.port ∙ ap (λ o. cond (accepted o) (encode (perform a (decode p))) p) (declines-act ∙ e)

    act_decoded : decode r.port ≡ perform a (decode p)
    act_decoded = ap decode act-port ∙ decode-encode (perform a (decode p))

    act-fine : Fine r.port
    unfolding accepts
    act-fine = encoded_fine (perform a (decode p)) r.port (sound-perform a (decode p) (ap accepted e) f.sound) act-port

-- a new port

module _ (start octet : ℕ) (r : Acted Unit) (k : Makes start octet r) where
  new-refused : (q : Refusal) → r.answer ≡ Err q → first_of (new_order start) ≡ some q
  new-refused q e = refused-told (first_of (new_order start)) r.answer q k.number e

  new-done : r.answer ≡ (Ok tt) → first_of (new_order start) ≡ none
  new-done e = taken-told (first_of (new_order start)) r.answer tt k.number e

  module _ (e : first_of (new_order start) ≡ none) where
    new_port_lem : r.port ≡ encode (model.new_port start octet)
    new_port_lem = k.port ∙ rw e

    new_decoded : decode r.port ≡ model.new_port start octet
    new_decoded = ap decode new_port_lem ∙ decode-encode (model.new_port start octet)

    new-fine : Fine r.port
    new-fine = encoded_fine (model.new_port start octet) r.port (sound-new start octet (new_passed start (ap accepted e))) new_port_lem

-- the calls of a sheet, one after the other; l is the list read

module _ (h : Sheet) (l : List Entry) {r : Acted Unit} (k : Makes h.start h.standing r) where
  pub new-opens : {q : Refusal} → r.answer ≡ Err q → Opens (opening_with h l) (Err q)
  unfolding opening_with calls_order
  new-opens {q} e = opens_refused _ _ q (first-met (new_order h.start) _ q (new-refused h.start h.standing r k q e))

  module _ (e : r.answer ≡ Ok tt) {s : Acted Unit} (m : Performs switch_on r.port s) where
    made : first_of (new_order h.start) ≡ none
    made = new-done h.start h.standing r k e

    made_fine : Fine r.port
    made_fine = new-fine h.start h.standing r k made

    on_fine : Fine s.port
    on_fine = act-fine switch_on r.port made_fine s m refl

    on_decoded : decode s.port ≡ switched_port h
    on_decoded = act_decoded switch_on r.port made_fine s m refl ∙ ap (perform switch_on) (new_decoded h.start h.standing r k made)

    -- the order behind new and on
    submit_left : first_of (calls_order h l) ≡ first_of (act_order (submits h l) (decode s.port) ++ steps_to h.end (submitted_port h l))
    unfolding calls_order
    submit_left =
        first_passed (new_order h.start) _ made
        ∙ ap (λ p. first_of (act_order (submits h l) p ++ steps_to h.end (submitted_port h l))) (sym on_decoded)

    -- what is opened behind new and on is what is opened
    pub with-done : (x : Result Span Refusal)
        → Opens (unless_refused (first_of (act_order (submits h l) (decode s.port) ++ steps_to h.end (perform (submits h l) (decode s.port)))) (spans (perform (submits h l) (decode s.port)) h.end)) x
        → Opens (opening_with h l) x
    unfolding opening_with
    with-done x z =
        subst (λ o. Opens (unless_refused o (spans (submitted_port h l) h.end)) x) (sym submit_left)
        (subst (λ p. Opens (unless_refused (first_of (act_order (submits h l) (decode s.port) ++ steps_to h.end (perform (submits h l) p))) (spans (perform (submits h l) p) h.end)) x) on_decoded z)

    module _ {d : Acted Unit} (t : Performs (submits h l) s.port d) where
      pub submit-opens : {q : Refusal} → d.answer ≡ Err q → Opens (opening_with h l) (Err q)
      submit-opens {q} w =
          with-done (Err q) (opens_refused _ _ q (first-met (act_order (submits h l) (decode s.port)) _ q (act-refused (submits h l) s.port on_fine d t q w)))

      module _ (w : d.answer ≡ Ok tt) where
        submitted : first_of (act_order (submits h l) (decode s.port)) ≡ none
        submitted = act-done (submits h l) s.port on_fine d t w

        submit_fine : Fine d.port
        submit_fine = act-fine (submits h l) s.port on_fine d t submitted

        submit_decoded : decode d.port ≡ submitted_port h l
        submit_decoded = act_decoded (submits h l) s.port on_fine d t submitted ∙ ap (perform (submits h l)) on_decoded

        -- and behind submit
        step_left : first_of (calls_order h l) ≡ step_declines h.end d.port
        step_left =
            submit_left ∙ first_passed (act_order (submits h l) (decode s.port)) _ submitted ∙ ap (λ p. first_of (steps_to h.end p)) (sym submit_decoded)
            ∙ sym (declines-step d.port submit_fine h.end)

        module _ {x : Result ℕ Refusal} (v : stepped_number x ≡ numbered (step_declines h.end d.port)) where
          pub step-opens : {q : Refusal} → x ≡ Err q → Opens (opening_with h l) (Err q)
          unfolding opening_with
          step-opens {q} i = opens_refused _ _ q (step_left ∙ refused-told (step_declines h.end d.port) x q v i)

          module _ {n : ℕ} (i : x ≡ Ok n) where
            step_taken : step_declines h.end d.port ≡ none
            step_taken = taken-told (step_declines h.end d.port) x n v i

            pub submit_ready : Ready d.port h.end
            submit_ready = record { fine = submit_fine; goal = ap accepted step_taken }

            pub spans-opens : {g : Ready d.port h.end} → Opens (opening_with h l) (Ok (record { port = d.port; end = h.end; ready = g }))
            unfolding opening_with
            spans-opens = record {
              is = ap (λ p. spans p h.end) submit_decoded ∙ ap (λ q. unless_refused q (spans (submitted_port h l) h.end)) (sym (step_left ∙ step_taken));
            }

-- the list's reading

read-accepted : (o : Option (Refusal × ℕ)) (l m : GateList) → reading_of (Ok m) ≡ reading o l → (o ≡ none) × (m ≡ l)
read-accepted none l m e = (refl, ap (λ (z : Reading). z.list) e)
read-accepted (some q) l m e = absurd (number-some q.0 (sym (ap (λ (z : Reading). z.number) e)))

read-declined : (o : Option (Refusal × ℕ)) (l : GateList) (d : ReadError) (y : Opening) → reading_of (Err d) ≡ reading o l
    → unless_declined o y ≡ refused d.refusal
read-declined none l d y e = absurd (number-some d.refusal (ap (λ (z : Reading). z.number) e))
read-declined (some q) l d y e = ap refused (sym (number_same d.refusal q.0 (ap (λ (z : Reading). z.number) e)))

-- the sheet

module _ (s : List ℕ) where
  pub sheet_malformed : {r : Refusal} → read_sheet s ≡ Err r → Opens (opening s) (Err r)
  unfolding opening
  sheet_malformed e = record { is = ap (opening_of s) (sym e) }

  module _ {h : Sheet} (e : read_sheet s ≡ Ok h) where
    pub sheet_declined : {d : ReadError} → reading_of (Err d) ≡ read_list (list_octets s h) h.length → Opens (opening s) (Err d.refusal)
    unfolding opening read_list
    sheet_declined {d} k = record {
      is = sym (ap (opening_of s) e ∙ read-declined (read_refusal (list_octets s h) h.length) _ d (opening_with h (entries_of s h)) k);
    }

    pub sheet_accepted : {m : GateList} {x : Result Span Refusal} → reading_of (Ok m) ≡ read_list (list_octets s h) h.length
        → Opens (opening_with h (list_of m)) x → Opens (opening s) x
    unfolding opening read_list
    sheet_accepted {m} {x} k z =
        let w = read-accepted (read_refusal (list_octets s h) h.length) (encode_list (entries_of s h)) m k in
        let d : list_of m ≡ entries_of s h = ap list_of w.1 ∙ list_decoded (entries_of s h) in
        subst (λ y. Opens (opening_of s y) x) (sym e)
        (subst (λ o. Opens (unless_declined o (opening_with h (entries_of s h))) x) (sym w.0) (subst (λ l. Opens (opening_with h l) x) d z))
