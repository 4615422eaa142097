-- Laws of the strides: a stride is a part of the way, and its page has the lines of that part; the parts joined are the whole span, record and lines; the
-- octets of the listing are counted. In order: what a port that is ready has passed; one stride; the strides joined; the three parts of a listing; the listing.
-- Assumes nothing.
use mathlib.Core.Path.{◌≡◌, refl, ap, ap₂, sym, subst, ◌∙◌}
use mathlib.Core.Bool.{Bool, true, false, cond}
use mathlib.Core.List.{List, ◌++◌}
use Prim.Native.Nat.{ℕ, zero, suc, ◌+◌, ◌-◌, ◌*◌, ◌≤◌, ◌<◌, min}
use native.Mathlib.Nat.{sub_self}
use native.Mathlib.Omega.{arith}
use borrow.Author.Tests.{le-ltb}
use lib.Dec.{eqb}
use lib.ListN.{length, take, length-append, length-take}
use Rattle.std.specs.List.{zip}
use Rattle.rule.specs.Limits.{largest_instant, largest_step}
use Rattle.std.specs.Prelude.{Result, Ok, Err}
use Rattle.std.specs.Result.{result_unwrap_or}
use Rattle.rule.specs.declared.Refusal.{Refusal}
use Rattle.rule.specs.Refusals.{first_of, accepted}
use Rattle.rule.specs.Timetable.{shown_now}
use Rattle.rule.specs.Port as model
use Rattle.rule.specs.Orders.{step_order, accepts_goal}
use Rattle.rule.specs.Machine.{ticks, noted, log, reach}
use Rattle.rule.specs.Machines.{machine}
use Rattle.rule.proofs.Cut.{clock-ticks, ticks-add, log-add}
use Rattle.rule.proofs.Laws.{lawful}
use Rattle.rule.proofs.Reach.{stepped, moves}
use Rattle.rule.proofs.Orders.{PassedGoal, goal_passed}
use Rattle.rule.proofs.Sound.{sound-ticks}
use Rattle.port.specs.declared.Port.{Port}
use Rattle.port.specs.declared.Acted.{Acted}
use Rattle.port.specs.Coding.{decode, encode}
use Rattle.port.specs.Checks.{Fine}
use Rattle.port.specs.Answers.{written_of}
use Rattle.port.specs.Step.{passes, reported, after_step, StepsBy, Steps}
use Rattle.port.proofs.Coding.{decode-encode, encoded_fine, clock-encode}
use Rattle.lister.specs.declared.Cut.{Cut}
use Rattle.lister.specs.declared.span.Span.{Span}
use Rattle.lister.specs.Ready.{Ready}
use Rattle.lister.specs.Opening.{steps_to, opening}
use Rattle.lister.specs.Lines.{change_line, change_lines, refused_line, first_line, last_line, span_lines, opening_lines, listing}
use Rattle.lister.specs.Pages.{clock_of, Fills, goes_on, lines_of, OneStride, ListedUpTo, WholeSpan, Opens, Lists}
use Rattle.lister.proofs.Opened.{clock-decode, declines-step}
use Rattle.lister.proofs.Texts.{line_short, zip-columns, lines-append}

-- a port that is ready

goal-accepted : (end : ℕ) (m : model.Port) → end ≤ largest_instant → m.gates.clock ≤ end → end - m.gates.clock ≤ largest_step → accepted (first_of (steps_to end m)) ≡ true
unfolding step_order
goal-accepted end m a b c = simp (le-ltb _ _ a, le-ltb _ _ b, le-ltb _ _ c)

module _ (p : Port) (end : ℕ) (r : Ready p end) where
  pub ready_passed : PassedGoal end (decode p).gates
  unfolding accepts_goal
  ready_passed = goal_passed end (decode p).gates (ap accepted (sym (declines-step p r.fine end)) ∙ r.goal)

  pub ready-ahead : clock_of p ≤ end
  ready-ahead = omega (arith, ready_passed.ahead, clock-decode p)

  -- on the way
  module _ (q : Port) (k : ℕ) (e : q ≡ goes_on p k) where
    pub decoded_on : decode q ≡ ticks machine k (decode p)
    decoded_on = ap decode e ∙ decode-encode (ticks machine k (decode p))

    clock-on : clock_of q ≡ clock_of p + k
    clock-on = ap clock_of e ∙ clock-encode (ticks machine k (decode p)) ∙ clock-ticks machine lawful k (decode p) ∙ ap (λ t. t + k) (clock-decode p)

    module _ (h : clock_of p + k ≤ end) where
      fine-on : Fine q
      fine-on =
          encoded_fine (ticks machine k (decode p)) q
          (sound-ticks k (decode p) (omega (arith, h, clock-decode p, ready_passed.reached)) r.fine.sound) e

      pub ready_on : Ready q end
      ready_on =
          let z = ready_passed in
          let c : (decode q).gates.clock ≡ clock_of p + k = clock-decode q ∙ clock-on in
          record {
            fine = fine-on;
            goal =
                ap accepted (declines-step q fine-on end)
                ∙ goal-accepted end (decode q) z.reached (omega (arith, c, h)) (omega (arith, c, clock-decode p, z.short));
          }

-- no change has more than 24 octets
noted-short : (b : Bool) (n : ℕ) (m : model.Port) (l : List (ℕ × ℕ)) → m.gates.clock < 18_446_744_073_709_551_616 → length (change_lines l) ≤ 24 * n
    → length (change_lines (noted machine b m l)) ≤ 24 * suc n
unfolding noted change_lines
noted-short true n m l h s = omega arith
noted-short false n m l h s =
    omega (arith, s, line_short m.gates.clock (shown_now m.gates) h, length-append (change_line m.gates.clock (shown_now m.gates)) (change_lines l))

log-short : (n : ℕ) (m : model.Port) → m.gates.clock + n < 18_446_744_073_709_551_616 → length (change_lines (log machine n m)) ≤ 24 * n
unfolding log change_lines
log-short zero m h = omega arith
log-short (suc n) m h =
    let t : model.Port = model.port_tick m in
    noted-short (eqb (shown_now m.gates) (shown_now t.gates)) n t (log machine n t) (omega (arith, lawful.clock-tick m)) (log-short n t (omega (arith, lawful.clock-tick m)))

-- one stride

written-there : (r : Result ℕ Refusal) → result_unwrap_or r 0 ≡ written_of r
written-there (Ok n) = refl
written-there (Err q) = refl

moves_on : (n m : ℕ) (s : model.Port) → 0 < n → 0 < m → 0 < reach machine n m s
moves_on zero m s h k = absurd (omega arith)
moves_on (suc n) zero s h k = absurd (omega arith)
moves_on (suc n) (suc m) s h k = moves machine n m s

module _ (w : Span) (at at' os os' : List ℕ) (a : length at ≡ 1024) (o : length os ≡ 1024) (s : Acted ℕ)
    (k : Steps w.port w.end at at' os os' s) where
  -- how far it goes
  far : ℕ
  far = reach machine (w.end - clock_of w.port) 1024 (decode w.port)

  room-is : min (length at) (length os) ≡ 1024
  room-is = omega (arith, a, o)

  passes-far : passes w.port w.end (min (length at) (length os)) ≡ far
  unfolding passes far
  passes-far =
      ap (λ b. cond b (reach machine (w.end - clock_of w.port) (min (length at) (length os)) (decode w.port)) 0) w.ready.goal
      ∙ ap (λ n. reach machine (w.end - clock_of w.port) n (decode w.port)) room-is

  by_far : StepsBy far w.port w.end at at' os os' s
  by_far = subst (λ n. StepsBy n w.port w.end at at' os os' s) passes-far k

  changes-far : List (ℕ × ℕ)
  changes-far = log machine far (decode w.port)

  reported-far : reported w.port far ≡ changes-far
  unfolding reported changes-far
  reported-far = refl

  stride-port : s.port ≡ goes_on w.port far
  unfolding after_step
  stride-port = by_far.port ∙ ap (λ b. cond b (encode (ticks machine far (decode w.port))) w.port) w.ready.goal

  far-clock : far ≡ clock_of s.port - clock_of w.port
  far-clock = omega (arith, clock-on w.port w.end w.ready s.port far stride-port)

  within-far : far ≤ w.end - clock_of w.port
  unfolding far
  within-far = (stepped machine (w.end - clock_of w.port) 1024 (decode w.port)).within

  few-far : length changes-far ≤ 1024
  unfolding changes-far far
  few-far =
      omega (
        arith,
        ap length (stepped machine (w.end - clock_of w.port) 1024 (decode w.port)).first,
        length-take 1024 (log machine (w.end - clock_of w.port) (decode w.port)),
      )

  pub stride_ready : Ready s.port w.end
  stride_ready = ready_on w.port w.end w.ready s.port far stride-port (omega (arith, within-far, ready-ahead w.port w.end w.ready))

  module _ (n : ℕ) (i : n ≡ result_unwrap_or s.answer 0) where
    stride-count : n ≡ length changes-far
    stride-count = i ∙ written-there s.answer ∙ by_far.written ∙ ap length reported-far

    pub stride-fits : (column : List ℕ) → length column ≡ 1024 → n ≤ length column
    stride-fits column e = omega (arith, e, stride-count, few-far)

    pub stride-first : (column : List ℕ) → length column ≡ 1024 → n ≡ length (take n column)
    stride-first column e = omega (arith, length-take n column, stride-fits column e)

    -- the page
    pub stride-strides : {g : Ready s.port w.end} → clock_of w.port < w.end → (page page' : List ℕ) (used : ℕ)
        → Fills (change_lines (zip (take n at') (take n os'))) page page' used
        → OneStride w page page' (record { port = s.port; end = w.end; ready = g }, used)
    unfolding far changes-far
    stride-strides h page page' used f =
        let c = clock-on w.port w.end w.ready s.port far stride-port in
        let l : List (ℕ × ℕ) = reported w.port far in
        let m : n ≡ length l = stride-count ∙ ap length (sym reported-far) in
        let t : change_lines (zip (take n at') (take n os')) ≡ lines_of w.port far =
        (λ j. change_lines (zip (take (m j) (by_far.instants j)) (take (m j) (by_far.octets j)))) ∙ ap change_lines (zip-columns l at os ∙ reported-far) in
        record {
          onward = omega (arith, c, moves_on (w.end - clock_of w.port) 1024 (decode w.port) (omega arith) (omega arith));
          within = omega (arith, c, within-far, ready-ahead w.port w.end w.ready);
          end = refl;
          port = stride-port ∙ ap (goes_on w.port) far-clock;
          lines = subst (λ x. Fills x page page' used) (t ∙ ap (lines_of w.port) far-clock) f;
        }

-- the strides joined

pub upto-start : (s : Span) → ListedUpTo s s 0
unfolding ticks log change_lines
upto-start s = record {
  from = omega arith;
  end = refl;
  port = sym s.ready.fine.whole ∙ ap (λ k. encode (ticks machine k (decode s.port))) (sym (sub_self (clock_of s.port)));
  count = ap (λ k. length (change_lines (log machine k (decode s.port)))) (sym (sub_self (clock_of s.port)));
}

module _ {s t : Span} {octets : ℕ} (w : ListedUpTo s t octets) where
  upto-end : clock_of t.port ≤ s.end
  upto-end = omega (arith, ready-ahead t.port t.end t.ready, w.end)

  pub upto-few : octets ≤ 24_000_000_000
  upto-few =
      let z = ready_passed s.port s.end s.ready in
      let c = clock-decode s.port in
      omega (
        arith,
        w.count,
        w.from,
        upto-end,
        z.short,
        z.reached,
        c,
        log-short (clock_of t.port - clock_of s.port) (decode s.port) (omega (arith, w.from, upto-end, z.reached, c)),
      )

  pub upto-more : {page page' : List ℕ} {r : Span × ℕ} → OneStride t page page' r → {n : ℕ} → n ≡ r.1 → ListedUpTo s r.0 (octets + n)
  upto-more {r = r} x {n} i =
      let k : ℕ = clock_of t.port - clock_of s.port in
      let j : ℕ = clock_of r.0.port - clock_of t.port in
      let e : clock_of r.0.port - clock_of s.port ≡ k + j = omega (arith, w.from, x.onward) in
      let m : model.Port = decode s.port in
      let d : decode t.port ≡ ticks machine k m = decoded_on s.port s.end s.ready t.port k w.port in
      let l : lines_of s.port (k + j) ≡ _ =
      ap change_lines (log-add machine lawful k j m) ∙ lines-append (log machine k m) (log machine j (ticks machine k m)) in
      record {
        from = omega (arith, w.from, x.onward);
        end = x.end ∙ w.end;
        port = x.port ∙ ap (λ q. encode (ticks machine j q)) d ∙ ap encode (sym (ticks-add machine lawful k j m)) ∙ ap (goes_on s.port) (sym e);
        count =
            ap₂ ◌+◌ w.count (i ∙ x.lines.count ∙ ap (λ q. length (change_lines (log machine j q))) d)
            ∙ sym (length-append (lines_of s.port k) (change_lines (log machine j (ticks machine k m))))
            ∙ ap length (sym l) ∙ ap (λ n. length (lines_of s.port n)) (sym e);
      }

  pub upto_span : t.end ≤ clock_of t.port → WholeSpan s (t, octets)
  upto_span h =
      let e : clock_of t.port - clock_of s.port ≡ s.end - clock_of s.port = omega (arith, h, upto-end, w.end) in
      record { few = upto-few; port = w.port ∙ ap (goes_on s.port) e; count = w.count ∙ ap (λ k. length (lines_of s.port k)) e }

-- the parts of a listing

module _ {s : Span} {r : Span × ℕ} (k : WholeSpan s r) where
  pub walked-count : {first last : ℕ} → first ≡ length (first_line (decode s.port)) → last ≡ length (last_line (decode r.0.port))
      → first + r.1 + last ≡ length (span_lines (s.end - clock_of s.port) (decode s.port))
  unfolding span_lines
  walked-count {first} {last} a b =
      let n : ℕ = s.end - clock_of s.port in
      let m : model.Port = decode s.port in
      let d : decode r.0.port ≡ ticks machine n m = decoded_on s.port s.end s.ready r.0.port n k.port in
      let c : last ≡ length (last_line (ticks machine n m)) = b ∙ ap (λ q. length (last_line q)) d in
      omega (
        arith,
        a,
        c,
        k.count,
        length-append (change_lines (log machine n m)) (last_line (ticks machine n m)),
        length-append (first_line m) (change_lines (log machine n m) ++ last_line (ticks machine n m)),
      )

-- the listing of a sheet, by what it is opened as

module _ (s : List ℕ) (y : Result ℕ Cut) where
  pub list_refused : (r : Refusal) → Opens (opening s) (Err r) → Lists (refused_line r) y → Lists (listing s) y
  unfolding listing
  list_refused r z l = subst (λ o. Lists (opening_lines o) y) z.is l

  pub list_spanned : (o : Span) → Opens (opening s) (Ok o) → Lists (span_lines (o.end - clock_of o.port) (decode o.port)) y → Lists (listing s) y
  unfolding listing
  list_spanned o z l =
      subst (λ x. Lists (opening_lines x) y) z.is
      (subst (λ t. Lists (span_lines (o.end - t) (decode o.port)) y) (sym (clock-decode o.port)) l)
