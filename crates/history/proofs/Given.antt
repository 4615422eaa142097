-- Whatever a contract allows, a call hands back what its definition says: the record, the changes in the written places of the buffers, the act that was
-- done (`next-is`, `written_is`, `done-is`); so a program that knows the contracts alone has what `run` says (`outcome-is`). And every contract can be
-- kept, whatever the calls (`events_kept`, `events_calls`). For any record, malformed ones too.
-- Assumes nothing.
use mathlib.Core.Path.{◌≡◌, refl, ap, ap₂, sym, ◌∙◌}
use mathlib.Core.Bool.{cond}
use mathlib.Core.List.{List, [], ◌∷◌, ◌++◌, map}
use mathlib.Core.Option.{Option, none, some}
use Prim.Native.Nat.{ℕ}
use lib.Dec.{eqb}
use lib.ListN.{length, take, drop, length-map}
use borrow.Author.Tests.{ne_eqb}
use Rattle.rule.specs.declared.Refusal.{Refusal}
use Rattle.rule.specs.Refusals.{number_of, accepted}
use Rattle.rule.specs.Answers.{answer_of}
use Rattle.rule.specs.Timetable.{shown}
use Rattle.rule.specs.Port.{Frame}
use Rattle.rule.specs.Acts as rule
use Rattle.rule.specs.Machine.{Outcome, Try, log}
use Rattle.rule.proofs.Refusals.{number-some}
use Rattle.frames.specs.Decision.{choice_of}
use Rattle.frames.proofs.Unique.{choice_told}
use Rattle.port.specs.declared.Port.{Port}
use Rattle.port.specs.Coding.{decode}
use Rattle.port.specs.Answers.{written_of}
use Rattle.course.specs.Columns.{into, instants_of, octets_of}
use Rattle.port.specs.Acts.{declines, after, look_declines}
use Rattle.port.specs.Step.{step_declines, passes, reported, after_step}
use Rattle.port.proofs.Numbers.{number_of_lem, answer-told, looked_of, looked_number_lem, looked_octet_lem, stepped_of, stepped-number, choice_number_lem}
use Rattle.driver.specs.declared.Answer as driver
use Rattle.driver.specs.Lent.{answer_for, answer_to}
use Rattle.history.specs.Calls.{Call, act, lend, step, look, room, leaves, reports, asked, attempted, performed, run}
use Rattle.history.specs.Outcomes.{Handed, Allowed, StepOutcome, LentOutcome, next, paired, written, is_done, taken, done, Event, calls_of, Kept, outcome, tries}

-- what a step wrote can be read back

pub none_reported : (p : Port) → reported p 0 ≡ []
unfolding reported log
none_reported p = refl

pub read_back : (vs buf : List ℕ) → take (length vs) (into vs buf) ≡ vs
unfolding into
read_back vs buf = go vs (drop (length vs) buf)
  where
    go : (l r : List ℕ) → take (length l) (l ++ r) ≡ l
    go [] r = refl
    go (x ∷ l) r = ap (λ k. x ∷ k) (go l r)

column_back : (f : ℕ × ℕ → ℕ) (l : List (ℕ × ℕ)) (buf : List ℕ) → take (length l) (into (map f l) buf) ≡ map f l
column_back f l buf = ap (λ n. take n (into (map f l) buf)) (sym (length-map l f)) ∙ read_back (map f l) buf

paired_columns : (l : List (ℕ × ℕ)) → paired (instants_of l) (octets_of l) ≡ l
paired_columns [] = refl
paired_columns (x ∷ l) = ap (λ k. x ∷ k) (paired_columns l)

-- the number of written places is that of the changes, also if the step is refused
module _ (p : Port) (goal n : ℕ) where
  none_passes : (r : Refusal) → step_declines goal p ≡ some r → passes p goal n ≡ 0
  unfolding passes
  none_passes r e = rw e

  count-is : written_of (stepped_of (step_declines goal p) (length (reported p (passes p goal n)))) ≡ length (reported p (passes p goal n))
  count-is = go (step_declines goal p) refl
    where
      go : (d : Option Refusal) → step_declines goal p ≡ d
          → written_of (stepped_of d (length (reported p (passes p goal n)))) ≡ length (reported p (passes p goal n))
      go none e = refl
      go (some r) e = sym (ap (λ k. length (reported p k)) (none_passes r e) ∙ ap length (none_reported p))

pub step-written : (p : Port) (goal : ℕ) (instants octets : List ℕ) (r : StepOutcome) → Allowed (step goal instants octets) p r
    → written (step goal instants octets) r ≡ reported p (passes p goal (room instants octets))
step-written p goal instants octets r k =
    let n : ℕ = room instants octets in
    let l : List (ℕ × ℕ) = reported p (passes p goal n) in
    let e : written_of r.result.answer ≡ length l = k.written in
    (λ i. paired (take (e i) (k.instants i)) (take (e i) (k.octets i)))
    ∙ ap₂ paired (column_back (λ (x : ℕ × ℕ). x.0) l instants) (column_back (λ (x : ℕ × ℕ). x.1) l octets)
    ∙ paired_columns l

-- each call

pub next-is : (c : Call) (p : Port) (r : Handed c) → Allowed c p r → next c p r ≡ leaves c p
unfolding leaves
next-is (act (rule.gates a)) p r k = k.port
next-is (act (rule.transmit heads speed)) p r k = k.port
next-is (lend heads speed) p r k = k.port
next-is (step goal instants octets) p r k = k.port
next-is (look t) p r k = refl

pub written_is : (c : Call) (p : Port) (r : Handed c) → Allowed c p r → written c r ≡ reports c p
unfolding reports
written_is (act a) p r k = refl
written_is (lend heads speed) p r k = refl
written_is (step goal instants octets) p r k = step-written p goal instants octets r k
written_is (look t) p r k = refl

done_as : (d : Option Refusal) → is_done (answer_of d) ≡ accepted d
done_as none = refl
done_as (some r) = refl

decided_as : (d : Option Refusal) (f : Option Frame) → is_done (choice_of d f) ≡ accepted d
decided_as none f = refl
decided_as (some r) f = refl

-- no refusal has the number 0
lent_as : (d : Option Refusal) (f : Option Frame) → eqb (answer_for (choice_of d f)).number 0 ≡ accepted d
lent_as none none = refl
lent_as none (some f) = refl
lent_as (some r) f = ne_eqb (number_of r) 0 (number-some r)

taken_by : (a : rule.Act) (p : Port) (r : Handed (act a)) → Allowed (act a) p r → taken (act a) r ≡ accepted (declines a p)
taken_by (rule.gates a) p r k =
    let d : Option Refusal = declines (rule.gates a) p in
    ap is_done (answer-told r.answer (answer_of d) (k.number ∙ sym (number_of_lem d))) ∙ done_as d
taken_by (rule.transmit heads speed) p r k =
    let a : rule.Act = rule.transmit heads speed in
    let d : Option Refusal = declines a p in
    let f : Option Frame = (rule.performed a (decode p)).frame in
    ap is_done (choice_told r.answer (choice_of d f) (k.number ∙ sym (choice_number_lem d f)) k.values) ∙ decided_as d f

lent_taken : (heads : List ℕ) (speed : ℕ) (p : Port) (r : LentOutcome) → Allowed (lend heads speed) p r
    → taken (lend heads speed) r ≡ accepted (declines (rule.transmit heads speed) p)
lent_taken heads speed p r k =
    let a : rule.Act = rule.transmit heads speed in
    ap (λ (x : driver.Answer). eqb x.number 0) k.answer ∙ lent_as (declines a p) (rule.performed a (decode p)).frame

pub done-is : (c : Call) (p : Port) (r : Handed c) → Allowed c p r → done c p r ≡ performed (asked c) p
done-is (act a) p r k = ap (λ b. cond b ((p.gates.times.clock, a) ∷ []) []) (taken_by a p r k)
done-is (lend heads speed) p r k =
    ap (λ b. cond b ((p.gates.times.clock, rule.transmit heads speed) ∷ []) []) (lent_taken heads speed p r k)
done-is (step goal instants octets) p r k = refl
done-is (look t) p r k = refl

-- the act that a call tries, and whether the definitions accept it
abbrev marked : Option rule.Act → Port → List (Try rule.Act)
marked none p = []
marked (some a) p = ((p.gates.times.clock, a), accepted (declines a p)) ∷ []

unfoldable pub tries_of : List Call → Port → List (Try rule.Act)
tries_of [] p = []
tries_of (c ∷ cs) p = marked (asked c) p ++ tries_of cs (leaves c p)

marked-is : (c : Call) (p : Port) (r : Handed c) → Allowed c p r → map (λ x. (x, taken c r)) (attempted (asked c) p) ≡ marked (asked c) p
marked-is (act a) p r k = ap (λ b. ((p.gates.times.clock, a), b) ∷ []) (taken_by a p r k)
marked-is (lend heads speed) p r k = ap (λ b. ((p.gates.times.clock, rule.transmit heads speed), b) ∷ []) (lent_taken heads speed p r k)
marked-is (step goal instants octets) p r k = refl
marked-is (look t) p r k = refl

pub tries_are : (p : Port) (es : List Event) → Kept p es → tries p es ≡ tries_of (calls_of es) p
unfolding Kept tries tries_of
tries_are p [] k = refl
tries_are p (e ∷ es) k =
    ap₂ (λ l r. l ++ r) (marked-is e.call p e.back k.0) (tries_are (next e.call p e.back) es k.1)
    ∙ ap (λ q. marked (asked e.call) p ++ tries_of (calls_of es) q) (next-is e.call p e.back k.0)

-- a call and what follows it
abbrev pub joining : List (ℕ × ℕ) → List (ℕ × rule.Act) → Outcome Port ℕ rule.Act → Outcome Port ℕ rule.Act
joining l h r = record { port = r.port; out = l ++ r.out; acts = h ++ r.acts }

pub outcome-is : (p : Port) (es : List Event) → Kept p es → outcome p es ≡ run (calls_of es) p
unfolding Kept outcome run
outcome-is p [] k = refl
outcome-is p (e ∷ es) k =
    let c : Call = e.call in
    let r : Handed c = e.back in
    (λ i. joining (written_is c p r k.0 i) (done-is c p r k.0 i) (outcome-is (next c p r) es k.1 i))
    ∙ ap (λ q. joining (reports c p) (performed (asked c) p) (run (calls_of es) q)) (next-is c p r k.0)

-- every call can keep its contract, on any record

handed_by : (a : rule.Act) → Port → Handed (act a)
handed_by (rule.gates a) p = record { answer = answer_of (declines (rule.gates a) p); port = after (rule.gates a) p }
handed_by (rule.transmit heads speed) p =
    let a : rule.Act = rule.transmit heads speed in
    record { answer = choice_of (declines a p) (rule.performed a (decode p)).frame; port = after a p }

pub handed : (c : Call) → Port → Handed c
handed (act a) p = handed_by a p
handed (lend heads speed) p = record { answer = answer_to heads speed p; port = after (rule.transmit heads speed) p }
handed (step goal instants octets) p =
    let k : ℕ = passes p goal (room instants octets) in
    record {
      result = record { answer = stepped_of (step_declines goal p) (length (reported p k)); port = after_step p goal k };
      instants = into (instants_of (reported p k)) instants;
      octets = into (octets_of (reported p k)) octets;
    }
handed (look t) p = looked_of (look_declines t p) (shown (decode p).gates t)

by_allowed : (a : rule.Act) (p : Port) → Allowed (act a) p (handed_by a p)
unfolding handed_by
by_allowed (rule.gates a) p = record { number = number_of_lem (declines (rule.gates a) p); port = refl }
by_allowed (rule.transmit heads speed) p =
    let a : rule.Act = rule.transmit heads speed in
    record { number = choice_number_lem (declines a p) (rule.performed a (decode p)).frame; values = refl; port = refl }

pub handed_allowed : (c : Call) (p : Port) → Allowed c p (handed c p)
unfolding handed
handed_allowed (act a) p = by_allowed a p
handed_allowed (lend heads speed) p = record { answer = refl; port = refl }
handed_allowed (step goal instants octets) p =
    let n : ℕ = room instants octets in
    record {
      number = stepped-number (step_declines goal p) (length (reported p (passes p goal n)));
      written = count-is p goal n;
      port = refl;
      instants = refl;
      octets = refl;
    }
handed_allowed (look t) p =
    let octet : ℕ = shown (decode p).gates t in
    record { number = looked_number_lem (look_declines t p) octet; octet = looked_octet_lem (look_declines t p) octet }

pub events : List Call → Port → List Event
events [] p = []
events (c ∷ cs) p = record { call = c; back = handed c p } ∷ events cs (next c p (handed c p))

pub events_kept : (cs : List Call) (p : Port) → Kept p (events cs p)
unfolding Kept events
events_kept [] p = tt
events_kept (c ∷ cs) p = (handed_allowed c p, events_kept cs (next c p (handed c p)))

pub events_calls : (cs : List Call) (p : Port) → calls_of (events cs p) ≡ cs
unfolding events
events_calls [] p = refl
events_calls (c ∷ cs) p = ap (λ l. c ∷ l) (events_calls cs (next c p (handed c p)))
