-- Step: the travel of the port's timetable, the frame that met what it met, and the counters make the step of the port. In order: the order of refusals; a
-- step that is refused (`step_stays`); what can be read back of a travel that goes (`legible`, `holds`); the port where it ends (`step-goes`),
-- also where only the clock moves (`step_still`).
-- Assumes nothing.
use Rattle.std.proofs.Common.{◌≡◌, ℕ, ◌+◌, ◌-◌, ◌≤◌, min, Bool, false, not, ◌&&◌, ◌||◌, leb, List, ◌∷◌, map, length, drop, sym, refl, ap, ◌∙◌, arith, length-append}
use Rattle.std.proofs.Math.Bool.{and_comm}
use Rattle.std.proofs.lemmas.Bool.{or_parts}
use mathlib.Core.Path.{subst⁻¹}
use mathlib.Core.Option.{Option, none, some}
use lib.ListN.{length-map}
use Rattle.rule.specs.Limits.{largest_step}
use Rattle.rule.specs.declared.Refusal.{Refusal}
use Rattle.rule.specs.declared.Refusal.TheVariants.{MalformedPort}
use Rattle.rule.specs.Refusals.{first_of}
use Rattle.rule.specs.Orders.{step_order}
use Rattle.rule.specs.Timetable as gates
use Rattle.rule.specs.Port as model
use Rattle.rule.specs.Machine.{ticks, log, reach}
use Rattle.rule.specs.Machines.{machine}
use Rattle.rule.specs.History.{changes}
use Rattle.rule.proofs.Changes.{log-shown}
use Rattle.rule.proofs.Gated.{log-gates, reach-gates}
use Rattle.rule.proofs.Jump.{meets, jump, ticks-jump, wait_ahead, frame-ahead}
use Rattle.rule.proofs.Orders.{both}
use Rattle.rule.proofs.Walk.{reach-shown}
use Rattle.timetable.specs.declared.Timetable.{Timetable}
use Rattle.timetable.specs.Record.{is_marked, timetable_formed}
use Rattle.timetable.specs.Coding as timetable
use Rattle.timetable.specs.Checks as checks
use Rattle.timetable.specs.Updates.{with_times, clocked, moved_table}
use Rattle.timetable.proofs.Records.{clock-fine, moved-is}
use Rattle.std.specs.Prelude.{Result, Ok, Err}
use Rattle.course.specs.declared.Reached.{Reached}
use Rattle.course.specs.Travel as travel
use Rattle.course.specs.Travel.{travel_declines, Travels}
use Rattle.course.specs.Columns.{into, instants_of, octets_of}
use Rattle.course.proofs.WaysOut.{travel-accepted, Arrives, travels_refused, travels_arrives}
use Rattle.frames.specs.declared.Frame.{Frame}
use Rattle.frames.specs.Frame.{decode_frame, encode_frame, frame_formed}
use Rattle.frames.specs.Deciding.{FineFrame}
use Rattle.frames.proofs.Frames.{frame-fine}
use Rattle.port.specs.declared.Port.{Port}
use Rattle.port.specs.Record.{well_formed}
use Rattle.port.specs.Coding.{decode, encode}
use Rattle.port.specs.Updates.{with_gates, marked_frame, counted_for, forgotten_frame}
use Rattle.port.specs.Meeting.{Legible, Holds, MetOn}
use Rattle.port.specs.Step.{step_declines, passes, reported, after_step, StepsBy, Steps}
use Rattle.port.proofs.Reading.{none_met}
use Rattle.port.proofs.Sending.{marked-is, counted_is, forgotten-is}

-- the order of refusals: the port is well formed if its timetable and its frame are

declines-is : (p : Port) (goal : ℕ) (fit : Bool) → fit ≡ frame_formed p.frame p.gates.times.clock
    → step_declines goal p ≡ travel_declines fit largest_step goal p.gates
unfolding step_declines travel_declines well_formed decode
declines-is p goal fit e =
    ap (λ b. first_of ((not b, MalformedPort) ∷ step_order largest_step goal (timetable.decode p.gates)))
    (and_comm (timetable_formed p.gates) (frame_formed p.frame p.gates.times.clock) ∙ ap (λ f. f && timetable_formed p.gates) (sym e))

-- what was written can be read back
column_fits : (f : ℕ × ℕ → ℕ) (l : List (ℕ × ℕ)) (buf now : List ℕ) (n : ℕ) → n ≡ length l → now ≡ into (map f l) buf → n ≤ length now
unfolding into
column_fits f l buf now n k e = omega (arith, ap length e ∙ length-append (map f l) (drop (length (map f l)) buf), length-map l f)

-- the parts at t, if the frame met what it met on the way, are those of the port that the ticks to t come to
module _ (p : Port) (whole : checks.Fine p.gates) (sent : FineFrame p.frame p.gates.times.clock) (t : ℕ) (later : p.gates.times.clock ≤ t)
    (hit : Bool) (met : hit ≡ meets (gates.shown (timetable.decode p.gates)) p.gates.times.clock (t - p.gates.times.clock) (decode_frame p.frame)) where
  parts_ticks : (f : Frame) (g : Timetable) (v : List ℕ) → f ≡ forgotten_frame t (marked_frame hit p.frame) → g ≡ moved_table t p.gates
      → v ≡ counted_for hit p.frame p.overruns
      → record { frame = f; gates = g; overruns = v } ≡ encode (ticks machine (t - p.gates.times.clock) (decode p))
  unfolding jump encode decode timetable.decode
  parts_ticks f g v a b d =
      let c : ℕ = p.gates.times.clock in
      let z : t ≡ c + (t - c) = omega arith in
      let o : Option model.Frame = decode_frame p.frame in
      let m : Bool = meets (gates.shown (timetable.decode p.gates)) c (t - c) o in
      let sending : f ≡ encode_frame (model.frame_at (c + (t - c)) (model.marked m o)) =
      a ∙ ap (forgotten_frame t) (marked-is hit p.frame c sent) ∙ forgotten-is t (model.marked hit o) ∙ (λ i. encode_frame (model.frame_at (z i) (model.marked (met i) o))) in
      let showing : g ≡ timetable.encode (gates.due (c + (t - c)) (timetable.decode p.gates)) =
      b ∙ moved-is p.gates whole t ∙ ap (λ u. timetable.encode (gates.due u (timetable.decode p.gates))) z in
      let counting : v ≡ model.counted m o p.overruns = d ∙ counted_is hit p.frame c p.overruns sent ∙ ap (λ q. model.counted q o p.overruns) met in
      (λ i. record { frame = sending i; gates = showing i; overruns = counting i })
      ∙ ap encode (sym (ticks-jump (t - c) (decode p) (wait_ahead c (timetable.decode p.gates).operating (timetable.decode p.gates).waiting whole.sound.waiting) (frame-ahead c o sent.sound)))

module _ (p : Port) (goal : ℕ) (at at' os os' : List ℕ) (fit : Bool) (is : fit ≡ frame_formed p.frame p.gates.times.clock)
    (r : Result Reached Refusal) (t : Travels fit largest_step goal p.gates at at' os os' r) where
  -- refused

  pub step_stays : (reason : Refusal) → r ≡ Err reason → Steps p goal at at' os os' (record { answer = Err reason; port = p })
  unfolding passes travel.passes reported travel.reported log after_step
  step_stays reason e =
      let d = travels_refused fit largest_step goal p.gates at at' os os' r t reason e in
      let d' : step_declines goal p ≡ some reason = declines-is p goal fit is ∙ d in
      let k : travel.passes fit largest_step goal (min (length at) (length os)) p.gates ≡ 0 = rw d in
      let z : passes p goal (min (length at) (length os)) ≡ 0 = rw d' in
      subst⁻¹ (λ k. StepsBy k p goal at at' os os' (record { answer = Err reason; port = p })) z
      (record {
        number = rw d';
        written = refl;
        port = rw d';
        instants = t.instants ∙ ap (λ n. into (instants_of (travel.reported n p.gates)) at) k;
        octets = t.octets ∙ ap (λ n. into (octets_of (travel.reported n p.gates)) os) k;
      })

  -- accepted

  module _ (n e : ℕ) (q : r ≡ Ok (record { written = n; at = e })) where
    arrives : Arrives fit largest_step goal p.gates at at' os os' n e
    arrives = travels_arrives fit largest_step goal p.gates at at' os os' r t n e q

    abbrev clock : ℕ
    clock = p.gates.times.clock

    abbrev told : List (ℕ × ℕ)
    told = changes (gates.shown (timetable.decode p.gates)) clock (e - clock)

    pub legible : Legible clock e n at' os'
    legible =
        let a = arrives in
        let w = a.walk in
        record {
          clock = clock-fine p.gates a.fine;
          end = omega (arith, w.upto, (travel-accepted fit largest_step goal p.gates a.declines).near);
          instants = column_fits (λ (x : ℕ × ℕ). x.0) told at at' n w.count w.instants;
          octets = column_fits (λ (x : ℕ × ℕ). x.1) told os os' n w.count w.octets;
        }

    holds : Holds (gates.shown (timetable.decode p.gates)) clock e n at' os'
    holds = let w = arrives.walk in record { from = w.from; count = w.count; at₀ = at; os₀ = os; instants = w.instants; octets = w.octets }

    sent-fine : FineFrame p.frame clock
    sent-fine = frame-fine p.frame clock (sym is ∙ (both fit (timetable_formed p.gates) (travel-accepted fit largest_step goal p.gates arrives.declines).formed).0)

    told_is : told ≡ reported p (e - clock)
    unfolding reported decode timetable.decode
    told_is = sym (log-gates (e - clock) (decode p) ∙ log-shown (e - clock) (timetable.decode p.gates))

    reached : reach machine (goal - clock) (min (length at) (length os)) (decode p) ≡ e - clock
    unfolding decode timetable.decode
    reached =
        reach-gates (goal - clock) (min (length at) (length os)) (decode p) ∙ reach-shown (goal - clock) (min (length at) (length os)) (timetable.decode p.gates)
        ∙ arrives.walk.reaches

    pub step-goes : (hit : Bool) → MetOn (gates.shown (timetable.decode p.gates)) p.frame clock e n at' os' hit
        → (v : List ℕ) → v ≡ counted_for hit p.frame p.overruns → (s : Frame) → s ≡ marked_frame hit p.frame → (f : Frame) → f ≡ forgotten_frame e s
        → (g : Timetable) → g ≡ moved_table e p.gates
        → Steps p goal at at' os os' (record { answer = Ok n; port = record { frame = f; gates = g; overruns = v } })
    unfolding passes after_step
    step-goes hit met v counting s seeing f forgetting g moving =
        let a = arrives in
        let w = a.walk in
        let d : step_declines goal p ≡ none = declines-is p goal fit is ∙ a.declines in
        let z : passes p goal (min (length at) (length os)) ≡ e - clock = rw d reached in
        subst⁻¹ (λ k. StepsBy k p goal at at' os os' (record { answer = Ok n; port = record { frame = f; gates = g; overruns = v } })) z
        (record {
          number = rw d;
          written = w.count ∙ ap length told_is;
          port = rw d (parts_ticks p a.fine sent-fine e w.from hit (met holds) f g v (forgetting ∙ ap (forgotten_frame e) seeing) moving counting);
          instants = w.instants ∙ ap (λ l. into (instants_of l) at) told_is;
          octets = w.octets ∙ ap (λ l. into (octets_of l) os) told_is;
        })

    -- with no frame being sent and nothing falling due, only the clock moves
    pub step_still : is_marked p.frame.present || (is_marked p.gates.times.waits && leb p.gates.times.change e) ≡ false
        → Steps p goal at at' os os' (record { answer = Ok n; port = with_gates (with_times (clocked e p.gates.times) p.gates) p })
    step_still z =
        let a = or_parts (is_marked p.frame.present) (is_marked p.gates.times.waits && leb p.gates.times.change e) z in
        step-goes false (λ _. none_met p.frame a.0 (gates.shown (timetable.decode p.gates)) clock (e - clock)) p.overruns refl p.frame refl p.frame
        (sym (rw a.0)) (with_times (clocked e p.gates.times) p.gates) (sym (rw a.1))
