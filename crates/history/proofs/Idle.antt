-- A call that changes nothing (`Idle`: refused, a look, a step that lets no instant pass): the record and the buffers are as they were, nothing is
-- reported, no act is noted. So it can be left out wherever it stands (`idle-outcome`, `idle_between`). On any record of a program, malformed ones too.
-- Assumes nothing.
use mathlib.Core.Path.{◌≡◌, refl, ap, sym, ◌∙◌}
use mathlib.Core.Bool.{Bool, true, false, cond, not, true≢false}
use mathlib.Core.List.{List, [], ◌∷◌, ◌++◌}
use mathlib.Core.Option.{Option, some}
use Prim.Native.Nat.{ℕ, zero, suc, ◌-◌}
use native.Mathlib.Nat.{sub_self}
use Rattle.rule.specs.declared.Refusal.{Refusal}
use Rattle.rule.specs.declared.Refusal.TheVariants.{MalformedPort}
use Rattle.rule.specs.Refusals.{accepted}
use Rattle.rule.specs.Port as model
use Rattle.rule.specs.Acts as rule
use Rattle.rule.specs.Machine.{onward, ticks, reach}
use Rattle.rule.specs.Machines.{machine}
use Rattle.rule.proofs.Reach.{alike}
use Rattle.port.specs.declared.Port.{Port}
use Rattle.port.specs.Record.{well_formed}
use Rattle.port.specs.Coding.{decode, encode}
use Rattle.course.specs.Columns.{into, instants_of, octets_of}
use Rattle.port.specs.Acts.{declines, after}
use Rattle.port.specs.Step.{step_declines, passes, reported, after_step}
use Rattle.port.proofs.Coding.{decode-encode}
use Rattle.history.specs.Calls.{Call, act, lend, step, look, room, leaves, reports, asked, performed, run}
use Rattle.history.specs.Outcomes.{Handed, Allowed, Event, outcome}
use Rattle.history.specs.Demand.{Idle, Unwritten}
use Rattle.history.proofs.Given.{none_reported, next-is, written_is, done-is, joining}

-- a record that a step accepts is well formed
formed_first_lem : (w : Bool) (rest : Option Refusal) → accepted (cond (not w) (some MalformedPort) rest) ≡ true → w ≡ true
formed_first_lem true rest e = refl
formed_first_lem false rest e = absurd (true≢false (sym e))

pub formed-rest : (w : Bool) (rest : Option Refusal) → accepted (cond (not w) (some MalformedPort) rest) ≡ true → accepted rest ≡ true
formed-rest true rest e = e
formed-rest false rest e = absurd (true≢false (sym e))

pub step-formed : (p : Port) (goal : ℕ) → accepted (step_declines goal p) ≡ true → well_formed p ≡ true
unfolding step_declines
step-formed p goal e = formed_first_lem (well_formed p) _ e

-- a record whose arrays have 128 places, as their type says, is the encoding of what it decodes to, if it is well formed
abbrev pub Whole : Port → Type 0
Whole p = well_formed p ≡ true → encode (decode p) ≡ p

pub whole-encode : (m : model.Port) → Whole (encode m)
whole-encode m e = ap encode (decode-encode m)

-- no time: the record is the same
pub after_step_none : (p : Port) → Whole p → (goal : ℕ) → after_step p goal 0 ≡ p
unfolding after_step ticks
after_step_none p w goal = go (accepted (step_declines goal p)) refl
  where
    go : (b : Bool) → accepted (step_declines goal p) ≡ b → cond b (encode (decode p)) p ≡ p
    go true e = w (step-formed p goal e)
    go false e = refl

refused-after : (a : rule.Act) (p : Port) → accepted (declines a p) ≡ false → after a p ≡ p
unfolding after
refused-after a p e = rw e

-- what an idle call leaves, reports and notes

pub leaves-idle : (c : Call) (p : Port) → Whole p → Idle c p → leaves c p ≡ p
unfolding leaves
leaves-idle (act a) p w e = refused-after a p e
leaves-idle (lend heads speed) p w e = refused-after (rule.transmit heads speed) p e
leaves-idle (step goal instants octets) p w e = ap (after_step p goal) e ∙ after_step_none p w goal
leaves-idle (look t) p w e = refl

pub reports-idle : (c : Call) (p : Port) → Idle c p → reports c p ≡ []
unfolding reports
reports-idle (act a) p e = refl
reports-idle (lend heads speed) p e = refl
reports-idle (step goal instants octets) p e = ap (reported p) e ∙ none_reported p
reports-idle (look t) p e = refl

pub performed-idle : (c : Call) (p : Port) → Idle c p → performed (asked c) p ≡ []
performed-idle (act a) p e = rw e
performed-idle (lend heads speed) p e = rw e
performed-idle (step goal instants octets) p e = refl
performed-idle (look t) p e = refl

pub unwritten : (c : Call) (p : Port) (r : Handed c) → Allowed c p r → Idle c p → Unwritten c r
unfolding into
unwritten (act a) p r k e = tt
unwritten (lend heads speed) p r k e = tt
unwritten (step goal instants octets) p r k e =
    let z : reported p (passes p goal (room instants octets)) ≡ [] = ap (reported p) e ∙ none_reported p in
    (k.instants ∙ ap (λ l. into (instants_of l) instants) z, k.octets ∙ ap (λ l. into (octets_of l) octets) z)
unwritten (look t) p r k e = tt

-- left out

pub idle-outcome : (p : Port) → Whole p → (e : Event) → Allowed e.call p e.back → Idle e.call p → (es : List Event)
    → outcome p (e ∷ es) ≡ outcome p es
unfolding outcome
idle-outcome p w e k i es =
    let c : Call = e.call in
    let l = written_is c p e.back k ∙ reports-idle c p i in
    let h = done-is c p e.back k ∙ performed-idle c p i in
    let q = next-is c p e.back k ∙ leaves-idle c p w i in
    λ j. joining (l j) (h j) (outcome (q j) es)

pub idle-run : (p : Port) → Whole p → (c : Call) → Idle c p → (cs : List Call) → run (c ∷ cs) p ≡ run cs p
unfolding run
idle-run p w c i cs = λ j. joining (reports-idle c p i j) (performed-idle c p i j) (run cs (leaves-idle c p w i j))

pub idle_between : (cs : List Call) (p : Port) → Whole (run cs p).port → (c : Call) → Idle c (run cs p).port → (ds : List Call)
    → run (cs ++ c ∷ ds) p ≡ run (cs ++ ds) p
unfolding run
idle_between [] p w c i ds = idle-run p w c i ds
idle_between (x ∷ cs) p w c i ds = ap (joining (reports x p) (performed (asked x) p)) (idle_between cs (leaves x p) w c i ds)

-- steps that let no instant pass: refused; to the clock itself; with no room, and a change at the next instant

pub refused-passes : (p : Port) (goal n : ℕ) → accepted (step_declines goal p) ≡ false → passes p goal n ≡ 0
unfolding passes
refused-passes p goal n e = rw e

no_instant : (b : Bool) {n : ℕ} → n ≡ 0 → cond b n 0 ≡ 0
no_instant true e = e
no_instant false e = refl

pub now-passes : (p : Port) (n : ℕ) → passes p p.gates.times.clock n ≡ 0
unfolding passes reach
now-passes p n = no_instant (accepted (step_declines p.gates.times.clock p)) (rw sub_self)

none_reached : (n : ℕ) (s : model.Port) → alike machine s ≡ false → reach machine n 0 s ≡ 0
unfolding reach alike
none_reached zero s e = refl
none_reached (suc n) s e = ap (λ b. onward b 0 (λ r. reach machine n r (model.port_tick s))) e

pub full_passes : (p : Port) (goal : ℕ) → alike machine (decode p) ≡ false → passes p goal 0 ≡ 0
unfolding passes
full_passes p goal e = no_instant (accepted (step_declines goal p)) (none_reached (goal - p.gates.times.clock) (decode p) e)
