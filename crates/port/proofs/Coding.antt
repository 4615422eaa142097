-- A well-formed record is the encoding of what it decodes to, which is sound (`fine`); the encoding of a sound port is well formed (`formed`) and decodes
-- to it (`decode-encode`).
-- Assumes nothing.
use Rattle.std.proofs.Common.{◌≡◌, Bool, true, ◌&&◌, sym, refl, ap, ◌∙◌, subst}
use Rattle.rule.specs.Port as model
use Rattle.rule.proofs.Orders.{both}
use Rattle.rule.proofs.Soundness.{Sound}
use Rattle.timetable.specs.Record.{timetable_formed}
use Rattle.timetable.specs.Coding as timetable
use Rattle.timetable.specs.Checks as checks
use Rattle.timetable.proofs.Coding as timed
use Rattle.frames.specs.Frame.{frame_formed}
use Rattle.frames.specs.Deciding.{FineFrame}
use Rattle.frames.proofs.Frames.{frame_decoded, frame-fine, frame_formed_lem}
use Rattle.port.specs.declared.Port.{Port}
use Rattle.port.specs.Record.{well_formed}
use Rattle.port.specs.Coding.{decode, encode}
use Rattle.port.specs.Checks.{Fine, Checked}

pub decode-encode : (m : model.Port) → decode (encode m) ≡ m
unfolding decode encode
decode-encode m i = record { gates = timed.decode-encode m.gates i; frame = frame_decoded m.frame i; overruns = m.overruns }

-- from its parts, and back
pub fine_parts : (p : Port) → checks.Fine p.gates → FineFrame p.frame p.gates.times.clock → Fine p
unfolding decode encode timetable.decode
fine_parts p g f = record {
  whole = λ i. record { frame = f.whole i; gates = g.whole i; overruns = p.overruns };
  sound = record { gates = g.sound; frame = f.sound };
}

module _ (p : Port) (k : Fine p) where
  pub gates-fine : checks.Fine p.gates
  unfolding decode encode
  gates-fine = record { whole = ap (λ (q : Port). q.gates) k.whole; sound = k.sound.gates }

  pub frame-part : FineFrame p.frame p.gates.times.clock
  unfolding decode encode timetable.decode
  frame-part = record { whole = ap (λ (q : Port). q.frame) k.whole; sound = k.sound.frame }

pub fine : (p : Port) → (timetable_formed p.gates ≡ true → checks.Fine p.gates) → well_formed p ≡ true → Fine p
unfolding well_formed
fine p k e =
    let a = both (timetable_formed p.gates) (frame_formed p.frame p.gates.times.clock) e in
    fine_parts p (k a.0) (frame-fine p.frame p.gates.times.clock a.1)

-- what the two checks tell
pub checked : (p : Port) (b c : Bool) → checks.Checked p.gates b → c ≡ frame_formed p.frame p.gates.times.clock → Checked p (b && c)
unfolding well_formed
checked p b c k e =
    let z : b && c ≡ well_formed p = λ i. k.is i && e i in
    record { is = z; fine = λ q. fine p (λ y. k.fine (k.is ∙ y)) (sym z ∙ q) }

-- the record of a sound port

pub encoded_fine : (m : model.Port) (q : Port) → Sound m → q ≡ encode m → Fine q
encoded_fine m q s e =
    let d : decode q ≡ m = ap decode e ∙ decode-encode m in
    record { whole = ap encode d ∙ sym e; sound = subst Sound (sym d) s }

pub formed : (m : model.Port) → Sound m → well_formed (encode m) ≡ true
unfolding well_formed encode timetable.encode
formed m s = rw (timed.formed m.gates s.gates, frame_formed_lem m.gates.clock m.frame s.frame)

pub clock-encode : (m : model.Port) → (encode m).gates.times.clock ≡ m.gates.clock
unfolding encode timetable.encode
clock-encode m = refl
