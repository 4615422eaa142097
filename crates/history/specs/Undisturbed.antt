-- Document 02, Item 8, 'No overrun without an act': a transmit chose a frame of a class, sent from start to before last and remembered to before end, and no
-- act of the port has been accepted since. q is the record that the transmit was called on, o what a program has after any further calls: steps, cut in any way and with any room, looks,
-- refused calls. An act at the last octet or later takes nothing back: the calls before it are such calls. The theorems are `no_overrun` and `no_overrun_lent` of
-- proofs/Undisturbed; `gap_act` there says of Item 5 what such an act leaves.
-- Assumes nothing.
use Rattle.std.specs.Prelude.{◌≡◌, true, false, List, [], ◌∷◌, ℕ, ◌≤◌, ◌<◌}
use Rattle.std.proofs.Math.Option.{some}
use Rattle.rule.specs.Gates.{is_open}
use Rattle.rule.specs.Timetable.{shown}
use Rattle.rule.specs.Port.{frame_at}
use Rattle.rule.specs.Acts as rule
use Rattle.rule.specs.Machine.{Outcome}
use Rattle.port.specs.declared.Port.{Port}
use Rattle.port.specs.Coding.{decode}

-- each of the changes before an instant has the class's gate open
unfoldable pub ChangeOpen : ℕ → ℕ → List (ℕ × ℕ) → Type 0
ChangeOpen class last [] = Unit {0}
ChangeOpen class last (x ∷ l) = (x.0 < last → is_open x.1 class ≡ true) × ChangeOpen class last l

pub record Undisturbed (class start last end : ℕ) (q : Port) (o : Outcome Port ℕ rule.Act) : Type 0 where
  -- its gate is open at each instant of its sending, past the largest instant too: by what was shown when it was chosen,
  pub sent : (t : ℕ) → start ≤ t → t < last → is_open (shown (decode q).gates t) class ≡ true
  -- by what is shown after the calls,
  pub shows : (t : ℕ) → o.port.gates.times.clock ≤ t → t < last → is_open (shown (decode o.port).gates t) class ≡ true
  -- by the changes that they reported
  pub changed : ChangeOpen class last o.out
  -- it is remembered, with no overrun counted, until it is forgotten
  pub frame : (decode o.port).frame ≡ frame_at o.port.gates.times.clock (some (record { class = class; start = start; last = last; end = end; counted = false }))
  -- the counters are what they were
  pub counts : o.port.overruns ≡ q.overruns

-- in the gap behind a frame, from its last octet to before its end, an act on the gates leaves the frame and the counters as they were
pub record Unharmed (p q : Port) : Type 0 where
  pub frame : (decode q).frame ≡ (decode p).frame
  pub counts : q.overruns ≡ p.overruns
