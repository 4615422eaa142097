-- Document 01's rule for the frames of a port, read off the accepted acts alone (demand 3): the frame that a transmit begins, and TransmissionOverrun, the
-- frames that met a closed gate. A history has the newest act first; the acts that follow it stand in a list with the oldest first.
-- Assumes nothing.
use Rattle.std.specs.Prelude.{Bool, true, false, not, ◌&&◌, ◌||◌, List, [], ◌∷◌, ℕ, suc, ◌+◌, ◌-◌, min, ltb, eqb}
use Rattle.std.proofs.Math.Option.{Option, none, some}
use Rattle.rule.specs.Gates.{is_open}
use Rattle.rule.specs.Port.{Frame, last_octet_at}
use Rattle.rule.specs.Choice.{stays_open, chosen}
use Rattle.rule.specs.Acts.{GateAct, Act, gates, transmit}
use Rattle.rule.specs.History.{effective, rule_octet}

abbrev pub PortHistory : Type 0
PortHistory = List (ℕ × Act)

-- the acts on the gates, in their order
abbrev pub gate_act : ℕ → Act → List (ℕ × GateAct) → List (ℕ × GateAct)
gate_act t (gates a) l = (t, a) ∷ l
gate_act t (transmit heads speed) l = l

unfoldable pub gate_acts : List (ℕ × Act) → List (ℕ × GateAct)
gate_acts [] = []
gate_acts (x ∷ l) = gate_act x.0 x.1 (gate_acts l)

-- the octet by the acts of a port, less the replaced submissions
abbrev pub octet_of : ℕ → PortHistory → ℕ → ℕ
octet_of s₀ h t = rule_octet s₀ (effective (gate_acts h)) t

-- the frame that an act at t begins
abbrev pub frame_begun : ℕ → PortHistory → ℕ → Act → Option Frame
frame_begun s₀ h t (gates a) = none
frame_begun s₀ h t (transmit heads speed) = chosen heads speed t (octet_of s₀ h)

-- the frame's gate is closed in g at one of the n instants after lo that come before its last octet is out
unfoldable pub meets_closed : (ℕ → ℕ) → ℕ → ℕ → Frame → Bool
meets_closed g lo n f = not (stays_open g f.class (suc lo) (min n (last_octet_at f - suc lo)))

-- its gate is closed at t; at an instant after lo and up to the end e, through the acts l
abbrev pub shut : ℕ → PortHistory → Frame → ℕ → Bool
shut s₀ h f t = ltb t (last_octet_at f) && not (is_open (octet_of s₀ h t) f.class)

unfoldable pub shut_later : ℕ → PortHistory → Frame → ℕ → List (ℕ × Act) → ℕ → Bool
shut_later s₀ h f lo [] e = meets_closed (octet_of s₀ h) lo (e - lo) f
shut_later s₀ h f lo (x ∷ l) e =
    meets_closed (octet_of s₀ h) lo (x.0 - lo) f || (shut s₀ (x ∷ h) f x.0 || shut_later s₀ (x ∷ h) f x.0 l e)

-- how many frames of class k, begun by one of the acts l after the history h, met a closed gate by the end e
abbrev pub bit : Bool → ℕ
bit true = 1
bit false = 0

abbrev pub overrun_of : ℕ → ℕ → PortHistory → ℕ → List (ℕ × Act) → ℕ → Option Frame → ℕ
overrun_of s₀ k h t l e none = 0
overrun_of s₀ k h t l e (some f) = bit (eqb f.class k && (shut s₀ h f t || shut_later s₀ h f t l e))

unfoldable pub rule_overruns : ℕ → ℕ → PortHistory → List (ℕ × Act) → ℕ → ℕ
rule_overruns s₀ k h [] e = 0
rule_overruns s₀ k h (x ∷ l) e = overrun_of s₀ k (x ∷ h) x.0 l e (frame_begun s₀ h x.0 x.1) + rule_overruns s₀ k (x ∷ h) l e
