-- Demand 3 as one statement on a new port and any calls with what they handed back: what is left and what was reported is read off the accepted acts and
-- the end instant alone. The calls are any list, so each part holds after every call. The theorem is `demand_3` of proofs/Demand3.
-- Assumes nothing.
use Rattle.std.specs.Prelude.{◌≡◌, true, false, List, [], ◌∷◌, reverse, ℕ, ◌^◌, ◌%◌, ◌≤◌, ◌<◌, get_or}
use Rattle.std.specs.Prelude.{Ok, Result}
use Rattle.rule.specs.declared.Refusal.{Refusal}
use Rattle.rule.specs.Limits.{largest_instant}
use Rattle.rule.specs.Refusals.{accepted}
use Rattle.rule.specs.Timetable.{shown}
use Rattle.rule.specs.Port.{new_port}
use Rattle.rule.specs.Acts as rule
use Rattle.rule.specs.Machine.{Outcome, replay}
use Rattle.rule.specs.Machines.{machine}
use Rattle.rule.specs.History.{effective, rule_errors, rule_changes}
use Rattle.rule.specs.Frames.{gate_acts, octet_of, rule_overruns}
use Rattle.port.specs.declared.Port.{Port}
use Rattle.port.specs.declared.Acted.{Acted}
use Rattle.port.specs.Record.{well_formed}
use Rattle.port.specs.Coding.{decode, encode}
use Rattle.port.specs.Acts.{declines, Looks}
use Rattle.port.specs.Step.{passes, Steps}
use Rattle.history.specs.Calls.{Call, act, lend, step, look, room, run}
use Rattle.history.specs.Outcomes.{Handed, Allowed, Event, outcome}

-- a call that changes nothing: a refused act, a look, and a step that lets no instant pass, since it is refused, or its goal is now, or a change comes next
-- and there is no room (proofs/Idle: `refused-passes`, `now-passes`, `full_passes`)
abbrev pub Idle : Call → Port → Type 0
Idle (act a) p = accepted (declines a p) ≡ false
Idle (lend heads speed) p = accepted (declines (rule.transmit heads speed) p) ≡ false
Idle (step goal instants octets) p = passes p goal (room instants octets) ≡ 0
Idle (look t) p = Unit {0}

-- the buffers are as they were lent
abbrev pub Unwritten : (c : Call) → Handed c → Type 0
Unwritten (act a) r = Unit {0}
Unwritten (lend heads speed) r = Unit {0}
Unwritten (step goal instants octets) r = (r.instants ≡ instants) × (r.octets ≡ octets)
Unwritten (look t) r = Unit {0}

-- t₀, s₀: instant and standing octet of the new port; cs: the calls; o: the last record, the changes found in the buffers, the acts answered done
pub record Demand (t₀ s₀ : ℕ) (cs : List Call) (o : Outcome Port ℕ rule.Act) : Type 0 where
  -- whatever the contracts allow is what the definitions give
  pub given : o ≡ run cs (encode (new_port t₀ s₀))
  -- the record is well formed, and is that of the accepted acts and the end alone: no steps, no buffers, no refusals
  pub formed : well_formed o.port ≡ true
  pub final : o.port ≡ encode (replay machine o.acts o.port.gates.times.clock (new_port t₀ s₀))
  -- the changes in the buffers, joined end to end, are those of the rule over the acts less the replaced submissions
  pub changed : o.out ≡ rule_changes s₀ [] t₀ (reverse (effective (gate_acts (reverse o.acts)))) o.port.gates.times.clock
  -- the octet at the end and at each instant after it is the rule's; so says a look, and so shows the record that a further step comes to
  pub shows : (t : ℕ) → o.port.gates.times.clock ≤ t → shown (decode o.port).gates t ≡ octet_of s₀ (reverse o.acts) t
  pub looks : (t : ℕ) → o.port.gates.times.clock ≤ t → t ≤ largest_instant → (r : Result ℕ Refusal) → Looks o.port t r
      → r ≡ Ok (octet_of s₀ (reverse o.acts) t)
  pub comes : (goal : ℕ) (at at' os os' : List ℕ) (r : Acted ℕ) → Steps o.port goal at at' os os' r
      → shown (decode r.port).gates r.port.gates.times.clock ≡ octet_of s₀ (reverse o.acts) r.port.gates.times.clock
  -- the counts are the rule's, modulo 2^64
  pub errors : o.port.gates.times.errors ≡ rule_errors (gate_acts (reverse o.acts)) % 2 ^ 64
  pub overruns : (k : ℕ) → k < 8 → get_or o.port.overruns k 0 ≡ rule_overruns s₀ k [] o.acts o.port.gates.times.clock % 2 ^ 64
  -- an idle call changes nothing, and what follows it is as if it had not been
  pub idle : (e : Event) → Allowed e.call o.port e.back → Idle e.call o.port
      → Unwritten e.call e.back × ((es : List Event) → outcome o.port (e ∷ es) ≡ outcome o.port es)
