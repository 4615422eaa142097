-- Document 01, 'Bench cases': those with a star that need no octets of a list, 2 to 10, as one table that is computed (`starred_hold`). A wrong digit in any
-- row leaves nothing to prove it with. Case 1 is with the list's octets (crate `octets`).
-- Assumes nothing.
use mathlib.Core.Bool.{Bool, true, false, cond}
use mathlib.Core.List.{List, [], ◌∷◌, ◌++◌}
use mathlib.Core.Option.{Option, none, some}
use Prim.Native.Nat.{ℕ}
use lib.Dec.{T, eqb}
use lib.ListN.{replicate}
use Rattle.rule.specs.Refusals.{number_of, first_of}
use Rattle.rule.specs.declared.Refusal.{Refusal}
use Rattle.rule.specs.Gates.{is_open}
use Rattle.rule.specs.Entries.{Entry, entry_no, octet_at}
use Rattle.rule.specs.Cycle.{Config, cycle_offered, start_no, cycle_no, first_no, change_instant, last_no, plain_start, bent_start, plain_octet, bent_octet}
use Rattle.rule.specs.Timetable.{Timetable, Waiting, raise, octet_under, shown, shown_now}
use Rattle.rule.specs.Port.{Port, Frame, last_octet_at}
use Rattle.rule.specs.Choice.{duration, next_start, stays_open, qualifies, highest, frame_for, chosen}
use Rattle.rule.specs.Acts.{submit, Submission, is_some, config_of, errors_after, submitted, perform_gates, transmit, perform}
use Rattle.rule.specs.Orders.{length_offered, has_zero_interval, speed_offered, frame_offered, head_offered, last_begun, submit_order, transmit_order, gate_order, act_order}

-- list A, and a submission of it every 1,000 ns
list_a : List Entry
list_a = record { octet = 0x80; interval = 300 } ∷ record { octet = 0x01; interval = 500 } ∷ []

submission_a : ℕ → ℕ → Submission
submission_a e base = record { numerator = 1; denominator = 1_000_000; extension = e; base = base; list = list_a }

-- a timetable that is on at t with the standing octet FF; nothing operates, or A since 5,000 with an extension
gates_of : Option Config → ℕ → Timetable
gates_of o t = record { clock = t; on = true; standing = 0xff; operating = o; waiting = none; errors = 0 }

idle : ℕ → Timetable
idle t = gates_of none t

config_a : ℕ → Config
config_a e = record { start = 5_000; cycle = 1_000; extension = e; list = list_a }

runs_a : ℕ → ℕ → Timetable
runs_a e t = gates_of (some (config_a e)) t

-- the number that a call gets, 0 if it is accepted
number : Option Refusal → ℕ
number none = 0
number (some r) = number_of r

-- a submission with an extension and a base time: its number, the timetable after it, and its change instant
submits : ℕ → ℕ → Timetable → ℕ
submits e base p = number (first_of (gate_order (submit (submission_a e base)) p))

after : ℕ → ℕ → Timetable → Timetable
after e base p = perform_gates (submit (submission_a e base)) p

change_of : Option Waiting → Option Config → ℕ
change_of (some w) o = w.config.start
change_of none (some f) = f.start
change_of none none = 0

change : ℕ → ℕ → Timetable → ℕ
change e base p = let q : Timetable = after e base p in change_of q.waiting q.operating

-- how many wait
waits : Timetable → ℕ
waits p = cond (is_some p.waiting) 1 0

-- the start of the last old cycle of A, for a change that waits from 5,100
last : ℕ → ℕ → ℕ
last e P = start_no (config_a e) (last_no (config_a e) 5_100 P)

-- the number that a submission with a cycle gets
cycle_number : ℕ → ℕ → ℕ
cycle_number n d = number (first_of (gate_order (submit (record { numerator = n; denominator = d; extension = 0; base = 5_000; list = list_a })) (idle 4_900)))

-- 64 octets of class 0 at 1,000 Mbit/s at t: the number of the call, and the class that is chosen; 8: none
sends : ℕ → Port
sends t = record { gates = runs_a 0 t; frame = none; overruns = replicate 8 0 }

asks : ℕ → ℕ
asks t = number (first_of (act_order (transmit (64 ∷ replicate 7 0) 1_000) (sends t)))

class_of : Option Frame → ℕ
class_of none = 8
class_of (some f) = f.class

choice : ℕ → ℕ
choice t = class_of (perform (transmit (64 ∷ replicate 7 0) 1_000) (sends t)).frame

-- 80 for 700, 01 for 700
longer : Config
longer = record { start = 5_000; cycle = 1_000; extension = 0; list = record { octet = 0x80; interval = 700 } ∷ record { octet = 0x01; interval = 700 } ∷ [] }

-- a row: what is computed, what document 01 says
pub starred : List (ℕ × ℕ)
starred =
    -- 2: submitted at 4,900 with base 5,000
    (submits 0 5_000 (idle 4_900), 0)
    ∷ (shown (after 0 5_000 (idle 4_900)) 4_999, 0xff)
    ∷ (shown (after 0 5_000 (idle 4_900)) 5_000, 0x80)
    ∷ (shown (after 0 5_000 (idle 4_900)) 5_299, 0x80)
    ∷ (shown (after 0 5_000 (idle 4_900)) 5_300, 0x01)
    ∷ (shown (after 0 5_000 (idle 4_900)) 5_999, 0x01)
    ∷ (shown (after 0 5_000 (idle 4_900)) 6_000, 0x80)
    -- 3
    ∷ (submits 0 5_000 (idle 7_400), 0) ∷ (change 0 5_000 (idle 7_400), 8_000) ∷ ((after 0 5_000 (idle 7_400)).errors, 0)
    ∷ (submits 0 5_000 (runs_a 0 7_400), 0) ∷ (change 0 5_000 (runs_a 0 7_400), 8_000) ∷ ((after 0 5_000 (runs_a 0 7_400)).errors, 1)
    -- 4: nothing waits, and it operates from 7,000
    ∷ (submits 0 5_000 (idle 7_000), 0) ∷ (waits (after 0 5_000 (idle 7_000)), 0) ∷ (change 0 5_000 (idle 7_000), 7_000)
    ∷ (shown_now (after 0 5_000 (idle 7_000)), 0x80)
    ∷ (submits 0 7_000 (runs_a 0 7_000), 0) ∷ (waits (after 0 7_000 (runs_a 0 7_000)), 0) ∷ (change 0 7_000 (runs_a 0 7_000), 7_000)
    ∷ ((after 0 7_000 (runs_a 0 7_000)).errors, 0)
    -- 5: the last cycle starts at 7,000
    ∷ (submits 0 8_150 (runs_a 200 5_100), 0) ∷ (last 200 8_150, 7_000) ∷ (shown (after 0 8_150 (runs_a 200 5_100)) 8_000, 0x01)
    ∷ (submits 0 8_200 (runs_a 200 5_100), 0) ∷ (last 200 8_200, 7_000) ∷ (shown (after 0 8_200 (runs_a 200 5_100)) 8_000, 0x01)
    -- 6: it starts at 8,000
    ∷ (submits 0 8_201 (runs_a 200 5_100), 0) ∷ (last 200 8_201, 8_000) ∷ (shown (after 0 8_201 (runs_a 200 5_100)) 8_000, 0x80)
    ∷ (submits 0 8_150 (runs_a 100 5_100), 0) ∷ (last 100 8_150, 8_000) ∷ (shown (after 0 8_150 (runs_a 100 5_100)) 8_000, 0x80)
    -- 7
    ∷ (submits 0 8_150 (runs_a 200 7_000), 0) ∷ (shown (after 0 8_150 (runs_a 200 7_000)) 8_000, 0x80)
    -- 8
    ∷ (cycle_number 1 1, 0) ∷ (cycle_number 1 3, 8) ∷ (cycle_number 2 1, 8) ∷ (cycle_number 0 5, 8) ∷ (cycle_number 1 2_000_000_000, 8)
    -- 9
    ∷ (duration 64 1_000, 576) ∷ (next_start 64 1_000, 672) ∷ (asks 5_424, 0) ∷ (choice 5_424, 0) ∷ (asks 5_425, 0) ∷ (choice 5_425, 8)
    -- 10
    ∷ (plain_octet longer 5_999, 0x01) ∷ (plain_octet longer 6_000, 0x80)
    ∷ []

unfoldable pub hold : List (ℕ × ℕ) → Bool
hold [] = true
hold (x ∷ l) = cond (eqb x.0 x.1) (hold l) false

pub starred_hold : T (hold starred)
unfolding starred hold list_a submission_a gates_of idle config_a runs_a number submits after change_of change waits last cycle_number sends asks class_of choice longer
    is_open entry_no octet_at cycle_offered start_no cycle_no first_no change_instant last_no plain_start bent_start plain_octet bent_octet
    raise octet_under shown shown_now duration next_start stays_open qualifies highest frame_for chosen config_of errors_after submitted perform
    length_offered has_zero_interval speed_offered frame_offered head_offered last_begun submit_order transmit_order last_octet_at
starred_hold = tt

-- a table that another crate puts in front of this one holds as a whole
pub hold-append : (l r : List (ℕ × ℕ)) → T (hold l) → T (hold r) → T (hold (l ++ r))
unfolding hold
hold-append [] r a b = b
hold-append (x ∷ l) r a b = go (eqb x.0 x.1) a (λ z. hold-append l r z b)
  where
    go : (q : Bool) → T (cond q (hold l) false) → (T (hold l) → T (hold (l ++ r))) → T (cond q (hold (l ++ r)) false)
    go true a f = f a
    go false a f = a
