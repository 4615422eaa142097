-- Document 01's bench cases with a star, all of them as one table: case 1, list A's octets read and written, in front of the cases 2 to 10 of crate `rule`
-- (`starred_hold`). A wrong digit in any row leaves nothing to prove it with.
-- Assumes nothing.
use mathlib.Core.List.{List, [], ◌∷◌, ◌++◌}
use Prim.Native.Nat.{ℕ}
use lib.Dec.{T}
use lib.ListN.{replicate}
use Rattle.rule.specs.Orders.{length_offered, has_zero_interval}
use Rattle.rule.proofs.Cases as rule
use Rattle.gatelist.specs.declared.GateList.{GateList}
use Rattle.gatelist.specs.Coding.{list_from, padded, encode_list}
use Rattle.octets.specs.Octets.{Reading, Writing, octets_of, refusal_from, read_refusal, read_list, write_list}

octets_a : List ℕ
octets_a = 0x00 ∷ 0x05 ∷ 0x80 ∷ 0x00 ∷ 0x00 ∷ 0x01 ∷ 0x2C ∷ 0x00 ∷ 0x05 ∷ 0x01 ∷ 0x00 ∷ 0x00 ∷ 0x01 ∷ 0xF4 ∷ []

list_a : GateList
list_a = record { octets = 0x80 ∷ 0x01 ∷ replicate 126 0; intervals = 300 ∷ 500 ∷ replicate 126 0; len = 2 }

-- a row for each value: what is computed, what document 01 says
column : List ℕ → List ℕ → List (ℕ × ℕ)
column [] [] = []
column [] (y ∷ l) = (0, 1) ∷ []
column (x ∷ k) [] = (0, 1) ∷ []
column (x ∷ k) (y ∷ l) = (x, y) ∷ column k l

of_reading : Reading → List (ℕ × ℕ)
of_reading r = column (r.number ∷ r.place ∷ r.list.len ∷ r.list.octets ++ r.list.intervals) (0 ∷ 0 ∷ 2 ∷ list_a.octets ++ list_a.intervals)

of_writing : Writing → List (ℕ × ℕ)
of_writing w = column (w.number ∷ w.count ∷ w.buffer) (0 ∷ 14 ∷ octets_a ++ 0xFF ∷ 0xFF ∷ [])

pub case_1 : List (ℕ × ℕ)
case_1 = of_reading (read_list octets_a 2) ++ of_writing (write_list list_a (replicate 16 0xFF))

case_1_holds : T (rule.hold case_1)
unfolding case_1 of_reading of_writing column octets_a list_a rule.hold
    read_list read_refusal refusal_from length_offered encode_list padded list_from write_list has_zero_interval octets_of
case_1_holds = tt

pub starred_hold : T (rule.hold (case_1 ++ rule.starred))
starred_hold = rule.hold-append case_1 rule.starred case_1_holds rule.starred_hold
