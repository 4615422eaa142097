-- A cursor on the entries of a running cycle, for any numbers: an entry stops with its cycle at the latest, the last entry and every place beyond the list
-- hold to the cycle's end, and the end of a cycle is a sum modulo 2^64. And what a cursor means that points into the running cycle of a configuration.
-- Assumes nothing.
use Rattle.std.specs.Prelude.{◌≡◌, ℕ, ◌+◌, ◌-◌, ◌%◌, ◌<◌, ◌≤◌, min, cond, List, nat_le, slice_index}
use Rattle.rule.specs.Limits.{largest_list}
use Rattle.rule.specs.Cycle.{Config, plain_start}
use Rattle.gatelist.specs.declared.Place.{Place}
use Rattle.gatelist.specs.Lookup.{sum_to, place_at}
use Rattle.timetable.specs.declared.cursor.Cursor.{Cursor}

abbrev pub wrapped : ℕ → ℕ → ℕ
wrapped a b = (a + b) % 18446744073709551616

-- where the entry at a place stops that begins at an instant of a cycle which ends at next; n - 1 of its entries, as far as the 128 places go, have another
-- one after them
unfoldable pub stop_at : List ℕ → ℕ → ℕ → ℕ → ℕ → ℕ
stop_at vs n place from next =
    cond (nat_le (min (n - 1) largest_list) place) next (cond (nat_le (next - from) (slice_index vs place)) next (from + slice_index vs place))

abbrev pub entered : List ℕ → ℕ → ℕ → ℕ → ℕ → Cursor
entered vs n place from next = record { place = place; from = from; stop = stop_at vs n place from next; next = next }

-- the entry after a cursor's
unfoldable pub advanced : List ℕ → ℕ → ℕ → Cursor → Cursor
advanced vs n period c =
    cond (nat_le c.next c.stop) (entered vs n 0 c.next (wrapped c.next period)) (entered vs n (wrapped c.place 1) c.stop c.next)

-- the entry that an instant falls into, of a cycle that runs from base to before next
abbrev pub placed_at : ℕ → ℕ → ℕ → ℕ → Place → Cursor
placed_at n base next from p = record {
  place = p.number;
  from = from;
  stop = cond (nat_le (n - 1) p.number) next (cond (nat_le (next - base) p.end) next (base + p.end));
  next = next;
}

unfoldable pub cursor_at : List ℕ → ℕ → ℕ → ℕ → ℕ → Cursor
cursor_at vs n period base from = placed_at n base (wrapped base period) from (place_at vs n (from - base))

-- the entry at a place, begun at an instant of a cycle that ends at next: it stops at its end, or with the cycle; the last one stops with the cycle
pub record Enters (vs : List ℕ) (n place from next : ℕ) (r : Cursor) : Type 0 where
  pub is : r ≡ record { place = place; from = from; stop = r.stop; next = next }
  pub after : from < r.stop
  pub upto : r.stop ≤ next
  pub holds : place + 1 < n → r.stop ≤ from + slice_index vs place
  pub before : r.stop < next → (place + 1 < n) × (r.stop ≡ from + slice_index vs place)

-- a cursor in a cycle that runs from base to before next: its place is that of the entry that its instant falls into, and the entry runs until its stop
pub record Placed (vs : List ℕ) (n base next : ℕ) (c : Cursor) : Type 0 where
  pub ends : c.next ≡ next
  pub one : c.place < n
  pub inside : base + sum_to vs c.place ≤ c.from
  pub after : c.from < c.stop
  pub upto : c.stop ≤ next
  pub holds : c.place + 1 < n → c.stop ≤ base + (sum_to vs c.place + slice_index vs c.place)
  pub before : c.stop < next → (c.place + 1 < n) × (c.stop ≡ base + (sum_to vs c.place + slice_index vs c.place))

-- a cursor in the running cycle of a configuration
pub record Points (f : Config) (vs : List ℕ) (n : ℕ) (c : Cursor) : Type 0 where
  pub started : f.start ≤ c.from
  pub placed : Placed vs n (plain_start f c.from) (plain_start f c.from + f.cycle) c

-- the used intervals of an array are not 0
abbrev pub Used : List ℕ → ℕ → Type 0
Used vs n = (k : ℕ) → k < n → 0 < slice_index vs k

-- what it takes to go on from a cursor: there is a next entry in the cycle, or the numbers of the next cycle fit
pub record Onward (vs : List ℕ) (n period : ℕ) (c : Cursor) : Type 0 where
  pub some : 1 ≤ n
  pub few : n ≤ 128
  pub used : Used vs n
  pub time : 1 ≤ period
  pub fits : c.next ≤ c.stop → c.next + period < 18446744073709551616
  pub upto : c.stop ≤ c.next
  pub near : c.stop ≤ 9000000001000000000
  pub more : c.stop < c.next → c.place + 1 < n

-- the entry after a cursor's, in the words of `Enters`
pub record Advances (vs : List ℕ) (n period : ℕ) (c r : Cursor) : Type 0 where
  pub wraps : c.next ≤ c.stop → Enters vs n 0 c.next (c.next + period) r
  pub goes : c.stop < c.next → Enters vs n (c.place + 1) c.stop c.next r
