-- Document 01, 'The port we are building': the limits that the port type states. Time is a whole number of nanoseconds.
-- Assumes nothing.
use Rattle.std.specs.Prelude.{ℕ}

-- SupportedListMax (12.29.1)
abbrev pub largest_list : ℕ
largest_list = 128

abbrev pub largest_instant : ℕ
largest_instant = 9_000_000_000_000_000_000

abbrev pub largest_cycle : ℕ
largest_cycle = 1_000_000_000

abbrev pub largest_step : ℕ
largest_step = 1_000_000_000

-- octets of a frame, with FCS
abbrev pub shortest_frame : ℕ
shortest_frame = 64

abbrev pub longest_frame : ℕ
longest_frame = 2_000

-- the longest frame at the lowest speed takes so many nanoseconds, the gap after it included
abbrev pub longest_span : ℕ
longest_span = 1_616_000
