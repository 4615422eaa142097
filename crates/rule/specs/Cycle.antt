-- Document 01, 'What the gates show': the cycle of a submission, the change instant (8.6.9.3.1), the starts of a configuration's cycles, and how a
-- waiting change bends them (8.6.9.1.1). `start_no` and `cycle_no` are the formula; everything else is said by them.
-- Where 01 narrows the standard: the cycle is a whole number of nanoseconds.
-- Assumes nothing.
use Rattle.std.specs.Prelude.{Bool, cond, not, ◌&&◌, List, ℕ, suc, ◌+◌, ◌-◌, ◌*◌, ◌/◌, ◌%◌, ◌<◌, pred, max, leb, eqb}
use Rattle.rule.specs.Limits.{largest_cycle}
use Rattle.rule.specs.Entries.{Entry, octet_at}

-- the cycle of numerator / denominator seconds, in ns; it must be whole and in range
abbrev pub cycle_of : ℕ → ℕ → ℕ
cycle_of numerator denominator = numerator * 1_000_000_000 / denominator

unfoldable pub cycle_offered : ℕ → ℕ → Bool
cycle_offered numerator denominator =
    not (eqb denominator 0)
    && (eqb (numerator * 1_000_000_000 % denominator) 0
    && (leb 1 (cycle_of numerator denominator) && leb (cycle_of numerator denominator) largest_cycle))

-- a configuration; its cycles run from start: of an operating one the instant of its installation, I, of a waiting one the change instant, P
pub record Config : Type 0 where
  pub start : ℕ
  pub cycle : ℕ
  pub extension : ℕ
  pub list : List Entry

-- what the formula asks of a configuration
unfoldable pub Valid : Config → Type 0
Valid f = 0 < f.cycle

-- the k-th start, k from 0, and the number of the plain cycle that runs at t
unfoldable pub start_no : Config → ℕ → ℕ
start_no f k = f.start + k * f.cycle

unfoldable pub cycle_no : Config → ℕ → ℕ
cycle_no f t = (t - f.start) / f.cycle

-- the first k whose start is x or later
unfoldable pub first_no : Config → ℕ → ℕ
first_no f x = cond (leb x f.start) 0 (suc (cycle_no f (x - 1)))

-- a configuration whose cycles start at i
abbrev pub starting_at : ℕ → Config → Config
starting_at i f = record { start = i; cycle = f.cycle; extension = f.extension; list = f.list }

-- the change instant of a submission at a: the base time if that is a or later, else the first of base + c, base + 2c and so on that is
unfoldable pub change_instant : Config → ℕ → ℕ → ℕ
change_instant f base a = start_no (starting_at base f) (first_no (starting_at base f) a)

-- the last old cycle, for a change that waits from a until P: the first start s later than a whose next start, put off by the extension, is P or
-- later
unfoldable pub last_no : Config → ℕ → ℕ → ℕ
last_no f a P = max (suc (cycle_no f a)) (pred (first_no f (P - f.extension)))

-- the start of the cycle that runs at t: plain; and while a change waits from a until P
unfoldable pub plain_start : Config → ℕ → ℕ
plain_start f t = start_no f (cycle_no f t)

unfoldable pub bent_start : Config → ℕ → ℕ → ℕ → ℕ
bent_start f a P t = let s = start_no f (last_no f a P) in cond (leb s t) s (plain_start f t)

-- the octet of the entry whose stretch contains the time since that start
unfoldable pub plain_octet : Config → ℕ → ℕ
plain_octet f t = octet_at f.list (t - plain_start f t)

unfoldable pub bent_octet : Config → ℕ → ℕ → ℕ → ℕ
bent_octet f a P t = octet_at f.list (t - bent_start f a P t)
