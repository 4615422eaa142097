-- What the listing's parts promise each other: an opened sheet; a page filled with lines; a stride of the span, and all strides joined. Private to the crate but
-- for `Lists`.
-- Assumes nothing.
use Rattle.std.specs.Prelude.{◌≡◌, List, ℕ, ◌-◌, ◌≤◌, ◌<◌, length, Result, Ok, Err, IfOk}
use Rattle.rule.specs.declared.Refusal.{Refusal}
use Rattle.rule.specs.Machine.{ticks, log}
use Rattle.rule.specs.Machines.{machine}
use Rattle.port.specs.declared.Port.{Port}
use Rattle.port.specs.Coding.{decode, encode}
use Rattle.course.specs.Columns.{into}
use Rattle.lister.specs.declared.Cut.{Cut}
use Rattle.lister.specs.declared.span.Span.{Span}
use Rattle.lister.specs.Opening.{Opening, refused, spans}
use Rattle.lister.specs.Lines.{change_lines}

-- where a record stands, and its ConfigChangeError
abbrev pub clock_of : Port → ℕ
clock_of p = p.gates.times.clock

abbrev pub errors_of : Port → ℕ
errors_of p = p.gates.times.errors

-- what a sheet is opened as: why there is no port, or a port that can go to the end of its span, as its type says
abbrev pub opened_as : Result Span Refusal → Opening
opened_as (Ok s) = spans (decode s.port) s.end
opened_as (Err r) = refused r

pub record Opens (x : Opening) (r : Result Span Refusal) : Type 0 where
  pub is : opened_as r ≡ x

-- a page of 24,576 octets begins with a text, and the rest of it stays; n counts the text's octets
pub record Fills (text page page' : List ℕ) (n : ℕ) : Type 0 where
  pub count : n ≡ length text
  pub begins : page' ≡ into text page
  pub long : length page' ≡ 24_576

-- what k instants bring: the record after them, and the lines of their changes
abbrev pub goes_on : Port → ℕ → Port
goes_on p k = encode (ticks machine k (decode p))

abbrev pub lines_of : Port → ℕ → List ℕ
lines_of p k = change_lines (log machine k (decode p))

-- a stride comes nearer to the end, which stays; its page has the lines of its changes, in so many octets
pub record OneStride (s : Span) (page page' : List ℕ) (r : Span × ℕ) : Type 0 where
  pub onward : clock_of s.port < clock_of r.0.port
  pub within : clock_of r.0.port ≤ s.end
  pub end : r.0.end ≡ s.end
  pub port : r.0.port ≡ goes_on s.port (clock_of r.0.port - clock_of s.port)
  pub lines : Fills (lines_of s.port (clock_of r.0.port - clock_of s.port)) page page' r.1

-- the strides up to the clock of t: the changes of the whole way, and how many octets their lines have
pub record ListedUpTo (s t : Span) (octets : ℕ) : Type 0 where
  pub from : clock_of s.port ≤ clock_of t.port
  pub end : t.end ≡ s.end
  pub port : t.port ≡ goes_on s.port (clock_of t.port - clock_of s.port)
  pub count : octets ≡ length (lines_of s.port (clock_of t.port - clock_of s.port))

-- all strides: the port at the end, and how many octets the lines of all changes have
pub record WholeSpan (s : Span) (r : Span × ℕ) : Type 0 where
  pub few : r.1 ≤ 24_000_000_000
  pub port : r.0.port ≡ goes_on s.port (s.end - clock_of s.port)
  pub count : r.1 ≡ length (lines_of s.port (s.end - clock_of s.port))

-- a listing that standard output took has so many octets as its text; of one that was cut nothing is said
abbrev pub Lists : List ℕ → Result ℕ Cut → Type 0
Lists text r = IfOk r (λ n. n ≡ length text)
