-- Document 01, 'The sheet and the listing program': the text that the listing of a sheet is. First line: start, octet after the submission. Then each change:
-- instant, octet. Octets are two upper-case hex digits. Last: end, octet, ConfigChangeError. A refusal gives only `refused` and its number. Each line ends with a
-- line end (10).
-- Assumes nothing.
use Rattle.std.specs.Prelude.{List, [], ◌∷◌, ◌++◌, ℕ, ◌-◌}
use Rattle.rule.specs.declared.Refusal.{Refusal}
use Rattle.rule.specs.Refusals.{number_of}
use Rattle.rule.specs.Timetable.{shown_now}
use Rattle.rule.specs.Port.{Port}
use Rattle.rule.specs.Machine.{ticks, log}
use Rattle.rule.specs.Machines.{machine}
use Rattle.text.specs.Decimal.{decimal_of}
use Rattle.text.specs.Put.{hex_of}
use Rattle.lister.specs.Opening.{Opening, refused, spans, opening}

-- ASCII
abbrev pub line_end : List ℕ
line_end = 10 ∷ []

abbrev pub space : List ℕ
space = 32 ∷ []

-- `refused `, `start `, `end `, ` errors `
abbrev pub refused_word : List ℕ
refused_word = 114 ∷ 101 ∷ 102 ∷ 117 ∷ 115 ∷ 101 ∷ 100 ∷ 32 ∷ []

abbrev pub start_word : List ℕ
start_word = 115 ∷ 116 ∷ 97 ∷ 114 ∷ 116 ∷ 32 ∷ []

abbrev pub end_word : List ℕ
end_word = 101 ∷ 110 ∷ 100 ∷ 32 ∷ []

abbrev pub errors_word : List ℕ
errors_word = 32 ∷ 101 ∷ 114 ∷ 114 ∷ 111 ∷ 114 ∷ 115 ∷ 32 ∷ []

-- an instant and an octet
unfoldable pub moment_text : ℕ → ℕ → List ℕ
moment_text t octet = (decimal_of t ++ space) ++ hex_of octet

-- the lines
unfoldable pub change_line : ℕ → ℕ → List ℕ
change_line t octet = moment_text t octet ++ line_end

unfoldable pub change_lines : List (ℕ × ℕ) → List ℕ
change_lines [] = []
change_lines (x ∷ l) = change_line x.0 x.1 ++ change_lines l

unfoldable pub refused_line : Refusal → List ℕ
refused_line r = (refused_word ++ decimal_of (number_of r)) ++ line_end

unfoldable pub start_line : ℕ → ℕ → List ℕ
start_line t octet = start_word ++ change_line t octet

unfoldable pub end_line : ℕ → ℕ → ℕ → List ℕ
end_line t octet errors = (((end_word ++ moment_text t octet) ++ errors_word) ++ decimal_of errors) ++ line_end

-- the lines of a port's span of n instants
abbrev pub first_line : Port → List ℕ
first_line p = start_line p.gates.clock (shown_now p.gates)

abbrev pub last_line : Port → List ℕ
last_line p = end_line p.gates.clock (shown_now p.gates) p.gates.errors

unfoldable pub span_lines : ℕ → Port → List ℕ
span_lines n p = first_line p ++ (change_lines (log machine n p) ++ last_line (ticks machine n p))

-- the listing of a sheet
abbrev pub opening_lines : Opening → List ℕ
opening_lines (refused r) = refused_line r
opening_lines (spans p end) = span_lines (end - p.gates.clock) p

unfoldable pub listing : List ℕ → List ℕ
listing s = opening_lines (opening s)
