-- Document 01's rule, read off the accepted acts of a timetable alone: no record is in it (demand 3). A history has the newest act first, each with its
-- instant; the acts that follow it stand in a list with the oldest first. The first standing octet is s₀.
-- A submission is accepted only while the mark is on (6), and takes the place of the one that waits, if one does: that one is left out (`effective`; document 02, Item 6).
-- So when the newest of those that are left came, the one before it, if any since the last off, had taken effect, and the ones before that were gone: what operates
-- or waits is told by the two newest, and an off forgets them all. `rule_octet` of a history means something for the instants from its newest act on.
-- Assumes nothing.
use Rattle.std.specs.Prelude.{Bool, true, false, cond, ◌&&◌, List, [], ◌∷◌, ◌++◌, ℕ, zero, suc, ◌-◌, leb, ltb, eqb}
use Rattle.rule.specs.Cycle.{plain_octet, bent_octet}
use Rattle.rule.specs.Timetable.{Waiting}
use Rattle.rule.specs.Acts.{GateAct, on, off, standing, submit, strict, config_of}

abbrev pub History : Type 0
History = List (ℕ × GateAct)

-- the mark, the standing octet, and the submissions since the last off, the newest first
abbrev pub mark_after : GateAct → Bool → Bool
mark_after on b = true
mark_after off b = false
mark_after (standing octet) b = b
mark_after (submit x) b = b
mark_after (strict x) b = b

abbrev pub standing_after : GateAct → ℕ → ℕ
standing_after on o = o
standing_after off o = o
standing_after (standing octet) o = octet
standing_after (submit x) o = o
standing_after (strict x) o = o

abbrev pub submissions_after : ℕ → GateAct → List Waiting → List Waiting
submissions_after t on l = l
submissions_after t off l = []
submissions_after t (standing octet) l = l
submissions_after t (submit x) l = record { config = config_of t x; since = t } ∷ l
submissions_after t (strict x) l = record { config = config_of t x; since = t } ∷ l

unfoldable pub mark_of : History → Bool
mark_of [] = false
mark_of (x ∷ h) = mark_after x.1 (mark_of h)

unfoldable pub standing_of : ℕ → History → ℕ
standing_of s₀ [] = s₀
standing_of s₀ (x ∷ h) = standing_after x.1 (standing_of s₀ h)

unfoldable pub submissions_of : History → List Waiting
submissions_of [] = []
submissions_of (x ∷ h) = submissions_after x.0 x.1 (submissions_of h)

-- the acts less the replaced submissions: a submission that is not strict takes out the one that waits when it comes
abbrev pub unless_waiting : ℕ → ℕ → ℕ × GateAct → History → History
unless_waiting t P x h = cond (leb P t) (x ∷ h) h

-- an act at u of the history in front of h, without the submission that waits at t; r is h without it
abbrev pub less_by : ℕ → ℕ → GateAct → History → History → History
less_by t u on h r = (u, on) ∷ r
less_by t u off h r = (u, off) ∷ h
less_by t u (standing octet) h r = (u, standing octet) ∷ r
less_by t u (submit x) h r = unless_waiting t (config_of u x).start (u, submit x) h
less_by t u (strict x) h r = unless_waiting t (config_of u x).start (u, strict x) h

unfoldable pub less_waiting : ℕ → History → History
less_waiting t [] = []
less_waiting t (x ∷ h) = less_by t x.0 x.1 h (less_waiting t h)

abbrev pub taking_out : ℕ → GateAct → History → History
taking_out t on h = h
taking_out t off h = h
taking_out t (standing octet) h = h
taking_out t (submit x) h = less_waiting t h
taking_out t (strict x) h = h

unfoldable pub effective : History → History
effective [] = []
effective (x ∷ h) = x ∷ taking_out x.0 x.1 (effective h)

-- the octet: the newest submission operates from its change instant on; until then it waits, and the one before it operates, bent
unfoldable pub octet_by : ℕ → List Waiting → ℕ → ℕ
octet_by st [] t = st
octet_by st (w ∷ []) t = cond (leb w.config.start t) (plain_octet w.config t) st
octet_by st (w ∷ v ∷ l) t =
    cond (leb w.config.start t) (plain_octet w.config t) (bent_octet v.config w.since w.config.start t)

unfoldable pub rule_octet : ℕ → History → ℕ → ℕ
rule_octet s₀ h t = cond (mark_of h) (octet_by (standing_of s₀ h) (submissions_of h) t) (standing_of s₀ h)

-- the changes of a function of the instant, at the n instants after lo
unfoldable pub changes : (ℕ → ℕ) → ℕ → ℕ → List (ℕ × ℕ)
changes g lo zero = []
changes g lo (suc n) = cond (eqb (g lo) (g (suc lo))) (changes g (suc lo) n) ((suc lo, g (suc lo)) ∷ changes g (suc lo) n)

-- the changes to be told of: from lo on with the history h, then with each further act from its instant on, to the end e
unfoldable pub rule_changes : ℕ → History → ℕ → List (ℕ × GateAct) → ℕ → List (ℕ × ℕ)
rule_changes s₀ h lo [] e = changes (rule_octet s₀ h) lo (e - lo)
rule_changes s₀ h lo (x ∷ l) e = changes (rule_octet s₀ h) lo (x.0 - lo) ++ rule_changes s₀ (x ∷ h) x.0 l e

-- ConfigChangeError: the submissions whose base time was past while one operated
unfoldable pub operates : List Waiting → ℕ → Bool
operates [] t = false
operates (w ∷ []) t = leb w.config.start t
operates (w ∷ v ∷ l) t = true

abbrev pub errors_by : ℕ → GateAct → List Waiting → ℕ → ℕ
errors_by t on l n = n
errors_by t off l n = n
errors_by t (standing octet) l n = n
errors_by t (submit x) l n = cond (ltb x.base t && operates l t) (suc n) n
errors_by t (strict x) l n = cond (ltb x.base t && operates l t) (suc n) n

unfoldable pub rule_errors : History → ℕ
rule_errors [] = 0
rule_errors (x ∷ h) = errors_by x.0 x.1 (submissions_of (effective h)) (rule_errors h)
