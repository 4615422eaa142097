-- Each contract of a public function leaves one outcome: two results that it allows for one input are equal. `Timetable::new`, `cleared`, `moved`, `shown_at`,
-- `Times::regime`, `last_begun`, `Stretch::cursor`, `advance` and `change_instant` promise an equation, and two results equal to one value are equal
-- (`equation_unique`); so do `operating`, `waiting` and `list`, of what is lent; `formed` promises `Checked` (`checked_unique`).
-- Assumes nothing.
use Rattle.std.proofs.Common.{◌≡◌, Bool, sym, ◌∙◌}
use Rattle.timetable.specs.declared.Timetable.{Timetable}
use Rattle.timetable.specs.Checks.{Checked}

pub equation_unique : {A : Type 0} (v r s : A) → r ≡ v → s ≡ v → r ≡ s
equation_unique v r s k l = k ∙ sym l

pub checked_unique : (g : Timetable) (r s : Bool) → Checked g r → Checked g s → r ≡ s
checked_unique g r s k l = k.is ∙ sym l.is
