-- The walk of a step over a timetable: what rules at an instant, cut at the goal, is a span that can be walked, and a span of what is shown is a stretch of
-- the step.
-- Assumes nothing.
use Rattle.std.proofs.Common.{◌≡◌, ℕ, ◌+◌, ◌≤◌, min, Some, None, arith}
use mathlib.Core.Path.{subst⁻¹}
use Rattle.rule.specs.Limits.{largest_instant}
use Rattle.rule.specs.Timetable.{shown}
use Rattle.rule.proofs.Regime.{Rules, rules_inside}
use Rattle.gatelist.specs.declared.GateList.{GateList}
use Rattle.gatelist.specs.declared.Entries.{Entries}
use Rattle.gatelist.specs.Coding.{list_of, lent}
use Rattle.timetable.specs.declared.Times.{Times}
use Rattle.timetable.specs.declared.Timetable.{Timetable}
use Rattle.timetable.specs.declared.ruling.Span.{Span}
use Rattle.timetable.specs.declared.ruling.Which.{Which}
use Rattle.timetable.specs.Record.{list_in}
use Rattle.timetable.specs.Cursor.{Used}
use Rattle.timetable.specs.Coding.{decode}
use Rattle.timetable.specs.Checks.{Fine}
use Rattle.timetable.specs.Regime.{span_at, cut_at, Governs}
use Rattle.timetable.proofs.Spans.{InTime, governs, governs_cut}
use Rattle.timetable.proofs.Records.{list-fine, list-used, table_flat, table_ruled}
use Rattle.timetable.specs.declared.cursor.Stretch.{Stretch}
use Rattle.course.specs.declared.Walk.{Walk}
use Rattle.course.specs.Journey.{Walked, PassPromise, journey_of, Ahead, SpanPromise}
use Rattle.course.specs.Stretch.{Reportable, ListPromise}

-- the stretch that a span from t on is, for a list
abbrev pub stretch_of : Entries → ℕ → Span → Stretch
stretch_of l t r = record { list = l; period = r.period; base = r.start; from = t; edge = r.edge }

-- what rules at t, to no later than the goal's next instant
pub span_ahead : (x : Times) (t goal : ℕ) → 1 ≤ t → t ≤ goal → goal ≤ largest_instant → InTime x t → (r : Span) → r ≡ span_at x t → (e : ℕ)
    → e ≡ min r.edge (goal + 1) → Ahead x t (cut_at e r)
span_ahead x t goal a b c k r i e q =
    let g : Governs x t r = subst⁻¹ (Governs x t) i (governs x t k) in
    let u = g.after in
    record { first = a; near = omega arith; governs = governs_cut x t r g e (omega arith) (omega arith) }

module _ (g : Timetable) (t : ℕ) (r : Span) (h : Ahead g.times t r) where
  pub span_flat : r.list ≡ None → (w : Walk) (r' : Walked) (w' : Walk) → PassPromise g.times.standing t r.edge w r' w'
      → SpanPromise g r t w r' w'
  span_flat e w r' w' k goal at₀ os₀ u d = k (journey_of g goal at₀ os₀) d u (λ v a b. table_flat g t r h.governs e v a b)

  module _ (which : Which) (e : r.list ≡ Some which) (l : Entries) (is : lent l ≡ list_in g which) where
    ruled : Rules (shown (decode g)) (list_of (lent l)) r.period r.start t r.edge
    ruled = subst⁻¹ (λ k. Rules (shown (decode g)) (list_of k) r.period r.start t r.edge) is (table_ruled g t r h.governs which e)

    pub span_reportable : Fine g → Reportable l.intervals.now (stretch_of l t r)
    span_reportable k =
        let there = h.governs.there which e in
        let few = subst⁻¹ (λ (q : GateList). (1 ≤ q.len) × (q.len ≤ 128)) is (list-fine g k which there) in
        let i = rules_inside (shown (decode g)) (list_of (lent l)) r.period r.start t r.edge ruled in
        record {
          walkable = record {
            some = few.0;
            few = few.1;
            used = subst⁻¹ (λ (q : GateList). Used q.intervals q.len) is (list-used g k which there);
            begun = i.0;
            ahead = i.1;
            before = h.governs.after;
            near = omega (arith, h.near);
            short = h.governs.short which e;
          };
          first = h.first;
        }

    pub span_walks : (w : Walk) (r' : Walked) (w' : Walk) → ListPromise l.octets.now l.intervals.now (stretch_of l t r) w r' w'
        → SpanPromise g r t w r' w'
    span_walks w r' w' k goal at₀ os₀ u d =
        let z = ruled in
        k (journey_of g goal at₀ os₀) z.config
        (record { plays = record { valid = z.valid; list = z.list; cycle = z.cycle }; shows = z.all; goal = u })
        (record { started = z.started; base = z.runs }) d
