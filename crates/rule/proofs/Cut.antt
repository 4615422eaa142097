-- However a span is cut into steps, whatever the room of each and whatever is refused: the state and the changes joined end to end are those of the acts
-- alone, each at its instant (`run-port`, `run_out`), and which acts are accepted follows from those tried, whatever refused ones are put in between
-- (`besides_acts`). Over any machine. In order: ticks and logs add up; the acts' own run does not feel a stop on the way; a series of calls; the acts
-- tried. What one step does with its room is in `Reach`.
-- Assumes nothing.
use mathlib.Core.Path.{◌≡◌, refl, ap, sym, ◌∙◌, subst, subst⁻¹}
use mathlib.Core.Bool.{Bool, true, false, cond}
use mathlib.Core.Logic.{⊎_elim}
use mathlib.Core.List.{List, [], ◌∷◌, ◌++◌, append_assoc}
use Prim.Native.Nat.{ℕ, zero, suc, ◌+◌, ◌-◌, ◌≤◌}
use native.Mathlib.Nat.{zero-add, suc-add, sub_self}
use native.Mathlib.Omega.{arith}
use Rattle.rule.specs.Machine.{Machine, Outcome, ticks, noted, log, replay, Try, Besides}
use Rattle.rule.specs.Series.{Call, step, attempt, elapsed, run, with_act, replay_log, tries}

-- what holds of both sides of a choice holds of the choice; each side has its own equation
pub cases : {A : Type 0} (P : A → Type 0) (b : Bool) (x y : A) → (b ≡ true → P x) → (b ≡ false → P y) → P (cond b x y)
cases P true x y f g = f refl
cases P false x y f g = g refl

-- the laws of a machine: a tick is one instant, an act takes no time
pub record Lawful (M : Machine) : Type 0 where
  pub clock-tick : (s : M.State) → M.clock (M.tick s) ≡ suc (M.clock s)
  pub clock-perform : (a : M.Act) (s : M.State) → M.clock (M.perform a s) ≡ M.clock s

module _ (M : Machine) (L : Lawful M) where
  open M use {State, Out, Act, clock, tick, now, same, accepts, perform, accepts_goal}

  pub clock-ticks : (n : ℕ) (s : State) → clock (ticks M n s) ≡ clock s + n
  unfolding ticks
  clock-ticks zero s = omega arith
  clock-ticks (suc n) s = omega (arith, clock-ticks n (tick s), L.clock-tick s)

  pub ticks-add : (m n : ℕ) (s : State) → ticks M (m + n) s ≡ ticks M n (ticks M m s)
  unfolding ticks
  ticks-add zero n s = rw zero-add
  ticks-add (suc m) n s = rw suc-add (ticks-add m n (tick s))

  noted-append : (b : Bool) (s : State) (l r : List (ℕ × Out)) → noted M b s (l ++ r) ≡ noted M b s l ++ r
  unfolding noted
  noted-append true s l r = refl
  noted-append false s l r = refl

  pub log-add : (m n : ℕ) (s : State) → log M (m + n) s ≡ log M m s ++ log M n (ticks M m s)
  unfolding log ticks
  log-add zero n s = rw zero-add
  log-add (suc m) n s = rw (suc-add, log-add m n (tick s)) (noted-append _ _ _ _)

  -- the acts stand at t or later, one after the other, and so does the end
  unfoldable pub Timely : ℕ → List (ℕ × Act) → ℕ → Type 0
  Timely t [] e = t ≤ e
  Timely t (x ∷ l) e = (t ≤ x.0) × Timely x.0 l e

  pub timely_mono : {t u : ℕ} (l : List (ℕ × Act)) (e : ℕ) → t ≤ u → Timely u l e → Timely t l e
  unfolding Timely
  timely_mono [] e h k = omega arith
  timely_mono (x ∷ l) e h k = (omega arith, k.1)

  -- to go to t is to go on to t from a stop on the way
  to_split : (k t : ℕ) (s : State) → clock s + k ≤ t → t - clock s ≡ k + (t - clock (ticks M k s))
  to_split k t s h = omega (arith, clock-ticks k s)

  ticks_to : (k t : ℕ) (s : State) → clock s + k ≤ t → ticks M (t - clock s) s ≡ ticks M (t - clock (ticks M k s)) (ticks M k s)
  ticks_to k t s h = ap (λ n. ticks M n s) (to_split k t s h) ∙ ticks-add k (t - clock (ticks M k s)) s

  log_to : (k t : ℕ) (s : State) → clock s + k ≤ t
      → log M (t - clock s) s ≡ log M k s ++ log M (t - clock (ticks M k s)) (ticks M k s)
  log_to k t s h = ap (λ n. log M n s) (to_split k t s h) ∙ log-add k (t - clock (ticks M k s)) s

  -- the acts' own run does not feel a stop on the way
  replay-ticks : (k : ℕ) (s : State) (l : List (ℕ × Act)) (e : ℕ) → Timely (clock s + k) l e
      → replay M l e s ≡ replay M l e (ticks M k s)
  unfolding Timely replay
  replay-ticks k s [] e h = ticks_to k e s h
  replay-ticks k s (x ∷ l) e h = ap (λ q. replay M l e (perform x.1 q)) (ticks_to k x.0 s h.0)

  replayed_ticks : (k : ℕ) (s : State) (l : List (ℕ × Act)) (e : ℕ) → Timely (clock s + k) l e
      → replay_log M l e s ≡ log M k s ++ replay_log M l e (ticks M k s)
  unfolding Timely replay_log
  replayed_ticks k s [] e h = log_to k e s h
  replayed_ticks k s (x ∷ l) e h = rw (← ticks_to k x.0 s h.0, log_to k x.0 s h.0, append_assoc)

  -- what a run's acts and end are
  pub run_timely : (cs : List (Call Act)) (s : State) → Timely (clock s) (run M cs s).acts (clock (run M cs s).port)
  unfolding Timely run
  run_timely [] s = omega arith
  run_timely (step g m ∷ cs) s =
      let k : ℕ = elapsed M (step g m) s in
      timely_mono (run M cs (ticks M k s)).acts _ (omega (arith, clock-ticks k s)) (run_timely cs (ticks M k s))
  run_timely (attempt a ∷ cs) s =
      cases (λ (r : Outcome State Out Act). Timely (clock s) r.acts (clock r.port)) (accepts a s) _ _
      (λ _. let r = run M cs (perform a s) in
      (omega arith, subst (λ t. Timely t r.acts (clock r.port)) (L.clock-perform a s) (run_timely cs (perform a s))))
      (λ _. run_timely cs s)

  stay : (s : State) → ticks M (clock s - clock s) s ≡ s
  unfolding ticks
  stay s = rw sub_self

  still : (s : State) → log M (clock s - clock s) s ≡ []
  unfolding log
  still s = rw sub_self

  -- demand 3, the cutting: port and changes are those of the accepted acts alone
  pub run-port : (cs : List (Call Act)) (s : State) → (run M cs s).port ≡ replay M (run M cs s).acts (clock (run M cs s).port) s
  unfolding run replay
  run-port [] s = sym (stay s)
  run-port (step g m ∷ cs) s =
      let k : ℕ = elapsed M (step g m) s in
      let q : State = ticks M k s in
      run-port cs q ∙ sym (replay-ticks k s (run M cs q).acts (clock (run M cs q).port) (rw (clock-ticks k s) at (run_timely cs q)))
  run-port (attempt a ∷ cs) s =
      cases (λ (r : Outcome State Out Act). r.port ≡ replay M r.acts (clock r.port) s) (accepts a s) _ _
      (λ _. let r = run M cs (perform a s) in
      run-port cs (perform a s) ∙ ap (λ q. replay M r.acts (clock r.port) (perform a q)) (sym (stay s)))
      (λ _. run-port cs s)

  pub run_out : (cs : List (Call Act)) (s : State) → (run M cs s).out ≡ replay_log M (run M cs s).acts (clock (run M cs s).port) s
  unfolding run replay_log
  run_out [] s = sym (still s)
  run_out (step g m ∷ cs) s =
      let k : ℕ = elapsed M (step g m) s in
      let q : State = ticks M k s in
      ap (λ l. log M k s ++ l) (run_out cs q)
      ∙ sym (replayed_ticks k s (run M cs q).acts (clock (run M cs q).port) (rw (clock-ticks k s) at (run_timely cs q)))
  run_out (attempt a ∷ cs) s =
      cases (λ (r : Outcome State Out Act). r.out ≡ replay_log M r.acts (clock r.port) s) (accepts a s) _ _
      (λ _. rw (still s, stay s) (run_out cs (perform a s)))
      (λ _. run_out cs s)

  -- two series of calls with the same accepted acts at the same instants and the same end: one port, one list of changes
  pub one-outcome : (cs ds : List (Call Act)) (s : State) → (run M cs s).acts ≡ (run M ds s).acts
      → clock (run M cs s).port ≡ clock (run M ds s).port
      → ((run M cs s).port ≡ (run M ds s).port) × ((run M cs s).out ≡ (run M ds s).out)
  one-outcome cs ds s p q =
      (run-port cs s ∙ (λ i. replay M (p i) (q i) s) ∙ sym (run-port ds s), run_out cs s ∙ (λ i. replay_log M (p i) (q i) s) ∙ sym (run_out ds s))

  -- which acts are accepted does not hang on the steps, nor on refused acts put in between

  -- the state after an act was tried
  abbrev tried : Act → State → State
  tried a s = cond (accepts a s) (perform a s) s

  -- the same act tried in front of two series that agree from any state on
  both_try : (cs ds : List (Call Act)) → ((q : State) → Besides (tries M cs q) (tries M ds q) → (run M cs q).acts ≡ (run M ds q).acts)
      → (a b : Act) (s u : State) → a ≡ b → s ≡ u → Besides (tries M cs (tried a s)) (tries M ds (tried b u))
      → (run M (attempt a ∷ cs) s).acts ≡ (run M (attempt b ∷ ds) u).acts
  unfolding run
  both_try cs ds f a b s u c q h =
      go (accepts a s) (subst⁻¹ (λ (x : Act × State). Besides (tries M cs (tried a s)) (tries M ds (tried x.0 x.1))) (λ t. (c t, q t)) h)
      ∙ (λ t. (run M (attempt (c t) ∷ ds) (q t)).acts)
    where
      go : (b : Bool) → Besides (tries M cs (cond b (perform a s) s)) (tries M ds (cond b (perform a s) s))
          → (cond b (with_act (clock s) a (run M cs (perform a s))) (run M cs s)).acts
          ≡ (cond b (with_act (clock s) a (run M ds (perform a s))) (run M ds s)).acts
      go true k = ap (λ l. (clock s, a) ∷ l) (f (perform a s) k)
      go false k = f s k

  -- a refused act in front of a series
  refused_try : (b : Act) (ds : List (Call Act)) (u : State) (xs : List (Try Act)) → accepts b u ≡ false
      → Besides xs (tries M ds (tried b u))
      → (Besides xs (tries M ds u)) × ((run M (attempt b ∷ ds) u).acts ≡ (run M ds u).acts)
  unfolding run
  refused_try b ds u xs e h = (subst (λ c. Besides xs (tries M ds (cond c (perform b u) u))) e h, rw e)

  -- two states that time makes of one are the same at the same instant
  one_state : (z s u : State) (i j : ℕ) → s ≡ ticks M i z → u ≡ ticks M j z → clock s ≡ clock u → s ≡ u
  one_state z s u i j e f h =
      let n : i ≡ j = omega (arith, h, ap clock e ∙ clock-ticks i z, ap clock f ∙ clock-ticks j z) in
      e ∙ ap (λ t. ticks M t z) n ∙ sym f

  besides_from : (cs ds : List (Call Act)) (z s u : State) (i j : ℕ) → s ≡ ticks M i z → u ≡ ticks M j z
      → Besides (tries M cs s) (tries M ds u) → (run M cs s).acts ≡ (run M ds u).acts
  unfolding Besides tries run ticks
  besides_from [] [] z s u i j e f h = refl
  besides_from [] (step g m ∷ ds) z s u i j e f h =
      let k : ℕ = elapsed M (step g m) u in
      besides_from [] ds z s (ticks M k u) i (j + k) e (ap (ticks M k) f ∙ sym (ticks-add j k z)) h
  besides_from [] (attempt b ∷ ds) z s u i j e f h =
      let r = refused_try b ds u [] h.0 h.1 in
      besides_from [] ds z s u i j e f r.0 ∙ sym r.1
  besides_from (step g m ∷ cs) ds z s u i j e f h =
      let k : ℕ = elapsed M (step g m) s in
      besides_from cs ds z (ticks M k s) u (i + k) j (ap (ticks M k) e ∙ sym (ticks-add i k z)) f h
  besides_from (attempt a ∷ cs) [] z s u i j e f h = absurd h
  besides_from (attempt a ∷ cs) (step g m ∷ ds) z s u i j e f h =
      let k : ℕ = elapsed M (step g m) u in
      besides_from (attempt a ∷ cs) ds z s (ticks M k u) i (j + k) e (ap (ticks M k) f ∙ sym (ticks-add j k z)) h
  besides_from (attempt a ∷ cs) (attempt b ∷ ds) z s u i j e f h =
      ⊎_elim
      (λ k. both_try cs ds (λ v. besides_from cs ds v v v 0 0 refl refl) a b s u (ap (λ (x : ℕ × Act). x.1) k.0)
      (one_state z s u i j e f (ap (λ (x : ℕ × Act). x.0) k.0)) k.1)
      (λ k. let r = refused_try b ds u (((clock s, a), accepts a s) ∷ tries M cs (tried a s)) k.0 k.1 in
      besides_from (attempt a ∷ cs) ds z s u i j e f r.0 ∙ sym r.1)
      h

  pub besides_acts : (cs ds : List (Call Act)) (s : State) → Besides (tries M cs s) (tries M ds s) → (run M cs s).acts ≡ (run M ds s).acts
  unfolding ticks
  besides_acts cs ds s = besides_from cs ds s s s 0 0 refl refl
