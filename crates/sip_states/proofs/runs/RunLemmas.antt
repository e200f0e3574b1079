-- Lemmas of runs, one step at a time: a run is a run to its last event and a wait from there.
-- In the lemmas y is the state in which a run stands at the moment m.
use Rattle.std.proofs.Common.{◌≡◌, ◌≤◌, ◌↔◌, inl, inr, ℕ, List, [], ◌∷◌, ◌++◌, map, refl, sym, ap, subst, arith, ◌∙◌}
use Rattle.sip_standard.specs.MachineEvent.{MachineEvent}
use Rattle.sip_machine.specs.Rules.{MachineRules, IsLawful}
use Rattle.sip_states.specs.Waits.{Wait, RunGives}
use Rattle.sip_states.proofs.runs.Steps.{Step, Hides, Takes, moment_of_step, Does, Goes, Reaches, taken, HidesFrom, RuledRun, AfterRun}
use Rattle.sip_states.proofs.sets.Waiting.{IsWithin-none, ends_once}

-- hidden steps take no event
pub taken-hides : (ends : List ℕ) → taken (map Hides ends) ≡ []
taken-hides [] = refl
taken-hides (t ∷ ends) = taken-hides ends

-- steps that take no event are all hidden
pub none_taken : (steps : List Step) → taken steps ≡ [] → (ends : List ℕ) × (steps ≡ map Hides ends)
none_taken [] e = ([], refl)
none_taken (Hides t ∷ steps) e = let (ends, is) = none_taken steps e in (t ∷ ends, ap (λ s. Hides t ∷ s) is)
none_taken (Takes f ∷ steps) e = absurd (cc)

-- two lists of steps, joined, take what the first takes and then what the second takes
pub taken-append : (front rest : List Step) → taken (front ++ rest) ≡ taken front ++ taken rest
taken-append [] rest = refl
taken-append (Hides t ∷ front) rest = taken-append front rest
taken-append (Takes f ∷ front) rest = ap (λ s. f ∷ s) (taken-append front rest)

-- the steps before the one that takes the last event f, that step, and the hidden steps after it
pub record SplitAt (steps : List Step) (fs : List MachineEvent) (f : MachineEvent) : Type 0 where
  pub front : List Step
  pub ends : List ℕ
  pub is : steps ≡ front ++ Takes f ∷ map Hides ends
  pub takes : taken front ≡ fs

-- steps whose first takes the only event, and whose others are hidden, are split at the first
here : (steps : List Step) (g f : MachineEvent) → g ≡ f → (ends : List ℕ) → steps ≡ map Hides ends → SplitAt (Takes g ∷ steps) [] f
here steps g f first ends is = record { front = []; ends = ends; is = rw (first, is); takes = refl }

-- steps that are split at the one of the last event stay so with a step more before them, which takes another event
-- g is the event that the step more takes, k the same event in the list, and fs and f are those after it
later : (steps : List Step) (g k : MachineEvent) (fs : List MachineEvent) (f : MachineEvent) → g ≡ k → SplitAt steps fs f → SplitAt (Takes g ∷ steps) (k ∷ fs) f
later steps g k fs f first s = record { front = Takes g ∷ s.front; ends = s.ends; is = ap (λ more. Takes g ∷ more) s.is; takes = rw (first, s.takes) }

-- steps that take the events fs and then f are split at the one that takes f
-- no events are as long as one or more; a hidden step changes no event; where f alone is left, the first step that takes an event takes f
pub split_last : (steps : List Step) (fs : List MachineEvent) (f : MachineEvent) → taken steps ≡ fs ++ f ∷ [] → SplitAt steps fs f
split_last [] [] f e = absurd (cc)
split_last [] (g ∷ fs) f e = absurd (cc)
split_last (Hides t ∷ steps) fs f e =
    let s = split_last steps fs f e in record { front = Hides t ∷ s.front; ends = s.ends; is = ap (λ rest. Hides t ∷ rest) s.is; takes = s.takes }
split_last (Takes g ∷ steps) [] f e = let none = none_taken steps (cc) in here steps g f (cc) none.0 none.1
split_last (Takes g ∷ steps) (k ∷ fs) f e = later steps g k fs f (cc) (split_last steps fs f (cc))

-- What follows is of the runs by the rules r of a machine.
module _ {X : Type 0} (r : MachineRules X) where
  -- a state between two lists of steps: the first leads to it, and the step and the others lead on from it
  pub record Passes (x : X) (h : ℕ) (front : List Step) (step : Step) (rest : List Step) (y : X) (m : ℕ) : Type 0 where
    pub middle : X
    pub goes : Goes r x h (front ++ step ∷ []) middle (moment_of_step step)
    pub then : Goes r middle (moment_of_step step) rest y m

  -- steps pass through the state before each step
  -- the steps lead from x at the moment h to y at the moment m
  pub Goes-split : (x : X) (h : ℕ) (front : List Step) (step : Step) (rest : List Step) (y : X) (m : ℕ) → Goes r x h (front ++ step ∷ rest) y m → Passes x h front step rest y m
  Goes-split x h [] step rest y m (z, low, does, goes) = record { middle = z; goes = (z, low, does, (refl, refl)); then = goes }
  Goes-split x h (s ∷ front) step rest y m (z, low, does, goes) =
      let p = Goes-split z (moment_of_step s) front step rest y m goes in record { middle = p.middle; goes = (z, low, does, p.goes); then = p.then }

  -- steps to a state and steps from there, joined, are steps
  -- the steps lead from x at the moment h to y at the moment m; z is the state after the first
  pub Goes-join : (x : X) (h : ℕ) (front : List Step) (step : Step) (rest : List Step) (y : X) (m : ℕ) → Passes x h front step rest y m → Goes r x h (front ++ step ∷ rest) y m
  Goes-join x h [] step rest y m p =
      let (z, low, does, last) = p.goes in (z, low, does, subst (λ v. Goes r v (moment_of_step step) rest y m) last.0 p.then)
  Goes-join x h (s ∷ front) step rest y m p =
      let (z, low, does, goes) = p.goes in
      (z, low, does, Goes-join z (moment_of_step s) front step rest y m (record { middle = p.middle; goes = goes; then = p.then }))

  -- the steps before the last one lead to a state, from which the last one leads on
  pub record Lasts (x : X) (h : ℕ) (front : List Step) (step : Step) (y : X) : Type 0 where
    pub before : X
    pub at : ℕ
    pub goes : Goes r x h front before at
    pub low : at ≤ moment_of_step step
    pub does : Does r before step y

  -- steps to the moment of the last one are those before it and that one
  -- the steps lead from x at the moment h to y at the moment of the last one; z is the state after the first
  pub Goes-last : (x : X) (h : ℕ) (front : List Step) (step : Step) (y : X) → Goes r x h (front ++ step ∷ []) y (moment_of_step step) → Lasts x h front step y
  Goes-last x h [] step y (z, low, does, last) = record { before = x; at = h; goes = (refl, refl); low = low; does = rw last.0 does }
  Goes-last x h (s ∷ front) step y (z, low, does, goes) =
      let l = Goes-last z (moment_of_step s) front step y goes in record { before = l.before; at = l.at; goes = (z, low, does, l.goes); low = l.low; does = l.does }

  -- steps to a state and one more step from there are steps
  -- the steps lead from x at the moment h to y at the moment of the last one; z is the state after the first
  pub Goes-push : (x : X) (h : ℕ) (front : List Step) (step : Step) (y : X) → Lasts x h front step y → Goes r x h (front ++ step ∷ []) y (moment_of_step step)
  Goes-push x h [] step y l =
      (y, subst (λ n. n ≤ moment_of_step step) l.goes.1 l.low, subst (λ v. Does r v step y) l.goes.0 l.does, (refl, refl))
  Goes-push x h (s ∷ front) step y l =
      let (z, low, does, goes) = l.goes in
      (z, low, does, Goes-push z (moment_of_step s) front step y (record { before = l.before; at = l.at; goes = goes; low = l.low; does = l.does }))

  -- a run over the events fs and then f takes hidden steps alone from a state after f
  hides_of_run : (fs : List MachineEvent) (f : MachineEvent) (m : ℕ) (y : X) (run : RuledRun r (fs ++ f ∷ []) m y) → SplitAt run.steps fs f → HidesFrom r (AfterRun r fs f) f.moment m y
  hides_of_run fs f m y run s =
      let p = Goes-split r.first 0 s.front (Takes f) (map Hides s.ends) y run.stands.last (subst (λ steps. Goes r r.first 0 steps y run.stands.last) s.is run.stands.goes) in
      record {
        start = p.middle;
        begins = record { steps = s.front; goes = p.goes; takes = s.takes };
        ends = s.ends;
        stands = record { last = run.stands.last; goes = p.then; reached = run.stands.reached; waits = run.stands.waits };
      }

  -- hidden steps from a state after f are the end of a run over the events fs and then f
  run_of_hides : (fs : List MachineEvent) (f : MachineEvent) (m : ℕ) (y : X) → HidesFrom r (AfterRun r fs f) f.moment m y → RuledRun r (fs ++ f ∷ []) m y
  run_of_hides fs f m y w =
      record {
        steps = w.begins.steps ++ Takes f ∷ map Hides w.ends;
        -- the steps to f, f itself and the hidden ends after it are one run
        stands = record {
          last = w.stands.last;
          goes = Goes-join r.first 0 w.begins.steps (Takes f) (map Hides w.ends) y w.stands.last (record { middle = w.start; goes = w.begins.goes; then = w.stands.goes });
          reached = w.stands.reached;
          waits = w.stands.waits;
        };
        takes = taken-append w.begins.steps (Takes f ∷ map Hides w.ends) ∙ ap (λ s. s ++ f ∷ taken (map Hides w.ends)) w.begins.takes ∙ ap (λ s. fs ++ f ∷ s) (taken-hides w.ends);
      }

  -- the runs over the events fs and then f stand where hidden steps lead from the last states after f
  pub Run-hides : (fs : List MachineEvent) (f : MachineEvent) (m : ℕ) (y : X) → RuledRun r (fs ++ f ∷ []) m y ↔ HidesFrom r (AfterRun r fs f) f.moment m y
  Run-hides fs f m y = (λ run. hides_of_run fs f m y run (split_last run.steps fs f run.takes), run_of_hides fs f m y)

  -- the runs over no event stand where hidden steps lead from the first state
  Run-hides_first : (m : ℕ) (y : X) → RuledRun r [] m y ↔ HidesFrom r (λ x. x ≡ r.first) 0 m y
  Run-hides_first m y = (
    λ run. let none = none_taken run.steps run.takes in
        record { start = r.first; begins = refl; ends = none.0; stands = subst (λ steps. Reaches r r.first 0 steps y m) none.1 run.stands },
    λ w. record { steps = map Hides w.ends; stands = subst (λ x. Reaches r x 0 (map Hides w.ends) y m) w.begins w.stands; takes = taken-hides w.ends },
  )

  -- the last states after an event are what it gives from where the runs over the events before it stand at its moment
  pub After-run : (events : List MachineEvent) (e : MachineEvent) (y : X) → AfterRun r events e y ↔ RunGives r (RuledRun r events e.moment) e y
  After-run events e y = (
    λ after. let l = Goes-last r.first 0 after.steps (Takes e) y after.goes in
        record {
          before = l.before;
          among = record { steps = after.steps; stands = record { last = l.at; goes = l.goes; reached = l.low; waits = l.does.0 }; takes = after.takes };
          takes = l.does.1;
        },
    -- the steps before the event and the event are a run
    λ g. record {
      steps = g.among.steps;
      goes = let stands = g.among.stands in
          Goes-push r.first 0 g.among.steps (Takes e) y
          (record { before = g.before; at = stands.last; goes = stands.goes; low = stands.reached; does = (stands.waits, g.takes) });
      takes = g.among.takes;
    },
  )

-- What follows is of the runs by the lawful rules r of a machine: since the ended state has no end, hidden steps are one at most.
module _ {X : Type 0} (r : MachineRules X) (lawful : IsLawful r) where
  -- hidden steps that lead from a state of S are none, in which case it stays, or one end
  -- x is a state of S at the moment h, and the hidden steps end it at these moments and lead to y at the moment m
  hidden : (S : X → Type 0) (h m : ℕ) (y : X) (x : X) → S x → (ends : List ℕ) → Reaches r x h (map Hides ends) y m → Wait r S h m y
  hidden S h m y x among [] stands =
      inl (record { among = subst S (sym stands.goes.0) among; reached = let e = stands.goes.1 in let k = stands.reached in omega arith; waits = stands.waits })
  -- the one hidden step is the end
  hidden S h m y x among (t ∷ []) stands =
      let (z, low, hides, rest) = stands.goes in
      inr
      (record {
        start = x;
        among = among;
        -- the state ends at t, which is not after m
        at = t;
        after = low;
        before = let e = rest.1 in let k = stands.reached in omega arith;
        hides = rw rest.0 hides;
      })
  -- two hidden steps cannot be, since a state ends once
  hidden S h m y x among (t ∷ u ∷ ts) stands =
      let (z, low, first, more) = stands.goes in let (v, _, second, _) = more in absurd (ends_once r lawful x t u z v first second)

  -- a wait takes no hidden step where the state stays, and one where it ends, after which it stands in the ended state
  -- S are the states at the moment h, and y is one at the moment m
  steps_of_wait : (S : X → Type 0) (h m : ℕ) (y : X) → Wait r S h m y → HidesFrom r S h m y
  steps_of_wait S h m y (inl s) = record { start = y; begins = s.among; ends = []; stands = record { last = h; goes = (refl, refl); reached = s.reached; waits = s.waits } }
  steps_of_wait S h m y (inr e) =
      record {
        start = e.start;
        begins = e.among;
        ends = e.at ∷ [];
        stands = record { last = e.at; goes = (y, e.after, e.hides, (refl, refl)); reached = e.before; waits = IsWithin-none m (r.until y) (rw e.hides.gives lawful.ended_stays) };
      }

  -- the runs over the events fs and then f stand where one can wait from the last states after f
  pub Run-wait : (fs : List MachineEvent) (f : MachineEvent) (m : ℕ) (y : X) → RuledRun r (fs ++ f ∷ []) m y ↔ Wait r (AfterRun r fs f) f.moment m y
  Run-wait fs f m y = (
    λ run. let w = (Run-hides r fs f m y).0 run in hidden (AfterRun r fs f) f.moment m y w.start w.begins w.ends w.stands,
    λ w. (Run-hides r fs f m y).1 (steps_of_wait (AfterRun r fs f) f.moment m y w),
  )

  -- the runs over no event stand where one can wait from the first state
  pub Run-wait_first : (m : ℕ) (y : X) → RuledRun r [] m y ↔ Wait r (λ x. x ≡ r.first) 0 m y
  Run-wait_first m y = (
    λ run. let w = (Run-hides_first r m y).0 run in hidden (λ x. x ≡ r.first) 0 m y w.start w.begins w.ends w.stands,
    λ w. (Run-hides_first r m y).1 (steps_of_wait (λ x. x ≡ r.first) 0 m y w),
  )
