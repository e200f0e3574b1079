-- A run over some events contains a run over the first of them, and goes through each of them.
-- In the lemmas steps lead from the state x at the moment h to the state y at the moment m; z is the state after the first of them, and t the moment of a
-- hidden end.
use Rattle.std.proofs.Common.{◌≡◌, ◌≤◌, ◌<◌, ℕ, List, [], ◌∷◌, ◌++◌, All, refl, ap, subst, arith}
use Rattle.std.proofs.Math.Decide.{dec_le}
use Rattle.std.proofs.lemmas.List.Elements.{All-nil, All-cons, All-head, All-tail, All-weaker}
use Rattle.sip_standard.specs.MachineEvent.{MachineEvent}
use Rattle.sip_machine.specs.Rules.{MachineRules, Waits, Hide}
use Rattle.sip_states.proofs.runs.Steps.{Step, Hides, Takes, moment_of_step, Does, Goes, Reaches, taken, RuledRun}
use Rattle.sip_states.proofs.sets.Waiting.{IsWithin-earlier}

-- the event is not before the moment
abbrev NotBefore : ℕ → MachineEvent → Type 0
NotBefore m e = m ≤ e.moment

-- the event is not after the moment
abbrev NotAfter : ℕ → MachineEvent → Type 0
NotAfter m e = e.moment ≤ m

-- What follows is of the runs by the rules r of a machine.
module _ {X : Type 0} (r : MachineRules X) where
  -- steps that start at a moment take no event before it
  Goes-low : (x : X) (h : ℕ) (steps : List Step) (y : X) (m : ℕ) → Goes r x h steps y m → All (NotBefore h) (taken steps)
  Goes-low x h [] y m goes = All-nil (NotBefore h)
  Goes-low x h (Hides t ∷ steps) y m (z, low, does, goes) =
      All-weaker (NotBefore t) (NotBefore h) (λ e later. omega arith) (taken steps) (Goes-low z t steps y m goes)
  Goes-low x h (Takes e ∷ steps) y m (z, low, does, goes) =
      All-cons (NotBefore h) e (taken steps) low (All-weaker (NotBefore e.moment) (NotBefore h) (λ f later. omega arith) (taken steps) (Goes-low z e.moment steps y m goes))

  -- steps that take exactly these events lead from x at h to a state that waits until m
  record Stands (x : X) (h : ℕ) (events : List MachineEvent) (m : ℕ) : Type 0 where
    pub state : X
    pub steps : List Step
    pub stands : Reaches r x h steps state m
    pub takes : taken steps ≡ events

  -- no step is needed for no event
  stays : (x : X) (h m : ℕ) → h ≤ m → Waits r x m → Stands x h [] m
  stays x h m reached waits = record { state = x; steps = []; stands = record { last = h; goes = (refl, refl); reached = reached; waits = waits }; takes = refl }

  -- a hidden end before the events, and steps from the ended state, are steps
  hides : (x : X) (h t : ℕ) (z : X) (events : List MachineEvent) (m : ℕ) → h ≤ t → Hide r x t z → Stands z t events m → Stands x h events m
  hides x h t z events m low does s = record {
    state = s.state;
    steps = Hides t ∷ s.steps;
    stands = record { last = s.stands.last; goes = (z, low, does, s.stands.goes); reached = s.stands.reached; waits = s.stands.waits };
    takes = s.takes;
  }

  -- an event before the others, and steps from the state after it, are steps
  takes : (x : X) (h : ℕ) (e : MachineEvent) (z : X) (events : List MachineEvent) (m : ℕ) → h ≤ e.moment → Does r x (Takes e) z → Stands z e.moment events m → Stands x h (e ∷ events) m
  takes x h e z events m low does s = record {
    state = s.state;
    steps = Takes e ∷ s.steps;
    stands = record { last = s.stands.last; goes = (z, low, does, s.stands.goes); reached = s.stands.reached; waits = s.stands.waits };
    takes = ap (λ es. e ∷ es) s.takes;
  }

  -- steps that take events and more events contain steps over the former, which stand at any moment m between the two
  -- the first events are not after m, and the run waits in y until n
  Goes-fewer : (x : X) (h : ℕ) (steps : List Step) (y : X) (last : ℕ) (events more : List MachineEvent) (m n : ℕ) → Goes r x h steps y last → Waits r y n → taken steps ≡ events ++ more →
      All (NotAfter m) events → All (NotBefore m) more → h ≤ m → m ≤ n → Stands x h events m
  -- no step is left, so no event is; a hidden step at t is before or at m, or the run waits in x until m
  Goes-fewer x h [] y last [] more m n goes waits is low high from to = stays x h m from (IsWithin-earlier m n (r.until x) to (subst (λ z. Waits r z n) goes.0 waits))
  Goes-fewer x h [] y last (e ∷ events) more m n goes waits is low high from to = absurd (cc)
  Goes-fewer x h (Hides t ∷ steps) y last events more m n (z, after, does, goes) waits is low high from to =
      by_end (dec_le t m) (λ early. Goes-fewer z t steps y last events more m n goes waits is low high early to)
    where
      -- where the end comes after m, no event up to m was taken, and the state stays until m
      of_events : m < t → (es : List MachineEvent) → taken steps ≡ es ++ more → All (NotAfter m) es → Stands x h es m
      of_events late [] is low = stays x h m from (IsWithin-earlier m t (r.until x) (omega (arith, late)) does.waited)
      of_events late (e ∷ es) is low =
          let here : t ≤ e.moment = All-head (NotBefore t) e (es ++ more) (subst (All (NotBefore t)) is (Goes-low z t steps y last goes)) in
          let there : e.moment ≤ m = All-head (NotAfter m) e es low in
          absurd (omega (arith, late))

      -- the end is by m, or after it
      by_end : Dec (t ≤ m) → (t ≤ m → Stands z t events m) → Stands x h events m
      by_end (yes early) later = hides x h t z events m after does (later early)
      by_end (no late) later = of_events (omega (arith, late)) events is low
  -- a step that takes an event takes it from one of the two lists, so not both are empty
  Goes-fewer x h (Takes f ∷ steps) y last [] [] m n (z, after, does, goes) waits is low high from to = absurd (cc)
  -- the event comes after m, so the state stays until m
  Goes-fewer x h (Takes f ∷ steps) y last [] (e ∷ more) m n (z, after, does, goes) waits is low high from to =
      let later : m ≤ e.moment = All-head (NotBefore m) e more high in
      let same : f ≡ e = cc in
      stays x h m from (IsWithin-earlier m f.moment (r.until x) (rw same later) does.0)
  -- the event comes by m, so the run takes it and goes on with fewer
  Goes-fewer x h (Takes f ∷ steps) y last (e ∷ events) more m n (z, after, does, goes) waits is low high from to =
      let same : f ≡ e = cc in
      let early : f.moment ≤ m = rw same (All-head (NotAfter m) e events low) in
      subst (λ g. Stands x h (g ∷ events) m) same
      (takes x h f z events m after does (Goes-fewer z f.moment steps y last events more m n goes waits (cc) (All-tail (NotAfter m) e events low) high early to))

  -- a run over events and more events contains a run over the former, which stands at any moment m between the two
  pub Run-fewer : (events more : List MachineEvent) (m n : ℕ) (y : X) → All (λ e. e.moment ≤ m) events → All (λ e. m ≤ e.moment) more → m ≤ n → RuledRun r (events ++ more) n y → (x : X) × RuledRun r events m x
  Run-fewer events more m n y low high to run =
      let stands = run.stands in
      let s = Goes-fewer r.first 0 run.steps y stands.last events more m n stands.goes stands.waits run.takes low high (omega arith) to in
      (s.state, record { steps = s.steps; stands = s.stands; takes = s.takes })

  -- steps that take an event among others: steps to the state before it, its step, and steps from the state after it
  pub record Through (x : X) (h : ℕ) (e : MachineEvent) (rest : List MachineEvent) (y : X) (m : ℕ) : Type 0 where
    -- `front` leads to the state `before` at the moment `at`, from which e leads to `reached`
    pub front : List Step
    pub before : X
    pub at : ℕ
    pub to : Goes r x h front before at
    pub reached : X
    pub does : Does r before (Takes e) reached
    -- the other steps lead from there to y and take the rest
    pub steps : List Step
    pub goes : Goes r reached e.moment steps y m
    pub takes : taken steps ≡ rest

  -- steps that go through an event, with one step more before them, go through it as well
  step_before : (x : X) (h : ℕ) (step : Step) (z : X) (e : MachineEvent) (rest : List MachineEvent) (y : X) (m : ℕ) → h ≤ moment_of_step step → Does r x step z → Through z (moment_of_step step) e rest y m → Through x h e rest y m
  step_before x h step z e rest y m low does t =
      record { front = step ∷ t.front; before = t.before; at = t.at; to = (z, low, does, t.to); reached = t.reached; does = t.does; steps = t.steps; goes = t.goes; takes = t.takes }

  -- steps that take an event among others go through it
  pub Goes-through : (x : X) (h : ℕ) (steps : List Step) (y : X) (m : ℕ) (front : List MachineEvent) (e : MachineEvent) (rest : List MachineEvent) → Goes r x h steps y m → taken steps ≡ front ++ e ∷ rest → Through x h e rest y m
  -- without steps no event is taken
  Goes-through x h [] y m [] e rest goes is = absurd (cc)
  Goes-through x h [] y m (f ∷ front) e rest goes is = absurd (cc)
  -- a step that hides takes no event, and comes before the steps that go through e
  Goes-through x h (Hides t ∷ steps) y m front e rest (z, low, does, goes) is = step_before x h (Hides t) z e rest y m low does (Goes-through z t steps y m front e rest goes is)
  Goes-through x h (Takes f ∷ steps) y m [] e rest (z, low, does, goes) is =
      -- the first event that is taken is e itself
      let same : f ≡ e = cc in
      subst (λ g. Through x h g rest y m) same (record { front = []; before = x; at = h; to = (refl, refl); reached = z; does = does; steps = steps; goes = goes; takes = cc })
  -- another event g of the front is taken first, and the steps after it go through e
  Goes-through x h (Takes f ∷ steps) y m (g ∷ front) e rest (z, low, does, goes) is = step_before x h (Takes f) z e rest y m low does (Goes-through z f.moment steps y m front e rest goes (cc))
