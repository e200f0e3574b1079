-- How a set that leads to where the runs stand goes on to lead there.
use Rattle.std.proofs.Common.{◌≡◌, ◌≤◌, ◌↔◌, inl, inr, ℕ, List, [], ◌∷◌, ◌++◌, All, Contains, map, get_or, subst, arith}
use Rattle.std.proofs.lemmas.List.Elements.{All-cons, All-nil, All-weaker, Contains-get_or}
use Rattle.sip_machine.specs.Texts.{Texts, text_of}
use Rattle.sip_standard.specs.MachineEvent.{MachineEvent}
use Rattle.sip_machine.specs.Rules.{MachineRules, Waits, Knows, StandFor}
use Rattle.sip_states.specs.Waits.{Wait, RunGives}
use Rattle.sip_machine.proofs.rules.RuleLaws.{AgreeOn, AgreeOn-grow, map-seen}
use Rattle.sip_verdict.specs.inner.Leads.{Leads}
use Rattle.sip_states.proofs.lists.Listed.{Contains-single, Contains-none, Contains-map}
use Rattle.sip_states.proofs.sets.Waiting.{Wait-iff, Gives-iff}

-- where A holds exactly if B does, and B exactly if C does, A holds exactly if C does
pub iff_trans : {A B C : Type 0} → A ↔ B → B ↔ C → A ↔ C
iff_trans e f = (λ a. f.0 (e.0 a), λ c. e.1 (f.1 c))

-- where A holds exactly if B does, B holds exactly if A does
pub iff_sym : {A B : Type 0} → A ↔ B → B ↔ A
iff_sym e = (e.1, e.0)

-- What follows is of states of the code: `seen` gives what each stands for beside a book, and `names` the messages that it names. `Runs n x` says that a run
-- stands in x at the moment n.
module _ {X S : Type 0} (names : S → List ℕ) (seen : Texts → S → X) where
  -- the first state of a machine, alone in a set, leads to the runs that stand where one can wait from it
  pub Leads-start : (texts : Texts) (r : MachineRules X) (Runs : ℕ → X → Type 0) → ((n : ℕ) (x : X) → Runs n x ↔ Wait r (λ y. y ≡ r.first) 0 n x) → (first : S) → seen texts first ≡ r.first →
      Knows names texts first → (from : ℕ) → Leads names seen texts r Runs from 0 (first ∷ [])
  Leads-start texts r Runs starts first is known from =
      record {
        -- one can wait from the first state alone just where a run over no event stands
        known = All-cons (Knows names texts) first [] known (All-nil (Knows names texts));
        runs = λ n x late low.
            iff_trans
            (Wait-iff r (Contains (seen texts first ∷ [])) (λ y. y ≡ r.first) (λ y. subst (λ v. Contains (seen texts first ∷ []) y ↔ (y ≡ v)) is (Contains-single (seen texts first) y)) 0 n x)
            (iff_sym (starts n x));
      }

  -- what the event e gives from the states to which a set leads is what it gives from where the runs stand at its moment
  pub gives_after : (texts : Texts) (r : MachineRules X) (Runs : ℕ → X → Type 0) (from moment : ℕ) (states : List S) → Leads names seen texts r Runs from moment states →
      (e : MachineEvent) (After : X → Type 0) → ((x : X) → After x ↔ RunGives r (Runs e.moment) e x) → from ≤ e.moment → moment ≤ e.moment →
      (x : X) → RunGives r (Wait r (Contains (map (seen texts) states)) moment e.moment) e x ↔ After x
  gives_after texts r Runs from moment states leads e After after late low x =
      iff_trans
      (Gives-iff r (Wait r (Contains (map (seen texts) states)) moment e.moment) (Runs e.moment) (λ y. leads.runs e.moment y late low) e x)
      (iff_sym (after x))

  -- where a set that leads to the runs is empty, no run stands at any moment from there on
  pub Leads-none : (texts : Texts) (r : MachineRules X) (Runs : ℕ → X → Type 0) (from moment : ℕ) (states : List S) → Leads names seen texts r Runs from moment states →
      states ≡ [] → (n : ℕ) → from ≤ n → moment ≤ n → (x : X) → Runs n x → ⊥
  Leads-none texts r Runs from moment states leads none n late low x run =
      -- a run that stood there would have waited from a state of the set, which has none
      elim ((leads.runs n x late low).1 run) [
        | inl s ↦ Contains-none x (subst (λ xs. Contains (map (seen texts) xs) x) none s.among)
        | inr e ↦ Contains-none e.start (subst (λ xs. Contains (map (seen texts) xs) e.start) none e.among)
      ]

  -- a state of the set that can wait at its moment is where a run stands
  pub Leads-some : (texts : Texts) (r : MachineRules X) (Runs : ℕ → X → Type 0) (from moment : ℕ) (states : List S) → Leads names seen texts r Runs from moment states → from ≤ moment →
      (s : S) → Contains states s → Waits r (seen texts s) moment → Runs moment (seen texts s)
  Leads-some texts r Runs from moment states leads late s member waits =
      -- to wait in the state up to its own moment is a wait, and the set leads to where the runs stand
      let reached : moment ≤ moment = omega arith in
      (leads.runs moment (seen texts s) late reached).0
      (inl (record { among = Contains-map (seen texts) states s member; reached = reached; waits = waits }))

  -- a set leads to the same runs beside another book that has the same bytes for the messages that its states name
  -- a and b are the two books, and x is a state that names messages
  pub Leads-book : ((a b : Texts) (x : S) → ((n : ℕ) → Contains (names x) n → text_of a n ≡ text_of b n) → seen a x ≡ seen b x) →
      (a b : Texts) (r : MachineRules X) (Runs : ℕ → X → Type 0) (from moment : ℕ) (states : List S) → All (AgreeOn names a b) states →
      Leads names seen a r Runs from moment states → Leads names seen b r Runs from moment states
  Leads-book by_names a b r Runs from moment states agree leads =
      record {
        -- the other book has what the states name, and the states stand for the same
        known = All-weaker (AgreeOn names a b) (Knows names b) (λ x agrees k d low. (agrees (get_or (names x) k d) (Contains-get_or (names x) k d low)).0) states agree;
        runs = λ n x late low. subst (λ xs. Wait r (Contains xs) moment n x ↔ Runs n x) (map-seen names seen by_names a b states agree) (leads.runs n x late low);
      }

  -- a set leads to the same runs beside a book that has grown by one message
  -- a and b are books, and x is a state that names messages
  pub Leads-grow : ((a b : Texts) (x : S) → ((n : ℕ) → Contains (names x) n → text_of a n ≡ text_of b n) → seen a x ≡ seen b x) →
      (texts : Texts) (number : ℕ) (bytes : List ℕ) (r : MachineRules X) (Runs : ℕ → X → Type 0) (from moment : ℕ) (states : List S) →
      Leads names seen texts r Runs from moment states → Leads names seen (texts ++ (number, bytes) ∷ []) r Runs from moment states
  Leads-grow by_names texts number bytes r Runs from moment states leads =
      Leads-book by_names texts (texts ++ (number, bytes) ∷ []) r Runs from moment states
      (All-weaker (Knows names texts) (AgreeOn names texts (texts ++ (number, bytes) ∷ [])) (AgreeOn-grow names texts number bytes) states leads.known) leads

-- What follows is of states of the code by the rules r of a machine: `seen` gives what each stands for beside the book `texts`, `names` the messages that
-- it names, and InRange says that its moments are within the limits.
module _ {X S : Type 0} (names : S → List ℕ) (InRange : S → Type 0) (seen : Texts → S → X) (texts : Texts) (r : MachineRules X) where
  -- where a set leads to the runs, the states that the event e gives from it lead to the runs that wait from where e leads: `After` says where that is, and
  -- `Next` where they stand
  pub Leads-take : (Runs Next : ℕ → X → Type 0) (e : MachineEvent) (After : X → Type 0) → ((x : X) → After x ↔ RunGives r (Runs e.moment) e x) → ((n : ℕ) (x : X) → Next n x ↔ Wait r After e.moment n x) →
      (from moment : ℕ) (states : List S) → Leads names seen texts r Runs from moment states → from ≤ e.moment → moment ≤ e.moment →
      (new : List S) → StandFor names InRange seen texts (RunGives r (Wait r (Contains (map (seen texts) states)) moment e.moment) e) new → Leads names seen texts r Next e.moment e.moment new
  Leads-take Runs Next e After after next from moment states leads late low new gives =
      record {
        known = gives.known;
        -- to stand after the event is to wait in one of the new states
        runs = λ n x reached later.
            iff_trans
            (Wait-iff r (Contains (map (seen texts) new)) After (λ y. iff_trans (gives.members y) (gives_after names seen texts r Runs from moment states leads e After after late low y)) e.moment n x)
            (iff_sym (next n x));
      }

-- a set that leads to the runs from one moment on leads to them from any later moment on
pub Leads-later : {X S : Type 0} (names : S → List ℕ) (seen : Texts → S → X) (texts : Texts) (r : MachineRules X) (Runs : ℕ → X → Type 0) (from later moment : ℕ) (states : List S) → from ≤ later
    → Leads names seen texts r Runs from moment states → Leads names seen texts r Runs later moment states
Leads-later names seen texts r Runs from later moment states low leads = record { known = leads.known; runs = λ n x reached. leads.runs n x (omega (arith, low, reached)) }
