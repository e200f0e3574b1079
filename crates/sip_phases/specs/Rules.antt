-- The rules of a machine as a contract sees them, and what the code must hold so that its states stand for theirs.
use Rattle.std.specs.Prelude.{◌≡◌, ◌≢◌, ◌↔◌, ◌⊎◌, ℕ, Option, None, List, [], ◌∷◌, All, Contains, AllPairs, map}
use Rattle.sip_times.specs.Limits.{IsWithin, IsOpenAt}
use Rattle.sip_phases.specs.Texts.{Texts, Keeps}
use Rattle.sip_standard.specs.MachineEvent.{MachineEvent}

-- the rules of a machine over states X: its first state, its ended state, its visible steps, when a state may end and how long it may be waited in
pub record MachineRules (X : Type 0) : Type 1 where
  pub first : X
  pub ended : X
  pub Take : X → MachineEvent → X → Type 0
  pub window : X → Option (ℕ × Option ℕ)
  pub until : X → Option ℕ

-- the machine may wait in the state x until h
abbrev pub Waits : {X : Type 0} → MachineRules X → X → ℕ → Type 0
Waits r x h = IsWithin h (r.until x)

-- the machine may end at h in the state x, which gives the state y
pub record Hide {X : Type 0} (r : MachineRules X) (x : X) (h : ℕ) (y : X) : Type 0 where
  pub opened : IsOpenAt h (r.window x)
  pub waited : Waits r x h
  pub gives : y ≡ r.ended

-- what each machine keeps: the first and the ended state stay for ever, and a visible step leads from and to a state that can wait at its own moment
pub record IsLawful {X : Type 0} (r : MachineRules X) : Type 0 where
  pub first_has_no_end : r.window r.first ≡ None
  pub first_stays : r.until r.first ≡ None
  pub ended_has_no_end : r.window r.ended ≡ None
  pub ended_stays : r.until r.ended ≡ None
  pub fresh : (x : X) (e : MachineEvent) (y : X) → r.Take x e y → Waits r y e.moment
  pub timely : (x : X) (e : MachineEvent) (y : X) → r.Take x e y → Waits r x e.moment

-- the book keeps the messages that a state names
abbrev pub Knows : {S : Type 0} → (S → List ℕ) → Texts → S → Type 0
Knows names texts x = All (Keeps texts) (names x)

-- the code's states xs stand for exactly those of which P holds, each once; the book keeps what they name
pub record StandFor {X S : Type 0} (names : S → List ℕ) (InRange : S → Type 0) (seen : Texts → S → X) (texts : Texts) (P : X → Type 0) (xs : List S) : Type 0 where
  pub members : (x : X) → Contains (map (seen texts) xs) x ↔ P x
  pub distinct : AllPairs (λ x y. x ≢ y) (map (seen texts) xs)
  pub known : All (Knows names texts) xs
  pub in_range : All InRange xs

-- the code's states xs stand for exactly those of which P holds, perhaps more than once; the book keeps what they name
pub record Covers {X S : Type 0} (names : S → List ℕ) (InRange : S → Type 0) (seen : Texts → S → X) (texts : Texts) (P : X → Type 0) (xs : List S) : Type 0 where
  pub members : (x : X) → Contains (map (seen texts) xs) x ↔ P x
  pub known : All (Knows names texts) xs
  pub in_range : All InRange xs

-- one of the states xs leads to y
abbrev pub FromSome : {X S : Type 0} → (S → X → Type 0) → List S → X → Type 0
FromSome Leads [] y = ⊥
FromSome Leads (x ∷ xs) y = Leads x y ⊎ FromSome Leads xs y
