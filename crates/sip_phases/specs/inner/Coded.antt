-- How the code has the phases of a machine.
use Rattle.std.specs.Prelude.{◌≡◌, ◌≢◌, ◌⊎◌, ◌≤◌, ℕ, List, [], All, Contains, map}
use Rattle.sip_standard.specs.declared.kind.Kind.{Kind}
use Rattle.sip_standard.specs.Times.{Times}
use Rattle.sip_phases.specs.Texts.{Texts, IsBook, text_of}
use Rattle.sip_standard.specs.MachineEvent.{MachineEvent}
use Rattle.sip_phases.specs.Rules.{Knows}
use Rattle.sip_phases.specs.Told.{messages_told}
use Rattle.sip_standard.specs.Told.{Told}
use Rattle.sip_standard.specs.Figure.{Figure, drops}
use Rattle.sip_phases.specs.FigureRules.{IsFigure, After, closes_at}
use Rattle.sip_phases.specs.Owing.{CodeOwing}

-- the phases of the code, whose messages are numbers of a book: what a phase stands for, what it names, which are
-- in range, the one before anything was sent or received, and the one after an end
pub record Coded (Phase : Type 0) : Type 1 where
  pub Code : Type 0
  pub seen : Texts → Code → Phase
  pub names : Code → List ℕ
  pub InRange : Code → Type 0
  pub idle : Code
  pub ended : Code

-- the state of the code before anything was sent or received
abbrev pub idle_state : {Phase : Type 0} (c : Coded Phase) → CodeOwing c.Code
idle_state c = record { phase = c.idle; owes = [] }

-- the state of the code after its transaction has ended
abbrev pub ended_state : {Phase : Type 0} (c : Coded Phase) → CodeOwing c.Code
ended_state c = record { phase = c.ended; owes = [] }

-- What each machine must show of its figure and of its phases in the code.

-- each of these rows leads to a phase whose timers are not past, from one whose timers are not
abbrev pub LeadOn : {X : Type 0} → Figure X → (Times → X → Kind → MachineEvent → After X → Type 0) → Type 0
LeadOn {X} f Rows =
    (p : Times) (x : X) (k : Kind) (e : MachineEvent) (y : After X) → All (λ m. e.moment ≤ m) (closes_at f p x) →
    Rows p x k e y → All (λ m. e.moment ≤ m) (closes_at f p y.0)

-- the row of a sent message leads to another phase where it drops the debts, and where the send may leave the state as it is
abbrev pub LeadAway : {X : Type 0} → Figure X → Type 0
LeadAway {X} f = (p : Times) (x : X) (k : Kind) (e : MachineEvent) (y : After X) → f.Sends p x k e y → (y.1 ≡ drops) ⊎ f.Stays x k → y.0 ≢ x

-- What follows is of the phases of the code: `seen` gives what each stands for beside a book, and `names` the numbers that it names.
module _ {X S : Type 0} (seen : Texts → S → X) (names : S → List ℕ) where
  -- phases of the code that stand for the same beside one book are the same one
  abbrev pub AreApart : Type 0
  AreApart = (texts : Texts) (x y : S) → IsBook texts → Knows names texts x → Knows names texts y → seen texts x ≡ seen texts y → x ≡ y

  -- a phase of the code stands for the same beside books that agree on what it names
  abbrev pub StandByNames : Type 0
  StandByNames = (a b : Texts) (x : S) → ((n : ℕ) → Contains (names x) n → text_of a n ≡ text_of b n) → seen a x ≡ seen b x

  -- the messages that a phase of the code names are those that its words tell
  abbrev pub TellNames : (X → Told (List ℕ)) → Type 0
  TellNames told = (texts : Texts) (x : S) → messages_told (told (seen texts x)) ≡ map (text_of texts) (names x)

-- What follows is of the phases of the code: `seen` gives which phase of the figure f each stands for beside a book.
module _ {X S : Type 0} (f : Figure X) (seen : Texts → S → X) where
  -- the timers of a phase of the code are the same beside each book
  abbrev pub SameWindow : Type 0
  SameWindow = (a b : Texts) (p : Times) (x : S) → f.window p (seen a x) ≡ f.window p (seen b x)

  -- the last moment of a phase is the same beside each book
  abbrev pub SameCloses : Type 0
  SameCloses = (a b : Texts) (p : Times) (x : S) → closes_at f p (seen a x) ≡ closes_at f p (seen b x)

-- what holds of a figure, of the words of its phases and of its phases as the code has them: the figure is lawful; what each of the words above says; the
-- idle and the ended phase stand for those of the figure, which are the same one or are not, name no message and are in range
pub record IsCoded {X : Type 0} (f : Figure X) (told : X → Told (List ℕ)) (c : Coded X) : Type 0 where
  pub is_figure : IsFigure f
  pub apart : AreApart c.seen c.names
  pub by_names : StandByNames c.seen c.names
  pub window_same : SameWindow f c.seen
  pub closes_same : SameCloses f c.seen
  pub named : TellNames c.seen c.names told
  -- the phases that stand for idle and ended
  pub idle_is : (texts : Texts) → c.seen texts c.idle ≡ f.idle
  pub ended_is : (texts : Texts) → c.seen texts c.ended ≡ f.ended
  pub ended_decided : (f.ended ≡ f.idle) ⊎ (f.ended ≢ f.idle)
  pub idle_fits : (c.names c.idle ≡ []) × c.InRange c.idle
  pub ended_fits : (c.names c.ended ≡ []) × c.InRange c.ended
  pub idle_silent : messages_told (told f.idle) ≡ []
  pub ended_silent : messages_told (told f.ended) ≡ []

-- what `IsCoded` says of a figure and its phases, in the words of a machine M of the code
pub record HasPhases {X S M : Type 0} (f : Figure X) (seen : Texts → S → X) (names : S → List ℕ) (InRange : S → Type 0) (idle ended : M → S) : Type 0 where
  -- the figure keeps what a figure has to, and phases are told apart by what they stand for, beside books that agree on the messages they name
  pub is_figure : IsFigure f
  pub apart : AreApart seen names
  pub by_names : StandByNames seen names
  -- windows and ends are those of the figure
  pub window_same : SameWindow f seen
  pub closes_same : SameCloses f seen
  -- the idle and the ended phase of M stand for those of the figure, and name no message
  pub idle_is : (m : M) (texts : Texts) → seen texts (idle m) ≡ f.idle
  pub ended_is : (m : M) (texts : Texts) → seen texts (ended m) ≡ f.ended
  pub idle_fits : (m : M) → (names (idle m) ≡ []) × InRange (idle m)
  pub ended_fits : (m : M) → (names (ended m) ≡ []) × InRange (ended m)
