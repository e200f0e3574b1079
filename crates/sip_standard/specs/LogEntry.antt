-- The entries of a log: their limits, their order, and the one text of each.
use Rattle.std.specs.Prelude.{◌≡◌, ◌≢◌, ◌≤◌, ◌++◌, ℕ, Bool, true, false, List, [], ◌∷◌, length, codes, decimal, ⊤}
use Rattle.sip_standard.specs.Times.{last_moment}
use Rattle.sip_standard.specs.declared.action.Action.{Action}
use Rattle.sip_standard.specs.declared.action.Action.TheVariants.{Sent, Received, Failed, Mark, Restart}
use Rattle.sip_standard.specs.declared.format.Format.{Format}
use Rattle.sip_standard.specs.declared.format.Format.TheVariants.{Two}

-- an entry: what was done, when, and with which message; a mark and a restart have none
pub record Item : Type 0 where
  pub action : Action
  pub moment : ℕ
  pub text : List ℕ

-- an entry with this action has a message: a mark and a restart have none
abbrev pub HasMessage : Action → Type 0
HasMessage action = (action ≢ Mark) × (action ≢ Restart)

-- whether the entry has a message
abbrev pub has_message : Action → Bool
has_message Sent = true
has_message Received = true
has_message Failed = true
has_message Mark = false
has_message Restart = false

-- the moment is at most 9,999,999,999,999, and a message has 1 to 65,535 bytes
abbrev pub IsWithinLimits : Action → ℕ → ℕ → Type 0
IsWithinLimits action moment len = (moment ≤ last_moment) × (HasMessage action → (1 ≤ len) × (len ≤ 65535))

-- an action of the format: a restart is of format 2 alone
abbrev pub IsOf : Format → Action → Type 0
IsOf format action = action ≡ Restart → format ≡ Two

-- the entry is of the format and keeps the limits, and has no message where it is a mark or a restart
abbrev pub IsEntry : Format → Item → Type 0
IsEntry format e = IsOf format e.action × IsWithinLimits e.action e.moment (length e.text) × (¬ (HasMessage e.action) → e.text ≡ [])

-- each of the entries is of the format and keeps the limits, and none is before this moment or the entry before it
abbrev pub InOrder : Format → ℕ → List Item → Type 0
InOrder format last [] = ⊤
InOrder format last (e ∷ es) = (last ≤ e.moment) × IsEntry format e × InOrder format e.moment es

-- the moment of the last entry
abbrev pub last_of : ℕ → List Item → ℕ
last_of last [] = last
last_of last (e ∷ es) = last_of e.moment es

-- an entry's line, without its LF: its letter, SP, its moment, and for a message also SP and its length
abbrev pub line_says : Action → ℕ → ℕ → List ℕ
line_says Sent moment len = codes "S " ++ decimal moment ++ (codes " " ++ decimal len)
line_says Received moment len = codes "R " ++ decimal moment ++ (codes " " ++ decimal len)
line_says Failed moment len = codes "F " ++ decimal moment ++ (codes " " ++ decimal len)
line_says Mark moment len = codes "M " ++ decimal moment
line_says Restart moment len = codes "Z " ++ decimal moment

-- what stands after an entry's line: the message and LF, or nothing for a mark and a restart
abbrev pub body_says : Action → List ℕ → List ℕ
body_says Mark text = []
body_says Restart text = []
body_says action text = text ++ codes "\n"

-- an entry: its line, LF, and what stands after it
abbrev pub entry_says : Item → List ℕ
entry_says e = line_says e.action e.moment (length e.text) ++ (codes "\n" ++ body_says e.action e.text)
