-- The line at which an entry begins.
use Rattle.std.specs.Prelude.{◌≡◌, ◌≤◌, ◌++◌, ℕ, List, ◌∷◌}
use Rattle.sip_standard.specs.declared.action.Action.{Action}
use Rattle.sip_standard.specs.Times.{last_moment}
use Rattle.sip_log.specs.declared.line.Head.{Head as CodeHead}
use Rattle.sip_log.specs.declared.line.Head.TheVariants as code
use Rattle.sip_standard.specs.declared.format.Format.{Format}
use Rattle.sip_log.specs.inner.Spelling.{space, letter}
use Rattle.sip_standard.specs.LogEntry.{HasMessage, IsOf}
use Rattle.sip_log.specs.inner.Number.{IsNumber, cut}

-- what an entry's line tells: for a message its action, its moment and its length, and for an entry without one its action and its moment
pub data Head : Type 0 where
  message : Action → ℕ → ℕ → Head
  plain : Action → ℕ → Head

-- the text has the numbers of a message's line: its moment, SP, and its length
pub record Numbers (text : List ℕ) (moment len : ℕ) : Type 0 where
  pub moment_text : List ℕ
  pub len_text : List ℕ
  pub moment_is : IsNumber moment_text moment
  pub len_is : IsNumber len_text len
  pub whole : text ≡ moment_text ++ space ∷ len_text

-- the line tells this: it is S, R or F, SP, the moment, SP and the length, or M, or in format 2 also Z, SP and the moment
abbrev pub HeadLine : Format → List ℕ → Head → Type 0
HeadLine format line (message action moment len) =
    (text : List ℕ) × HasMessage action × Numbers text moment len × (line ≡ letter action ∷ space ∷ text)
HeadLine format line (plain action moment) =
    (text : List ℕ) × ¬ (HasMessage action) × IsOf format action × IsNumber text moment × (line ≡ letter action ∷ space ∷ text)

-- the moment that an entry's line tells
abbrev pub moment_of : Head → ℕ
moment_of (message action moment len) = moment
moment_of (plain action moment) = moment

-- the moment is at most 9,999,999,999,999, and a message has 1 to 65,535 bytes
abbrev pub KeepsLimits : Head → Type 0
KeepsLimits (message action moment len) = (moment ≤ last_moment) × (1 ≤ len) × (len ≤ 65535)
KeepsLimits (plain action moment) = moment ≤ last_moment

-- the most bytes of an entry's line with its LF
abbrev pub longest_line : ℕ
longest_line = 32

-- what the code keeps of a line, with each number as the code keeps it
abbrev pub cut_head : Head → CodeHead
cut_head (message action moment len) = code.Message action (cut moment) (cut len)
cut_head (plain action moment) = code.Plain action (cut moment)

-- what the numbers of the code tell, taken as they stand
abbrev pub head_of : CodeHead → Head
head_of (code.Message action moment len) = message action moment len
head_of (code.Plain action moment) = plain action moment
