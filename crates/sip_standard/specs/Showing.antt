-- What is shown of an input: its entries, one after another, each with its message in the canonical form.
use Rattle.std.specs.Prelude.{◌≡◌, ◌+◌, ◌⊎◌, ◌++◌, [], ◌∷◌, ℕ, true, List, length, codes, decimal}
use Rattle.sip_standard.specs.Times.{Times}
use Rattle.sip_standard.specs.declared.action.Action.{Action}
use Rattle.sip_standard.specs.declared.action.Action.TheVariants.{Sent, Received, Failed, Mark, Restart}
use Rattle.sip_standard.specs.LogSays.{line_feed, LogEnd, Clean, Stops, LogSays, LacksHeader}
use Rattle.sip_standard.specs.LogEntry.{entry_says, Item, has_message}
use Rattle.sip_standard.specs.declared.fault.Fault.{Fault}
use Rattle.sip_standard.specs.Outcome.{stops}
use Rattle.sip_standard.specs.Says.{Says}
use Rattle.sip_standard.specs.declared.shown.Shown.{Shown}
use Rattle.sip_standard.specs.declared.shown.Shown.TheVariants.{End, Malformed, LogFault}
use Rattle.sip_standard.specs.Rendering.{rendered}
use Rattle.sip_standard.specs.Canonical.{IsCanonical}
use Rattle.sip_standard.specs.declared.log_reason.LogReason.TheVariants as reasons
use Rattle.sip_standard.specs.declared.verdict.Verdict.TheVariants as verdicts
use Rattle.sip_standard.specs.declared.judge_error.JudgeError.{JudgeError}
use Rattle.sip_standard.specs.declared.judge_error.JudgeError.TheVariants as judging
use Rattle.sip_standard.specs.declared.show_error.ShowError.{ShowError}
use Rattle.sip_standard.specs.declared.show_error.ShowError.TheVariants.{Read, Memory}

-- the text that stands for an entry's message: its canonical form, or nothing where the entry has none
abbrev pub IsCanonOf : Action → List ℕ → List ℕ → Type 0
IsCanonOf Sent bytes text = IsCanonical bytes text
IsCanonOf Received bytes text = IsCanonical bytes text
IsCanonOf Failed bytes text = IsCanonical bytes text
IsCanonOf Mark bytes text = text ≡ []
IsCanonOf Restart bytes text = text ≡ []

-- an entry with this number: the number, SP, and its spelling with the canonical form in place of its message
abbrev pub shown_entry : ℕ → Item → List ℕ → List ℕ
shown_entry number e text = decimal number ++ codes " " ++ entry_says (record { action = e.action; moment = e.moment; text = text })

-- this text is shown of the entries, whose numbers go on from `count`
abbrev pub AreShown : ℕ → List Item → List ℕ → Type 0
AreShown count [] text = text ≡ []
AreShown count (e ∷ es) text =
    (form : List ℕ) × (more : List ℕ) × IsCanonOf e.action e.text form × AreShown (count + 1) es more × (text ≡ shown_entry (count + 1) e form ++ more)

-- the last line of what is shown, by how it ends
abbrev pub last_text : Shown → List ℕ
last_text (End entries) = codes "end " ++ decimal entries
last_text (Malformed entry fault) = rendered (verdicts.Malformed entry fault)
last_text (LogFault entry reason) = rendered (verdicts.LogFault entry reason)

-- what is shown ends in this way after `count` entries: with the fault of the next one's message, or with the log
abbrev pub EndsAs : ℕ → List Item → LogEnd → Shown → Type 0
EndsAs count (e ∷ rest) end shown = (fault : Fault) × (has_message e.action ≡ true) × Says e.text (stops fault) × (shown ≡ Malformed (count + 1) fault)
EndsAs count [] Clean shown = shown ≡ End count
EndsAs count [] (Stops fault) shown = shown ≡ LogFault (count + 1) fault

-- what is shown of an input with a header: the input is a log of `items` and then `rest`; `front` is what is shown of `items`, and the last line follows
pub record ShowsEntries (input text : List ℕ) (shown : Shown) : Type 0 where
  pub times : Times
  pub items : List Item
  pub rest : List Item
  pub end : LogEnd
  pub log : LogSays input times (items ++ rest) end
  pub front : List ℕ
  pub entries : AreShown 0 items front
  pub ends : EndsAs (length items) rest end shown
  pub whole : text ≡ front ++ (last_text shown ++ line_feed ∷ [])

-- this text is shown of an input, and it ends in this way
abbrev pub IsShownOf : List ℕ → List ℕ → Shown → Type 0
IsShownOf input text shown =
    (LacksHeader input × (shown ≡ LogFault 0 reasons.Header) × (text ≡ last_text shown ++ line_feed ∷ [])) ⊎ ShowsEntries input text shown

-- how it is told of a log that is shown that it cannot be read, or that memory is wanting
abbrev pub unshown : JudgeError → ShowError
unshown judging.Io = Read
unshown judging.Memory = Memory
