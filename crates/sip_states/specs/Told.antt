-- The states of a set in words.
use Rattle.std.specs.Prelude.{◌≡◌, ℕ, List, map}
use Rattle.sip_ledger.specs.declared.debt.Debt.{Debt}
use Rattle.sip_ledger.specs.Runs.{debts_in}
use Rattle.sip_machine.specs.Texts.{Texts, text_of}
use Rattle.sip_machine.specs.Told.{told_of, messages_told}
use Rattle.sip_standard.specs.Told.{Told, told_by}
use Rattle.sip_standard.specs.PhaseWords.{words_of}
use Rattle.sip_machine.specs.Owing.{CodeOwing}
use Rattle.sip_states.specs.inner.KeySets.{coded_of, by_machine}
use Rattle.sip_states.specs.declared.any_set.AnySet.{AnySet}
use Rattle.sip_states.specs.declared.told.ToldState.{ToldState}

-- what is told of a state: its phase, the messages that the phase names, and what is owed
abbrev pub Saying : Type 0
Saying = Told (List ℕ) × List ℕ × List Debt

-- what a told state says, beside the texts of a book
abbrev pub said_state : Texts → ToldState → Saying
said_state texts state = (told_by (text_of texts) (told_of state.phase), messages_told (told_of state.phase), debts_in state.owes.items)

-- What follows is of the states of one machine: `words` are the words of its phases, `seen` gives what they stand for, and `names` the messages that they
-- name.
module _ {S X : Type 0} (words : X → Told (List ℕ)) (seen : Texts → S → X) (names : S → List ℕ) where
  -- what a told state must say of a state of the code
  abbrev pub meant : Texts → CodeOwing S → Saying
  meant texts x = (words (seen texts x.phase), names x.phase, x.owes)

  -- the told states say it of the states of the code, one by one
  abbrev pub AreToldAs : List (CodeOwing S) → List ToldState → Type 0
  AreToldAs states told = (texts : Texts) → map (said_state texts) told ≡ map (meant texts) states

-- the told states are the states of the set in words
abbrev pub AreTold : AnySet → List ToldState → Type 0
AreTold set told = by_machine (λ machine s. AreToldAs (words_of machine) (coded_of machine).seen (coded_of machine).names s.states told) set
