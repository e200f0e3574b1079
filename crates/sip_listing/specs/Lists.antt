-- What the code lists, whose messages are numbers of a book.
use Rattle.std.specs.Prelude.{◌≡◌, ℕ, List, All, map}
use Rattle.sip_standard.specs.KeyMachine.{MachineKind}
use Rattle.sip_standard.specs.Times.{Times}
use Rattle.sip_standard.specs.StateText.{state_text}
use Rattle.sip_standard.specs.StateLines.{AreInOrder}
use Rattle.sip_machine.specs.Texts.{Texts, text_of}
use Rattle.sip_states.specs.Held.{Held}
use Rattle.sip_states.specs.inner.KeySets.{CodeOwingOf, by_machine, meaning_of}
use Rattle.sip_states.specs.declared.any_set.AnySet.{AnySet}
use Rattle.sip_states.specs.AnySet.{OfSet}

-- each of these numbers of the book is the number by which its message is told
abbrev pub Tells : (List ℕ → ℕ) → Texts → List ℕ → Type 0
Tells number texts names = All (λ name. number (text_of texts name) ≡ name) names

-- the number of each message of the set is the number by which it is told
abbrev pub TellsSet : (List ℕ → ℕ) → Texts → AnySet → Type 0
TellsSet number texts set = OfSet (λ X M S m s. All (λ x. Tells number texts (m.names x)) s.states) set

-- the lines are, in order, the texts of the states of a set of this machine
abbrev pub AreLinesOfHeld : (List ℕ → ℕ) → Texts → (machine : MachineKind) → Held Times (CodeOwingOf machine) → List (List ℕ) → Type 0
AreLinesOfHeld number texts machine s lines = AreInOrder (map (λ x. state_text machine number ((meaning_of machine).seen texts x)) s.states) lines

-- the lines are, in order, the texts of the states of the set
abbrev pub AreLinesOfSet : (List ℕ → ℕ) → Texts → AnySet → List (List ℕ) → Type 0
AreLinesOfSet number texts set lines = by_machine (λ machine s. AreLinesOfHeld number texts machine s lines) set

-- the lines are those of the set's states wherever its messages are told by their numbers in the book
abbrev pub Lists : AnySet → List (List ℕ) → Type 0
Lists set lines = (number : List ℕ → ℕ) (texts : Texts) → TellsSet number texts set → AreLinesOfSet number texts set lines
