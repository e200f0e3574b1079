-- Which messages of a log are still needed: those that a state of a transaction names.
use Rattle.std.specs.Prelude.{◌≡◌, ◌≢◌, ◌≤◌, ◌↔◌, ◌+◌, ℕ, List, ◌++◌, AllPairs, Contains, length, map}
use Rattle.sip_standard.specs.Key.{KeyParts}
use Rattle.sip_standard.specs.Times.{Times}
use Rattle.sip_standard.specs.Stands.{Stands}
use Rattle.sip_standard.specs.KeyMachine.{MachineKind, machine_of_key, transaction_of}
use Rattle.sip_standard.specs.Observation.{Observation}
use Rattle.sip_standard.specs.VerdictOf.{events_for}
use Rattle.sip_standard.specs.PhaseWords.{words_of}
use Rattle.sip_machine.specs.Told.{messages_told}
use Rattle.sip_states.specs.KeyRules.{OwingOf}
use Rattle.sip_verdict.specs.Entries.{newest_moment}

-- the messages that a state names: those that its phase tells of, and those that are owed
abbrev pub messages_of : (machine : MachineKind) → OwingOf machine → List (List ℕ)
messages_of machine x = messages_told (words_of machine x.phase) ++ map (λ owed. owed.message) x.owes

-- a state in which a run of the key over the entries can stand at the newest names the message
abbrev pub NamesOver : Times → List (Observation KeyParts) → KeyParts → List ℕ → Type 0
NamesOver p es key text =
    let machine = machine_of_key p.rules key in
    (x : OwingOf machine) × Stands (transaction_of machine).figure p (events_for key es) (newest_moment es) x × Contains (messages_of machine x) text

-- some key names the message over the entries
abbrev pub IsNamed : Times → List (Observation KeyParts) → List ℕ → Type 0
IsNamed p es text = (key : KeyParts) × NamesOver p es key text

-- P holds of exactly `count` texts
pub record AreMany (P : List ℕ → Type 0) (count : ℕ) : Type 0 where
  pub texts : List (List ℕ)
  pub distinct : AllPairs (λ a b. a ≢ b) texts
  pub just : (text : List ℕ) → Contains texts text ↔ P text
  pub counts : count ≡ length texts

-- exactly `count` messages are named after the first entries of the log, for some number of them, which may be 0
pub record WereNamed (Named : List (Observation KeyParts) → List ℕ → Type 0) (es : List (Observation KeyParts)) (count : ℕ) : Type 0 where
  pub front : List (Observation KeyParts)
  pub rest : List (Observation KeyParts)
  pub whole : es ≡ front ++ rest
  pub many : AreMany (Named front) count

-- few messages are kept: at most twice as many as are named after the first entries, for some number of them, and 64 more
abbrev pub AreFew : (Named : List (Observation KeyParts) → List ℕ → Type 0) → List (Observation KeyParts) → ℕ → Type 0
AreFew Named es kept = (named : ℕ) × WereNamed Named es named × (kept ≤ named + named + 64)
