-- Up to two answers that stand for all states of which something holds.
use Rattle.std.specs.Prelude.{ℕ, Option, List, ◌++◌, option_to_list}
use Rattle.sip_machine.specs.Texts.{Texts}
use Rattle.sip_machine.specs.Rules.{StandFor}

-- the answers that are there stand for exactly the states of which P holds, each once
abbrev pub AnswersBoth : {X S : Type 0} → (S → List ℕ) → (S → Type 0) → (Texts → S → X) → Texts → (X → Type 0) →
    Option S × Option S → Type 0
AnswersBoth names InRange seen texts P next = StandFor names InRange seen texts P (option_to_list next.0 ++ option_to_list next.1)
