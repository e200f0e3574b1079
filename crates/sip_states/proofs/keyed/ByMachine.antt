-- A set of any machine, seen as a set of that machine.
use Rattle.std.proofs.Common.{◌≡◌, [], ◌++◌, inl, inr, ℕ, List, All, Contains, refl, sym, ap, ◌∙◌, subst}
use Rattle.std.proofs.lemmas.List.Elements.{All-nil}
use Rattle.sip_standard.specs.Times.{Times}
use Rattle.sip_machine.specs.Texts.{Texts, Keeps, text_of}
use Rattle.std.specs.List.{flat_map}
use Rattle.sip_machine.specs.Owing.{owing_names}
use Rattle.sip_machine.specs.Naming.{AppendsAll}
use Rattle.sip_machine.specs.Rules.{IsLawful, Knows}
use Rattle.sip_phases.specs.inner.Coded.{idle_state, ended_state}
use Rattle.sip_phases.proofs.states.FigureLaws.{rules_lawful}
use Rattle.sip_phases.proofs.states.OwingLaws.{owing_by_names, quiet_stands}
use Rattle.sip_states.specs.Held.{Held}
use Rattle.sip_standard.specs.KeyMachine.{MachineKind, transaction_of}
use Rattle.sip_states.specs.inner.KeySets.{coded_of, CodeOwingOf, set_of, each_set, held_at_start, start_of_machine, meaning_of}
use Rattle.sip_states.specs.KeyRules.{OwingOf}
use Rattle.sip_states.proofs.keyed.KeySetLaws.{coded_holds, by_machine_is, of_machine, to_machine}
use Rattle.sip_states.specs.Meaning.{Meaning}
use Rattle.sip_states.specs.AnySet.{IsQuietIn, IsQuietSet, OfHeld, OfSet, IsSetOf, OfHelds, OfSets, moment_of}
use Rattle.sip_states.specs.Sweep.{names_of, numbers_of, AppendsNumbers}
use Rattle.sip_states.specs.declared.any_set.AnySet.{AnySet}

-- the rules of each machine are lawful
pub lawful_of : (machine : MachineKind) (p : Times) → IsLawful ((meaning_of machine).rules p)
lawful_of machine p = rules_lawful (transaction_of machine).figure (coded_holds machine).is_figure p

-- a state stands for the same beside two books that have the same texts for the messages that it names
pub seen_by_names_of : (machine : MachineKind) (a b : Texts) (x : CodeOwingOf machine)
    → ((n : ℕ) → Contains ((meaning_of machine).names x) n → text_of a n ≡ text_of b n) → (meaning_of machine).seen a x ≡ (meaning_of machine).seen b x
seen_by_names_of machine a b x h = owing_by_names (coded_of machine).names (coded_of machine).seen a b ((coded_holds machine).by_names a b) x h

-- the state that the code starts a machine with
abbrev pub first_of : (machine : MachineKind) → CodeOwingOf machine
first_of machine = idle_state (coded_of machine)

-- the first state of the code stands for the first state of the rules
pub first_is_of : (machine : MachineKind) (texts : Texts) (p : Times) → (meaning_of machine).seen texts (first_of machine) ≡ ((meaning_of machine).rules p).first
first_is_of machine texts p =
    quiet_stands (coded_of machine).seen texts (coded_of machine).idle (transaction_of machine).figure.idle ((coded_holds machine).idle_is texts)

-- the first state of a machine names no message, so that every book knows it
pub first_knows : (machine : MachineKind) (texts : Texts) → Knows (meaning_of machine).names texts (first_of machine)
first_knows machine texts = subst (λ names. All (Keeps texts) (names ++ [])) (sym (coded_holds machine).idle_fits.0) (All-nil (Keeps texts))

-- every set is the set of some machine
pub some_machine : (set : AnySet) → (machine : MachineKind) × (s : Held Times (CodeOwingOf machine)) × (set ≡ set_of machine s)
some_machine set = each_set (λ any. (machine : MachineKind) × (s : Held Times (CodeOwingOf machine)) × (any ≡ set_of machine s)) (λ machine s. (machine, s, refl)) set

-- the moment of the set of a machine is the moment of what it holds
pub moment_is : (machine : MachineKind) (s : Held Times (CodeOwingOf machine)) → moment_of (set_of machine s) ≡ s.moment
moment_is machine s = by_machine_is (λ kind held. held.moment) machine s

-- the numbers of the messages that the set of a machine names are those that its states name
pub numbers_are : (machine : MachineKind) (s : Held Times (CodeOwingOf machine)) → numbers_of (set_of machine s) ≡ names_of machine s
numbers_are machine s = by_machine_is names_of machine s

-- what a set appended are the numbers of the messages that it names
pub numbers_appended : (set : AnySet) (old new : List ℕ) → AppendsNumbers set old new → AppendsAll (numbers_of set) old new
numbers_appended set old new appends =
    let (machine, s, is) = some_machine set in
    let by_names = of_machine (λ kind held. AppendsAll (names_of kind held) old new) machine s (subst (λ x. AppendsNumbers x old new) is appends) in
    subst (λ ns. AppendsAll ns old new) (sym (ap numbers_of is ∙ numbers_are machine s)) by_names

-- the set that a machine starts with names no message
pub start_silent : (p : Times) (machine : MachineKind) → numbers_of (start_of_machine p machine) ≡ []
start_silent p machine =
    numbers_are machine (held_at_start p machine) ∙ ap (λ names. (names ++ []) ++ []) (coded_holds machine).idle_fits.0

-- What follows is of the ended state.

-- the ended state of the code
abbrev pub last_of : (machine : MachineKind) → CodeOwingOf machine
last_of machine = ended_state (coded_of machine)

-- the ended state of the code stands for the ended state of the rules
pub last_is_of : (machine : MachineKind) (texts : Texts) (p : Times) → (meaning_of machine).seen texts (last_of machine) ≡ ((meaning_of machine).rules p).ended
last_is_of machine texts p = quiet_stands (coded_of machine).seen texts (coded_of machine).ended (transaction_of machine).figure.ended ((coded_holds machine).ended_is texts)

-- the ended state of a machine names no message, so that every book knows it
pub last_knows : (machine : MachineKind) (texts : Texts) → Knows (meaning_of machine).names texts (last_of machine)
last_knows machine texts = subst (λ names. All (Keeps texts) (names ++ [])) (sym (coded_holds machine).ended_fits.0) (All-nil (Keeps texts))

-- What follows is of quiet sets.

-- where the set of a machine is quiet, what it holds has one state, the first or the ended one
pub quiet_in : (machine : MachineKind) (s : Held Times (CodeOwingOf machine)) → IsQuietSet (set_of machine s) → IsQuietIn machine s
quiet_in machine s quiet = of_machine IsQuietIn machine s quiet

-- the set that a machine starts with is quiet
pub start_is_quiet : (p : Times) (machine : MachineKind) → IsQuietSet (start_of_machine p machine)
start_is_quiet p machine = to_machine IsQuietIn machine (held_at_start p machine) (inl refl)

-- a quiet set names no message
pub quiet_silent : (set : AnySet) → IsQuietSet set → numbers_of set ≡ []
quiet_silent set quiet =
    let (machine, s, is) = some_machine set in
    ap numbers_of is ∙ numbers_are machine s
    ∙ elim (quiet_in machine s (subst IsQuietSet is quiet)) [
      | inl first ↦ ap (flat_map (owing_names (coded_of machine).names)) first ∙ ap (λ names. (names ++ []) ++ []) (coded_holds machine).idle_fits.0
      | inr last ↦ ap (flat_map (owing_names (coded_of machine).names)) last ∙ ap (λ names. (names ++ []) ++ []) (coded_holds machine).ended_fits.0
    ]

-- What follows is of a property P of what sets hold, whichever machine they have.
module _ (P : (X M S : Type 0) → Meaning X M S → Held M S → Type 0) where
  -- what holds of a set of any machine holds of what the set of this machine holds
  pub of_set : (machine : MachineKind) (s : Held Times (CodeOwingOf machine)) → OfSet P (set_of machine s) → P (OwingOf machine) Times (CodeOwingOf machine) (meaning_of machine) s
  of_set machine s holds = of_machine (OfHeld P) machine s holds

  -- what holds of what the set of a machine holds, holds of the set
  pub to_set : (machine : MachineKind) (s : Held Times (CodeOwingOf machine)) → P (OwingOf machine) Times (CodeOwingOf machine) (meaning_of machine) s → OfSet P (set_of machine s)
  to_set machine s holds = to_machine (OfHeld P) machine s holds

-- where P holds of the set of a machine and of a new set, the new one is of the same machine, and P holds of what the two hold
pub of_sets : (P : (X M S : Type 0) → Meaning X M S → Held M S → Held M S → Type 0) (machine : MachineKind) (s : Held Times (CodeOwingOf machine)) (new : AnySet) → OfSets P (set_of machine s) new
    → (t : Held Times (CodeOwingOf machine)) × (new ≡ set_of machine t) × P (OwingOf machine) Times (CodeOwingOf machine) (meaning_of machine) s t
of_sets P machine s new both =
    let both_are = of_machine (λ kind held. IsSetOf kind (λ t. OfHelds P kind held t) new) machine s both in
    (both_are.held, both_are.is, both_are.holds)
