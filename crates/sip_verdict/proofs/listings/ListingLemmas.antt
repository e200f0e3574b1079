-- The lines that the code writes of a set's states are the lines of a listing.
use Rattle.std.proofs.Common.{◌≡◌, ℕ, List, [], ◌∷◌, All, map, refl, sym, ap, subst}
use Rattle.std.proofs.lemmas.List.Elements.{All-weaker}
use Rattle.sip_standard.specs.Times.{Times}
use Rattle.sip_machine.specs.Texts.{Texts, Keeps, text_of}
use Rattle.sip_standard.specs.MachineEvent.{MachineEvent}
use Rattle.sip_machine.specs.Rules.{Knows, StandFor}
use Rattle.sip_standard.specs.KeyMachine.{MachineKind, transaction_of}
use Rattle.sip_standard.specs.Stands.{StandsAfter}
use Rattle.sip_states.proofs.keyed.KeySetLaws.{of_machine}
use Rattle.sip_states.specs.Meaning.{IsKnown}
use Rattle.sip_states.specs.AnySet.{IsKnownSet}
use Rattle.sip_states.specs.inner.KeySets.{meaning_of}
use Rattle.sip_states.specs.declared.any_set.AnySet.{AnySet}
use Rattle.sip_listing.specs.Lists.{Tells, TellsSet, AreLinesOfHeld, AreLinesOfSet, Lists}
use Rattle.sip_standard.specs.StateLines.{AreInOrder, AreLinesOf}
use Rattle.sip_standard.specs.StateText.{state_text}
use Rattle.sip_verdict.specs.inner.TablesTracking.{StandsOf}
use Rattle.sip_states.proofs.keyed.ByMachine.{some_machine, of_set, to_set}

-- each message of the book is told by its number in the book
abbrev pub TellsBook : (List ℕ → ℕ) → Texts → Type 0
TellsBook number texts = (n : ℕ) → Keeps texts n → number (text_of texts n) ≡ n

-- What follows is of messages that are told by their numbers: `number` gives the number of a text as the book `texts` has it.
module _ (number : List ℕ → ℕ) (texts : Texts) (tells : TellsBook number texts) where
  -- where the states of a set name messages of the book, they are told by the book's numbers
  told_states : {S : Type 0} (names : S → List ℕ) (xs : List S) → All (Knows names texts) xs → All (λ x. Tells number texts (names x)) xs
  told_states names xs known =
      All-weaker (Knows names texts) (λ x. Tells number texts (names x))
      (λ x all. All-weaker (Keeps texts) (λ n. number (text_of texts n) ≡ n) (λ n keeps. tells n keeps) (names x) all) xs known

  -- a set whose messages the book keeps is told by the book's numbers
  pub told_set : (set : AnySet) → IsKnownSet texts set → TellsSet number texts set
  told_set set known =
      -- s is the set as one of its machine, and the book keeps what each of its states names
      let (machine, s, is) = some_machine set in
      let known_s = of_set (λ X M S m s. IsKnown m texts s) machine s (subst (IsKnownSet texts) is known) in
      subst (TellsSet number texts) (sym is) (to_set (λ X M S m s. All (λ x. Tells number texts (m.names x)) s.states) machine s (told_states (meaning_of machine).names s.states known_s))

-- mapping by g and then by f is mapping by f after g
map-after : {A B C : Type 0} (f : B → C) (g : A → B) (xs : List A) → map f (map g xs) ≡ map (λ x. f (g x)) xs
map-after f g [] = refl
map-after f g (x ∷ xs) = ap (λ ys. f (g x) ∷ ys) (map-after f g xs)

-- where states stand for exactly those of which P holds, each once, their lines are the lines of what P holds of
stood_lines : {X S : Type 0} (names : S → List ℕ) (InRange : S → Type 0) (seen : Texts → S → X) (texts : Texts) (text : X → List ℕ) (P : X → Type 0) (xs : List S) (lines : List (List ℕ))
    → StandFor names InRange seen texts P xs → AreInOrder (map (λ x. text (seen texts x)) xs) lines → AreLinesOf text P lines
stood_lines names InRange seen texts text P xs lines stand in_order = record {
  states = map (seen texts) xs;
  members = stand.members;
  distinct = stand.distinct;
  in_order = subst (λ ts. AreInOrder ts lines) (sym (map-after text (seen texts) xs)) in_order;
}

-- the lines that list a set are the lines of exactly the states in which its transaction can stand
pub standing_lines : (number : List ℕ → ℕ) (texts : Texts) (p : Times) (machine : MachineKind) (events : List MachineEvent) (e : MachineEvent) (set : AnySet) (lines : List (List ℕ))
    → StandsOf texts p machine events e set → TellsSet number texts set → Lists set lines → AreLinesOf (state_text machine number) (StandsAfter (transaction_of machine).figure p events e) lines
standing_lines number texts p machine events e set lines (s, is, stand) told lists =
    -- the lines are those of the set's states, and these are just the ones in which a run may stand after the event
    let listed = of_machine (λ kind held. AreLinesOfHeld number texts kind held lines) machine s (subst (λ x. AreLinesOfSet number texts x lines) is (lists number texts told)) in
    stood_lines _ _ _ texts (state_text machine number) _ s.states lines stand listed
