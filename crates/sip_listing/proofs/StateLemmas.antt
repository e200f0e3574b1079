-- The text of a set's states, from their words.
use Rattle.std.proofs.Common.{◌≡◌, ◌++◌, ◌∙◌, ℕ, Some, None, List, [], ◌∷◌, All, map, refl, sym, ap, ap₂, subst}
use Rattle.std.specs.List.{filter_map}
use Rattle.std.proofs.lemmas.List.Elements.{All-head, All-tail}
use Rattle.sip_machine.specs.Texts.{Texts, text_of}
use Rattle.sip_machine.specs.Owes.{owes_names}
use Rattle.sip_machine.specs.Owing.{CodeOwing, owing_seen, owing_names}
use Rattle.sip_machine.specs.Told.{told_of, field_message, messages_told}
use Rattle.sip_standard.specs.Told.{ToldField, Told, Flag, Number, Message, field_by, told_by}
use Rattle.sip_phases.proofs.debts.DebtLaws.{All-front, All-back}
use Rattle.sip_states.specs.inner.KeySets.{coded_of}
use Rattle.sip_states.proofs.keyed.KeySetLaws.{of_machine, to_machine}
use Rattle.sip_states.specs.Told.{Saying, said_state, meant, AreToldAs, AreTold}
use Rattle.sip_states.specs.declared.any_set.AnySet.{AnySet}
use Rattle.sip_states.specs.declared.told.ToldState.{ToldState}
use Rattle.sip_states.proofs.keyed.ByMachine.{some_machine, of_set}
use Rattle.sip_standard.specs.Figure.{Owing}
use Rattle.sip_standard.specs.StateText.{owes_fields, phase_text}
use Rattle.sip_listing.specs.Lists.{Tells, TellsSet, AreLinesOfHeld, AreLinesOfSet, Lists}
use Rattle.sip_standard.specs.StateLines.{AreInOrder}
use Rattle.sip_standard.specs.PhaseWords.{words_of}
use Rattle.sip_listing.specs.inner.FieldWords.{debts_fields}
use Rattle.sip_listing.proofs.FieldLemmas.{debts_told, first_told, others_told}
use Rattle.sip_listing.specs.inner.StateLine.{state_line}

-- the text of a state whose phase is told by `words`, and whose messages are told by `number`
abbrev owing_text : {X : Type 0} → (X → Told (List ℕ)) → (List ℕ → ℕ) → Owing X → List ℕ
owing_text words number x = phase_text (told_by number (words x.phase)) ++ owes_fields number x.owes

-- a phase in words, of its name and its fields
abbrev telling : List ℕ → List (ToldField ℕ) → Told ℕ
telling name fields = record { name = name; fields = fields }

-- What follows is of messages that are told by their numbers in a book.
module _ (number : List ℕ → ℕ) (texts : Texts) where
  -- where messages are told by their numbers in the book, fields that are told by what their numbers stand for are the fields again
  fields_back : (fields : List (ToldField ℕ)) → Tells number texts (filter_map field_message fields) → map (field_by number) (map (field_by (text_of texts)) fields) ≡ fields
  -- a flag, a number and a message that is none name no message, and stay as they are
  fields_back [] tells = refl
  fields_back (Flag name is ∷ fields) tells = ap (λ more. Flag name is ∷ more) (fields_back fields tells)
  fields_back (Number name value ∷ fields) tells = ap (λ more. Number name value ∷ more) (fields_back fields tells)
  fields_back (Message name None ∷ fields) tells = ap (λ more. Message name None ∷ more) (fields_back fields tells)
  -- a message with a number is told by its bytes, and these again by the number
  fields_back (Message name (Some n) ∷ fields) tells =
      ap₂ (λ m more. Message name (Some m) ∷ more) (first_told number texts n (filter_map field_message fields) tells)
      (fields_back fields (others_told number texts n (filter_map field_message fields) tells))

  -- a phase that is told by what its numbers stand for is the phase again, where messages are told by their numbers in the book
  told_back : (told : Told ℕ) → Tells number texts (messages_told told) → told_by number (told_by (text_of texts) told) ≡ told
  told_back told tells = ap (telling told.name) (fields_back told.fields tells)

  -- What follows is of the states of one machine, with the words of its phases.
  module _ {S X : Type 0} (words : X → Told (List ℕ)) (seen : Texts → S → X) (names : S → List ℕ) where
    -- where a told state says what a state of the code means, the text of that state is the line of the told one
    state_told : (x : CodeOwing S) (state : ToldState) → said_state texts state ≡ meant words seen names texts x → Tells number texts (owing_names names x)
        → owing_text words number (owing_seen seen texts x) ≡ state_line state
    state_told x state says tells =
        -- what the names of the state name is kept, so what the names of its phase name is, and what those of its debts name
        let of_phase : Tells number texts (names x.phase) = All-front (λ name. number (text_of texts name) ≡ name) (names x.phase) (owes_names x.owes) tells in
        let of_debts : Tells number texts (owes_names x.owes) = All-back (λ name. number (text_of texts name) ≡ name) (names x.phase) (owes_names x.owes) tells in
        -- so the phase, told by its names and read back, is the one of the told state; then the phases and the debts have the same text
        let back = told_back (told_of state.phase) (subst (Tells number texts) (sym (ap (λ (s : Saying). s.1) says)) of_phase) in
        ap₂ (λ told debts. phase_text told ++ debts)
        (ap (told_by number) (sym (ap (λ (s : Saying). s.0) says)) ∙ back)
        (debts_told number texts x.owes of_debts ∙ ap debts_fields (sym (ap (λ (s : Saying). s.2) says)))

    -- where told states say what states of the code mean, one by one, the texts of these are the lines of the told ones
    states_told : (xs : List (CodeOwing S)) (states : List ToldState) → map (said_state texts) states ≡ map (meant words seen names texts) xs
        → All (λ x. Tells number texts (owing_names names x)) xs → map (λ x. owing_text words number (owing_seen seen texts x)) xs ≡ map state_line states
    -- there are as many told states as states
    states_told [] [] are tells = refl
    states_told [] (state ∷ states) are tells = absurd (cc)
    states_told (x ∷ xs) [] are tells = absurd (cc)
    states_told (x ∷ xs) (state ∷ states) are tells =
        -- `first`: the first told state says what the first state means; `more`: so do the others
        let first : said_state texts state ≡ meant words seen names texts x = cc in
        let more : map (said_state texts) states ≡ map (meant words seen names texts) xs = cc in
        ap₂ (λ line lines. line ∷ lines) (state_told x state first (All-head (λ x. Tells number texts (owing_names names x)) x xs tells))
        (states_told xs states more (All-tail (λ x. Tells number texts (owing_names names x)) x xs tells))

-- where states are told as those of a set, and lines are theirs in order, the lines list the set
pub listed : (set : AnySet) (states : List ToldState) (lines : List (List ℕ)) → AreTold set states → AreInOrder (map state_line states) lines → Lists set lines
listed set states lines are in_order = λ number texts tells.
    -- s is what the set holds, c how the code represents its machine, and `words` tells the phases of that
    let (machine, s, is) = some_machine set in
    let c = coded_of machine in
    let words = words_of machine in
    -- the states of the set's machine are told one by one
    let told = of_machine (λ kind held. AreToldAs (words_of kind) (coded_of kind).seen (coded_of kind).names held.states states) machine s
    (subst (λ x. AreTold x states) is are) in
    -- the set's messages are told by their numbers, so that the texts of its states are the lines of the told ones
    let known = of_set (λ X M S m s. All (λ x. Tells number texts (m.names x)) s.states) machine s (subst (TellsSet number texts) is tells) in
    let same = states_told number texts words c.seen c.names s.states states (told texts) known in
    subst (λ x. AreLinesOfSet number texts x lines) (sym is)
    (to_machine (λ kind held. AreLinesOfHeld number texts kind held lines) machine s (subst (λ ts. AreInOrder ts lines) (sym same) in_order))
