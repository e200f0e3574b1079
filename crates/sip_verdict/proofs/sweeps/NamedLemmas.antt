-- The states of the sets name just the messages that the runs name.
use Rattle.std.proofs.Common.{◌≡◌, ◌≤◌, ◌↔◌, inl, inr, ℕ, List, [], ◌∷◌, ◌++◌, Contains, map, refl, sym, ap, ap₂, ◌∙◌, subst}
use Rattle.std.specs.List.{flat_map}
use Rattle.std.proofs.lemmas.List.{map-append}
use Rattle.sip_standard.specs.Times.{Times}
use Rattle.sip_ledger.specs.declared.debt.Debt.{Debt}
use Rattle.sip_machine.specs.Texts.{Texts, text_of}
use Rattle.sip_machine.specs.Owes.{owes_seen, owes_names}
use Rattle.sip_machine.specs.Rules.{MachineRules, StandFor}
use Rattle.sip_states.specs.Waits.{Wait}
use Rattle.sip_standard.specs.KeyMachine.{MachineKind}
use Rattle.sip_states.specs.inner.KeySets.{coded_of, CodeOwingOf, meaning_of}
use Rattle.sip_states.proofs.keyed.KeySetLaws.{coded_holds}
use Rattle.sip_states.proofs.lists.Listed.{Contains-map, Contains-from_map, Contains-none}
use Rattle.sip_states.proofs.keyed.NamesLemmas.{Contains-flat_map, Contains-from_flat_map}
use Rattle.sip_verdict.specs.inner.Leads.{Leads}
use Rattle.sip_verdict.specs.Named.{messages_of}

-- one of these numbers stands for the text in the book
abbrev pub IsNumberOf : Texts → List ℕ → List ℕ → Type 0
IsNumberOf texts numbers text = (n : ℕ) × Contains numbers n × (text_of texts n ≡ text)

-- a run stands at the moment in a state that names the text: `Runs n x` says that one stands in x at n
abbrev pub RunNames : {X : Type 0} → (ℕ → X → Type 0) → (X → List (List ℕ)) → ℕ → List ℕ → Type 0
RunNames {X} Runs messages moment text = (y : X) × Runs moment y × Contains (messages y) text

-- What follows is of one machine: `names` is what its states name by number, and `messages` what the phases for which they stand name by text.
-- `seen` gives what a state stands for beside the book `texts`, and InRange says that its moments are within the limits.
module _ {X S : Type 0} (names : S → List ℕ) (InRange : S → Type 0) (seen : Texts → S → X) (messages : X → List (List ℕ))
    (named : (texts : Texts) (x : S) → messages (seen texts x) ≡ map (text_of texts) (names x)) (texts : Texts) (r : MachineRules X) (Runs : ℕ → X → Type 0) where
  -- once a set that leads to the runs has waited until a moment, its states name just what the states of the runs name there
  pub waited_names : (from at moment : ℕ) (old new : List S) → from ≤ moment → at ≤ moment → Leads names seen texts r Runs from at old
      → StandFor names InRange seen texts (Wait r (Contains (map (seen texts) old)) at moment) new → (text : List ℕ)
      → RunNames Runs messages moment text ↔ IsNumberOf texts (flat_map names new) text
  waited_names from at moment old new late low leads stand text = (
    -- y is a state of a run that names the text: x, one of the new states, stands for it, and n is the number of the text among the names of x
    λ h. let (y, run, has) = h in
        let (x, among, is) = Contains-from_map (seen texts) new y ((stand.members y).1 ((leads.runs moment y late low).1 run)) in
        let there : Contains (map (text_of texts) (names x)) text = subst (λ ts. Contains ts text) (named texts x) (subst (λ z. Contains (messages z) text) (sym is) has) in
        let (n, in_names, text_is) = Contains-from_map (text_of texts) (names x) text there in
        (n, Contains-flat_map names new x n among in_names, text_is),
    -- the converse: a number that a new state names
    -- n is the number, x the new state that names it, and y what x stands for: a run stands there
    λ h. let (n, has, is) = h in
        let (x, among, in_names) = Contains-from_flat_map names new n has in
        let y = seen texts x in (
          y,
          (leads.runs moment y late low).0 ((stand.members y).0 (Contains-map (seen texts) new x among)),
          subst (λ ts. Contains ts text) (sym (named texts x)) (subst (Contains (map (text_of texts) (names x))) is (Contains-map (text_of texts) (names x) n in_names)),
        ),
  )

  -- a set that names nothing leads to runs whose states name nothing, however long they wait
  pub silent_names : (from at moment : ℕ) (old : List S) → from ≤ moment → at ≤ moment → Leads names seen texts r Runs from at old → messages r.ended ≡ [] → flat_map names old ≡ [] → (text : List ℕ)
      → RunNames Runs messages moment text → ⊥
  silent_names from at moment old late low leads rests silent text (y, run, has) = go ((leads.runs moment y late low).1 run)
    where
      -- the wait cannot lead to a state that names the message, whether it stays or ends
      go : Wait r (Contains (map (seen texts) old)) at moment y → ⊥
      -- the state is one of the set, which names nothing; or it is the ended one, which names nothing either
      go (inl stays) =
          -- x would be a state of the set that names the text by the number n, while the set names nothing
          let (x, among, is) = Contains-from_map (seen texts) old y stays.among in
          let there : Contains (map (text_of texts) (names x)) text = subst (λ ts. Contains ts text) (named texts x) (subst (λ z. Contains (messages z) text) (sym is) has) in
          let (n, in_names, text_is) = Contains-from_map (text_of texts) (names x) text there in
          Contains-none n (subst (λ ns. Contains ns n) silent (Contains-flat_map names old x n among in_names))
      go (inr ends) = Contains-none text (subst (λ ts. Contains ts text) (ap messages ends.hides.gives ∙ rests) has)

-- the messages of the debts that a state stands for are those that its debts name in the book
owed_named : (texts : Texts) (owes : List Debt) → map (λ owed. owed.message) (owes_seen texts owes) ≡ map (text_of texts) (owes_names owes)
owed_named texts [] = refl
owed_named texts (debt ∷ owes) = ap (λ rest. text_of texts debt.message ∷ rest) (owed_named texts owes)

-- what a state of the code names in the book is what the state that it stands for names
pub named_of : (machine : MachineKind) (texts : Texts) (x : CodeOwingOf machine) → messages_of machine ((meaning_of machine).seen texts x) ≡ map (text_of texts) ((meaning_of machine).names x)
named_of machine texts x =
    ap₂ (λ of_phase owed. of_phase ++ owed) ((coded_holds machine).named texts x.phase) (owed_named texts x.owes)
    ∙ sym (map-append (text_of texts) ((coded_of machine).names x.phase) (owes_names x.owes))

-- the first state names nothing
pub first_silent : (machine : MachineKind) (p : Times) → messages_of machine ((meaning_of machine).rules p).first ≡ []
first_silent machine p = ap (λ messages. messages ++ []) (coded_holds machine).idle_silent

-- the ended state names nothing
pub ended_silent : (machine : MachineKind) (p : Times) → messages_of machine ((meaning_of machine).rules p).ended ≡ []
ended_silent machine p = ap (λ messages. messages ++ []) (coded_holds machine).ended_silent
