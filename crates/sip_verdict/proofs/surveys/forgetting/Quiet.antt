-- A transaction whose set is quiet is idle again, or has ended.
use Rattle.std.proofs.Common.{◌≡◌, ◌≤◌, ◌↔◌, ◌⊎◌, inl, inr, ℕ, List, [], ◌∷◌, Contains, get_or, map, refl, sym, ap, ◌∙◌, subst, arith}
use Rattle.sip_standard.specs.Times.{Times}
use Rattle.sip_standard.specs.MachineEvent.{MachineEvent}
use Rattle.sip_standard.specs.Figure.{Owing, quiet}
use Rattle.sip_standard.specs.Stands.{Stands}
use Rattle.sip_standard.specs.KeyMachine.{MachineKind, transaction_of}
use Rattle.sip_machine.specs.Texts.{Texts}
use Rattle.sip_states.specs.Held.{Held}
use Rattle.sip_states.specs.Waits.{Wait}
use Rattle.sip_states.specs.inner.KeySets.{CodeOwingOf, meaning_of}
use Rattle.sip_states.specs.KeyRules.{OwingOf}
use Rattle.sip_states.specs.AnySet.{moment_of, IsQuietSet}
use Rattle.sip_states.specs.declared.any_set.AnySet.{AnySet}
use Rattle.sip_states.proofs.keyed.ByMachine.{first_is_of, last_is_of, moment_is, quiet_in}
use Rattle.sip_states.proofs.keyed.QuietLemmas.{IsStill, quiet_still, waits_still}
use Rattle.sip_verdict.specs.Forgetting.{HasEnded}
use Rattle.sip_verdict.specs.SurveyLaws.{IsIdleAgain}
use Rattle.sip_verdict.specs.inner.TablesTracking.{LeadsOf}

-- What follows is of the set of one transaction, which leads to its runs over the events and waits until the moment n.
module _ (texts : Texts) (p : Times) (machine : MachineKind) (events : List MachineEvent) (n : ℕ) (set : AnySet) (leads : LeadsOf texts p machine events n set) (low : moment_of set ≤ n) where
  -- the states of the set that lead to the runs
  abbrev held : Held Times (CodeOwingOf machine)
  held = leads.0

  -- the moment of the states is not after the moment n
  not_later : held.moment ≤ n
  not_later = subst (λ m. m ≤ n) (ap moment_of leads.1 ∙ moment_is machine held) low

  -- What follows is of a set with one state x, which stays as it is: the runs stand in q alone, for which x stands.
  module _ (x : CodeOwingOf machine) (q : Owing (transaction_of machine).Phase) (one : held.states ≡ x ∷ []) (still : IsStill p machine texts x) (is : (meaning_of machine).seen texts x ≡ q) where
    -- what the states of the set wait to at n is q, and nothing else
    waits : (y : OwingOf machine) → Wait ((meaning_of machine).rules p) (Contains (map ((meaning_of machine).seen texts) held.states)) held.moment n y ↔ (y ≡ q)
    waits y =
        subst (λ xs. Wait ((meaning_of machine).rules p) (Contains (map ((meaning_of machine).seen texts) xs)) held.moment n y ↔ (y ≡ q)) (sym one)
        (subst (λ z. Wait ((meaning_of machine).rules p) (Contains (map ((meaning_of machine).seen texts) (x ∷ []))) held.moment n y ↔ (y ≡ z)) is (waits_still p machine texts x still held.moment n not_later y))

    -- the runs stand at n in the state q, and in no other
    stands : (y : Owing (transaction_of machine).Phase) → Stands (transaction_of machine).figure p events n y ↔ (y ≡ q)
    stands y =
        let runs = leads.2.leads.runs n y (omega arith) not_later in
        (λ h. (waits y).0 (runs.1 h), λ same. runs.0 ((waits y).1 same))

  -- a transaction whose set is quiet is idle again, or has ended
  pub quiet_over : IsQuietSet set → IsIdleAgain machine p events n ⊎ HasEnded machine p events n
  quiet_over quiet_set =
      let at_rest = quiet_in machine held (subst IsQuietSet leads.1 quiet_set) in
      let (x, one, still) = quiet_still p machine texts held at_rest in
      elim at_rest [
        -- the one state is idle, or it is ended
        | inl first ↦
            -- x is the state with which the machine begins; so the runs stand in idle alone
            let is = ap (λ z. (meaning_of machine).seen texts z) (ap (λ l. get_or l 0 x) (sym one ∙ first)) ∙ first_is_of machine texts p in
            let at = stands x (quiet (transaction_of machine).figure.idle) one still is in
            inl ((at (quiet (transaction_of machine).figure.idle)).1 refl, λ y h. (at y).0 h)
        | inr last ↦
            -- x is the state in which the machine ends; so the runs stand in the ended phase alone
            let is = ap (λ z. (meaning_of machine).seen texts z) (ap (λ l. get_or l 0 x) (sym one ∙ last)) ∙ last_is_of machine texts p in
            let at = stands x (quiet (transaction_of machine).figure.ended) one still is in
            inr ((at (quiet (transaction_of machine).figure.ended)).1 refl, λ y h. (at y).0 h)
      ]
