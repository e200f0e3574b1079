-- A transaction that is too wide at an entry has a run over it.
use Rattle.std.proofs.Common.{◌<◌, ℕ, List, [], ◌∷◌, ◌++◌, All, length, sym, subst, arith}
use Rattle.std.proofs.lemmas.List.Elements.{All-head}
use Rattle.sip_standard.specs.Key.{KeyParts}
use Rattle.sip_standard.specs.Times.{Times}
use Rattle.sip_standard.specs.Stands.{Stands, takes, StandsAfter}
use Rattle.sip_standard.specs.KeyMachine.{machine_of_key, transaction_of}
use Rattle.sip_standard.specs.Observation.{Observation}
use Rattle.sip_standard.specs.VerdictOf.{events_for, RunsOver, IsWideAt}
use Rattle.sip_verdict.proofs.keys.Keys.{newest_moment-push, events_for-concerned}

-- P holds of the first of more than n elements, where it holds of all of them
first_of_many : {X : Type 0} (P : X → Type 0) (n : ℕ) (xs : List X) → n < length xs → All P xs → (x : X) × P x
first_of_many P n [] long all = absurd (omega (arith, long))
first_of_many P n (x ∷ xs) long all = (x, All-head P x xs all)

-- a transaction that is too wide at an entry has a run over it: it does not break there
pub wide_runs : (p : Times) (es : List (Observation KeyParts)) (e : Observation KeyParts) (key : KeyParts) → IsWideAt p es e key → RunsOver p (es ++ e ∷ []) key
wide_runs p es e key (concerned, (many, apart, long, all)) =
    let f = (transaction_of (machine_of_key p.rules key)).figure in
    -- `one` is the first of the more than 1,024 last states: a run over the key's events so far stands in one.1.0, and e leads from it to one.0
    let one = first_of_many (StandsAfter f p (events_for key es) e.event) 1024 many long all in (
      one.0,
      -- so a run over the events with e, which is an event of the key, stands in one.0 at the moment of e
      subst (λ m. Stands f p (events_for key (es ++ e ∷ [])) m one.0) (sym (newest_moment-push es e))
          (subst (λ events. Stands f p events e.event.moment one.0) (sym (events_for-concerned key es e concerned))
          (takes (events_for key es) e.event one.1.0 one.0 one.1.1 one.1.2)),
    )
