-- A transaction has one finding, where it is in trouble, and none where it is in none.
use Rattle.std.proofs.Common.{◌≡◌, ◌≤◌, ◌⊎◌, inl, inr, List, [], ◌∷◌, ◌++◌, AllPairs, refl, sym, ap, ◌∙◌, subst, append_assoc, append-nil}
use Rattle.sip_standard.specs.Key.{KeyParts}
use Rattle.sip_standard.specs.Times.{Times}
use Rattle.sip_standard.specs.Observation.{Observation}
use Rattle.sip_verdict.specs.SurveyOf.{IsSound, Breaks, Widens}
use Rattle.sip_verdict.proofs.keys.FewerEntries.{fewer-entries}
use Rattle.sip_verdict.proofs.surveys.found.Sound.{sound_nil, sound_push}

-- where entries are in order, a transaction in no trouble over all of them is in none over the first of them
pub sound_fewer : (p : Times) (key : KeyParts) (front more : List (Observation KeyParts)) → AllPairs (λ a b. a.event.moment ≤ b.event.moment) (front ++ more) → IsSound p (front ++ more) key → IsSound p front key
sound_fewer p key front more order (runs, narrow) = (
  fewer-entries p key front more order runs,
  λ before e rest is. narrow before e (rest ++ more) (ap (λ xs. xs ++ more) is ∙ append_assoc before (e ∷ rest) more),
)

-- a transaction that broke at an entry, or is followed no further from it, is in trouble after it, whatever entries come
pub stays_in_trouble : (p : Times) (key : KeyParts) (front : List (Observation KeyParts)) (e : Observation KeyParts) (more : List (Observation KeyParts))
    → AllPairs (λ a b. a.event.moment ≤ b.event.moment) (front ++ e ∷ more) → Breaks p front e key ⊎ Widens p front e key → ¬ (IsSound p (front ++ e ∷ more) key)
-- in no trouble over all entries it would have a run over those up to e too, but it broke there
stays_in_trouble p key front e more order (inl breaks) sound =
    let one : front ++ e ∷ more ≡ (front ++ e ∷ []) ++ more = sym (append_assoc front (e ∷ []) more) in
    breaks.1 (sound_fewer p key (front ++ e ∷ []) more (subst (AllPairs (λ a b. a.event.moment ≤ b.event.moment)) one order) (subst (λ es. IsSound p es key) one sound)).0
-- it is too wide at e, which is one of the entries
stays_in_trouble p key front e more order (inr widens) sound = sound.1 front e more refl widens.1

-- a transaction that broke at an entry, or is followed no further from it, has no finding at a later entry
pub one_finding : (p : Times) (key : KeyParts) (front : List (Observation KeyParts)) (e : Observation KeyParts) (more : List (Observation KeyParts)) (last : Observation KeyParts)
    → AllPairs (λ a b. a.event.moment ≤ b.event.moment) (front ++ e ∷ more) → Breaks p front e key ⊎ Widens p front e key
    → ¬ (Breaks p (front ++ e ∷ more) last key ⊎ Widens p (front ++ e ∷ more) last key)
one_finding p key front e more last order first (inl breaks) = stays_in_trouble p key front e more order first breaks.0
one_finding p key front e more last order first (inr widens) = stays_in_trouble p key front e more order first widens.0

-- a transaction that is in no trouble before an entry, and in trouble after it, breaks there or is followed no further
pub trouble_breaks : (p : Times) (key : KeyParts) (es : List (Observation KeyParts)) (e : Observation KeyParts) → IsSound p es key → ¬ (IsSound p (es ++ e ∷ []) key) → ¬ (¬ (Breaks p es e key ⊎ Widens p es e key))
trouble_breaks p key es e sound unsound none = none (inl (sound, λ runs. unsound (sound_push p es e key sound runs (λ wide. none (inr (sound, wide))))))

-- where nothing is found of a transaction at any entry, it is in no trouble
-- `done` are the entries that are known to leave it in no trouble, and `rest` those that are left, one of which is taken up at each step
no_finding : (p : Times) (key : KeyParts) (done rest es : List (Observation KeyParts)) → es ≡ done ++ rest → ¬ (¬ (IsSound p done key))
    → ((front : List (Observation KeyParts)) (e : Observation KeyParts) (more : List (Observation KeyParts)) → es ≡ front ++ e ∷ more → ¬ (Breaks p front e key ⊎ Widens p front e key)) → ¬ (¬ (IsSound p es key))
no_finding p key done [] es is sound none = λ never. sound (λ s. never (subst (λ xs. IsSound p xs key) (sym (is ∙ append-nil done)) s))
no_finding p key done (e ∷ rest) es is sound none =
    no_finding p key (done ++ e ∷ []) rest es (is ∙ sym (append_assoc done (e ∷ []) rest)) (λ unsound. sound (λ s. trouble_breaks p key done e s unsound (none done e rest is))) none

-- where a transaction is in trouble, it cannot be that it breaks or widens at no entry
pub some_finding : (p : Times) (key : KeyParts) (es : List (Observation KeyParts)) → ¬ (IsSound p es key)
    → ¬ ((front : List (Observation KeyParts)) (e : Observation KeyParts) (more : List (Observation KeyParts)) → es ≡ front ++ e ∷ more → ¬ (Breaks p front e key ⊎ Widens p front e key))
some_finding p key es unsound none = no_finding p key [] es es refl (λ never. never (sound_nil p key)) none unsound
