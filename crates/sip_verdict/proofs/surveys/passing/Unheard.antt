-- What holds of a key that no entry concerns.
use Rattle.std.proofs.Common.{◌≡◌, ◌+◌, ◌∙◌, true, cond, List, [], ◌∷◌, ◌++◌, length, length-append, sym, ap, arith}
use Rattle.std.specs.Prelude.{filter}
use Rattle.std.proofs.lemmas.List.{length-map}
use Rattle.std.proofs.lemmas.List.Elements.{filter-append}
use Rattle.sip_standard.specs.Key.{KeyParts}
use Rattle.sip_standard.specs.Times.{Times}
use Rattle.sip_standard.specs.Observation.{Observation}
use Rattle.sip_standard.specs.VerdictOf.{events_for, IsWideAt}
use Rattle.sip_verdict.specs.Entries.{concerns}

-- where an entry concerns the key, the list of the key's events is not empty
concerned_events : (key : KeyParts) (front : List (Observation KeyParts)) (e : Observation KeyParts) (rest : List (Observation KeyParts)) → concerns key e ≡ true → events_for key (front ++ e ∷ rest) ≡ [] → ⊥
concerned_events key front e rest concerned none =
    -- P is the test whether an entry concerns the key. The entry e passes it. There is an event for each entry that passes it, so there is at least one
    let P = concerns key in
    let here : filter P (e ∷ rest) ≡ e ∷ filter P rest = ap (λ b. cond b (e ∷ filter P rest) (filter P rest)) concerned in
    let split : filter P (front ++ e ∷ rest) ≡ filter P front ++ (e ∷ filter P rest) = filter-append P front (e ∷ rest) ∙ ap (λ fs. filter P front ++ fs) here in
    let size : length (events_for key (front ++ e ∷ rest)) ≡ length (filter P front) + length (e ∷ filter P rest) = length-map (filter P (front ++ e ∷ rest)) (λ f. f.event) ∙ ap length split ∙ length-append (filter P front) (e ∷ filter P rest) in
    omega (arith, size, ap length none)

-- a transaction that no entry concerns is too wide at no entry
pub unheard_narrow : (p : Times) (es : List (Observation KeyParts)) (key : KeyParts) → events_for key es ≡ []
    → (front : List (Observation KeyParts)) (e : Observation KeyParts) (rest : List (Observation KeyParts)) → es ≡ front ++ e ∷ rest → ¬ (IsWideAt p front e key)
unheard_narrow p es key none front e rest is wide = concerned_events key front e rest wide.0 (ap (events_for key) (sym is) ∙ none)
