-- A transaction stays in no trouble over one entry more.
use Rattle.std.proofs.Common.{◌≡◌, ◌⊎◌, inl, inr, Bool, true, false, List, [], ◌∷◌, ◌++◌, All, Contains, length, length-append, refl, sym, ap, ◌∙◌, subst, arith, zero-le}
use Rattle.std.specs.List.{list_any}
use Rattle.std.proofs.lemmas.Bool.{false≢true}
use Rattle.std.proofs.lemmas.List.Elements.{All-contains}
use Rattle.sip_standard.specs.Key.{KeyParts, same_key}
use Rattle.sip_standard.specs.Times.{Times}
use Rattle.sip_standard.specs.Figure.{quiet}
use Rattle.sip_standard.specs.Stands.{Stands, begins, waits}
use Rattle.sip_standard.specs.KeyMachine.{machine_of_key, transaction_of}
use Rattle.sip_standard.specs.Observation.{Observation}
use Rattle.sip_verdict.specs.Entries.{concerns, newest_moment}
use Rattle.sip_standard.specs.VerdictOf.{keys_in, events_for, RunsOver, IsWideAt}
use Rattle.sip_verdict.specs.SurveyOf.{IsSound}
use Rattle.sip_verdict.proofs.keys.Keys.{among-contains, among-fold, new_key, keys_in-push}
use Rattle.sip_verdict.proofs.keys.Splitting.{split_compare}
use Rattle.sip_verdict.proofs.surveys.forgetting.Lasting.{idle_lasts}

-- a key that no entry concerns has a run
pub idle_runs : (p : Times) (es : List (Observation KeyParts)) (key : KeyParts) → events_for key es ≡ [] → RunsOver p es key
idle_runs p es key none =
    -- a run over no event begins in idle and can wait there for ever
    let kind = machine_of_key p.rules key in
    let f = (transaction_of kind).figure in
    (quiet f.idle, subst (λ events. Stands f p events (newest_moment es) (quiet f.idle)) (sym none) (waits [] 0 (newest_moment es) (quiet f.idle) begins zero-le (idle_lasts kind p (newest_moment es))))

-- a key that the last entry concerns is among the keys of all entries
pub concerned-among : (key : KeyParts) (es : List (Observation KeyParts)) (e : Observation KeyParts) → concerns key e ≡ true → Contains (keys_in (es ++ e ∷ [])) key
concerned-among key es e h = by (list_any (same_key key) (keys_in (es ++ e ∷ []))) refl
  where
    -- the key is among the keys, since the entry concerns it
    by : (b : Bool) → list_any (same_key key) (keys_in (es ++ e ∷ [])) ≡ b → Contains (keys_in (es ++ e ∷ [])) key
    by true is = among-contains key (keys_in (es ++ e ∷ [])) is
    -- were it not among them, it would not be among the keys of the entry
    by false is =
        let lacks = among-fold key (keys_in es) e.keys (ap (list_any (same_key key)) (sym (keys_in-push es e)) ∙ is) in
        absurd (false≢true (sym lacks.1 ∙ h))

-- each key, whether an entry concerns it or not, is in no trouble
abbrev pub AllSound : Times → List (Observation KeyParts) → Type 0
AllSound p es = (key : KeyParts) → IsSound p es key

-- before the first entry each key is in no trouble
pub sound_nil : (p : Times) → AllSound p []
sound_nil p key = (idle_runs p [] key refl, λ front e rest is wide. absurd (splits front e rest is))
  where
    -- the empty list has no split
    splits : (front : List (Observation KeyParts)) (e : Observation KeyParts) (rest : List (Observation KeyParts)) → [] ≡ front ++ e ∷ rest → ⊥
    splits [] e rest is = cc
    splits (f ∷ front) e rest is = cc

-- a key in no trouble that has a run over one entry more, and is not too wide there, stays in no trouble
pub sound_push : (p : Times) (es : List (Observation KeyParts)) (e : Observation KeyParts) (key : KeyParts) → IsSound p es key
    → RunsOver p (es ++ e ∷ []) key → ¬ (IsWideAt p es e key) → IsSound p (es ++ e ∷ []) key
sound_push p es e key sound runs narrow = (runs, λ front f rest is. by front f rest is (split_compare es [] front rest e f is))
  where
    -- wherever the entries are split, at the new entry or before it, the key is not too wide at the entry there
    -- the split is at the new entry; it cannot be past the last; or it is at one of the entries before
    by : (front : List (Observation KeyParts)) (f : Observation KeyParts) (rest : List (Observation KeyParts)) → es ++ e ∷ [] ≡ front ++ f ∷ rest →
        ((es ≡ front) × (e ≡ f)) ⊎ (((zs : List (Observation KeyParts)) × (front ≡ es ++ e ∷ zs)) ⊎ ((zs : List (Observation KeyParts)) × (es ≡ front ++ f ∷ zs))) → ¬ (IsWideAt p front f key)
    by front f rest is (inl h) wide = narrow (subst (λ g. IsWideAt p es g key) (sym h.1) (subst (λ gs. IsWideAt p gs f key) (sym h.0) wide))
    by front f rest is (inr (inl h)) wide = absurd (omega (arith, simp length-append at (ap length is), simp length-append at (ap length h.1)))
    by front f rest is (inr (inr h)) wide = sound.1 front f h.0 h.1 wide

-- where each key of the entries and e has a run and none is too wide at e, each key stays in no trouble
pub all_sound_push : (p : Times) (es : List (Observation KeyParts)) (e : Observation KeyParts) → AllSound p es → All (RunsOver p (es ++ e ∷ [])) (keys_in (es ++ e ∷ []))
    → All (λ key. ¬ (IsWideAt p es e key)) (keys_in (es ++ e ∷ [])) → AllSound p (es ++ e ∷ [])
all_sound_push p es e sound runs narrow key = sound_push p es e key (sound key) (by_key (list_any (same_key key) (keys_in (es ++ e ∷ []))) refl) not_wide
  where
    -- the key has a run over one entry more, whether or not it is among the keys
    -- a key among the keys has a run, as all of these have; no entry concerns any other key
    by_key : (b : Bool) → list_any (same_key key) (keys_in (es ++ e ∷ [])) ≡ b → RunsOver p (es ++ e ∷ []) key
    by_key true is = All-contains (RunsOver p (es ++ e ∷ [])) (keys_in (es ++ e ∷ [])) key runs (among-contains key (keys_in (es ++ e ∷ [])) is)
    by_key false is = idle_runs p (es ++ e ∷ []) key (new_key key (es ++ e ∷ []) is)

    -- the key is not too wide at e, since none of the keys is
    not_wide : ¬ (IsWideAt p es e key)
    not_wide wide = All-contains (λ k. ¬ (IsWideAt p es e k)) (keys_in (es ++ e ∷ [])) key narrow (concerned-among key es e wide.0) wide
