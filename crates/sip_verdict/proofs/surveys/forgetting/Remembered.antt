-- What is found over entries without the transactions that are not kept: of a kept transaction, and of a forgotten one.
use Rattle.std.proofs.Common.{◌≡◌, ◌≤◌, ◌↔◌, inl, inr, ℕ, Bool, true, false, cond, List, [], ◌∷◌, ◌++◌, ◌||◌, All, AllPairs, refl, sym, ap, ◌∙◌, subst, zero-le}
use Rattle.std.specs.Prelude.{filter, map}
use Rattle.std.specs.List.{AllZip, list_any}
use Rattle.std.proofs.lemmas.Bool.{false≢true}
use Rattle.std.proofs.lemmas.List.Elements.{All-nil, All-cons, All-head, All-tail}
use Rattle.std.proofs.lemmas.List.Kept.{AllPairs-cons}
use Rattle.sip_standard.specs.Key.{KeyParts, same_key}
use Rattle.sip_standard.proofs.SameKey.{same_key-decides}
use Rattle.sip_standard.specs.Times.{Times}
use Rattle.sip_standard.specs.MachineEvent.{MachineEvent}
use Rattle.sip_standard.specs.declared.action.Action.TheVariants.{Restart}
use Rattle.sip_standard.specs.Figure.{Figure, Owing, quiet, Lasts, MayEnd, Restarts, Steps, Takes}
use Rattle.sip_phases.proofs.debts.DebtLaws.{All-front}
use Rattle.sip_standard.specs.Stands.{Stands, begins, waits, ends, takes}
use Rattle.sip_standard.specs.KeyMachine.{MachineKind, machine_of_key, transaction_of}
use Rattle.sip_standard.specs.Observation.{Observation}
use Rattle.sip_standard.specs.VerdictOf.{events_for}
use Rattle.sip_standard.proofs.Few.{AllPairs-head, AllPairs-tail}
use Rattle.sip_verdict.specs.Entries.{concerns, newest_moment}
use Rattle.sip_verdict.specs.SurveyOf.{IsSound, Breaks, Widens}
use Rattle.sip_verdict.specs.SurveyLaws.{IsCutOf, IsIdleAgain}
use Rattle.sip_verdict.specs.Forgetting.{remembered}
use Rattle.sip_verdict.proofs.verdicts.Unique.{All-middle}
use Rattle.sip_verdict.proofs.surveys.parts.Cutting.{trouble_cut}
use Rattle.sip_verdict.proofs.surveys.forgetting.Forgetting.{found_new}
use Rattle.sip_verdict.proofs.surveys.forgetting.Lasting.{idle_lasts, idle_stays}
use Rattle.sip_verdict.proofs.surveys.found.Sound.{idle_runs}

-- the key breaks, or is followed no further, at the entry after the one list exactly if it does at the same entry after the other
abbrev pub IsFoundAlike : Times → KeyParts → List (Observation KeyParts) → List (Observation KeyParts) → Observation KeyParts → Type 0
IsFoundAlike p key front back e = (Breaks p front e key ↔ Breaks p back e key) × (Widens p front e key ↔ Widens p back e key)

-- where the same is found after `front` as after `mid`, and after `back` as after `mid`, the same is found after `front` as after `back`
pub alike_through : (p : Times) (key : KeyParts) (front mid back : List (Observation KeyParts)) (e : Observation KeyParts) → IsFoundAlike p key front mid e → IsFoundAlike p key back mid e → IsFoundAlike p key front back e
alike_through p key front mid back e a b =
    ((λ h. b.0.1 (a.0.0 h), λ h. a.0.1 (b.0.0 h)), (λ h. b.1.1 (a.1.0 h), λ h. a.1.1 (b.1.0 h)))

-- a restart leaves an idle transaction idle
restarted : {X : Type 0} (f : Figure X) (p : Times) (e : MachineEvent) (y : Owing X) → e.action ≡ Restart → Takes f p (quiet f.idle) e y ↔ (y ≡ quiet f.idle)
restarted f p e y is =
    (λ does. stays (subst (λ a. Steps f p a e (quiet f.idle) y) is does), λ same. subst (λ a. Steps f p a e (quiet f.idle) y) (sym is) (inl (refl, same)))
  where
    -- a restart leaves the idle transaction idle
    -- the other case of a restart is of a transaction that is not idle
    stays : Restarts f (quiet f.idle) y → y ≡ quiet f.idle
    stays (inl idle) = idle.1
    stays (inr other) = absurd (other.0 refl)

-- a run over restarts alone stands in idle
-- x is the state in which the run stands at the moment m
pub stands_idle : {X : Type 0} (f : Figure X) (p : Times) → ((m : ℕ) → ¬ (MayEnd f p (quiet f.idle) m)) → (events : List MachineEvent) (m : ℕ) (x : Owing X) → Stands f p events m x
    → All (λ e. e.action ≡ Restart) events → x ≡ quiet f.idle
-- the run begins in idle; where it waits, it stays there; and nothing can end from idle
stands_idle f p stays events m x begins all = refl
stands_idle f p stays events m x (waits evs h k y stands low lasting) all = stands_idle f p stays evs h y stands all
stands_idle f p stays events m x (ends evs h y stands may) all = absurd (stays h (subst (λ z. MayEnd f p z h) (stands_idle f p stays evs h y stands all) may))
-- the event that is taken is a restart, which leaves what is idle as it is
stands_idle f p stays events m x (takes evs e y z stands does) all =
    let idle = stands_idle f p stays evs e.moment y stands (All-front (λ d. d.action ≡ Restart) evs (e ∷ []) all) in
    (restarted f p e z (All-middle (λ d. d.action ≡ Restart) evs [] e all)).0 (subst (λ w. Takes f p w e z) idle does)

-- a run over one restart alone can stand in idle
pub restart_stands : {X : Type 0} (f : Figure X) (p : Times) → ((m : ℕ) → Lasts f p (quiet f.idle) m) → (e : MachineEvent) → e.action ≡ Restart → Stands f p (e ∷ []) e.moment (quiet f.idle)
restart_stands f p lasts e is = takes [] e (quiet f.idle) (quiet f.idle) (waits [] 0 e.moment (quiet f.idle) begins zero-le (lasts e.moment)) ((restarted f p e (quiet f.idle) is).1 refl)

-- a transaction without events is idle again
pub idle_begun : (kind : MachineKind) (p : Times) (m : ℕ) → IsIdleAgain kind p [] m
idle_begun kind p m =
    let f = (transaction_of kind).figure in
    (waits [] 0 m (quiet f.idle) begins zero-le (idle_lasts kind p m), λ x stands. stands_idle f p (idle_stays kind p) [] m x stands (All-nil (λ e. e.action ≡ Restart)))

-- the entries as they are remembered stand for the entries, with the kept keys alone
pub zip_remembered : (kept : KeyParts → Bool) (es : List (Observation KeyParts)) → AllZip (IsCutOf kept) es (remembered kept es)
zip_remembered kept [] = tt
zip_remembered kept (e ∷ es) = ((refl, refl, λ some. refl), zip_remembered kept es)

-- What follows is of entries of which the keys that pass `kept` are remembered.
module _ (kept : KeyParts → Bool) where
  -- an entry as it is remembered: with the kept keys alone
  abbrev one_of : Observation KeyParts → Observation KeyParts
  one_of e = record { fault = e.fault; event = e.event; keys = filter kept e.keys }

  -- where no entry is before the moment m, none is before m as the entries are remembered
  moments_kept : (m : ℕ) (old more : List (Observation KeyParts)) → All (λ e. m ≤ e.event.moment) (old ++ more) → All (λ e. m ≤ e.event.moment) (remembered kept old ++ more)
  moments_kept m [] more all = all
  moments_kept m (e ∷ old) more all =
      All-cons (λ f. m ≤ f.event.moment) (one_of e) (remembered kept old ++ more) (All-head (λ f. m ≤ f.event.moment) e (old ++ more) all) (moments_kept m old more (All-tail (λ f. m ≤ f.event.moment) e (old ++ more) all))

  -- entries in the order of their moments are in this order too once they are remembered
  pub order_kept : (old more : List (Observation KeyParts)) → AllPairs (λ a b. a.event.moment ≤ b.event.moment) (old ++ more) → AllPairs (λ a b. a.event.moment ≤ b.event.moment) (remembered kept old ++ more)
  order_kept [] more order = order
  order_kept (e ∷ old) more order =
      AllPairs-cons (λ a b. a.event.moment ≤ b.event.moment) (one_of e) (remembered kept old ++ more)
      (moments_kept e.event.moment old more (AllPairs-head (λ a b. a.event.moment ≤ b.event.moment) e (old ++ more) order))
      (order_kept old more (AllPairs-tail (λ a b. a.event.moment ≤ b.event.moment) e (old ++ more) order))

  -- What follows is of one key that is kept.
  module _ (key : KeyParts) (is : kept key ≡ true) where
    -- the keys equal to a kept key among the kept keys are those among all keys
    same_left : (keys : List KeyParts) → filter (same_key key) (filter kept keys) ≡ filter (same_key key) keys
    same_left [] = refl
    same_left (k ∷ keys) = go (kept k) refl (same_key key k) refl (same_left keys)
      where
        -- the key is found among the kept keys as often as among all, whether or not k is kept, and whether or not it is the key
        go : (b : Bool) → kept k ≡ b → (t : Bool) → same_key key k ≡ t → filter (same_key key) (filter kept keys) ≡ filter (same_key key) keys
            → filter (same_key key) (cond (kept k) (k ∷ filter kept keys) (filter kept keys)) ≡ cond (same_key key k) (k ∷ filter (same_key key) keys) (filter (same_key key) keys)
        -- a key that is kept stands on both sides, or on neither if it is another one
        go true e t same rest =
            ap (λ b. filter (same_key key) (cond b (k ∷ filter kept keys) (filter kept keys))) e ∙ ap (λ l. cond (same_key key k) (k ∷ l) l) rest
        -- a key that is not kept is not equal to a kept one
        go false e true same rest = absurd (false≢true (sym e ∙ ap kept (sym ((same_key-decides key k).0 same)) ∙ is))
        go false e false same rest =
            ap (λ b. filter (same_key key) (cond b (k ∷ filter kept keys) (filter kept keys))) e ∙ rest ∙ ap (λ b. cond b (k ∷ filter (same_key key) keys) (filter (same_key key) keys)) (sym same)

    -- the remembered entries stand, for a kept key, for the entries without any other key
    pub zip_left : (es : List (Observation KeyParts)) → AllZip (IsCutOf (same_key key)) (remembered kept es) (remembered (same_key key) es)
    zip_left [] = tt
    zip_left (e ∷ es) = ((refl, sym (same_left e.keys), λ some. refl), zip_left es)

    -- where ys are the entries xs cut to the key, ys and further entries cut to the key are xs and these entries cut to the key
    zip_append : (xs ys : List (Observation KeyParts)) → AllZip (IsCutOf (same_key key)) xs ys → (more : List (Observation KeyParts)) → AllZip (IsCutOf (same_key key)) (xs ++ more) (ys ++ remembered (same_key key) more)
    zip_append [] [] zip more = zip_remembered (same_key key) more
    -- neither list is longer than the other
    zip_append [] (y ∷ ys) zip more = absurd zip
    zip_append (x ∷ xs) [] zip more = absurd zip
    zip_append (x ∷ xs) (y ∷ ys) zip more = (zip.0, zip_append xs ys zip.1 more)

    -- of a kept key the same is found after the remembered entries as after all entries
    pub found_kept : (p : Times) (old front : List (Observation KeyParts)) (e : Observation KeyParts) → IsFoundAlike p key (remembered kept old ++ front) (old ++ front) e
    found_kept p old front e =
        -- c is the entry with this key alone, and `mid` are the entries of this key, for which both logs stand
        let c : Observation KeyParts = record { fault = e.fault; event = e.event; keys = filter (same_key key) e.keys } in
        let mid = remembered (same_key key) old ++ remembered (same_key key) front in
        let here : same_key key key ≡ true = (same_key-decides key key).1 refl in
        let cut : IsCutOf (same_key key) e c = (refl, refl, λ some. refl) in
        -- by them the same is found in what is remembered (`left`) and in all (`whole`)
        let left = trouble_cut (same_key key) key here p (remembered kept old ++ front) mid e c (zip_append (remembered kept old) (remembered (same_key key) old) (zip_left old) front) cut in
        let whole = trouble_cut (same_key key) key here p (old ++ front) mid e c (zip_append old (remembered (same_key key) old) (zip_remembered (same_key key) old) front) cut in
        ((λ h. whole.0.1 (left.0.0 h), λ h. left.0.1 (whole.0.0 h)), (λ h. whole.1.1 (left.1.0 h), λ h. left.1.1 (whole.1.0 h)))

  -- What follows is of one key that is forgotten.
  module _ (key : KeyParts) (not : kept key ≡ false) where
    -- a forgotten key is not among the keys that are kept
    none_left : (keys : List KeyParts) → list_any (same_key key) (filter kept keys) ≡ false
    none_left [] = refl
    none_left (k ∷ keys) = go (kept k) refl (same_key key k) refl (none_left keys)
      where
        -- a key that is forgotten is not among the kept keys, whether or not k is kept, and whether or not it is the key
        -- k is left out; or it is kept, and then it is not the key, which is forgotten
        go : (b : Bool) → kept k ≡ b → (t : Bool) → same_key key k ≡ t → list_any (same_key key) (filter kept keys) ≡ false
            → list_any (same_key key) (cond (kept k) (k ∷ filter kept keys) (filter kept keys)) ≡ false
        go false e t same rest = ap (λ b. list_any (same_key key) (cond b (k ∷ filter kept keys) (filter kept keys))) e ∙ rest
        go true e true same rest = absurd (false≢true (sym not ∙ ap kept ((same_key-decides key k).0 same) ∙ e))
        go true e false same rest =
            ap (λ b. list_any (same_key key) (cond b (k ∷ filter kept keys) (filter kept keys))) e ∙ ap (λ b. b || list_any (same_key key) (filter kept keys)) same ∙ rest

    -- no entry that is left concerns a key that is not kept
    none_concerns : (es : List (Observation KeyParts)) → All (λ e. concerns key e ≡ false) (remembered kept es)
    none_concerns [] = All-nil (λ e. concerns key e ≡ false)
    none_concerns (e ∷ es) = All-cons (λ f. concerns key f ≡ false) (one_of e) (remembered kept es) (none_left e.keys) (none_concerns es)

    -- where no entry concerns the key, the key has no events
    no_events : (es : List (Observation KeyParts)) → All (λ e. concerns key e ≡ false) es → events_for key es ≡ []
    no_events [] all = refl
    no_events (e ∷ es) all =
        ap (λ b. map (λ f. f.event) (cond b (e ∷ filter (concerns key) es) (filter (concerns key) es))) (All-head (λ f. concerns key f ≡ false) e es all)
        ∙ no_events es (All-tail (λ f. concerns key f ≡ false) e es all)

    -- a forgotten key is in no trouble over the remembered entries
    pub sound_forgotten : (p : Times) (es : List (Observation KeyParts)) → IsSound p (remembered kept es) key
    sound_forgotten p es =
        let none = none_concerns es in (
          idle_runs p (remembered kept es) key (no_events (remembered kept es) none),
          λ front e rest is wide.
              false≢true (sym (All-middle (λ f. concerns key f ≡ false) front rest e (subst (All (λ f. concerns key f ≡ false)) is none)) ∙ wide.0),
        )

    -- a forgotten key is idle again after the remembered entries
    pub idle_forgotten : (p : Times) (es : List (Observation KeyParts)) → IsIdleAgain (machine_of_key p.rules key) p (events_for key (remembered kept es)) (newest_moment (remembered kept es))
    idle_forgotten p es =
        let kind = machine_of_key p.rules key in
        let m = newest_moment (remembered kept es) in
        subst (λ events. IsIdleAgain kind p events m) (sym (no_events (remembered kept es) (none_concerns es))) (idle_begun kind p m)

    -- of a forgotten key the same is found after the remembered entries as of a new one
    pub found_forgotten : (p : Times) (old front : List (Observation KeyParts)) (e : Observation KeyParts) → AllPairs (λ a b. a.event.moment ≤ b.event.moment) (old ++ (front ++ e ∷ []))
        → IsFoundAlike p key (remembered kept old ++ front) front e
    found_forgotten p old front e order = found_new p key (remembered kept old) (idle_forgotten p old) (sound_forgotten p old) front e (order_kept old (front ++ e ∷ []) order)

    -- of a key that was forgotten in no trouble and idle again, the same is found as after all entries
    pub found_idle : (p : Times) (old front : List (Observation KeyParts)) (e : Observation KeyParts) → AllPairs (λ a b. a.event.moment ≤ b.event.moment) (old ++ (front ++ e ∷ []))
        → IsIdleAgain (machine_of_key p.rules key) p (events_for key old) (newest_moment old) → IsSound p old key → IsFoundAlike p key (remembered kept old ++ front) (old ++ front) e
    found_idle p old front e order again sound = alike_through p key (remembered kept old ++ front) front (old ++ front) e (found_forgotten p old front e order) (found_new p key old again sound front e order)
