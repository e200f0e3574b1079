-- The keys of entries, and the events of a key, with one entry more.
use Rattle.std.proofs.Common.{◌≡◌, zero, suc, Bool, true, false, cond, ◌||◌, List, [], ◌∷◌, ◌++◌, All, Contains, map, refl, sym, ap, ◌∙◌, arith}
use Rattle.std.specs.Prelude.{filter, fold, flat_map}
use Rattle.std.specs.List.{list_any}
use Rattle.std.proofs.lemmas.Bool.{false≢true, cond-true}
use Rattle.std.proofs.lemmas.List.{map-append, append-nil}
use Rattle.std.proofs.lemmas.List.Elements.{filter-append, All-head, All-tail, Contains-get_or}
use Rattle.std.proofs.lemmas.List.Folds.{list_any-append}
use Rattle.std.proofs.lemmas.List.Sums.{fold-append}
use Rattle.std.proofs.lemmas.Grind.{flat_map-append}
use Rattle.sip_standard.specs.Key.{KeyParts, same_key}
use Rattle.sip_standard.proofs.SameKey.{same_key-decides}
use Rattle.sip_standard.specs.Observation.{Observation}
use Rattle.sip_standard.specs.VerdictOf.{keys_in, events_for}
use Rattle.sip_verdict.specs.Entries.{concerns, newest_moment}
use Rattle.sip_verdict.specs.inner.Keyed.{with_key}

-- where the disjunction of two tests is false, both are false
-- where the first test is true, so is the disjunction
pub or_false : (a b : Bool) → (a || b) ≡ false → (a ≡ false) × (b ≡ false)
or_false true b h = absurd (false≢true (sym h))
or_false false b h = (refl, h)

-- a disjunction is true where its second test is
or_true : (a b : Bool) → b ≡ true → (a || b) ≡ true
or_true true b h = refl
or_true false b h = h

-- the newest moment is that of the last entry
pub newest_moment-push : (es : List (Observation KeyParts)) (e : Observation KeyParts) → newest_moment (es ++ e ∷ []) ≡ e.event.moment
newest_moment-push es e = fold-append (λ moment f. f.event.moment) 0 es (e ∷ [])

-- the keys of the entries and e are the keys of the entries, with those of e put after them where they are new
pub keys_in-push : (es : List (Observation KeyParts)) (e : Observation KeyParts) → keys_in (es ++ e ∷ []) ≡ fold with_key (keys_in es) e.keys
keys_in-push es e =
    ap (fold with_key []) (flat_map-append (λ f. f.keys) es (e ∷ []) ∙ ap (λ keys. flat_map (λ f. f.keys) es ++ keys) (append-nil e.keys))
    ∙ fold-append with_key [] (flat_map (λ f. f.keys) es) e.keys

-- an entry that concerns no key brings no new one
pub keys_in-none : (es : List (Observation KeyParts)) (e : Observation KeyParts) → e.keys ≡ [] → keys_in (es ++ e ∷ []) ≡ keys_in es
keys_in-none es e none = keys_in-push es e ∙ ap (fold with_key (keys_in es)) none

-- the events of a key over the entries and e are its events over the entries, and that of e where e concerns it
events_for-push : (key : KeyParts) (es : List (Observation KeyParts)) (e : Observation KeyParts) → events_for key (es ++ e ∷ []) ≡ events_for key es ++ map (λ f. f.event) (cond (concerns key e) (e ∷ []) [])
events_for-push key es e = ap (map (λ f. f.event)) (filter-append (concerns key) es (e ∷ [])) ∙ map-append (λ f. f.event) (filter (concerns key) es) (cond (concerns key e) (e ∷ []) [])

-- an entry that concerns the key adds its event
pub events_for-concerned : (key : KeyParts) (es : List (Observation KeyParts)) (e : Observation KeyParts) → concerns key e ≡ true → events_for key (es ++ e ∷ []) ≡ events_for key es ++ e.event ∷ []
events_for-concerned key es e h = events_for-push key es e ∙ ap (λ b. events_for key es ++ map (λ f. f.event) (cond b (e ∷ []) [])) h

-- an entry that does not concern the key adds no event of the key
pub events_for-other : (key : KeyParts) (es : List (Observation KeyParts)) (e : Observation KeyParts) → concerns key e ≡ false → events_for key (es ++ e ∷ []) ≡ events_for key es
events_for-other key es e h = events_for-push key es e ∙ ap (λ b. events_for key es ++ map (λ f. f.event) (cond b (e ∷ []) [])) h ∙ append-nil (events_for key es)

-- a key that is found among keys is one of them
-- in an empty list no key is found
pub among-contains : (key : KeyParts) (keys : List KeyParts) → list_any (same_key key) keys ≡ true → Contains keys key
among-contains key [] h = absurd (false≢true h)
among-contains key (k ∷ keys) h = go (same_key key k) refl (among-contains key keys) h
  where
    -- a key that is found is among the keys, whether or not the first is this one
    go : (b : Bool) → same_key key k ≡ b → (list_any (same_key key) keys ≡ true → Contains keys key) → (b || list_any (same_key key) keys) ≡ true → Contains (k ∷ keys) key
    go true e below h = (0, omega arith, sym ((same_key-decides key k).0 e))
    go false e below h = let c = below h in (suc c.0, omega (arith, c.1), c.2)

-- a key that is one of the keys is found among them
pub contains-among : (key : KeyParts) (keys : List KeyParts) → Contains keys key → list_any (same_key key) keys ≡ true
-- an empty list has no key
contains-among key [] h = absurd (omega (arith, h.1))
-- the key stands at the first place, or at a later one, n
contains-among key (k ∷ keys) (zero, lt, h) = ap (λ b. b || list_any (same_key key) keys) ((same_key-decides key k).1 (sym h))
contains-among key (k ∷ keys) (suc n, lt, h) = or_true (same_key key k) (list_any (same_key key) keys) (contains-among key keys (n, omega arith, h))

-- keys that are all among the keys bring no new one
known_keys : (keys more : List KeyParts) → All (Contains keys) more → fold with_key keys more ≡ keys
known_keys keys [] among = refl
known_keys keys (key ∷ more) among =
    ap (λ ks. fold with_key ks more) (cond-true (list_any (same_key key) keys) keys (keys ++ key ∷ []) (contains-among key keys (All-head (Contains keys) key more among)))
    ∙ known_keys keys more (All-tail (Contains keys) key more among)

-- an entry that concerns just the keys of the entries before it brings no new one
pub keys_in-all : (es : List (Observation KeyParts)) (e : Observation KeyParts) → e.keys ≡ keys_in es → keys_in (es ++ e ∷ []) ≡ keys_in es
keys_in-all es e all = keys_in-push es e ∙ ap (fold with_key (keys_in es)) all ∙ known_keys (keys_in es) (keys_in es) (λ n d low. Contains-get_or (keys_in es) n d low)

-- a key that is none of the keys is not found among them
pub not_among : (key : KeyParts) (keys : List KeyParts) → ¬ Contains keys key → list_any (same_key key) keys ≡ false
not_among key keys none = go (list_any (same_key key) keys) refl
  where
    -- the search finds nothing, since the key is none of them
    go : (b : Bool) → list_any (same_key key) keys ≡ b → b ≡ false
    go true e = absurd (none (among-contains key keys e))
    go false e = refl

-- a key that is not found among the keys with k added is not found among the keys, and is not k
pub among-with_key : (key : KeyParts) (keys : List KeyParts) (k : KeyParts) → list_any (same_key key) (with_key keys k) ≡ false → (list_any (same_key key) keys ≡ false) × (same_key key k ≡ false)
among-with_key key keys k h = go (list_any (same_key k) keys) refl h
  where
    -- the key is not k, since k is among the keys and the key is not
    old : (b : Bool) → same_key key k ≡ b → list_any (same_key k) keys ≡ true → list_any (same_key key) keys ≡ false → b ≡ false
    old false e known none = refl
    old true e known none = absurd (false≢true (sym none ∙ ap (λ x. list_any (same_key x) keys) ((same_key-decides key k).0 e) ∙ known))

    -- neither the keys nor k are the key, whether or not k is among the keys already
    go : (b : Bool) → list_any (same_key k) keys ≡ b → list_any (same_key key) (cond b keys (keys ++ k ∷ [])) ≡ false → (list_any (same_key key) keys ≡ false) × (same_key key k ≡ false)
    go true e none = (none, old (same_key key k) refl e none)
    go false e none = let (a, b) = or_false _ _ (sym (list_any-append (same_key key) keys (k ∷ [])) ∙ none) in (a, (or_false _ _ b).0)

-- a key that is not found among the keys with more keys added is found neither among the keys nor among those that were added
pub among-fold : (key : KeyParts) (keys more : List KeyParts) → list_any (same_key key) (fold with_key keys more) ≡ false → (list_any (same_key key) keys ≡ false) × (list_any (same_key key) more ≡ false)
among-fold key keys [] h = (h, refl)
among-fold key keys (k ∷ more) h =
    let (a, b) = among-fold key (with_key keys k) more h in
    let (c, d) = among-with_key key keys k a in
    (c, ap (λ t. t || list_any (same_key key) more) d ∙ b)

-- a key that no entry concerns has no event
no_events : (key : KeyParts) (es : List (Observation KeyParts)) → list_any (same_key key) (flat_map (λ e. e.keys) es) ≡ false → events_for key es ≡ []
no_events key [] h = refl
no_events key (e ∷ es) h =
    let (a, b) = or_false _ _ (sym (list_any-append (same_key key) e.keys (flat_map (λ f. f.keys) es)) ∙ h) in
    ap (λ t. map (λ f. f.event) (cond t (e ∷ filter (concerns key) es) (filter (concerns key) es))) a ∙ no_events key es b

-- a key that is not among the keys of the entries has no event
pub new_key : (key : KeyParts) (es : List (Observation KeyParts)) → list_any (same_key key) (keys_in es) ≡ false → events_for key es ≡ []
new_key key es h = no_events key es (among-fold key [] (flat_map (λ e. e.keys) es) h).1
