-- The same items are observed where nothing was forgotten and where some transactions were. A restart then concerns other keys. Yet the same is found of a
-- transaction that was kept, and of one that was forgotten when idle again.
use Rattle.std.proofs.Common.{◌≡◌, ◌≢◌, ◌≤◌, ◌<◌, ◌↔◌, ◌⊎◌, inl, inr, ℕ, Bool, true, false, cond, List, [], ◌∷◌, ◌++◌, ◌||◌, All, AllPairs, length, map, get_or, append_assoc, append-nil, refl, sym, ap, ap₂, ◌∙◌, subst, arith, zero-le}
use Rattle.std.specs.Prelude.{filter, fold, flat_map}
use Rattle.std.specs.List.{list_any, AllZip}
use Rattle.std.proofs.lemmas.Bool.{false≢true}
use Rattle.std.proofs.lemmas.Grind.{flat_map-append}
use Rattle.std.proofs.lemmas.List.{get_or-map, length-map, map-append}
use Rattle.std.proofs.lemmas.List.Elements.{All-nil, All-cons}
use Rattle.std.proofs.lemmas.List.Folds.{list_any-append}
use Rattle.sip_standard.specs.Key.{KeyParts, same_key}
use Rattle.sip_standard.proofs.SameKey.{same_key-decides}
use Rattle.sip_standard.specs.Times.{Times}
use Rattle.sip_standard.specs.declared.action.Action.{Action}
use Rattle.sip_standard.specs.declared.action.Action.TheVariants.{Sent, Received, Failed, Mark, Restart}
use Rattle.sip_standard.specs.declared.role.Direction.TheVariants as way
use Rattle.sip_standard.specs.Figure.{Owing, quiet}
use Rattle.sip_standard.specs.Stands.{Stands, begins, waits, takes}
use Rattle.sip_standard.specs.KeyMachine.{MachineKind, machine_of_key, transaction_of}
use Rattle.sip_standard.specs.LogEntry.{Item}
use Rattle.sip_standard.specs.Observation.{Observation}
use Rattle.sip_standard.specs.Seen.{AreSeen}
use Rattle.sip_standard.specs.VerdictOf.{keys_in, events_for, IsWideAt}
use Rattle.sip_verdict.specs.Forgetting.{remembered}
use Rattle.sip_verdict.specs.Entries.{concerns, newest_moment}
use Rattle.sip_verdict.specs.inner.Keyed.{with_key}
use Rattle.sip_verdict.specs.SurveyLaws.{IsCutOf, HasSameTroubleAfter, IsIdleAgain}
use Rattle.sip_verdict.specs.SurveyOf.{IsSound, Breaks, Widens}
use Rattle.sip_verdict.specs.inner.Surveying.{IsOrdered}
use Rattle.sip_verdict.proofs.keys.FewerEntries.{newest-before}
use Rattle.sip_verdict.proofs.keys.Keys.{newest_moment-push, keys_in-push, events_for-concerned}
use Rattle.sip_verdict.proofs.verdicts.MessageUnique.{message_one}
use Rattle.sip_verdict.proofs.verdicts.Unique.{All-middle}
use Rattle.sip_verdict.proofs.surveys.parts.CutLogs.{SeenAs, seen_moment}
use Rattle.sip_verdict.proofs.surveys.parts.Cutting.{filter_keys, keys_cut, trouble_cut}
use Rattle.sip_verdict.proofs.surveys.forgetting.Forgetting.{found_new, stands_new}
use Rattle.sip_verdict.proofs.surveys.forgetting.Lasting.{idle_lasts, idle_stays}
use Rattle.sip_verdict.proofs.surveys.found.Once.{ordered_front}
use Rattle.sip_verdict.proofs.surveys.forgetting.Remembered.{idle_forgotten, order_kept, restart_stands, sound_forgotten, stands_idle, zip_left, zip_remembered}
use Rattle.sip_verdict.proofs.surveys.found.Sound.{sound_push}

-- entries as they are observed
abbrev pub Entries : Type 0
Entries = List (Observation KeyParts)

-- the empty list has no entry
no_entry : {A : Type 0} (front : List A) (e : A) (rest : List A) → [] ≡ front ++ e ∷ rest → ⊥
no_entry [] e rest is = cc
no_entry (x ∷ front) e rest is = cc

-- the moments of entries are those of the items that were read
seen_moments : (done : Entries) (items : List Item) (es : Entries) → AreSeen done items es → map (λ e. e.event.moment) es ≡ map (λ i. i.moment) items
seen_moments done [] [] seen = refl
-- each item has its entry
seen_moments done [] (e ∷ es) seen = absurd seen
seen_moments done (item ∷ items) [] seen = absurd seen
seen_moments done (item ∷ items) (e ∷ es) (sees, seen) = ap₂ (λ m ms. m ∷ ms) (seen_moment done item e item.action sees) (seen_moments (done ++ e ∷ []) items es seen)

-- entries as they are remembered have the moments of the entries
remembered_moments : (kept : KeyParts → Bool) (es : Entries) → map (λ e. e.event.moment) (remembered kept es) ≡ map (λ e. e.event.moment) es
remembered_moments kept [] = refl
remembered_moments kept (e ∷ es) = ap (λ ms. e.event.moment ∷ ms) (remembered_moments kept es)

-- entries with the same moments, one by one, are in the same order
order_by : (xs ys : Entries) → map (λ e. e.event.moment) xs ≡ map (λ e. e.event.moment) ys → IsOrdered xs → IsOrdered ys
order_by xs ys same order i j d low high =
    -- m gives the moment of an entry; at each place k both lists have the same moment
    let m : Observation KeyParts → ℕ = λ e. e.event.moment in
    let long : length xs ≡ length ys = sym (length-map xs m) ∙ ap length same ∙ length-map ys m in
    let at : (k : ℕ) → k < length ys → (get_or xs k d).event.moment ≡ (get_or ys k d).event.moment =
    λ k inside. sym (get_or-map m xs k d 0 (omega (arith, inside, long))) ∙ ap (λ ms. get_or ms k 0) same ∙ get_or-map m ys k d 0 inside in
    -- xs has its moments in order at the places i and j, and so has ys
    let first = at i (omega (arith, low, high)) in
    let second = at j high in
    let was = order i j d low (omega (arith, high, long)) in
    omega (arith, first, second, was)

-- What follows is of one key.
module _ (key : KeyParts) where
  -- those of the keys that are equal to `key`, the one key of which all that follows speaks
  abbrev own : List KeyParts → List KeyParts
  own keys = filter (same_key key) keys

  -- a key that the test finds equal to the one key is that key
  same_back : (k : KeyParts) → same_key key k ≡ true → k ≡ key
  same_back k e = sym ((same_key-decides key k).0 e)

  -- a list that has the one key alone stays so when keys equal to it are added
  stays_one : (keys : List KeyParts) → fold with_key (key ∷ []) (own keys) ≡ key ∷ []
  stays_one [] = refl
  stays_one (k ∷ keys) = go (same_key key k) refl (stays_one keys)
    where
      -- a key that is there already is not added again
      known : same_key key k ≡ true → with_key (key ∷ []) k ≡ key ∷ []
      known e = ap (λ b. cond (b || false) (key ∷ []) (key ∷ k ∷ [])) ((same_key-decides k key).1 (same_back k e))

      -- the one key alone is kept where its own keys are added to it, whether or not the next one is equal to it
      -- another key is left out; one equal to the key is there already
      go : (b : Bool) → same_key key k ≡ b → fold with_key (key ∷ []) (own keys) ≡ key ∷ [] → fold with_key (key ∷ []) (cond (same_key key k) (k ∷ own keys) (own keys)) ≡ key ∷ []
      go false e rest = ap (λ b. fold with_key (key ∷ []) (cond b (k ∷ own keys) (own keys))) e ∙ rest
      go true e rest =
          ap (λ b. fold with_key (key ∷ []) (cond b (k ∷ own keys) (own keys))) e ∙ ap (λ start. fold with_key start (own keys)) (known e) ∙ rest

  -- where the key is among keys, the ones equal to it, each added where it is new, give a list of the key alone
  -- an empty list has no key
  becomes_one : (keys : List KeyParts) → list_any (same_key key) keys ≡ true → fold with_key [] (own keys) ≡ key ∷ []
  becomes_one [] some = absurd (false≢true some)
  becomes_one (k ∷ keys) some = go (same_key key k) refl some (becomes_one keys)
    where
      -- where the key is among the keys, its own keys are this key alone, whether or not the first is this one
      go : (b : Bool) → same_key key k ≡ b → (same_key key k || list_any (same_key key) keys) ≡ true → (list_any (same_key key) keys ≡ true → fold with_key [] (own keys) ≡ key ∷ [])
          → fold with_key [] (cond (same_key key k) (k ∷ own keys) (own keys)) ≡ key ∷ []
      -- another key is left out, so that the key is among the later ones
      go false e any rest =
          ap (λ b. fold with_key [] (cond b (k ∷ own keys) (own keys))) e ∙ rest (sym (ap (λ b. b || list_any (same_key key) keys) e) ∙ any)
      -- the first key is the one key, and no later one is added to it
      go true e any rest =
          ap (λ b. fold with_key [] (cond b (k ∷ own keys) (own keys))) e ∙ ap (λ z. fold with_key (z ∷ []) (own keys)) (same_back k e) ∙ stays_one keys

  -- a disjunction is true where its second test is
  or_last : (a b : Bool) → b ≡ true → (a || b) ≡ true
  or_last true b e = refl
  or_last false b e = e

  -- after an entry that concerns the key, the key is once among the keys of all entries
  own_with : (es : Entries) (e : Observation KeyParts) → concerns key e ≡ true → own (keys_in (es ++ e ∷ [])) ≡ key ∷ []
  own_with es e some =
      -- all the keys that entries name, one after another, with those of e at the end, have the key among them (`any`)
      let all = flat_map (λ f. f.keys) es in
      let whole : flat_map (λ f. f.keys) (es ++ e ∷ []) ≡ all ++ e.keys = flat_map-append (λ f. f.keys) es (e ∷ []) ∙ ap (λ keys. all ++ keys) (append-nil e.keys) in
      let any : list_any (same_key key) (all ++ e.keys) ≡ true = list_any-append (same_key key) all e.keys ∙ or_last (list_any (same_key key) all) (concerns key e) some in
      ap (λ keys. own (fold with_key [] keys)) whole ∙ sym (filter_keys (same_key key) [] (all ++ e.keys)) ∙ becomes_one (all ++ e.keys) any

  -- the entry with no other key than the one
  abbrev cut_of : Observation KeyParts → Observation KeyParts
  cut_of e = record { fault = e.fault; event = e.event; keys = own e.keys }

  -- the entry with no other key is a cut of the entry
  cut_self : (e : Observation KeyParts) → IsCutOf (same_key key) e (cut_of e)
  cut_self e = (refl, refl, λ some. refl)

  -- What follows is of the key by the times p.
  module _ (p : Times) where
    -- where the key is among the keys of two logs alike, and one entry more concerns it in both or in neither, it is among their keys alike still
    own_push : (done left : Entries) (e f : Observation KeyParts) → own (keys_in done) ≡ own (keys_in left) → own e.keys ≡ own f.keys → own (keys_in (done ++ e ∷ [])) ≡ own (keys_in (left ++ f ∷ []))
    own_push done left e f same here =
        -- the ones equal to the key, after the entry, are those before it with those of the entry added; both are alike in the two logs
        ap own (keys_in-push done e) ∙ sym (filter_keys (same_key key) (keys_in done) e.keys)
        ∙ ap₂ (λ start keys. fold with_key start keys) same here
        ∙ filter_keys (same_key key) (keys_in left) f.keys ∙ sym (ap own (keys_in-push left f))

    -- where the key is among the keys of two logs alike, an item that is seen after each of them concerns the key in both alike
    alike : (done left : Entries) → own (keys_in done) ≡ own (keys_in left) → (item : Item) (e f : Observation KeyParts) (a : Action) → SeenAs done item e a → SeenAs left item f a → IsCutOf (same_key key) f (cut_of e)
    -- of a message the same is observed after both logs, and of a mark
    alike done left same item e f Sent sees saw = subst (λ g. IsCutOf (same_key key) g (cut_of e)) (message_one way.Sent item e f sees saw) (cut_self e)
    alike done left same item e f Received sees saw = subst (λ g. IsCutOf (same_key key) g (cut_of e)) (message_one way.Received item e f sees saw) (cut_self e)
    alike done left same item e f Failed sees saw = subst (λ g. IsCutOf (same_key key) g (cut_of e)) (message_one way.Sent item e f sees saw) (cut_self e)
    alike done left same item e f Mark sees saw = subst (λ g. IsCutOf (same_key key) g (cut_of e)) (sees ∙ sym saw) (cut_self e)
    -- a restart concerns the keys so far, among which this key is in both
    alike done left same item e f Restart sees saw = (
      ap (λ g. g.event.moment) sees ∙ sym (ap (λ g. g.event.moment) saw),
      ap (λ g. own g.keys) sees ∙ same ∙ sym (ap (λ g. own g.keys) saw),
      λ some. ap (λ g. g.event) sees ∙ sym (ap (λ g. g.event) saw),
    )

    -- both lists of entries, with no other key than the one, stand for the same entries
    abbrev AreAlike : Entries → Entries → Type 0
    AreAlike es fs = (cs : Entries) × AllZip (IsCutOf (same_key key)) es cs × AllZip (IsCutOf (same_key key)) fs cs

    -- items that are seen after each of two logs which know the key alike give entries that are alike
    all_alike : (done left : Entries) → own (keys_in done) ≡ own (keys_in left) → (items : List Item) (es fs : Entries) → AreSeen done items es → AreSeen left items fs → AreAlike es fs
    -- no item is left; there are as many entries as items in both logs
    all_alike done left same [] [] [] seen saw = ([], tt, tt)
    all_alike done left same [] [] (f ∷ fs) seen saw = absurd saw
    all_alike done left same [] (e ∷ es) fs seen saw = absurd seen
    all_alike done left same (item ∷ items) [] fs seen saw = absurd seen
    all_alike done left same (item ∷ items) (e ∷ es) [] seen saw = absurd saw
    -- e and f are what is observed of the item after each of the logs, which are alike, and so are the others
    all_alike done left same (item ∷ items) (e ∷ es) (f ∷ fs) (sees, seen) (saw, seen_left) =
        let here = alike done left same item e f item.action sees saw in
        let more = all_alike (done ++ e ∷ []) (left ++ f ∷ []) (own_push done left e f same here.1) items es fs seen seen_left in
        (cut_of e ∷ more.0, (cut_self e, more.1), (here, more.2))

    -- what two logs have before an entry, and this entry, stand for the same where other keys are left out
    pub record SplitAlike (front back : Entries) (e f : Observation KeyParts) : Type 0 where
      pub mid : Entries
      pub cut : Observation KeyParts
      pub fronts : AllZip (IsCutOf (same_key key)) front mid
      pub backs : AllZip (IsCutOf (same_key key)) back mid
      pub first : IsCutOf (same_key key) e cut
      pub second : IsCutOf (same_key key) f cut

    -- two lists that are alike, split at the same place, are alike up to it and at it
    split_alike : (front back cs : Entries) (e f : Observation KeyParts) (rest more : Entries) → AllZip (IsCutOf (same_key key)) (front ++ e ∷ rest) cs → AllZip (IsCutOf (same_key key)) (back ++ f ∷ more) cs
        → length front ≡ length back → SplitAlike front back e f
    -- without fronts the place is the first, and e and f are alike, with c for both
    split_alike [] [] [] e f rest more one other long = absurd one
    split_alike [] [] (c ∷ cs) e f rest more one other long = record { mid = []; cut = c; fronts = tt; backs = tt; first = one.0; second = other.0 }
    -- of fronts of other lengths the one is not as long as the other
    split_alike [] (y ∷ back) cs e f rest more one other long = absurd (omega (arith, long))
    split_alike (x ∷ front) [] cs e f rest more one other long = absurd (omega (arith, long))
    split_alike (x ∷ front) (y ∷ back) [] e f rest more one other long = absurd one
    -- the first entries x and y are alike, with c for both, and so are the lists after them
    split_alike (x ∷ front) (y ∷ back) (c ∷ cs) e f rest more one other long =
        let s = split_alike front back cs e f rest more one.1 other.1 (omega (arith, long)) in
        record { mid = c ∷ s.mid; cut = s.cut; fronts = (one.0, s.fronts); backs = (other.0, s.backs); first = s.first; second = s.second }

    -- where two parts of entries stand for two parts of others, both parts together do
    -- ys stand for xs, and vs for us
    zip_join : (xs ys us vs : Entries) → AllZip (IsCutOf (same_key key)) xs ys → AllZip (IsCutOf (same_key key)) us vs → AllZip (IsCutOf (same_key key)) (xs ++ us) (ys ++ vs)
    zip_join [] [] us vs zip more = more
    -- neither list is longer than the other
    zip_join [] (y ∷ ys) us vs zip more = absurd zip
    zip_join (x ∷ xs) [] us vs zip more = absurd zip
    zip_join (x ∷ xs) (y ∷ ys) us vs zip more = (zip.0, zip_join xs ys us vs zip.1 more)

    -- the test finds the key equal to itself
    here_same : same_key key key ≡ true
    here_same = (same_key-decides key key).1 refl

    -- the key breaks, or is followed no further, at the entry e of the one log exactly if it does at the entry f of the other
    abbrev Alike : Entries → Observation KeyParts → Entries → Observation KeyParts → Type 0
    Alike front e back f = (Breaks p front e key ↔ Breaks p back f key) × (Widens p front e key ↔ Widens p back f key)

    -- two logs in which the key fares as in a third one are alike
    -- e, c and f are the entries after `front`, `mid` and `back`
    through : (front mid back : Entries) (e c f : Observation KeyParts) → Alike front e mid c → Alike back f mid c → Alike front e back f
    through front mid back e c f a b = ((λ h. b.0.1 (a.0.0 h), λ h. a.0.1 (b.0.0 h)), (λ h. b.1.1 (a.1.0 h), λ h. a.1.1 (b.1.0 h)))

    -- where both logs stand for the same entries when other keys are left out, the same is found of the key
    -- e, c and f are the entries after `front`, `mid` and `back`
    alike_by : (front mid back : Entries) (e c f : Observation KeyParts) → AllZip (IsCutOf (same_key key)) front mid → AllZip (IsCutOf (same_key key)) back mid → IsCutOf (same_key key) e c → IsCutOf (same_key key) f c
        → Alike front e back f
    alike_by front mid back e c f fronts backs first second =
        through front mid back e c f (trouble_cut (same_key key) key here_same p front mid e c fronts first) (trouble_cut (same_key key) key here_same p back mid f c backs second)

    -- What follows is of a transaction that is kept.

    -- a kept key has the same trouble at the same entries, whether or not other transactions were forgotten
    pub later_kept : (kept : KeyParts → Bool) → kept key ≡ true → (old : Entries) (items : List Item) (es fs : Entries) → AreSeen old items es → AreSeen (remembered kept old) items fs
        → HasSameTroubleAfter p old (remembered kept old) es fs key
    later_kept kept is old items es fs seen saw front back e f rest more split other long =
        -- `only` are the old entries of this key alone, for which both logs stand
        let only = remembered (same_key key) old in
        let whole = zip_remembered (same_key key) old in
        let left = zip_left kept key is old in
        let same : own (keys_in old) ≡ own (keys_in (remembered kept old)) = sym (keys_cut (same_key key) old only whole) ∙ keys_cut (same_key key) (remembered kept old) only left in
        -- cs is what both logs have of the key from there on, and s what of it lies before the entries e and f
        let (cs, ones, others) = all_alike old (remembered kept old) same items es fs seen saw in
        let s = split_alike front back cs e f rest more (subst (λ xs. AllZip (IsCutOf (same_key key)) xs cs) split ones) (subst (λ xs. AllZip (IsCutOf (same_key key)) xs cs) other others) long in
        alike_by (old ++ front) (only ++ s.mid) (remembered kept old ++ back) e s.cut f (zip_join old only front s.mid whole s.fronts) (zip_join (remembered kept old) only back s.mid left s.backs) s.first s.second

    -- What follows is of a transaction that is idle again.

    -- the machine of the key
    abbrev kind : MachineKind
    kind = machine_of_key p.rules key

    -- the transaction is idle again after the entries, and in no trouble
    pub record Rests (es : Entries) : Type 0 where
      pub again : IsIdleAgain kind p (events_for key es) (newest_moment es)
      pub sound : IsSound p es key

    -- the entry does not concern the key, or is a restart
    abbrev Passes : Observation KeyParts → Type 0
    Passes e = (concerns key e ≡ false) ⊎ (e.event.action ≡ Restart)

    -- the key's events of an entry that does not concern it, or is a restart, are all restarts
    all_restarts : (e : Observation KeyParts) → Passes e → All (λ d. d.action ≡ Restart) (events_for key (e ∷ []))
    all_restarts e passes = go (concerns key e) refl passes
      where
        -- the events of the entry for the key are restarts, whether or not the entry concerns the key
        -- an entry that does not concern the key brings it no event, and one that does is a restart
        go : (b : Bool) → concerns key e ≡ b → Passes e → All (λ d. d.action ≡ Restart) (map (λ f. f.event) (cond (concerns key e) (e ∷ []) []))
        go false none any = subst (λ b. All (λ d. d.action ≡ Restart) (map (λ f. f.event) (cond b (e ∷ []) []))) (sym none) (All-nil (λ d. d.action ≡ Restart))
        go true some (inl none) = absurd (false≢true (sym none ∙ some))
        go true some (inr is) = subst (λ b. All (λ d. d.action ≡ Restart) (map (λ f. f.event) (cond b (e ∷ []) []))) (sym some) (All-cons (λ d. d.action ≡ Restart) e.event [] is (All-nil (λ d. d.action ≡ Restart)))

    -- over this one entry, which does not concern the key or is a restart, the transaction can stand in idle
    idle_here : (e : Observation KeyParts) → Passes e → Stands (transaction_of kind).figure p (events_for key (e ∷ [])) e.event.moment (quiet (transaction_of kind).figure.idle)
    idle_here e passes = go (concerns key e) refl passes
      where
        -- the transaction is idle after the events of the entry for the key, whether or not the entry concerns it
        go : (b : Bool) → concerns key e ≡ b → Passes e → Stands (transaction_of kind).figure p (map (λ g. g.event) (cond (concerns key e) (e ∷ []) [])) e.event.moment (quiet (transaction_of kind).figure.idle)
        go false none any =
            subst (λ b. Stands (transaction_of kind).figure p (map (λ g. g.event) (cond b (e ∷ []) [])) e.event.moment (quiet (transaction_of kind).figure.idle)) (sym none)
            (waits [] 0 e.event.moment (quiet (transaction_of kind).figure.idle) begins zero-le (idle_lasts kind p e.event.moment))
        -- an entry that concerns it is a restart, over which it stands in idle
        go true some (inl none) = absurd (false≢true (sym none ∙ some))
        go true some (inr is) =
            subst (λ b. Stands (transaction_of kind).figure p (map (λ g. g.event) (cond b (e ∷ []) [])) e.event.moment (quiet (transaction_of kind).figure.idle)) (sym some)
            (restart_stands (transaction_of kind).figure p (idle_lasts kind p) e.event is)

    -- where entries are in order, the moment of the last one is not before the newest of the others
    late_push : (es : Entries) (e : Observation KeyParts) → IsOrdered (es ++ e ∷ []) → newest_moment es ≤ e.event.moment
    late_push es e order = All-middle (λ g. newest_moment es ≤ g.event.moment) [] [] e (newest-before 0 es (e ∷ []) (λ i d within. zero-le) order)

    -- more than 1,024 different states are not all the same one
    not_many : {X : Type 0} (q : X) (many : List X) → AllPairs (λ x y. x ≢ y) many → 1024 < length many → All (λ x. x ≡ q) many → ⊥
    not_many q many distinct long all = distinct 0 1 q (omega arith) (omega (arith, long)) (all 0 q (omega (arith, long)) ∙ sym (all 1 q (omega (arith, long))))

    -- over an entry that does not concern it, or is a restart, a transaction that is idle again stays so
    rests_on : (es : Entries) (e : Observation KeyParts) → IsOrdered (es ++ e ∷ []) → Rests es → Passes e → Rests (es ++ e ∷ [])
    rests_on es e order r passes =
        let f = (transaction_of kind).figure in
        let now = newest_moment-push es e in
        let both = stands_new p key es r.again (e ∷ []) order e.event.moment (late_push es e order) in
        -- the transaction stands in idle over the entry, and nowhere else
        let idle = quiet f.idle in
        let stands : Stands f p (events_for key (es ++ e ∷ [])) e.event.moment idle = (both idle).1 (idle_here e passes) in
        let only : (x : Owing (transaction_of kind).Phase) → Stands f p (events_for key (es ++ e ∷ [])) e.event.moment x → x ≡ idle =
        λ x there. stands_idle f p (idle_stays kind p) (events_for key (e ∷ [])) e.event.moment x ((both x).0 there) (all_restarts e passes) in
        -- the transaction is idle again, and in no trouble
        record {
          again = subst (IsIdleAgain kind p (events_for key (es ++ e ∷ []))) (sym now) (stands, only);
          sound = sound_push p es e key r.sound (idle, subst (λ m. Stands f p (events_for key (es ++ e ∷ [])) m idle) (sym now) stands) (λ wide. narrow only wide);
        }
      where
        -- the transaction stands in idle alone, so it is not too wide
        narrow : ((x : Owing (transaction_of kind).Phase) → Stands (transaction_of kind).figure p (events_for key (es ++ e ∷ [])) e.event.moment x → x ≡ quiet (transaction_of kind).figure.idle) → ¬ (IsWideAt p es e key)
        narrow only (concerned, (many, distinct, long, all)) =
            let f = (transaction_of kind).figure in
            not_many (quiet f.idle) many distinct long (λ k d within.
            let (x, before, does) = all k d within in
            only (get_or many k d) (subst (λ events. Stands f p events e.event.moment (get_or many k d)) (sym (events_for-concerned key es e concerned)) (takes (events_for key es) e.event x (get_or many k d) before does)))

    -- where the transaction is idle again after an entry too, nothing is found of it there
    nothing_found : (es : Entries) (e : Observation KeyParts) → Rests (es ++ e ∷ []) → ¬ (Breaks p es e key) × ¬ (Widens p es e key)
    nothing_found es e r = (λ breaks. breaks.1 r.sound.0, λ widens. r.sound.1 es e [] refl widens.1)

    -- an item that comes is seen alike after both logs and concerns the key; or in each it does not concern the key, or is a restart
    abbrev Comes : Observation KeyParts → Observation KeyParts → Type 0
    Comes e f = ((e ≡ f) × (concerns key e ≡ true)) ⊎ (Passes e × Passes f)

    -- an observation that both logs have concerns the key in both, or in none
    message : (e f : Observation KeyParts) → e ≡ f → (b : Bool) → concerns key e ≡ b → Comes e f
    message e f same true some = inl (same, some)
    message e f same false none = inr (inl none, inl (ap (concerns key) (sym same) ∙ none))

    -- an item that comes is a message that is seen alike after both logs, or a mark, or a restart
    comes : (done left : Entries) (item : Item) (e f : Observation KeyParts) (a : Action) → SeenAs done item e a → SeenAs left item f a → Comes e f
    comes done left item e f Sent sees saw = message e f (message_one way.Sent item e f sees saw) (concerns key e) refl
    comes done left item e f Received sees saw = message e f (message_one way.Received item e f sees saw) (concerns key e) refl
    comes done left item e f Failed sees saw = message e f (message_one way.Sent item e f sees saw) (concerns key e) refl
    -- a mark concerns no key, and a restart is one in both logs
    comes done left item e f Mark sees saw = inr (inl (ap (concerns key) sees), inl (ap (concerns key) saw))
    comes done left item e f Restart sees saw = inr (inr (ap (λ g. g.event.action) sees), inr (ap (λ g. g.event.action) saw))

    -- where entries are in order, the old ones with the first of the later ones up to e are in order
    ordered_to : (old front : Entries) (e : Observation KeyParts) (rest : Entries) → IsOrdered (old ++ (front ++ e ∷ rest)) → IsOrdered (old ++ (front ++ e ∷ []))
    ordered_to old front e rest order =
        ordered_front (λ a b. a.event.moment ≤ b.event.moment) (old ++ (front ++ e ∷ [])) rest
        (subst IsOrdered (sym (append_assoc old (front ++ e ∷ []) rest ∙ ap (λ xs. old ++ xs) (append_assoc front (e ∷ []) rest))) order)

    -- once an entry concerns the key after both logs, the key has the trouble of a new one in both
    found_both : (old left : Entries) (g : Observation KeyParts) (es fs : Entries) → concerns key g ≡ true → IsOrdered (old ++ g ∷ es) → IsOrdered (left ++ g ∷ fs) → Rests old → Rests left
        → AreAlike es fs → HasSameTroubleAfter p old left (g ∷ es) (g ∷ fs) key
    found_both old left g es fs some order order_left r r_left (cs, ones, others) front back e f rest more split other long =
        -- s is what the two logs have in common up to the entries e and f, from g on
        let s = split_alike front back (cut_of g ∷ cs) e f rest more (subst (λ xs. AllZip (IsCutOf (same_key key)) xs (cut_of g ∷ cs)) split (cut_self g, ones)) (subst (λ xs. AllZip (IsCutOf (same_key key)) xs (cut_of g ∷ cs)) other (cut_self g, others)) long in
        -- in each log the transaction was idle again before g, so that it is found as a new one from there
        let new = found_new p key old r.again r.sound front e (ordered_to old front e rest (subst (λ xs. IsOrdered (old ++ xs)) split order)) in
        let new_left = found_new p key left r_left.again r_left.sound back f (ordered_to left back f more (subst (λ xs. IsOrdered (left ++ xs)) other order_left)) in
        -- over what the logs have in common the same is found
        let same = alike_by front s.mid back e s.cut f s.fronts s.backs s.first s.second in
        through (old ++ front) front (left ++ back) e e f new (through (left ++ back) back front f f e new_left same)

    -- a key that is idle again after both logs has the same trouble at the same entries of what comes
    later_rests : (old left : Entries) (items : List Item) (es fs : Entries) → IsOrdered (old ++ es) → IsOrdered (left ++ fs) → Rests old → Rests left → AreSeen old items es → AreSeen left items fs → HasSameTroubleAfter p old left es fs key
    -- the entries e and f are among what comes, so that there is an item, and each item has its entry in both logs
    later_rests old left [] [] fs order order_left r r_left seen saw front back e f rest more split other long = absurd (no_entry front e rest split)
    later_rests old left [] (g ∷ es) fs order order_left r r_left seen saw front back e f rest more split other long = absurd seen
    later_rests old left (item ∷ items) [] fs order order_left r r_left seen saw front back e f rest more split other long = absurd seen
    later_rests old left (item ∷ items) (g ∷ es) [] order order_left r r_left seen saw front back e f rest more split other long = absurd saw
    -- the next entries are alike for the key, and then the later ones
    later_rests old left (item ∷ items) (g ∷ es) (h ∷ fs) order order_left r r_left (sees, seen) (saw, seen_left) front back e f rest more split other long =
        by (comes old left item g h item.action sees saw) (λ now now_left.
        later_rests (old ++ g ∷ []) (left ++ h ∷ []) items es fs (subst IsOrdered (sym (append_assoc old (g ∷ []) es)) order) (subst IsOrdered (sym (append_assoc left (h ∷ []) fs)) order_left) now now_left seen seen_left)
      where
        -- the old entries with g after them are in the order of their moments
        first : IsOrdered (old ++ g ∷ [])
        first = ordered_to old [] g es order

        -- the entries that are left with h after them are in the order of their moments
        first_left : IsOrdered (left ++ h ∷ [])
        first_left = ordered_to left [] h fs order_left

        -- the entries that are compared are the next ones, or later ones
        at : Rests (old ++ g ∷ []) → Rests (left ++ h ∷ []) → HasSameTroubleAfter p (old ++ g ∷ []) (left ++ h ∷ []) es fs key
            → (front back : Entries) (e f : Observation KeyParts) (rest more : Entries) → g ∷ es ≡ front ++ e ∷ rest → h ∷ fs ≡ back ++ f ∷ more → length front ≡ length back → Alike (old ++ front) e (left ++ back) f
        -- the next entries of both logs: nothing is found at either
        at now now_left later [] [] e f rest more split other long =
            -- e and f are the next entries g and h, and what was put after the old entries before them is empty
            let is : g ≡ e = cc in
            let is_left : h ≡ f = cc in
            let none = nothing_found old g now in
            let none_left = nothing_found left h now_left in
            subst (λ x. Alike (old ++ []) x (left ++ []) f) is (subst (λ x. Alike (old ++ []) g (left ++ []) x) is_left
            (subst (λ xs. Alike xs g (left ++ []) h) (sym (append-nil old)) (subst (λ xs. Alike old g xs h) (sym (append-nil left))
            ((λ b. absurd (none.0 b), λ b. absurd (none_left.0 b)), (λ w. absurd (none.1 w), λ w. absurd (none_left.1 w))))))
        -- the two entries cannot be later in one log and next in the other
        at now now_left later [] (y ∷ back) e f rest more split other long = absurd (omega (arith, long))
        at now now_left later (x ∷ front) [] e f rest more split other long = absurd (omega (arith, long))
        -- the two entries are later ones in both logs
        at now now_left later (x ∷ front) (y ∷ back) e f rest more split other long =
            -- the next entries g and h are the first ones before e and f; put after the old entries, they leave e and f among what comes later
            let is : g ≡ x = cc in
            let is_left : h ≡ y = cc in
            let tail : es ≡ front ++ e ∷ rest = cc in
            let tail_left : fs ≡ back ++ f ∷ more = cc in
            subst (λ xs. Alike xs e (left ++ y ∷ back) f) (append_assoc old (g ∷ []) front ∙ ap (λ z. old ++ z ∷ front) is)
            (subst (λ xs. Alike ((old ++ g ∷ []) ++ front) e xs f) (append_assoc left (h ∷ []) back ∙ ap (λ z. left ++ z ∷ back) is_left)
            (later front back e f rest more tail tail_left (omega (arith, long))))

        -- the two entries are alike for the key after both logs so far, if the next entries of both are
        by : Comes g h → (Rests (old ++ g ∷ []) → Rests (left ++ h ∷ []) → HasSameTroubleAfter p (old ++ g ∷ []) (left ++ h ∷ []) es fs key) → Alike (old ++ front) e (left ++ back) f
        -- the next entries g and h are one entry, which concerns the key: from there on the same is found
        by (inl (same, some)) on =
            let own_same : own (keys_in (old ++ g ∷ [])) ≡ own (keys_in (left ++ h ∷ [])) = own_with old g some ∙ sym (own_with left h (ap (concerns key) (sym same) ∙ some)) in
            found_both old left g es fs some order (subst (λ x. IsOrdered (left ++ x ∷ fs)) (sym same) order_left) r r_left (all_alike (old ++ g ∷ []) (left ++ h ∷ []) own_same items es fs seen seen_left)
            front back e f rest more split (ap (λ x. x ∷ fs) same ∙ other) long
        -- neither concerns the key, which goes on as before after both
        by (inr (passes, passes_left)) on =
            let now = rests_on old g first r passes in
            let now_left = rests_on left h first_left r_left passes_left in
            at now now_left (on now now_left) front back e f rest more split other long

    -- a key that is forgotten in no trouble and idle again has the same trouble at the same entries as if nothing were forgotten: es are the items as
    -- they are seen after all old entries, and fs as they are seen after what is remembered of these
    pub later_idle : (kept : KeyParts → Bool) → kept key ≡ false → (old : Entries) (items : List Item) (es fs : Entries) → IsOrdered (old ++ es)
        → IsIdleAgain (machine_of_key p.rules key) p (events_for key old) (newest_moment old) → IsSound p old key → AreSeen old items es → AreSeen (remembered kept old) items fs
        → HasSameTroubleAfter p old (remembered kept old) es fs key
    later_idle kept not old items es fs order again sound seen saw =
        -- m gives the moment of an entry: both logs have the same moments
        let m : Observation KeyParts → ℕ = λ e. e.event.moment in
        let left = remembered kept old in
        let same : map m (old ++ es) ≡ map m (left ++ fs) =
        map-append m old es ∙ ap₂ (λ a b. a ++ b) (sym (remembered_moments kept old)) (seen_moments old items es seen ∙ sym (seen_moments left items fs saw)) ∙ sym (map-append m left fs) in
        later_rests old left items es fs order (order_by (old ++ es) (left ++ fs) same order) (record { again = again; sound = sound })
        (record { again = idle_forgotten kept key not p old; sound = sound_forgotten kept key not p old }) seen saw
