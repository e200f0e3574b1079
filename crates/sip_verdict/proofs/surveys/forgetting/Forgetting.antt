-- A transaction that is idle again can be forgotten: what a survey finds of it later is what it finds of a new one.
-- In the lemmas x is where a list is split, zs what stands between two splits, and y a state in which a run stands at the moment k.
use Rattle.std.proofs.Common.{◌≡◌, ◌≤◌, ◌↔◌, ◌⊎◌, inl, inr, ℕ, List, [], ◌∷◌, ◌++◌, All, AllPairs, refl, sym, ap, ◌∙◌, subst, arith, append_assoc, append-nil}
use Rattle.std.proofs.lemmas.List.Elements.{All-weaker}
use Rattle.sip_standard.specs.Key.{KeyParts}
use Rattle.sip_standard.specs.Times.{Times}
use Rattle.sip_standard.specs.Figure.{Owing}
use Rattle.sip_standard.specs.Stands.{Stands, StandsAfter}
use Rattle.sip_standard.specs.KeyMachine.{machine_of_key, transaction_of}
use Rattle.sip_standard.specs.Observation.{Observation}
use Rattle.sip_verdict.specs.Entries.{newest_moment}
use Rattle.sip_standard.specs.VerdictOf.{events_for, RunsOver, IsWideAt}
use Rattle.sip_verdict.specs.SurveyOf.{IsSound, Breaks, Widens}
use Rattle.sip_verdict.specs.SurveyLaws.{IsIdleAgain}
use Rattle.sip_verdict.proofs.keys.FewerEntries.{newest-to, newest-before, events-all, events-append}
use Rattle.sip_verdict.proofs.keys.Keys.{newest_moment-push}
use Rattle.sip_verdict.proofs.verdicts.Unique.{All-middle}
use Rattle.sip_verdict.proofs.verdicts.LegalRuns.{empty_or_last}
use Rattle.sip_verdict.proofs.surveys.forgetting.IdleAgain.{idle_is_new}
use Rattle.sip_verdict.proofs.surveys.found.Once.{ordered_front}
use Rattle.sip_verdict.proofs.surveys.found.Sound.{sound_nil}

-- a split of two lists, one after the other, lies in the first or in the second
-- without a first list the split lies in the second; at the first element it lies in the first list
split_of : {A : Type 0} (xs ys front : List A) (x : A) (rest : List A) → xs ++ ys ≡ front ++ x ∷ rest
    → ((zs : List A) × (xs ≡ front ++ x ∷ zs)) ⊎ ((zs : List A) × (front ≡ xs ++ zs) × (ys ≡ zs ++ x ∷ rest))
split_of [] ys front x rest is = inr (front, refl, is)
split_of (y ∷ xs) ys [] x rest is = inl (xs, cc)
split_of {A} (y ∷ xs) ys (z ∷ front) x rest is = by (split_of xs ys front x rest (cc))
  where
    -- the first elements are equal
    same : y ≡ z
    same = cc

    -- the split lies in the first list or in the second, as that of the rest does
    by : ((zs : List A) × (xs ≡ front ++ x ∷ zs)) ⊎ ((zs : List A) × (front ≡ xs ++ zs) × (ys ≡ zs ++ x ∷ rest))
        → ((zs : List A) × (y ∷ xs ≡ z ∷ (front ++ x ∷ zs))) ⊎ ((zs : List A) × (z ∷ front ≡ y ∷ (xs ++ zs)) × (ys ≡ zs ++ x ∷ rest))
    -- zs is what stands between the end of the one list and the split
    by (inl (zs, e)) = inl (zs, cc)
    by (inr (zs, e, f)) = inr (zs, cc, f)

-- What follows is of one key by the times p, which the entries `old` leave idle again.
module _ (p : Times) (key : KeyParts) (old : List (Observation KeyParts)) (again : IsIdleAgain (machine_of_key p.rules key) p (events_for key old) (newest_moment old)) where
  -- the old entries and these later ones are in order of their moments
  abbrev order_of : List (Observation KeyParts) → Type 0
  order_of more = AllPairs (λ a b. a.event.moment ≤ b.event.moment) (old ++ more)

  -- a run over the old and later events of the key stands where a run over the later events alone stands
  pub stands_new : (more : List (Observation KeyParts)) → order_of more → (k : ℕ) → newest_moment old ≤ k → (y : Owing (transaction_of (machine_of_key p.rules key)).Phase)
      → Stands (transaction_of (machine_of_key p.rules key)).figure p (events_for key (old ++ more)) k y ↔ Stands (transaction_of (machine_of_key p.rules key)).figure p (events_for key more) k y
  stands_new more order k high y =
      let from : All (λ e. 0 ≤ e.event.moment) (old ++ more) = λ i d within. omega arith in
      -- the old events leave the key idle again, so it is as new for those after them
      let both = idle_is_new (machine_of_key p.rules key) p (events_for key old) (events_for key more) (newest_moment old) k y again
      (events-all key (λ f. f.moment ≤ newest_moment old) old (newest-to 0 old more order))
      (events-all key (λ f. newest_moment old ≤ f.moment) more (newest-before 0 old more from order)) high in
      let f = (transaction_of (machine_of_key p.rules key)).figure in (
        λ stands. both.0 (subst (λ events. Stands f p events k y) (events-append key old more) stands),
        λ stands. subst (λ events. Stands f p events k y) (sym (events-append key old more)) (both.1 stands),
      )

  -- the last of later entries in order is not before the newest of the old ones
  last_late : (front : List (Observation KeyParts)) (e : Observation KeyParts) (rest : List (Observation KeyParts)) → order_of (front ++ e ∷ rest) → newest_moment old ≤ e.event.moment
  last_late front e rest order =
      All-middle (λ f. newest_moment old ≤ f.event.moment) front rest e (newest-before 0 old (front ++ e ∷ rest) (λ i d within. omega arith) order)

  -- where later entries are in order, the first of them are in order
  order_front : (more rest : List (Observation KeyParts)) → order_of (more ++ rest) → order_of more
  order_front more rest order = ordered_front (λ a b. a.event.moment ≤ b.event.moment) (old ++ more) rest (subst (AllPairs (λ a b. a.event.moment ≤ b.event.moment)) (sym (append_assoc old more rest)) order)

  -- the key has a run over all entries exactly if it has one over the later ones
  runs_new : (front : List (Observation KeyParts)) (e : Observation KeyParts) → order_of (front ++ e ∷ []) → RunsOver p ((old ++ front) ++ e ∷ []) key ↔ RunsOver p (front ++ e ∷ []) key
  runs_new front e order =
      let f = (transaction_of (machine_of_key p.rules key)).figure in
      let late = last_late front e [] order in
      let one : (old ++ front) ++ e ∷ [] ≡ old ++ (front ++ e ∷ []) = append_assoc old front (e ∷ []) in
      let whole = newest_moment-push (old ++ front) e in
      let new = newest_moment-push front e in (
        -- a run over all entries is one over the later ones
        λ runs.
            let at : Stands f p (events_for key (old ++ (front ++ e ∷ []))) e.event.moment runs.0 =
            subst (λ es. Stands f p (events_for key es) e.event.moment runs.0) one (subst (λ m. Stands f p (events_for key ((old ++ front) ++ e ∷ [])) m runs.0) whole runs.1) in
            (runs.0, subst (λ m. Stands f p (events_for key (front ++ e ∷ [])) m runs.0) (sym new) ((stands_new (front ++ e ∷ []) order e.event.moment late runs.0).0 at)),
        -- a run over the later entries is one over all of them
        λ runs.
            let at : Stands f p (events_for key (old ++ (front ++ e ∷ []))) e.event.moment runs.0 =
            (stands_new (front ++ e ∷ []) order e.event.moment late runs.0).1 (subst (λ m. Stands f p (events_for key (front ++ e ∷ [])) m runs.0) new runs.1) in
            (runs.0, subst (λ m. Stands f p (events_for key ((old ++ front) ++ e ∷ [])) m runs.0) (sym whole) (subst (λ es. Stands f p (events_for key es) e.event.moment runs.0) (sym one) at)),
      )

  -- the key is too wide after all entries exactly if it is too wide after the later ones
  wide_new : (front : List (Observation KeyParts)) (e : Observation KeyParts) → order_of (front ++ e ∷ []) → IsWideAt p (old ++ front) e key ↔ IsWideAt p front e key
  wide_new front e order =
      let f = (transaction_of (machine_of_key p.rules key)).figure in
      let late = last_late front e [] order in
      let new = stands_new front (order_front front (e ∷ []) order) e.event.moment late in
      -- what stands over all entries stands over the later ones, and the other way round
      let into : (y : Owing (transaction_of (machine_of_key p.rules key)).Phase) → StandsAfter f p (events_for key (old ++ front)) e.event y → StandsAfter f p (events_for key front) e.event y =
      λ y stands. (stands.0, (new stands.0).0 stands.1, stands.2) in
      let from : (y : Owing (transaction_of (machine_of_key p.rules key)).Phase) → StandsAfter f p (events_for key front) e.event y → StandsAfter f p (events_for key (old ++ front)) e.event y =
      λ y stands. (stands.0, (new stands.0).1 stands.1, stands.2) in (
        λ wide. (wide.0, (wide.1.0, wide.1.1, wide.1.2, All-weaker (StandsAfter f p (events_for key (old ++ front)) e.event) (StandsAfter f p (events_for key front) e.event) into wide.1.0 wide.1.3)),
        λ wide. (wide.0, (wide.1.0, wide.1.1, wide.1.2, All-weaker (StandsAfter f p (events_for key front) e.event) (StandsAfter f p (events_for key (old ++ front)) e.event) from wide.1.0 wide.1.3)),
      )

  -- What follows is of a key that came into no trouble over the old entries.
  module _ (sound : IsSound p old key) where
    -- the key is in no trouble over all entries exactly if it is in none over the later ones
    sound_new : (more : List (Observation KeyParts)) → order_of more → IsSound p (old ++ more) key ↔ IsSound p more key
    sound_new more order = (
      λ both. (runs_of more order both.0, λ front e rest is wide. both.1 (old ++ front) e rest (ap (λ xs. old ++ xs) is ∙ sym (append_assoc old front (e ∷ rest))) ((wide_new front e (order_at front e rest is)).1 wide)),
      λ new. (runs_both more order new.0, λ front e rest is wide. narrow new front e rest wide (split_of old more front e rest is)),
    )
      where
        -- the entries up to e are in the order of their moments
        order_at : (front : List (Observation KeyParts)) (e : Observation KeyParts) (rest : List (Observation KeyParts)) → more ≡ front ++ e ∷ rest → order_of (front ++ e ∷ [])
        order_at front e rest is = order_front (front ++ e ∷ []) rest (subst order_of (is ∙ sym (append_assoc front (e ∷ []) rest)) order)

        -- no entry of the old ones or of the later ones finds the key too wide
        narrow : IsSound p more key → (front : List (Observation KeyParts)) (e : Observation KeyParts) (rest : List (Observation KeyParts)) → IsWideAt p front e key
            → ((zs : List (Observation KeyParts)) × (old ≡ front ++ e ∷ zs)) ⊎ ((zs : List (Observation KeyParts)) × (front ≡ old ++ zs) × (more ≡ zs ++ e ∷ rest)) → ⊥
        narrow new front e rest wide (inl (zs, is)) = sound.1 front e zs is wide
        narrow new front e rest wide (inr (zs, before, is)) = new.1 zs e rest is ((wide_new zs e (order_at zs e rest is)).0 (subst (λ xs. IsWideAt p xs e key) before wide))

        -- a run over all entries is one over the later ones
        runs_of : (es : List (Observation KeyParts)) → order_of es → RunsOver p (old ++ es) key → RunsOver p es key
        runs_of es order runs = by (empty_or_last es)
          where
            -- the key has runs over the later entries, whether or not there are any
            by : (es ≡ []) ⊎ ((front : List (Observation KeyParts)) × (e : Observation KeyParts) × (es ≡ front ++ e ∷ [])) → RunsOver p es key
            by (inl none) = subst (λ xs. RunsOver p xs key) (sym none) (sound_nil p key).0
            by (inr (front, e, is)) =
                subst (λ xs. RunsOver p xs key) (sym is)
                ((runs_new front e (subst order_of is order)).0 (subst (λ xs. RunsOver p xs key) (ap (λ xs. old ++ xs) is ∙ sym (append_assoc old front (e ∷ []))) runs))

        -- a run over the later entries is one over all of them
        runs_both : (es : List (Observation KeyParts)) → order_of es → RunsOver p es key → RunsOver p (old ++ es) key
        runs_both es order runs = by (empty_or_last es)
          where
            -- the key has runs over the old entries and the later ones, whether or not there are any later ones
            by : (es ≡ []) ⊎ ((front : List (Observation KeyParts)) × (e : Observation KeyParts) × (es ≡ front ++ e ∷ [])) → RunsOver p (old ++ es) key
            by (inl none) = subst (λ xs. RunsOver p (old ++ xs) key) (sym none) (subst (λ xs. RunsOver p xs key) (sym (append-nil old)) sound.0)
            by (inr (front, e, is)) =
                subst (λ xs. RunsOver p xs key) (sym (ap (λ xs. old ++ xs) is ∙ sym (append_assoc old front (e ∷ []))))
                ((runs_new front e (subst order_of is order)).1 (subst (λ xs. RunsOver p xs key) is runs))

    -- at a later entry the key breaks, or is followed no further, exactly where it does over the later entries alone
    pub found_new : (front : List (Observation KeyParts)) (e : Observation KeyParts) → order_of (front ++ e ∷ []) → (Breaks p (old ++ front) e key ↔ Breaks p front e key) × (Widens p (old ++ front) e key ↔ Widens p front e key)
    found_new front e order =
        -- in no trouble before, a run over the entry, too wide at it: each is so over all entries exactly if it is so over the later ones
        let so_far = sound_new front (order_front front (e ∷ []) order) in
        let runs = runs_new front e order in
        let wide = wide_new front e order in (
          (λ breaks. (so_far.0 breaks.0, λ run. breaks.1 (runs.1 run)), λ breaks. (so_far.1 breaks.0, λ run. breaks.1 (runs.0 run))),
          (λ widens. (so_far.0 widens.0, wide.0 widens.1), λ widens. (so_far.1 widens.0, wide.1 widens.1)),
        )
