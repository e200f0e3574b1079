-- In the log of some keys each chosen key has the trouble that it has in the whole log.
use Rattle.std.proofs.Common.{◌≡◌, ◌≢◌, ◌↔◌, ℕ, Bool, true, false, cond, ◌||◌, List, [], ◌∷◌, ◌++◌, All, length, map, refl, sym, ap, ap₂, ◌∙◌, subst, arith}
use Rattle.std.specs.Prelude.{filter, fold, flat_map}
use Rattle.std.specs.List.{list_any, AllZip}
use Rattle.std.proofs.lemmas.Bool.{false≢true}
use Rattle.std.proofs.lemmas.List.{append-nil}
use Rattle.std.proofs.lemmas.List.Elements.{filter-append}
use Rattle.sip_standard.specs.Key.{KeyParts, same_key}
use Rattle.sip_standard.proofs.SameKey.{same_key-decides}
use Rattle.sip_standard.specs.Times.{Times}
use Rattle.sip_standard.specs.MachineEvent.{MachineEvent}
use Rattle.sip_standard.specs.Figure.{Owing}
use Rattle.sip_standard.specs.Stands.{Stands, StandsAfter}
use Rattle.sip_standard.specs.KeyMachine.{machine_of_key, transaction_of}
use Rattle.sip_standard.specs.Observation.{Observation}
use Rattle.sip_verdict.specs.Entries.{concerns, newest_moment}
use Rattle.sip_verdict.specs.inner.Keyed.{with_key}
use Rattle.sip_standard.specs.VerdictOf.{keys_in, events_for, RunsOver, IsWideAt}
use Rattle.sip_verdict.specs.SurveyOf.{IsSound, Breaks, Widens}
use Rattle.sip_verdict.specs.SurveyLaws.{IsCutOf, HasSameRuns, HasSameTrouble}

-- What follows is of the keys that are chosen: `chosen` says which are.
module _ (chosen : KeyParts → Bool) where
  -- a chosen key is among keys exactly if it is among the chosen ones of them
  pub among_chosen : (key : KeyParts) → chosen key ≡ true → (keys : List KeyParts) → list_any (same_key key) (filter chosen keys) ≡ list_any (same_key key) keys
  among_chosen key is [] = refl
  among_chosen key is (k ∷ keys) = go (chosen k) refl (same_key key k) refl (among_chosen key is keys)
    where
      -- the key is found among the chosen keys as it is among all, whether or not k is chosen, and whether or not it is the key
      go : (b : Bool) → chosen k ≡ b → (t : Bool) → same_key key k ≡ t → list_any (same_key key) (filter chosen keys) ≡ list_any (same_key key) keys
          → list_any (same_key key) (cond (chosen k) (k ∷ filter chosen keys) (filter chosen keys)) ≡ (same_key key k || list_any (same_key key) keys)
      -- k is chosen, and stands first in both lists
      go true e t same rest = ap (λ b. list_any (same_key key) (cond b (k ∷ filter chosen keys) (filter chosen keys))) e ∙ ap (λ b. same_key key k || b) rest
      -- k is not chosen, so it is not the key, which is
      go false e true same rest = absurd (false≢true (sym e ∙ ap chosen (sym ((same_key-decides key k).0 same)) ∙ is))
      -- k is neither chosen nor the key: it is left out of the one list, and is not what is looked for in the other
      go false e false same rest =
          ap (λ b. list_any (same_key key) (cond b (k ∷ filter chosen keys) (filter chosen keys))) e ∙ rest ∙ ap (λ b. b || list_any (same_key key) keys) (sym same)

  -- how the chosen keys grow by k, where b says whether k is chosen and t whether it is already among the keys
  abbrev OneMore : List KeyParts → KeyParts → Bool → Bool → Type 0
  OneMore keys k b t = filter chosen (cond t keys (keys ++ k ∷ [])) ≡ fold with_key (filter chosen keys) (cond b (k ∷ []) [])

  -- the chosen ones of the keys with k are the chosen keys with k, if k is chosen
  filter_with_key : (keys : List KeyParts) (k : KeyParts) → filter chosen (with_key keys k) ≡ fold with_key (filter chosen keys) (filter chosen (k ∷ []))
  filter_with_key keys k = go (chosen k) refl (list_any (same_key k) keys) refl
    where
      -- a key at the end stays if it is chosen
      one : (b : Bool) → chosen k ≡ b → filter chosen (keys ++ k ∷ []) ≡ filter chosen keys ++ cond b (k ∷ []) []
      one b e = filter-append chosen keys (k ∷ []) ∙ ap (λ t. filter chosen keys ++ cond t (k ∷ []) []) e

      -- a chosen key is among the chosen keys exactly if it is among the keys
      there : (t : Bool) → list_any (same_key k) keys ≡ t → chosen k ≡ true → list_any (same_key k) (filter chosen keys) ≡ t
      there t e is = among_chosen k is keys ∙ e

      -- one key more is cut as the keys are, whether or not k is chosen, and whether or not it is among the keys already
      -- k is chosen: it is there on both sides, or is added on both; it is not chosen: it is left out, whether or not it is added to all
      by : (b t : Bool) → chosen k ≡ b → list_any (same_key k) keys ≡ t → OneMore keys k b t
      by true true e f = sym (ap (λ t. cond t (filter chosen keys) (filter chosen keys ++ k ∷ [])) (there true f e))
      by true false e f = one true e ∙ sym (ap (λ t. cond t (filter chosen keys) (filter chosen keys ++ k ∷ [])) (there false f e))
      by false true e f = refl
      by false false e f = one false e ∙ append-nil (filter chosen keys)

      -- one key more is cut as the keys are, whatever the two tests answer: b and t
      go : (b : Bool) → chosen k ≡ b → (t : Bool) → list_any (same_key k) keys ≡ t → OneMore keys k (chosen k) (list_any (same_key k) keys)
      go b e t f = subst (λ c. OneMore keys k c (list_any (same_key k) keys)) (sym e) (subst (λ c. OneMore keys k b c) (sym f) (by b t e f))

  -- the chosen ones of keys with more keys added are the chosen keys with the chosen ones of the others added
  pub filter_keys : (keys more : List KeyParts) → fold with_key (filter chosen keys) (filter chosen more) ≡ filter chosen (fold with_key keys more)
  filter_keys keys [] = refl
  filter_keys keys (k ∷ more) =
      by (chosen k) refl ∙ ap (λ start. fold with_key start (filter chosen more)) (sym (filter_with_key keys k)) ∙ filter_keys (with_key keys k) more
    where
      -- the chosen keys with more are the chosen ones of all, whether or not k is chosen
      by : (b : Bool) → chosen k ≡ b → fold with_key (filter chosen keys) (cond (chosen k) (k ∷ filter chosen more) (filter chosen more))
          ≡ fold with_key (fold with_key (filter chosen keys) (cond (chosen k) (k ∷ []) [])) (filter chosen more)
      -- the next key is chosen, and comes in on both sides; or it is not, and comes in on neither
      by true e = ap (λ b. fold with_key (filter chosen keys) (cond b (k ∷ filter chosen more) (filter chosen more))) e
          ∙ sym (ap (λ b. fold with_key (fold with_key (filter chosen keys) (cond b (k ∷ []) [])) (filter chosen more)) e)
      by false e = ap (λ b. fold with_key (filter chosen keys) (cond b (k ∷ filter chosen more) (filter chosen more))) e
          ∙ sym (ap (λ b. fold with_key (fold with_key (filter chosen keys) (cond b (k ∷ []) [])) (filter chosen more)) e)

  -- the keys of the cut entries, one after another, are the chosen ones of the whole log's
  all_keys : (es cs : List (Observation KeyParts)) → AllZip (IsCutOf chosen) es cs → flat_map (λ c. c.keys) cs ≡ filter chosen (flat_map (λ e. e.keys) es)
  all_keys [] [] zip = refl
  -- entries stand for one another one by one, so that there are as many of the one as of the other
  all_keys [] (c ∷ cs) zip = absurd zip
  all_keys (e ∷ es) [] zip = absurd zip
  all_keys (e ∷ es) (c ∷ cs) (here, rest) = ap₂ (λ a b. a ++ b) here.1 (all_keys es cs rest) ∙ sym (filter-append chosen e.keys (flat_map (λ f. f.keys) es))

  -- the keys of the cut log are the chosen keys of the whole log
  pub keys_cut : (es cs : List (Observation KeyParts)) → AllZip (IsCutOf chosen) es cs → keys_in cs ≡ filter chosen (keys_in es)
  keys_cut es cs zip = ap (fold with_key []) (all_keys es cs zip) ∙ filter_keys [] (flat_map (λ e. e.keys) es)

  -- where entries stand for others, they still do with one entry more on both sides
  pub zip_push : (es cs : List (Observation KeyParts)) (e c : Observation KeyParts) → AllZip (IsCutOf chosen) es cs → IsCutOf chosen e c → AllZip (IsCutOf chosen) (es ++ e ∷ []) (cs ++ c ∷ [])
  zip_push [] [] e c zip here = (here, tt)
  -- neither list is longer than the other
  zip_push [] (d ∷ cs) e c zip here = absurd zip
  zip_push (f ∷ es) [] e c zip here = absurd zip
  zip_push (f ∷ es) (d ∷ cs) e c zip here = (zip.0, zip_push es cs e c zip.1 here)

  -- the newest moment of the cut log is that of the whole log
  pub newest_cut : (last : ℕ) (es cs : List (Observation KeyParts)) → AllZip (IsCutOf chosen) es cs → fold (λ moment e. e.event.moment) last cs ≡ fold (λ moment e. e.event.moment) last es
  newest_cut last [] [] zip = refl
  -- neither list is longer than the other
  newest_cut last [] (c ∷ cs) zip = absurd zip
  newest_cut last (e ∷ es) [] zip = absurd zip
  newest_cut last (e ∷ es) (c ∷ cs) (here, rest) =
      ap (λ t. fold (λ moment e. e.event.moment) t cs) here.0 ∙ newest_cut e.event.moment es cs rest

  -- What follows is of one key that is chosen.
  module _ (key : KeyParts) (is : chosen key ≡ true) where
    -- an entry of the cut log concerns the key exactly if the entry of the whole log does
    concerns_cut : (e c : Observation KeyParts) → IsCutOf chosen e c → concerns key c ≡ concerns key e
    concerns_cut e c cut = ap (list_any (same_key key)) cut.1 ∙ among_chosen key is e.keys

    -- a list of keys in which the key stands is not empty
    not_nil : (keys : List KeyParts) → list_any (same_key key) keys ≡ true → keys ≢ []
    not_nil keys any none = false≢true (sym (ap (list_any (same_key key)) none) ∙ any)

    -- the key's events of f and the entries after it, where b says whether f concerns the key
    abbrev events_with : Bool → Observation KeyParts → List (Observation KeyParts) → List MachineEvent
    events_with b f fs = map (λ g. g.event) (cond b (f ∷ filter (concerns key) fs) (filter (concerns key) fs))

    -- an entry of the cut log that concerns the key has the event of the entry for which it stands
    event_cut : (e c : Observation KeyParts) → IsCutOf chosen e c → concerns key c ≡ true → c.event ≡ e.event
    event_cut e c cut any = cut.2 (not_nil c.keys any)

    -- the key has the same events in the cut log
    pub events_cut : (es cs : List (Observation KeyParts)) → AllZip (IsCutOf chosen) es cs → events_for key cs ≡ events_for key es
    events_cut [] [] zip = refl
    -- neither list is longer than the other
    events_cut [] (c ∷ cs) zip = absurd zip
    events_cut (e ∷ es) [] zip = absurd zip
    events_cut (e ∷ es) (c ∷ cs) (here, rest) = go (concerns key c) refl (events_cut es cs rest)
      where
        -- the key has the same events in both logs with one entry more, whether or not the entry concerns the key
        -- an entry that concerns the key has the same event in both logs; one that does not brings none in either
        by : (b : Bool) → concerns key c ≡ b → events_for key cs ≡ events_for key es → events_with b c cs ≡ events_with b e es
        by true any same = ap₂ (λ f fs. f ∷ fs) (event_cut e c here any) same
        by false any same = same

        -- the key has the same events in both logs with one entry more, where b is what the test of the key answers
        go : (b : Bool) → concerns key c ≡ b → events_for key cs ≡ events_for key es → events_with (concerns key c) c cs ≡ events_with (concerns key e) e es
        go b any same = ap (λ t. events_with t c cs) any ∙ by b any same ∙ ap (λ t. events_with t e es) (sym any ∙ concerns_cut e c here)

    -- What follows is of the chosen key by the times p.
    module _ (p : Times) where
      -- the runs of a chosen key over the entries of the whole log stand where those over the entries of the cut log stand
      -- both logs have the same events of the key and the same newest moment
      stands_cut : (es cs : List (Observation KeyParts)) → AllZip (IsCutOf chosen) es cs → (x : Owing (transaction_of (machine_of_key p.rules key)).Phase)
          → Stands (transaction_of (machine_of_key p.rules key)).figure p (events_for key es) (newest_moment es) x
          ↔ Stands (transaction_of (machine_of_key p.rules key)).figure p (events_for key cs) (newest_moment cs) x
      stands_cut es cs zip x =
          let f = (transaction_of (machine_of_key p.rules key)).figure in (
            λ stands. subst (λ m. Stands f p (events_for key cs) m x) (sym (newest_cut 0 es cs zip)) (subst (λ events. Stands f p events (newest_moment es) x) (sym (events_cut es cs zip)) stands),
            λ stands. subst (λ m. Stands f p (events_for key es) m x) (newest_cut 0 es cs zip) (subst (λ events. Stands f p events (newest_moment cs) x) (events_cut es cs zip) stands),
          )

      -- a chosen key has a run over the entries of the whole log exactly if it has one over those of the cut log
      pub runs_cut : (es cs : List (Observation KeyParts)) → AllZip (IsCutOf chosen) es cs → RunsOver p es key ↔ RunsOver p cs key
      runs_cut es cs zip = (λ runs. (runs.0, (stands_cut es cs zip runs.0).0 runs.1), λ runs. (runs.0, (stands_cut es cs zip runs.0).1 runs.1))

      -- a chosen key is too wide at an entry exactly if it is too wide at the one that stands for it in the cut log
      pub wide_cut : (es cs : List (Observation KeyParts)) (e c : Observation KeyParts) → AllZip (IsCutOf chosen) es cs → IsCutOf chosen e c → IsWideAt p es e key ↔ IsWideAt p cs c key
      wide_cut es cs e c zip here =
          let f = (transaction_of (machine_of_key p.rules key)).figure in
          let same = events_cut es cs zip in (
            λ wide. let any = concerns_cut e c here ∙ wide.0 in (
              -- the states over the chosen key's events are the same
              any,
              (
                wide.1.0,
                wide.1.1,
                wide.1.2,
                subst (λ event. All (StandsAfter f p (events_for key cs) event) wide.1.0) (sym (event_cut e c here any)) (subst (λ events. All (StandsAfter f p events e.event) wide.1.0) (sym same) wide.1.3),
              ),
            ),
            -- the converse: too wide in the cut log is too wide in the whole log
            λ wide. (
              sym (concerns_cut e c here) ∙ wide.0,
              (
                wide.1.0,
                wide.1.1,
                wide.1.2,
                subst (λ event. All (StandsAfter f p (events_for key es) event) wide.1.0) (event_cut e c here wide.0) (subst (λ events. All (StandsAfter f p events c.event) wide.1.0) same wide.1.3),
              ),
            ),
          )

      -- where the cut log is split at an entry, the whole log is split at the entry for which it stands
      pub split_left : (es front : List (Observation KeyParts)) (c : Observation KeyParts) (rest : List (Observation KeyParts)) → AllZip (IsCutOf chosen) es (front ++ c ∷ rest)
          → (back : List (Observation KeyParts)) × (e : Observation KeyParts) × (more : List (Observation KeyParts)) × (es ≡ back ++ e ∷ more) × AllZip (IsCutOf chosen) back front × IsCutOf chosen e c
      -- the whole log is not empty, since an entry stands for c
      split_left [] [] c rest zip = absurd zip
      -- the split is at the first entry, or at a later one, which is split off the rest
      split_left (e ∷ es) [] c rest zip = ([], e, es, refl, tt, zip.0)
      split_left [] (f ∷ front) c rest zip = absurd zip
      split_left (e ∷ es) (f ∷ front) c rest zip =
          let found = split_left es front c rest zip.1 in
          (e ∷ found.0, found.1, found.2, ap (λ xs. e ∷ xs) found.3, (zip.0, found.4), found.5)

      -- where the whole log is split at an entry, the cut log is split at the one that stands for it
      pub split_right : (front cs : List (Observation KeyParts)) (e : Observation KeyParts) (rest : List (Observation KeyParts)) → AllZip (IsCutOf chosen) (front ++ e ∷ rest) cs
          → (back : List (Observation KeyParts)) × (c : Observation KeyParts) × (more : List (Observation KeyParts)) × (cs ≡ back ++ c ∷ more) × AllZip (IsCutOf chosen) front back × IsCutOf chosen e c
      -- the cut log is not empty, since an entry stands for e
      split_right [] [] e rest zip = absurd zip
      -- the split is at the first entry, or at a later one, which is split off the rest
      split_right [] (c ∷ cs) e rest zip = ([], c, cs, refl, tt, zip.0)
      split_right (f ∷ front) [] e rest zip = absurd zip
      split_right (f ∷ front) (c ∷ cs) e rest zip =
          let found = split_right front cs e rest zip.1 in
          (c ∷ found.0, found.1, found.2, ap (λ xs. c ∷ xs) found.3, (zip.0, found.4), found.5)

      -- a chosen key is in no trouble over the entries of the whole log exactly if it is in none over those of the cut log
      pub sound_cut : (es cs : List (Observation KeyParts)) → AllZip (IsCutOf chosen) es cs → IsSound p es key ↔ IsSound p cs key
      sound_cut es cs zip = (
        λ sound. (
          (runs_cut es cs zip).0 sound.0,
          λ front c rest is wide.
              -- an entry at which the key was too wide in the cut log stands for one of the whole log, at which it would be too wide
              let found = split_left es front c rest (subst (AllZip (IsCutOf chosen) es) is zip) in
              sound.1 found.0 found.1 found.2 found.3 ((wide_cut found.0 front found.1 c found.4 found.5).1 wide),
        ),
        -- the converse: in no trouble in the cut log is in no trouble in the whole log
        λ sound. (
          (runs_cut es cs zip).1 sound.0,
          λ front e rest is wide.
              -- an entry at which the key was too wide in the whole log has one that stands for it, at which it would be too wide
              let found = split_right front cs e rest (subst (λ xs. AllZip (IsCutOf chosen) xs cs) is zip) in
              sound.1 found.0 found.1 found.2 found.3 ((wide_cut front found.0 e found.1 found.4 found.5).0 wide),
        ),
      )

      -- where both logs are split at the same place, the entries before it stand for one another, and so do the two at it
      -- the split is at the first entry in both logs or in neither, since as many entries come before it
      split_same : (front back : List (Observation KeyParts)) (e c : Observation KeyParts) (rest others : List (Observation KeyParts)) → AllZip (IsCutOf chosen) (front ++ e ∷ rest) (back ++ c ∷ others)
          → length front ≡ length back → AllZip (IsCutOf chosen) front back × IsCutOf chosen e c
      split_same [] [] e c rest others zip long = (tt, zip.0)
      split_same [] (d ∷ back) e c rest others zip long = absurd (omega (arith, long))
      split_same (f ∷ front) [] e c rest others zip long = absurd (omega (arith, long))
      split_same (f ∷ front) (d ∷ back) e c rest others zip long =
          let found = split_same front back e c rest others zip.1 (omega (arith, long)) in ((zip.0, found.0), found.1)

      -- the first entries of both logs, as many of the one as of the other, stand for one another
      split_front : (front back rest others : List (Observation KeyParts)) → AllZip (IsCutOf chosen) (front ++ rest) (back ++ others) → length front ≡ length back → AllZip (IsCutOf chosen) front back
      split_front [] [] rest others zip long = tt
      split_front [] (d ∷ back) rest others zip long = absurd (omega (arith, long))
      split_front (f ∷ front) [] rest others zip long = absurd (omega (arith, long))
      split_front (f ∷ front) (d ∷ back) rest others zip long = (zip.0, split_front front back rest others zip.1 (omega (arith, long)))

      -- a chosen key has the same runs over the first entries of both logs
      pub same_runs : (es cs : List (Observation KeyParts)) → AllZip (IsCutOf chosen) es cs → HasSameRuns p es cs key
      same_runs es cs zip front back rest others x split other long =
          stands_cut front back
          (split_front front back rest others (subst (λ xs. AllZip (IsCutOf chosen) xs (back ++ others)) split (subst (AllZip (IsCutOf chosen) es) other zip)) long) x

      -- a key has the same trouble at an entry and at the one that stands for it in the cut log
      pub trouble_cut : (front back : List (Observation KeyParts)) (e c : Observation KeyParts) → AllZip (IsCutOf chosen) front back → IsCutOf chosen e c
          → (Breaks p front e key ↔ Breaks p back c key) × (Widens p front e key ↔ Widens p back c key)
      trouble_cut front back e c zip here =
          -- in no trouble before, a run over the entry, too wide at the entry: each is so in both logs or in neither
          let sound = sound_cut front back zip in
          let runs = runs_cut (front ++ e ∷ []) (back ++ c ∷ []) (zip_push front back e c zip here) in
          let wide = wide_cut front back e c zip here in (
            (λ breaks. (sound.0 breaks.0, λ run. breaks.1 (runs.1 run)), λ breaks. (sound.1 breaks.0, λ run. breaks.1 (runs.0 run))),
            (λ widens. (sound.0 widens.0, wide.0 widens.1), λ widens. (sound.1 widens.0, wide.1 widens.1)),
          )

      -- a chosen key has the same trouble at entries of the same number in both logs
      pub same_trouble : (es cs : List (Observation KeyParts)) → AllZip (IsCutOf chosen) es cs → HasSameTrouble p es cs key
      same_trouble es cs zip front back e c rest others split other long =
          let both = split_same front back e c rest others (subst (λ xs. AllZip (IsCutOf chosen) xs (back ++ c ∷ others)) split (subst (AllZip (IsCutOf chosen) es) other zip)) long in
          trouble_cut front back e c both.0 both.1
