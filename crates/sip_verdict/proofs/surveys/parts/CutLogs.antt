-- What is observed of a log that is cut.
use Rattle.std.proofs.Common.{◌≡◌, ◌⊎◌, inl, inr, Bool, true, false, cond, List, [], ◌∷◌, ◌++◌, All, refl, sym, ap, ◌∙◌, subst, MatchOption}
use Rattle.std.specs.Prelude.{filter}
use Rattle.std.specs.List.{AllZip}
use Rattle.std.proofs.lemmas.List.Elements.{All-head, All-tail}
use Rattle.sip_standard.specs.Key.{KeyParts}
use Rattle.sip_standard.specs.Times.{Times}
use Rattle.sip_standard.specs.LogEntry.{Item}
use Rattle.sip_standard.specs.declared.action.Action.{Action}
use Rattle.sip_standard.specs.declared.action.Action.TheVariants.{Sent, Received, Failed, Mark, Restart}
use Rattle.sip_standard.specs.declared.role.Direction.TheVariants as way
use Rattle.sip_standard.specs.Observation.{Observation, direction_of, silent_observation, ObservesMessage}
use Rattle.sip_standard.specs.Seen.{AreSeen}
use Rattle.sip_standard.specs.VerdictOf.{keys_in, Sees}
use Rattle.sip_verdict.specs.SurveyLaws.{IsCutOf, StaysOrIsMark, IsCutLog, KeepsChosen}
use Rattle.sip_verdict.proofs.surveys.parts.Cutting.{keys_cut, zip_push, same_runs, same_trouble}
use Rattle.sip_verdict.proofs.sweeps.FollowedLemmas.{heard_moment}

-- what is seen, after these entries, of an item whose action is a
abbrev pub SeenAs : List (Observation KeyParts) → Item → Observation KeyParts → Action → Type 0
SeenAs es item e a = MatchOption (direction_of a) (e ≡ silent_observation a item.moment (keys_in es)) (λ direction. ObservesMessage direction item e)

-- an item is seen at its own moment
pub seen_moment : (es : List (Observation KeyParts)) (item : Item) (e : Observation KeyParts) (a : Action) → SeenAs es item e a → e.event.moment ≡ item.moment
seen_moment es item e Sent sees = heard_moment way.Sent item e sees
seen_moment es item e Received sees = heard_moment way.Received item e sees
seen_moment es item e Failed sees = heard_moment way.Sent item e sees
seen_moment es item e Mark sees = ap (λ f. f.event.moment) sees
seen_moment es item e Restart sees = ap (λ f. f.event.moment) sees

-- What follows is of the keys that are chosen: `chosen` says which are.
module _ (chosen : KeyParts → Bool) where
  -- where all keys are chosen, the chosen ones are all
  filter_all : (keys : List KeyParts) → All (λ key. chosen key ≡ true) keys → filter chosen keys ≡ keys
  filter_all [] all = refl
  filter_all (k ∷ keys) all =
      ap (λ b. cond b (k ∷ filter chosen keys) (filter chosen keys)) (All-head (λ key. chosen key ≡ true) k keys all)
      ∙ ap (λ ks. k ∷ ks) (filter_all keys (All-tail (λ key. chosen key ≡ true) k keys all))

  -- where no key is chosen, the chosen ones are none
  filter_none : (keys : List KeyParts) → All (λ key. chosen key ≡ false) keys → filter chosen keys ≡ []
  filter_none [] all = refl
  filter_none (k ∷ keys) all =
      ap (λ b. cond b (k ∷ filter chosen keys) (filter chosen keys)) (All-head (λ key. chosen key ≡ false) k keys all)
      ∙ filter_none keys (All-tail (λ key. chosen key ≡ false) k keys all)

  -- an item that stays is seen after the cut entries as an entry that stands for e
  abbrev Cut : List (Observation KeyParts) → Item → Observation KeyParts → Action → Type 0
  Cut back item e a = (c : Observation KeyParts) × SeenAs back item c a × IsCutOf chosen e c

  -- an entry all of whose keys are chosen is a cut of itself
  heard_stays : (back : List (Observation KeyParts)) (item : Item) (e : Observation KeyParts) → All (λ key. chosen key ≡ true) e.keys → IsCutOf chosen e e
  heard_stays back item e all = (refl, sym (filter_all e.keys all), λ some. refl)

  -- an item that stays, being a restart or having chosen keys alone, is seen after the cut entries as an entry that stands for e
  stays : (done back : List (Observation KeyParts)) → AllZip (IsCutOf chosen) done back → (item : Item) (e : Observation KeyParts) (a : Action) → SeenAs done item e a
      → (a ≡ Restart) ⊎ All (λ key. chosen key ≡ true) e.keys → Cut back item e a
  -- an item with a message is no restart, so that all its keys are chosen; its message is seen alike after any entries
  stays done back zip item e Sent sees (inl other) = absurd (cc)
  stays done back zip item e Sent sees (inr all) = (e, sees, heard_stays back item e all)
  stays done back zip item e Received sees (inl other) = absurd (cc)
  stays done back zip item e Received sees (inr all) = (e, sees, heard_stays back item e all)
  stays done back zip item e Failed sees (inl other) = absurd (cc)
  stays done back zip item e Failed sees (inr all) = (e, sees, heard_stays back item e all)
  -- a mark concerns no key, and a restart concerns the chosen ones
  stays done back zip item e Mark sees either = (e, sees, (refl, ap (λ f. f.keys) sees ∙ sym (ap (λ f. filter chosen f.keys) sees), λ some. refl))
  stays done back zip item e Restart sees either =
      (silent_observation Restart item.moment (keys_in back), refl, (sym (ap (λ f. f.event.moment) sees), keys_cut chosen done back zip ∙ sym (ap (λ f. filter chosen f.keys) sees), λ some. sym (ap (λ f. f.event) sees)))

  -- an item of the cut log is seen after the cut entries as an entry that stands for e
  one_cut : (done back : List (Observation KeyParts)) → AllZip (IsCutOf chosen) done back → (item : Item) (e : Observation KeyParts) (cut : Item) → Sees done item e → StaysOrIsMark chosen item e cut
      → (c : Observation KeyParts) × Sees back cut c × IsCutOf chosen e c
  -- the item stays
  one_cut done back zip item e cut sees (inl (is, either)) =
      let found = stays done back zip item e item.action sees either in (found.0, subst (λ i. Sees back i found.0) (sym is) found.1, found.2)
  -- the item becomes a mark, which is seen as an entry of the same moment without keys, and none of the keys of e is chosen
  one_cut done back zip item e cut sees (inr (is, none)) =
      let c : Observation KeyParts = silent_observation Mark item.moment [] in
      (c, subst (λ i. Sees back i c) (sym is) refl, (sym (seen_moment done item e item.action sees), sym (filter_none e.keys none), λ some. absurd (some refl)))

  -- the items of the cut log are seen as entries that stand for those of the whole log
  pub log_cut : (done back : List (Observation KeyParts)) → AllZip (IsCutOf chosen) done back → (items : List Item) (es : List (Observation KeyParts)) (cuts : List Item) → AreSeen done items es
      → IsCutLog chosen items es cuts → (cs : List (Observation KeyParts)) × AreSeen back cuts cs × AllZip (IsCutOf chosen) es cs
  log_cut done back zip [] [] [] seen cut = ([], tt, tt)
  -- each item has its entry and its item of the cut log, so that no list is longer
  log_cut done back zip [] [] (c ∷ cuts) seen cut = absurd cut
  log_cut done back zip [] (e ∷ es) cuts seen cut = absurd seen
  log_cut done back zip (item ∷ items) [] cuts seen cut = absurd seen
  log_cut done back zip (item ∷ items) (e ∷ es) [] seen cut = absurd cut
  -- the first item is cut, and then the others
  log_cut done back zip (item ∷ items) (e ∷ es) (c ∷ cuts) (sees, seen) (here, cut) =
      let one = one_cut done back zip item e c sees here in
      let more = log_cut (done ++ e ∷ []) (back ++ one.0 ∷ []) (zip_push chosen done back e one.0 zip one.2) items es cuts seen cut in
      (one.0 ∷ more.0, (one.1, more.1), (one.2, more.2))

  -- a log that is cut keeps each of the chosen transactions, with its runs and its trouble
  pub cut_keeps : (p : Times) (items : List Item) (es : List (Observation KeyParts)) (cuts : List Item) → AreSeen [] items es → IsCutLog chosen items es cuts → KeepsChosen p chosen es cuts
  cut_keeps p items es cuts seen cut =
      let all = log_cut [] [] tt items es cuts seen cut in
      record {
        seen = all.0;
        are = all.1;
        keys = keys_cut chosen es all.0 all.2;
        runs = λ key is. same_runs chosen key is p es all.0 all.2;
        troubles = λ key is. same_trouble chosen key is p es all.0 all.2;
      }
