-- After a sweep of a survey the tables follow the same entries, and just the messages are kept that transactions in no trouble name.
-- In the lemmas n is the place of a key, d its flag, and t and u are the tables before and after the sets have waited.
use Rattle.std.proofs.Common.{◌≡◌, ◌≤◌, ◌<◌, ◌↔◌, ℕ, Bool, true, false, Some, List, [], All, AllPairs, Contains, length, slice_get, refl, sym, ap, ◌∙◌, subst, arith}
use Rattle.std.specs.List.{flat_map, list_any}
use Rattle.std.proofs.lemmas.Option.{slice_get_within, get_or_from_slice_get, slice_get-get_or}
use Rattle.sip_standard.specs.Key.{KeyParts, same_key}
use Rattle.sip_standard.specs.Times.{Times}
use Rattle.sip_machine.specs.Texts.{Texts, IsBook, Keeps}
use Rattle.sip_machine.specs.Retained.{only}
use Rattle.sip_standard.specs.MachineEvent.{MachineEvent}
use Rattle.sip_standard.specs.KeyMachine.{machine_of_key}
use Rattle.sip_states.specs.AnySet.{moment_of}
use Rattle.sip_states.specs.Sweep.{numbers_of, AdvancesAll}
use Rattle.sip_states.specs.Tables.{Tabled}
use Rattle.sip_states.specs.declared.any_set.AnySet.{AnySet}
use Rattle.sip_standard.specs.Observation.{Observation}
use Rattle.sip_standard.specs.VerdictOf.{keys_in, events_for}
use Rattle.sip_verdict.specs.Entries.{newest_moment}
use Rattle.sip_verdict.specs.Named.{AreMany}
use Rattle.sip_verdict.specs.Surveys.{IsStillNamed}
use Rattle.sip_verdict.specs.inner.TablesTracking.{LeadsOf, MayPass}
use Rattle.sip_verdict.specs.inner.Surveying.{IsFollowed, TablesSurvey}
use Rattle.sip_verdict.proofs.keys.Keys.{among-contains, new_key}
use Rattle.sip_states.proofs.keyed.NamesLemmas.{Contains-flat_map, Contains-from_flat_map}
use Rattle.sip_verdict.proofs.sweeps.NamedLemmas.{IsNumberOf}
use Rattle.sip_verdict.proofs.tables.NamedTables.{no_events_silent, key_named, many_texts, StandsNaming}
use Rattle.sip_verdict.proofs.sweeps.SweptSets.{swept_leads}
use Rattle.sip_verdict.proofs.sweeps.SweptTables.{before, within}
use Rattle.sip_verdict.proofs.tables.TablesPassing.{at_place, All-place}

-- What follows is of a survey that is swept: t are the tables before, u after all sets have waited until the moment, and `numbers` what the sets name.
-- The survey has read the entries es, and `deaf` says which transactions are in trouble.
module _ (texts : Texts) (book : IsBook texts) (t u : Tabled) (moment : ℕ) (advances : AdvancesAll moment t u) (may : MayPass texts t moment)
    (numbers : List ℕ) (up : AllPairs (λ a b. a < b) numbers) (same : (n : ℕ) → Contains numbers n ↔ Contains (flat_map numbers_of u.sets) n) (kept : All (Keeps texts) numbers)
    (es : List (Observation KeyParts)) (deaf : List Bool) (tracks : TablesSurvey texts es t deaf) (newest : newest_moment es ≡ moment) (as_many : length deaf ≡ length t.keys) where
  -- the times of the tables
  abbrev p : Times
  p = t.times

  -- no set stood at a later moment before the sweep
  low : (n : ℕ) (old : AnySet) → slice_get t.sets n ≡ Some old → moment_of old ≤ moment
  low n old was = All-place (λ set. moment_of set ≤ moment) t.sets n old was may.order

  -- a set that has waited leads to the same runs beside the book with the kept messages alone
  leads : (n : ℕ) (old new : AnySet) → slice_get t.sets n ≡ Some old → slice_get u.sets n ≡ Some new → (key : KeyParts) (events : List MachineEvent)
      → LeadsOf texts p (machine_of_key p.rules key) events (newest_moment es) old → LeadsOf (only numbers texts) p (machine_of_key p.rules key) events (newest_moment es) new
  leads n old new was is key events h =
      swept_leads texts numbers book up kept p (machine_of_key p.rules key) events (newest_moment es) moment old new (low n old was) (advances.each n old new was is)
      (within texts book t u moment advances may numbers up same n new is) h

  -- a set that follows the entries for a key follows them beside the kept messages alone
  -- the set of a deaf transaction leads to the runs over no event, and any other to those over the key's events
  follows : (n : ℕ) (old new : AnySet) → slice_get t.sets n ≡ Some old → slice_get u.sets n ≡ Some new → (key : KeyParts) (d : Bool) → IsFollowed texts p es key old d → IsFollowed (only numbers texts) p es key new d
  follows n old new was is key true (h, unsound) = (leads n old new was is key [] h, unsound)
  follows n old new was is key false (h, sound) = (leads n old new was is key (events_for key es) h, sound)

  -- after the sweep the tables follow the same entries
  pub swept_survey : TablesSurvey (only numbers texts) es u deaf
  swept_survey = record {
    order = tracks.order;
    keys = advances.keys ∙ tracks.keys;
    each = λ n key new d at here is.
        -- the set that stood at the place before the wait followed the entries, and so does the one after it, beside the kept messages
        let (old, was) = before texts book t u moment advances may numbers up same n new here in
        subst (λ q. IsFollowed (only numbers texts) q es key new d) (sym advances.times)
        (follows n old new was here key d (tracks.each n key old d (ap (λ ks. slice_get ks n) (sym advances.keys) ∙ at) was is));
  }

  -- a set that has waited names just the messages that states name in which the runs stand
  names : (n : ℕ) (old new : AnySet) → slice_get t.sets n ≡ Some old → slice_get u.sets n ≡ Some new → (key : KeyParts) (events : List MachineEvent)
      → LeadsOf texts p (machine_of_key p.rules key) events (newest_moment es) old → (text : List ℕ)
      → StandsNaming p (machine_of_key p.rules key) events moment text ↔ IsNumberOf texts (numbers_of new) text
  names n old new was is key events h text =
      key_named texts book p moment (machine_of_key p.rules key) events (newest_moment es) old new h (omega (arith, newest)) (low n old was) text (advances.each n old new was is)

  -- each key has its old set, its new set and its flag, and the old set follows the entries
  at_key : (n : ℕ) (key : KeyParts) → slice_get t.keys n ≡ Some key → (old : AnySet) × (new : AnySet) × (d : Bool) × (slice_get t.sets n ≡ Some old) × (slice_get u.sets n ≡ Some new) × IsFollowed texts p es key old d
  at_key n key at =
      let inside = slice_get_within t.keys n key at in
      let (old, was) = at_place t.sets n (let long = may.long in omega (arith, inside)) in
      let (new, is) = at_place u.sets n (let long = may.long in let as_long = advances.long in omega (arith, inside)) in
      let (d, deaf_is) = at_place deaf n (omega (arith, inside, as_many)) in
      (old, new, d, was, is, tracks.each n key old d at was deaf_is)

  -- a text that a set names is a text that some set names
  into : (n : ℕ) (new : AnySet) → slice_get u.sets n ≡ Some new → (text : List ℕ) → IsNumberOf texts (numbers_of new) text → IsNumberOf texts (flat_map numbers_of u.sets) text
  into n new is text (number, has, text_is) = (number, Contains-flat_map numbers_of u.sets new number (n, slice_get_within u.sets n new is, get_or_from_slice_get u.sets n new new is) has, text_is)

  -- a message that a transaction in no trouble names is under a number that some set names
  -- (the first case cannot be: where no entry concerns a key, its transaction names no message)
  from_sound : (h : (text : List ℕ) × IsStillNamed p es text) (b : Bool) → list_any (same_key h.1.0) (keys_in es) ≡ b → IsNumberOf texts (flat_map numbers_of u.sets) h.0
  from_sound (text, (key, is_sound, named)) false none =
      absurd (no_events_silent p moment (machine_of_key p.rules key) (events_for key es) text (new_key key es none)
      (subst (λ n. StandsNaming p (machine_of_key p.rules key) (events_for key es) n text) newest named))
  -- the key stands at the place n of the tables, with the sets `old` and `new` before and after the waiting; d is whether it is deaf
  from_sound (text, (key, is_sound, named)) true some =
      let (n, inside, is) = subst (λ ks. Contains ks key) (sym tracks.keys) (among-contains key (keys_in es) some) in
      let at : slice_get t.keys n ≡ Some key = slice_get-get_or t.keys n key inside ∙ ap Some is in
      let (old, new, d, was, there, follows_it) = at_key n key at in
      by n old new was there d follows_it
    where
      -- the sets name the message if the transaction of this set does
      by : (n : ℕ) (old new : AnySet) → slice_get t.sets n ≡ Some old → slice_get u.sets n ≡ Some new → (d : Bool) → IsFollowed texts p es key old d → IsNumberOf texts (flat_map numbers_of u.sets) text
      -- a deaf transaction is in trouble, and this one is in none
      by n old new was there true (leads_it, unsound) = absurd (unsound is_sound)
      -- the set of one in no trouble names all that a state names in which a run over its events stands
      by n old new was there false (leads_it, sound) =
          into n new there text
          ((names n old new was there key (events_for key es) leads_it text).0 (subst (λ m. StandsNaming p (machine_of_key p.rules key) (events_for key es) m text) newest named))

  -- a message under a number that some set names is named by a transaction in no trouble
  from_number : (text : List ℕ) → IsNumberOf texts (flat_map numbers_of u.sets) text → IsStillNamed p es text
  from_number text (number, has, text_is) =
      -- the number is named by the set `new` at the place n, where the key has the set `old` from before the wait and the flag d
      let (new, (n, inside, is), in_set) = Contains-from_flat_map numbers_of u.sets number has in
      let there : slice_get u.sets n ≡ Some new = slice_get-get_or u.sets n new inside ∙ ap Some is in
      let (key, at) = at_place t.keys n (let long = may.long in let as_long = advances.long in omega (arith, inside)) in
      let (old, same_new, d, was, same_there, follows_it) = at_key n key at in
      by n key new there (number, in_set, text_is) old was d follows_it
    where
      -- the transaction of this set names the message if the set does
      by : (n : ℕ) (key : KeyParts) (new : AnySet) → slice_get u.sets n ≡ Some new → IsNumberOf texts (numbers_of new) text → (old : AnySet) → slice_get t.sets n ≡ Some old → (d : Bool) → IsFollowed texts p es key old d → IsStillNamed p es text
      -- the set of a deaf transaction leads to the runs over no event, and these name no message
      by n key new there named old was true (leads_it, unsound) =
          absurd (no_events_silent p moment (machine_of_key p.rules key) [] text refl ((names n old new was there key [] leads_it text).1 named))
      -- a transaction in no trouble has a run whose state names the message
      by n key new there named old was false (leads_it, sound) =
          let run = (names n old new was there key (events_for key es) leads_it text).1 named in
          (key, sound, subst (λ m. StandsNaming p (machine_of_key p.rules key) (events_for key es) m text) (sym newest) run)

  -- as many messages are kept as are still named
  pub swept_many : AreMany (IsStillNamed p es) (length (only numbers texts))
  swept_many =
      many_texts texts book (IsStillNamed p es) (flat_map numbers_of u.sets) (λ text. (λ h. from_sound (text, h) (list_any (same_key h.0) (keys_in es)) refl, from_number text)) numbers up same kept
