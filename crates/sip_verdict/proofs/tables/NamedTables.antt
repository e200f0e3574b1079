-- What the sets of the tables name, once they have waited, is what is named in the log.
use Rattle.std.proofs.Common.{◌≡◌, ◌≤◌, ◌<◌, ◌↔◌, inl, inr, ℕ, Bool, true, false, Some, List, [], All, AllPairs, Contains, map, length, slice_get, get_or, refl, sym, ap, ◌∙◌, subst, arith}
use Rattle.std.specs.List.{flat_map, list_any}
use Rattle.std.proofs.lemmas.List.{length-map, get_or-map}
use Rattle.std.proofs.lemmas.Option.{slice_get_within, get_or_from_slice_get, slice_get-get_or}
use Rattle.sip_standard.specs.Key.{KeyParts, same_key}
use Rattle.sip_standard.specs.Times.{Times}
use Rattle.sip_machine.specs.Texts.{Texts, IsBook, Keeps, text_of}
use Rattle.sip_machine.specs.Retained.{only}
use Rattle.sip_standard.specs.MachineEvent.{MachineEvent}
use Rattle.sip_machine.specs.Rules.{MachineRules, StandFor}
use Rattle.sip_machine.proofs.texts.RetainLemmas.{length-only}
use Rattle.sip_states.specs.Waits.{Wait}
use Rattle.sip_states.specs.Held.{Held}
use Rattle.sip_standard.specs.KeyMachine.{MachineKind, machine_of_key, transaction_of}
use Rattle.sip_states.specs.inner.KeySets.{CodeOwingOf, meaning_of}
use Rattle.sip_states.specs.KeyRules.{OwingOf, key_rules}
use Rattle.sip_states.specs.Meaning.{HasWaited}
use Rattle.sip_states.specs.AnySet.{moment_of, SetWaits}
use Rattle.sip_states.specs.Sweep.{numbers_of, IsAdvanced}
use Rattle.sip_states.specs.Tables.{Tabled}
use Rattle.sip_states.specs.declared.any_set.AnySet.{AnySet}
use Rattle.sip_states.proofs.lists.Listed.{Contains-none, Contains-map, Contains-from_map}
use Rattle.sip_states.proofs.sets.Waiting.{IsOpenAt-none}
use Rattle.sip_standard.specs.Observation.{Observation}
use Rattle.sip_standard.specs.VerdictOf.{keys_in, events_for}
use Rattle.sip_verdict.specs.Entries.{newest_moment}
use Rattle.sip_standard.specs.Stands.{Stands}
use Rattle.sip_verdict.proofs.keys.RunsStand.{stands_first}
use Rattle.sip_verdict.specs.Named.{IsNamed, AreMany, messages_of}
use Rattle.sip_verdict.specs.inner.TablesTracking.{LeadsOf, key_keeping, transactions_of, TablesTrack}
use Rattle.sip_verdict.specs.inner.Tracking.{IsReady}
use Rattle.sip_verdict.proofs.keys.Keys.{among-contains, new_key}
use Rattle.sip_states.proofs.keyed.ByMachine.{lawful_of, moment_is, numbers_are, of_sets}
use Rattle.sip_verdict.proofs.tables.TablesPassing.{at_place, All-place, zip-place, keys_are}
use Rattle.sip_states.proofs.keyed.NamesLemmas.{Contains-flat_map, Contains-from_flat_map}
use Rattle.sip_verdict.proofs.sweeps.NamedLemmas.{RunNames, IsNumberOf, waited_names, silent_names, named_of, first_silent, ended_silent}

-- a run over no event stands in the first state
-- y is the state in which the run stands at the moment m
stays_first : (p : Times) (machine : MachineKind) (m : ℕ) (y : OwingOf machine) → Stands (transaction_of machine).figure p [] m y → y ≡ (key_rules p machine).first
stays_first p machine m y run = go ((stands_first p machine m y).0 run)
  where
    -- a run over no event stays in the first state, which has no end
    go : Wait (key_rules p machine) (λ x. x ≡ (key_rules p machine).first) 0 m y → y ≡ (key_rules p machine).first
    go (inl stays) = stays.among
    go (inr ends) =
        absurd (IsOpenAt-none ends.at ((key_rules p machine).window ends.start) (ap (key_rules p machine).window ends.among ∙ (lawful_of machine p).first_has_no_end) ends.hides.opened)

-- a run of the machine over the events stands at the moment in a state that names the text
abbrev pub StandsNaming : Times → MachineKind → List MachineEvent → ℕ → List ℕ → Type 0
StandsNaming p machine events moment text = RunNames (Stands (transaction_of machine).figure p events) (messages_of machine) moment text

-- a transaction without events names no message
pub no_events_silent : (p : Times) (moment : ℕ) (machine : MachineKind) (events : List MachineEvent) (text : List ℕ) → events ≡ [] → StandsNaming p machine events moment text → ⊥
no_events_silent p moment machine events text none named =
    let (y, run, has) = subst (λ es. StandsNaming p machine es moment text) none named in
    Contains-none text (subst (λ ts. Contains ts text) (ap (messages_of machine) (stays_first p machine moment y run) ∙ first_silent machine p) has)

-- where P holds of just the texts with these numbers, as many texts satisfy P as the book keeps messages under them
pub many_texts : (texts : Texts) → IsBook texts → (P : List ℕ → Type 0) (all : List ℕ) → ((text : List ℕ) → P text ↔ IsNumberOf texts all text) → (numbers : List ℕ) → AllPairs (λ a b. a < b) numbers
    → ((n : ℕ) → Contains numbers n ↔ Contains all n) → All (Keeps texts) numbers → AreMany P (length (only numbers texts))
many_texts texts book P all named numbers up same kept = record {
  -- the texts are those with these numbers, which differ: equal texts would have one number, and the numbers rise
  texts = map (text_of texts) numbers;
  distinct = λ i j d lt low alike.
      (let size : length (map (text_of texts) numbers) ≡ length numbers = length-map numbers (text_of texts) in
      let within : j < length numbers = omega (arith, low, size) in
      let under : i < length numbers = omega (arith, lt, within) in
      let a = get_or numbers i 0 in
      let b = get_or numbers j 0 in
      -- equal texts would have one number
      let text_same : text_of texts a ≡ text_of texts b = sym (get_or-map (text_of texts) numbers i 0 d under) ∙ alike ∙ get_or-map (text_of texts) numbers j 0 d within in
      let one : a ≡ b = book.apart a b (kept i 0 under) (kept j 0 within) text_same in
      let less = up i j 0 lt within in
      omega (arith, one, less));
  -- each of the texts is named by one of the numbers, and there are as many
  just = λ text. (
    λ h. let (n, has, is) = Contains-from_map (text_of texts) numbers text h in (named text).1 (n, (same n).0 has, is),
    λ h. let (n, has, is) = (named text).0 h in subst (Contains (map (text_of texts) numbers)) is (Contains-map (text_of texts) numbers n ((same n).1 has)),
  );
  counts = length-only numbers texts ∙ sym (length-map numbers (text_of texts));
}

-- What follows is of tables after all sets have waited until the moment.
module _ (texts : Texts) (book : IsBook texts) (p : Times) (moment : ℕ) where
  -- What follows is of one key, whose runs name just what its set names: `old` is its set before the wait, and `new` after it; `text` is any message.
  module _ (machine : MachineKind) (events : List MachineEvent) (from : ℕ) (old new : AnySet) (leads : LeadsOf texts p machine events from old) (late : from ≤ moment) (low : moment_of old ≤ moment) (text : List ℕ) where
    -- what the code holds for the set
    abbrev held : Held Times (CodeOwingOf machine)
    held = leads.0

    -- the rules of the machine
    abbrev r : MachineRules (OwingOf machine)
    r = (meaning_of machine).rules p

    -- the set has waited no longer than until the moment
    not_later : held.moment ≤ moment
    not_later = subst (λ n. n ≤ moment) (ap moment_of leads.1 ∙ moment_is machine held) low

    -- for a set that has waited until the moment, the runs name the text exactly if the set names its number
    by_set : IsAdvanced moment old new → StandsNaming p machine events moment text ↔ IsNumberOf texts (numbers_of new) text
    by_set (inl waits) =
        -- the set has waited: t is what it has become, and its states stand for those in which a wait from the old ones ends
        let m = meaning_of machine in
        let (t, new_is, waited) = of_sets (λ X M S m s u. HasWaited m moment s u) machine held new (subst (λ o. SetWaits moment o new) leads.1 waits) in
        let stand = subst (λ q. StandFor m.names m.in_range m.seen texts (Wait (m.rules q) (Contains (map (m.seen texts) held.states)) held.moment moment) t.states) leads.2.machine_is
        (waited.states texts book leads.2.leads.known) in
        subst (λ ns. StandsNaming p machine events moment text ↔ IsNumberOf texts ns text) (sym (ap numbers_of new_is ∙ numbers_are machine t))
        (waited_names m.names m.in_range m.seen (messages_of machine) (named_of machine) texts r (Stands (transaction_of machine).figure p events) from held.moment moment held.states t.states late not_later leads.2.leads stand text)
    -- a set that did not wait names nothing, and so do its runs
    by_set (inr (same, silent)) = (
      λ run. absurd (let m = meaning_of machine in
          silent_names m.names m.in_range m.seen (messages_of machine) (named_of machine) texts r (Stands (transaction_of machine).figure p events) from held.moment moment held.states late not_later leads.2.leads
          (ended_silent machine p) (sym (numbers_are machine held) ∙ ap numbers_of (sym leads.1) ∙ silent) text run),
      λ h. absurd (Contains-none h.0 (subst (λ ns. Contains ns h.0) (ap numbers_of same ∙ silent) h.1)),
    )

    -- what runs of the key name is what its set names once it has waited
    pub key_named : IsAdvanced moment old new → StandsNaming p machine events moment text ↔ IsNumberOf texts (numbers_of new) text
    key_named advanced = by_set advanced

  -- What follows is of all keys of the entries es: t are the tables before the wait, and u after it.
  -- `advanced` says that each set has waited until the moment, or stayed as it was and names nothing.
  module _ (es : List (Observation KeyParts)) (t u : Tabled) (times : t.times ≡ p) (tracks : TablesTrack texts es t) (long : length t.sets ≡ length t.keys) (newest : newest_moment es ≡ moment)
      (order : All (λ set. moment_of set ≤ moment) t.sets) (as_long : length u.sets ≡ length t.sets)
      (advanced : (n : ℕ) (old new : AnySet) → slice_get t.sets n ≡ Some old → slice_get u.sets n ≡ Some new → IsAdvanced moment old new) where
    -- the set of a key leads to the runs of the key
    leads_at : (n : ℕ) (key : KeyParts) (old : AnySet) → slice_get t.keys n ≡ Some key → slice_get t.sets n ≡ Some old → LeadsOf texts p (machine_of_key p.rules key) (events_for key es) (newest_moment es) old
    leads_at n key old at here =
        let ready = subst (λ q. All (IsReady (key_keeping texts q) es) (transactions_of t)) times tracks.ready in
        All-place (IsReady (key_keeping texts p) es) (transactions_of t) n (key, old) (zip-place t.keys t.sets n key old at here) ready

    -- what the set at a place names is just what the runs of the key there name
    at_key : (n : ℕ) (key : KeyParts) (old new : AnySet) → slice_get t.keys n ≡ Some key → slice_get t.sets n ≡ Some old → slice_get u.sets n ≡ Some new → (text : List ℕ)
        → StandsNaming p (machine_of_key p.rules key) (events_for key es) moment text ↔ IsNumberOf texts (numbers_of new) text
    at_key n key old new at here there text =
        key_named (machine_of_key p.rules key) (events_for key es) (newest_moment es) old new (leads_at n key old at here) (omega (arith, newest)) (All-place (λ set. moment_of set ≤ moment) t.sets n old here order) text
        (advanced n old new here there)

    -- what the runs of a key name is named by its set
    from_key : (key : KeyParts) (text : List ℕ) → StandsNaming p (machine_of_key p.rules key) (events_for key es) moment text
        → (b : Bool) → list_any (same_key key) (keys_in es) ≡ b → IsNumberOf texts (flat_map numbers_of u.sets) text
    -- a key that no entry concerns has no events, and so names nothing
    from_key key text named false none = absurd (no_events_silent p moment (machine_of_key p.rules key) (events_for key es) text (new_key key es none) named)
    -- the key is one of the tables, with the set before the wait and after it
    from_key key text named true some =
        let keys : t.keys ≡ keys_in es = sym (keys_are t long) ∙ tracks.keys ∙ ap (λ q. keys_in es) times in
        let (n, low, is) = subst (λ ks. Contains ks key) (sym keys) (among-contains key (keys_in es) some) in
        let at : slice_get t.keys n ≡ Some key = slice_get-get_or t.keys n key low ∙ ap Some is in
        let (old, here) = at_place t.sets n (omega (arith, low, long)) in
        let (new, there) = at_place u.sets n (omega (arith, low, long, as_long)) in
        -- the set of the key names the text, by this number
        let (number, has, text_is) = (at_key n key old new at here there text).0 named in
        (number, Contains-flat_map numbers_of u.sets new number (n, slice_get_within u.sets n new there, get_or_from_slice_get u.sets n new new there) has, text_is)

    -- the texts that are named in the log are those of the messages that the sets name
    pub tables_named : (text : List ℕ) → IsNamed p es text ↔ IsNumberOf texts (flat_map numbers_of u.sets) text
    tables_named text = (
      λ h. from_key h.0 text (subst (λ n. StandsNaming p (machine_of_key p.rules h.0) (events_for h.0 es) n text) newest h.1) (list_any (same_key h.0) (keys_in es)) refl,
      -- a number that a set names is named by the runs of its key
      λ h. let (number, has, text_is) = h in
          let (new, (n, low, is), in_set) = Contains-from_flat_map numbers_of u.sets number has in
          let there : slice_get u.sets n ≡ Some new = slice_get-get_or u.sets n new low ∙ ap Some is in
          let (old, here) = at_place t.sets n (omega (arith, low, as_long)) in
          let (key, at) = at_place t.keys n (omega (arith, low, as_long, long)) in
          -- a run of the key stands in a state that names the text
          (key, subst (λ n. StandsNaming p (machine_of_key p.rules key) (events_for key es) n text) (sym newest) ((at_key n key old new at here there text).1 (number, in_set, text_is))),
    )

    -- as many messages are named after the entries as the book keeps under the numbers that the sets name
    pub many_named : (numbers : List ℕ) → AllPairs (λ a b. a < b) numbers → ((n : ℕ) → Contains numbers n ↔ Contains (flat_map numbers_of u.sets) n) → All (Keeps texts) numbers
        → AreMany (IsNamed p es) (length (only numbers texts))
    many_named numbers up same kept = many_texts texts book (IsNamed p es) (flat_map numbers_of u.sets) tables_named numbers up same kept
