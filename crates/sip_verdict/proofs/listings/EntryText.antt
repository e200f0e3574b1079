-- The text of an entry's transactions is the listing that the definitions ask for.
-- In the lemmas i is an entry and d the way that its message went; ks are keys, and ns their numbers.
use Rattle.std.proofs.Common.{◌≡◌, ◌≢◌, ◌∙◌, ◌<◌, ◌+◌, ◌-◌, ℕ, Bool, true, false, cond, Option, Some, None, MatchOption, List, [], ◌∷◌, ◌++◌, All, AllPairs, length, slice_get, refl, sym, ap, subst, arith, append_assoc}
use Rattle.std.specs.Prelude.{IsAscii, fold}
use Rattle.std.specs.List.{list_any}
use Rattle.sip_standard.specs.declared.action.Action.{Action}
use Rattle.sip_standard.specs.declared.action.Action.TheVariants.{Sent, Received, Failed, Mark, Restart}
use Rattle.sip_standard.specs.Seen.{AreSeen}
use Rattle.sip_verdict.specs.Entries.{concerns}
use Rattle.sip_verdict.specs.inner.Keyed.{with_key}
use Rattle.sip_standard.specs.VerdictOf.{keys_in, events_for, IsFirstKey, Sees}
use Rattle.std.proofs.lemmas.List.{append-nil}
use Rattle.std.proofs.lemmas.List.Elements.{All-nil, All-head, All-tail, All-push, Contains-get_or}
use Rattle.sip_standard.specs.Key.{KeyParts, same_key}
use Rattle.sip_standard.proofs.SameKey.{same_key-decides}
use Rattle.sip_standard.specs.declared.role.Direction.{Direction}
use Rattle.sip_standard.specs.Times.{Times}
use Rattle.sip_machine.specs.Texts.{Texts}
use Rattle.sip_standard.specs.KeyMachine.{machine_of_key}
use Rattle.sip_states.specs.AnySet.{IsKnownSet}
use Rattle.sip_states.specs.Tables.{Tabled}
use Rattle.sip_standard.specs.TransactionText.{transaction_text}
use Rattle.sip_standard.specs.LogEntry.{Item}
use Rattle.sip_standard.specs.Observation.{Observation, direction_of, silent_observation, ObservesMessage, has_fault, has_no_cookie, is_heard}
use Rattle.sip_standard.specs.ListingOf.{IsKeyText, AreKeyTexts, IsEntryText}
use Rattle.sip_verdict.specs.inner.Tracking.{IsJudged, IsStanding}
use Rattle.sip_verdict.specs.inner.TablesTracking.{key_keeping, transactions_of, HaveNumbers}
use Rattle.sip_verdict.specs.inner.Numbering.{AppendsListing, AppendsEach, IsListingText}
use Rattle.sip_verdict.proofs.keys.Keys.{contains-among, keys_in-push}
use Rattle.sip_verdict.proofs.tables.TablesPassing.{All-place, zip-place, keys_are}
use Rattle.sip_verdict.proofs.tables.TablesTouching.{same_place}
use Rattle.sip_verdict.proofs.verdicts.Outcomes.{first_at}
use Rattle.sip_message.proofs.lemmas.says.Reading.{says-reads}
use Rattle.sip_standard.specs.Concerns.{Concerns}
use Rattle.sip_key.proofs.MethodLemmas.{keys_ascii}
use Rattle.sip_verdict.proofs.listings.ListingLemmas.{TellsBook, told_set, standing_lines}

-- What follows shows that the keys of an entry have methods in ASCII.

-- the keys that are observed of a message have methods in ASCII
-- a message with a fault, or without the cookie, concerns no key; of one that is heard the keys are those of the message that was read
message_ascii : (i : Item) (e : Observation KeyParts) (d : Direction) → ObservesMessage d i e → All (λ k. IsAscii k.method) e.keys
message_ascii i e d (has_fault fault has is) = subst (All (λ k. IsAscii k.method)) (sym (ap (λ x. x.keys) is)) (All-nil (λ k. IsAscii k.method))
message_ascii i e d (has_no_cookie s says lacks is) = subst (All (λ k. IsAscii k.method)) (sym (ap (λ x. x.keys) is)) (All-nil (λ k. IsAscii k.method))
message_ascii i e d (is_heard s keys says has concerns is) =
    let read = says-reads i.text s says in
    subst (All (λ k. IsAscii k.method)) (sym (ap (λ x. x.keys) is)) (keys_ascii i.text read.0 d keys read.1 (subst (λ x. Concerns x d keys) read.2 concerns))

-- the keys that are observed of an entry without a message have methods in ASCII, where the keys so far have
silent_ascii : (a : Action) (moment : ℕ) (keys : List KeyParts) → All (λ k. IsAscii k.method) keys → All (λ k. IsAscii k.method) (silent_observation a moment keys).keys
silent_ascii Sent moment keys ascii = All-nil (λ k. IsAscii k.method)
silent_ascii Received moment keys ascii = All-nil (λ k. IsAscii k.method)
silent_ascii Failed moment keys ascii = All-nil (λ k. IsAscii k.method)
silent_ascii Mark moment keys ascii = All-nil (λ k. IsAscii k.method)
silent_ascii Restart moment keys ascii = ascii

-- the keys that are observed of an entry, whichever way its message went, have methods in ASCII, where the keys so far have
ways_ascii : (i : Item) (keys : List KeyParts) (e : Observation KeyParts) (way : Option Direction) → All (λ k. IsAscii k.method) keys → MatchOption way (e ≡ silent_observation i.action i.moment keys) (λ d. ObservesMessage d i e)
    → All (λ k. IsAscii k.method) e.keys
ways_ascii i keys e None ascii is = subst (All (λ k. IsAscii k.method)) (sym (ap (λ x. x.keys) is)) (silent_ascii i.action i.moment keys ascii)
ways_ascii i keys e (Some d) ascii observes = message_ascii i e d observes

-- the keys that are seen of an entry have methods in ASCII, where the keys so far have
entry_ascii : (before : List (Observation KeyParts)) (i : Item) (e : Observation KeyParts) → All (λ k. IsAscii k.method) (keys_in before) → Sees before i e → All (λ k. IsAscii k.method) e.keys
entry_ascii before i e ascii observes = ways_ascii i (keys_in before) e (direction_of i.action) ascii observes

-- where keys and more keys have methods in ASCII, so have the keys with the new ones of the others added
more_ascii : (keys more : List KeyParts) → All (λ k. IsAscii k.method) keys → All (λ k. IsAscii k.method) more → All (λ k. IsAscii k.method) (fold with_key keys more)
more_ascii keys [] old new = old
more_ascii keys (k ∷ more) old new = more_ascii (with_key keys k) more (one (list_any (same_key k) keys)) (All-tail (λ x. IsAscii x.method) k more new)
  where
    -- the methods of the keys with k are ASCII, whether or not k is one of the keys
    one : (b : Bool) → All (λ x. IsAscii x.method) (cond b keys (keys ++ k ∷ []))
    one true = old
    one false = All-push (λ x. IsAscii x.method) keys k old (All-head (λ x. IsAscii x.method) k more new)

-- the keys of all entries so far have methods in ASCII
keys_ascii_after : (before : List (Observation KeyParts)) (items : List Item) (es : List (Observation KeyParts)) → All (λ k. IsAscii k.method) (keys_in before) → AreSeen before items es
    → All (λ k. IsAscii k.method) (keys_in (before ++ es))
-- no item is left; there are as many entries as items
keys_ascii_after before [] [] ascii seen = subst (λ es. All (λ k. IsAscii k.method) (keys_in es)) (sym (append-nil before)) ascii
keys_ascii_after before [] (e ∷ es) ascii seen = absurd seen
keys_ascii_after before (i ∷ items) [] ascii seen = absurd seen
-- e is what is observed of the item i, whose keys have methods in ASCII too
keys_ascii_after before (i ∷ items) (e ∷ es) ascii seen =
    subst (λ all. All (λ k. IsAscii k.method) (keys_in all)) (append_assoc before (e ∷ []) es)
    (keys_ascii_after (before ++ e ∷ []) items es
    (subst (All (λ k. IsAscii k.method)) (sym (keys_in-push before e)) (more_ascii (keys_in before) e.keys ascii (entry_ascii before i e ascii seen.0))) seen.1)

-- the keys that an entry after the entries of a log concerns have methods in ASCII
pub observed_ascii : (items : List Item) (before : List (Observation KeyParts)) (i : Item) (e : Observation KeyParts) → AreSeen [] items before → Sees before i e
    → All (λ k. IsAscii k.method) e.keys
observed_ascii items before i e seen observes = entry_ascii before i e (keys_ascii_after [] items before (All-nil (λ k. IsAscii k.method)) seen) observes

-- among keys that all differ, the key at a place is the first one that is equal to it
first_place : (keys : List KeyParts) → AllPairs (λ a b. a ≢ b) keys → (n : ℕ) (key : KeyParts) → slice_get keys n ≡ Some key → IsFirstKey (λ k. same_key key k ≡ true) keys (n + 1)
first_place keys apart n key at =
    first_at (λ k. same_key key k ≡ true) keys n key at ((same_key-decides key key).1 refl)
    (λ m k low there same. (let place : m ≡ n = same_place keys apart m n key (there ∙ ap Some (sym ((same_key-decides key k).0 same))) at in omega (arith, low, place)))

-- What follows is of the listing of the entry e after the entries es, by the times p: no transaction of the tables t is in trouble after it.
-- `number` gives the number by which a message is told, as the book `texts` has it.
module _ (number : List ℕ → ℕ) (texts : Texts) (tells : TellsBook number texts) (p : Times) (es : List (Observation KeyParts)) (e : Observation KeyParts) (t : Tabled)
    (known : All (IsKnownSet texts) t.sets) (long : length t.sets ≡ length t.keys) (apart : AllPairs (λ a b. a ≢ b) t.keys)
    (judged : IsJudged p (key_keeping texts p) es e (transactions_of t) None) where
  -- where the listing of one transaction was appended, the text has grown by what is asked for of its key
  key_text : (key : KeyParts) (n : ℕ) (old new : List ℕ) → concerns key e ≡ true → IsAscii key.method → 0 < n → slice_get t.keys (n - 1) ≡ Some key → AppendsListing t n old new
      → (text : List ℕ) × IsKeyText p number es e key text × (new ≡ old ++ text)
  key_text key n old new concerned ascii low at (k, set, lines, key_at, set_at, lists, is) =
      let same : k ≡ key = (let both : Some k ≡ Some key = sym key_at ∙ at in cc) in
      let count : (n - 1) + 1 ≡ n = omega (arith, low) in
      -- the transaction stands after the entry with its set
      let stands = All-place (IsStanding (key_keeping texts p) es e) (transactions_of t) (n - 1) (key, set) (zip-place t.keys t.sets (n - 1) key set at set_at) judged.1 in (
        transaction_text n key lines,
        record {
          place = n;
          placed = subst (λ ks. IsFirstKey (λ k. same_key key k ≡ true) ks n) (sym (keys_are t long) ∙ judged.0.keys)
              -- the place and the lines are those of the key
              (subst (IsFirstKey (λ k. same_key key k ≡ true) t.keys) count (first_place t.keys apart (n - 1) key at));
          lines = lines;
          states = standing_lines number texts p (machine_of_key p.rules key) (events_for key es) e.event set lines (stands concerned)
              (told_set number texts tells set (All-place (IsKnownSet texts) t.sets (n - 1) set set_at known)) lists;
          whole = refl;
        },
        -- the text has grown by the listing of this key
        subst (λ x. new ≡ old ++ transaction_text n x lines) same (is (subst (λ x. IsAscii x.method) (sym same) ascii)),
      )

  -- where the listings of several transactions were appended, the text has grown by what is asked for of their keys
  key_texts : (ks : List KeyParts) (ns : List ℕ) (old new : List ℕ) → All (λ k. (concerns k e ≡ true) × IsAscii k.method) ks → HaveNumbers t.keys ns ks → AppendsEach t ns old new
      → (text : List ℕ) × AreKeyTexts p number es e ks text × (new ≡ old ++ text)
  -- no key is left, and nothing was appended; there are as many numbers as keys
  key_texts [] [] old new good have same = ([], refl, same ∙ sym (append-nil old))
  key_texts [] (n ∷ ns) old new good have more = absurd have
  key_texts (k ∷ ks) [] old new good have more = absurd have
  key_texts (k ∷ ks) (n ∷ ns) old new good (low, at, rest) (between, first, more) =
      -- the first key's text was appended first (`one`), and then those of the others
      let here = All-head (λ x. (concerns x e ≡ true) × IsAscii x.method) k ks good in
      let one = key_text k n old between here.0 here.1 low at first in
      let others = key_texts ks ns between new (All-tail (λ x. (concerns x e ≡ true) × IsAscii x.method) k ks good) rest more in
      (one.0 ++ others.0, (one.0, others.0, one.1, others.1, refl), others.2 ∙ ap (λ z. z ++ others.0) one.2 ∙ append_assoc old one.0 others.0)

  -- the text of the transactions with these numbers is what is asked for of an entry that concerns their keys
  -- where the entry concerns no key, the text says that there is no transaction; there are as many numbers as keys
  texts_of : (ks : List KeyParts) (ns : List ℕ) (text : List ℕ) → All (λ k. (concerns k e ≡ true) × IsAscii k.method) ks → HaveNumbers t.keys ns ks → IsListingText t ns text
      → IsEntryText p number es e ks text
  texts_of [] [] text good have is = is
  texts_of [] (n ∷ ns) text good have is = absurd have
  texts_of (k ∷ ks) [] text good have is = absurd have
  texts_of (k ∷ ks) (n ∷ ns) text good have is =
      let all = key_texts (k ∷ ks) (n ∷ ns) [] text good have is in
      subst (AreKeyTexts p number es e (k ∷ ks)) (sym all.2) all.1

  -- the text of the transactions with the numbers of the entry's keys is the text that is asked for of the entry
  pub entry_text : (ns : List ℕ) (text : List ℕ) → All (λ k. IsAscii k.method) e.keys → HaveNumbers t.keys ns e.keys → IsListingText t ns text → IsEntryText p number es e e.keys text
  entry_text ns text ascii have is = texts_of e.keys ns text (λ i d low. (contains-among _ e.keys (Contains-get_or e.keys i d low), ascii i d low)) have is
