-- A survey that forgets nothing is one of those that may forget.
use Rattle.std.proofs.Common.{◌≡◌, ◌≢◌, ◌⊎◌, ◌<◌, ◌≤◌, ◌+◌, ◌∙◌, inl, inr, ℕ, suc, Bool, true, false, Option, Some, None, MatchOption, List, [], ◌∷◌, ◌++◌, Contains, length, take, if◌then◌else◌, refl, sym, ap, subst, arith, append_assoc, length-append}
use Rattle.std.proofs.lemmas.Bool.{cases_lt}
use Rattle.std.specs.Prelude.{fold, option_to_list}
use Rattle.std.specs.List.{list_any}
use Rattle.std.proofs.lemmas.List.{append-nil, take_at}
use Rattle.sip_standard.specs.Concerns.{Concerns, own_key, cancelled_key}
use Rattle.sip_standard.specs.Key.{KeyParts, same_key}
use Rattle.sip_standard.specs.Says.{Said}
use Rattle.sip_standard.specs.VerdictOf.{keys_in, Sees}
use Rattle.sip_standard.specs.Times.{Times}
use Rattle.sip_standard.specs.LogEntry.{Item, last_of}
use Rattle.sip_standard.specs.LogSays.{LogEnd, Clean, Stops, EndsWith, LogSays, most_entries}
use Rattle.sip_standard.specs.Observation.{Observation, direction_of, silent_observation, ObservesMessage, has_fault, has_no_cookie, is_heard}
use Rattle.sip_standard.specs.declared.action.Action.{Action}
use Rattle.sip_standard.specs.declared.action.Action.TheVariants.{Sent, Received, Failed, Mark, Restart}
use Rattle.sip_standard.specs.declared.format.Format.{Format}
use Rattle.sip_standard.specs.declared.log_reason.LogReason.{LogReason}
use Rattle.sip_standard.specs.declared.log_reason.LogReason.TheVariants.{Limit}
use Rattle.sip_standard.specs.declared.role.Direction.{Direction}
use Rattle.sip_standard.specs.Seen.{AreSeen}
use Rattle.sip_part.specs.Part.{PartOf, TellsBranch, falls_into}
use Rattle.sip_part.proofs.Told.{one_told}
use Rattle.sip_log.specs.Stream.{StreamSays}
use Rattle.sip_log.proofs.logs.Streams.{clean_stream, log_stream}
use Rattle.sip_verdict.specs.declared.finding.Finding.{Finding}
use Rattle.sip_verdict.specs.declared.finding.Finding.TheVariants.{Malformed, Breach, Undecided}
use Rattle.sip_verdict.specs.declared.survey_end.SurveyEnd.{SurveyEnd}
use Rattle.sip_verdict.specs.declared.survey_end.SurveyEnd.TheVariants.{LogFault}
use Rattle.sip_verdict.specs.ForgettingText.{IsToldAfter, IsToldForgetting}
use Rattle.sip_verdict.specs.SurveyOf.{IsFoundAt, IsSurveyAfter}
use Rattle.sip_verdict.specs.SurveyParts.{IsPartItem, IsPartLog, IsPartToldOf}
use Rattle.sip_verdict.specs.SurveyText.{IsTextOf, IsToldOf, end_text, entry_of}
use Rattle.sip_verdict.specs.inner.SurveyingLogs.{AreTaken}
use Rattle.sip_verdict.specs.inner.Keyed.{with_key}
use Rattle.sip_verdict.proofs.keys.Keys.{keys_in-push, keys_in-none, keys_in-all}
use Rattle.sip_verdict.proofs.verdicts.MessageUnique.{observes_one}
use Rattle.sip_verdict.proofs.surveys.found.OneSurvey.{says_same}
use Rattle.sip_verdict.proofs.surveys.parts.Taking.{mark_of}

-- entries as they are observed
abbrev Entries : Type 0
Entries = List (Observation KeyParts)

-- the text of two lists of findings is a text of the first and then one of the second
record IsSplit (es : Entries) (here later : List Finding) (lines : List ℕ) : Type 0 where
  pub text : List ℕ
  pub more : List ℕ
  pub first : IsTextOf es here text
  pub second : IsTextOf es later more
  pub whole : lines ≡ text ++ more

-- the text of two lists of findings can be split into a text of the first and one of the second
split_text : (es : Entries) (here later : List Finding) (lines : List ℕ) → IsTextOf es (here ++ later) lines → IsSplit es here later lines
split_text es [] later lines is = record { text = []; more = lines; first = refl; second = is; whole = refl }
split_text es (f ∷ here) later lines (front, rest, line, more, is, long, of, others, whole) =
    let s = split_text es here later more others in
    record { text = line ++ s.text; more = s.more; first = (front, rest, line, s.text, is, long, of, s.first, refl); second = s.second; whole = whole ∙ ap (λ t. line ++ t) s.whole ∙ sym (append_assoc line s.text s.more) }

-- the text of findings of the newest of the entries es, in a log that goes on, is their text in the log of es alone
text_here : (es after : Entries) (found : List Finding) (text : List ℕ) → ((f : Finding) → Contains found f → entry_of f ≡ length es) → IsTextOf (es ++ after) found text → IsTextOf es found text
text_here es after [] text at none = none
text_here es after (f ∷ found) text at (front, rest, line, more, is, long, of, others, whole) =
    -- the finding is of the newest entry, so that the entries up to its own are es
    let number = at f (0, omega arith, refl) in
    let same : front ≡ es = sym (take_at front rest (length es) (long ∙ number)) ∙ ap (take (length es)) (sym is) ∙ take_at es after (length es) refl in
    (front, [], line, more, sym same ∙ sym (append-nil front), long, of, text_here es after found more (λ g has. at g (suc has.0, omega (arith, has.1), has.2)) others, whole)

-- what is found at an entry has its number
number_here : (p : Times) (es : Entries) (e : Observation KeyParts) (f : Finding) → IsFoundAt p es e f → entry_of f ≡ length (es ++ e ∷ [])
number_here p es e (Malformed entry fault) is = is.0 ∙ sym (length-append es (e ∷ []))
number_here p es e (Breach entry transaction) is = is.0 ∙ sym (length-append es (e ∷ []))
number_here p es e (Undecided entry transaction) is = is.0 ∙ sym (length-append es (e ∷ []))

-- An entry brings at most two transactions.

-- with more keys there are at most as many keys as before and the new ones together
few_more : (keys more : List KeyParts) → length (fold with_key keys more) ≤ length keys + length more
few_more keys [] = omega arith
few_more keys (key ∷ more) =
    let rest : length (fold with_key (with_key keys key) more) ≤ length (with_key keys key) + length more = few_more (with_key keys key) more in
    let one : length (with_key keys key) ≤ length keys + 1 = one_more (list_any (same_key key) keys) in
    omega (arith, rest, one)
  where
    -- with one key more the keys are at most one more, whether or not the key is known already
    one_more : (b : Bool) → length (if b then keys else keys ++ key ∷ []) ≤ length keys + 1
    one_more true = omega arith
    one_more false = let long = length-append keys (key ∷ []) in omega arith

-- a message concerns at most two keys
two_keys : (s : Said) (direction : Direction) (keys : List KeyParts) → Concerns s direction keys → length keys ≤ 2
two_keys s direction keys is =
    let own = at_most_one (own_key s direction) in
    let cancelled = at_most_one (cancelled_key s direction) in
    let long = ap length is ∙ length-append (option_to_list (own_key s direction)) (option_to_list (cancelled_key s direction)) in
    omega arith
  where
    -- an option has at most one element
    at_most_one : (key : Option KeyParts) → length (option_to_list key) ≤ 1
    at_most_one None = omega arith
    at_most_one (Some key) = omega arith

-- an entry brings at most two keys
two_more : (es : Entries) (item : Item) (e : Observation KeyParts) → Sees es item e → length (keys_in (es ++ e ∷ [])) ≤ length (keys_in es) + 2
two_more es item e sees = by (direction_of item.action) refl sees
  where
    -- an entry that concerns no key brings none
    none : e.keys ≡ [] → length (keys_in (es ++ e ∷ [])) ≤ length (keys_in es) + 2
    none empty = let same = ap length (keys_in-none es e empty) in omega arith

    -- a mark concerns no key, and a restart concerns those that were there
    silent : (action : Action) → e ≡ silent_observation action item.moment (keys_in es) → length (keys_in (es ++ e ∷ [])) ≤ length (keys_in es) + 2
    silent Restart is = let same = ap length (keys_in-all es e (ap (λ o. o.keys) is)) in omega arith
    silent Mark is = none (ap (λ o. o.keys) is)
    silent Sent is = none (ap (λ o. o.keys) is)
    silent Received is = none (ap (λ o. o.keys) is)
    silent Failed is = none (ap (λ o. o.keys) is)

    -- an entry with a message brings at most two keys
    heard : (direction : Direction) → ObservesMessage direction item e → length (keys_in (es ++ e ∷ [])) ≤ length (keys_in es) + 2
    heard direction (has_fault fault says is) = none (ap (λ o. o.keys) is)
    heard direction (has_no_cookie s says lacks is) = none (ap (λ o. o.keys) is)
    heard direction (is_heard s keys says has those is) =
        let few = two_keys s direction keys those in
        let same = ap (λ (o : Observation KeyParts). length o.keys) is in
        let more = few_more (keys_in es) e.keys in
        let push = ap length (keys_in-push es e) in
        omega arith

    -- an entry brings at most two keys, whether or not it has a message, and whichever way it went
    by : (d : Option Direction) → direction_of item.action ≡ d → MatchOption d (e ≡ silent_observation item.action item.moment (keys_in es)) (λ direction. ObservesMessage direction item e)
        → length (keys_in (es ++ e ∷ [])) ≤ length (keys_in es) + 2
    by None is saw = silent item.action saw
    by (Some direction) is saw = heard direction saw

-- a survey that forgets nothing before any entry is told as one that may forget: there is room for each of at most 1,000,000 entries
never_after : (age : ℕ) (part : Option PartOf) (p : Times) (es : Entries) (items taken : List Item) (close : LogEnd) (found : List Finding) (end : SurveyEnd) (after : Entries) (lines : List ℕ) → AreTaken part items taken
    → length es + length items ≤ most_entries → length (keys_in es) ≤ length es + length es → IsSurveyAfter p es taken close found end → AreSeen es taken after
    → IsTextOf (es ++ after) found lines → IsToldAfter age part p es items close found end lines
-- no item is left
never_after age part p es [] [] Clean found end after lines are few keys is seen text = (is, subst (λ fs. IsTextOf (es ++ after) fs lines) is.0 text)
never_after age part p es [] [] (Stops fault) found end after lines are few keys is seen text = (is, subst (λ fs. IsTextOf (es ++ after) fs lines) is.0 text)
-- as many items are taken and seen as there are, so that no list is longer
never_after age part p es [] (x ∷ taken) close found end after lines are few keys is seen text = absurd are
never_after age part p es (item ∷ items) [] close found end after lines are few keys is seen text = absurd are
never_after age part p es (item ∷ items) (x ∷ taken) close found end [] lines are few keys is seen text = absurd seen
-- one item more comes, at which nothing is forgotten
never_after age part p es (item ∷ items) (x ∷ taken) close found end (f ∷ after) lines (one, more) few keys (e, here, later, sees, both, are, left) (saw, seen) text =
    let same : f ≡ e = observes_one es x f e saw sees in
    -- the text is that of the findings here, and then of the later ones
    let whole : IsTextOf ((es ++ e ∷ []) ++ after) (here ++ later) lines =
    subst (λ xs. IsTextOf xs (here ++ later) lines) (ap (λ x. es ++ x ∷ after) same ∙ sym (append_assoc es (e ∷ []) after)) (subst (λ fs. IsTextOf (es ++ f ∷ after) fs lines) both text) in
    let s = split_text ((es ++ e ∷ []) ++ after) here later lines whole in
    let long = length-append es (e ∷ []) in
    let two = two_more es x e sees in (
      es,
      inl refl,
      -- there is room for the entry
      inr (
        (omega arith, omega arith),
        (
          -- x is the item as it is taken, e what is seen of it, `here` and `later` what is found at it and after it, and s.text and s.more the lines of both
          x,
          e,
          here,
          later,
          s.text,
          s.more,
          one,
          -- what is found at the item comes next, and then its text
          sees,
          are,
          text_here (es ++ e ∷ []) after here s.text (λ g has. number_here p es e g ((are.1 g).0 has)) s.first,
          -- the findings and the lines are those of this item and those of the later ones, which are told in the same way
          both,
          s.whole,
          never_after age part p (es ++ e ∷ []) items taken close later end after s.more more (omega arith) (omega arith) left (subst (λ x. AreSeen (es ++ x ∷ []) taken after) same seen) s.second,
        ),
      ),
    )

-- a log that stops after 1,000,000 entries stops for no other fault than their number
-- the log stops at its limit; or there are fewer entries than the most, which cannot be
cut_off : (format : Format) (count last : ℕ) (rest : List ℕ) (fault : LogReason) → most_entries ≤ count → EndsWith format count last rest (Stops fault) → fault ≡ Limit
cut_off format count last rest fault many (some, inl (most, same)) = same
cut_off format count last rest fault many (some, inr (under, at)) = absurd (under many)

-- a log that is not cut off by the most entries is one where any number of entries may come
log_streams : (input : List ℕ) (p : Times) (items : List Item) (close : LogEnd) → LogSays input p items close → (close ≡ Stops Limit → length items ≢ most_entries) → StreamSays input p items close
log_streams input p items Clean says other = (clean_stream input p items says.few).0 says
log_streams input p items (Stops fault) says other = by (cases_lt (length items) most_entries)
  where
    -- the stream has these items and stops: there are fewer entries than the most, or the log stops at its limit
    by : (length items < most_entries) ⊎ (most_entries ≤ length items) → StreamSays input p items (Stops fault)
    by (inl few) = (log_stream input p items (Stops fault) few).0 says
    by (inr many) =
        let few = says.few in
        let limit = cut_off says.format (length items) (last_of 0 items) says.rest fault many says.next in
        absurd (other (ap Stops limit) (omega (arith, few, many)))

-- how a survey of this many entries ends
survey_stops : (p : Times) (es : Entries) (items : List Item) (close : LogEnd) (found : List Finding) (end : SurveyEnd) → IsSurveyAfter p es items close found end → close ≡ Stops Limit → end ≡ LogFault (length es + length items + 1) Limit
-- no item is left: the log ends there, and not cleanly, since `close` is the fault Limit
survey_stops p es [] Clean found end is same = cc
survey_stops p es [] (Stops fault) found end is same =
    let reason : fault ≡ Limit = cc in
    let long : length es + 1 ≡ length es + 0 + 1 = omega arith in
    is.1 ∙ ap (λ r. LogFault (length es + 1) r) reason ∙ ap (λ n. LogFault n Limit) long
-- one item more is seen as e, and the survey goes on after it
survey_stops p es (item ∷ items) close found end (e, here, later, sees, both, are, left) same =
    let long = length-append es (e ∷ []) in
    let sum : length (es ++ e ∷ []) + length items + 1 ≡ length es + suc (length items) + 1 = omega arith in
    survey_stops p (es ++ e ∷ []) items close later end left same ∙ ap (λ n. LogFault n Limit) sum

-- a survey that does not end at the limit of entries is of a log that does not stop there
not_cut_off : (p : Times) (items taken : List Item) (close : LogEnd) (found : List Finding) (end : SurveyEnd) → length taken ≡ length items → IsSurveyAfter p [] taken close found end → end ≢ LogFault (most_entries + 1) Limit
    → close ≡ Stops Limit → length items ≢ most_entries
not_cut_off p items taken close found end long is other cut many =
    let number : 0 + length taken + 1 ≡ most_entries + 1 = omega (arith, many, long) in
    other (survey_stops p [] taken close found end is cut ∙ ap (λ n. LogFault n Limit) number)

-- a whole log is taken as it is
whole_taken : (items : List Item) → AreTaken None items items
whole_taken [] = tt
whole_taken (item ∷ items) = (refl, whole_taken items)

-- the log of a part is taken of the whole, item by item
part_taken : (part : PartOf) (items cuts : List Item) → IsPartLog part items cuts → AreTaken (Some part) items cuts × (length cuts ≡ length items)
part_taken part [] [] is = (tt, refl)
-- neither list is longer than the other
part_taken part [] (x ∷ cuts) is = absurd is
part_taken part (item ∷ items) [] is = absurd is
part_taken part (item ∷ items) (x ∷ cuts) (one, is) = let more = part_taken part items cuts is in ((one, more.0), ap suc more.1)

-- where nothing is forgotten, the survey of an input and its text are among those of a survey that may forget
pub never_whole : (age : ℕ) (input : List ℕ) (found : List Finding) (end : SurveyEnd) (text : List ℕ) → end ≢ LogFault (most_entries + 1) Limit → IsToldOf input found end text → IsToldForgetting age None input found end text
-- p and q are the times of the log by the survey and by what is told, and es are the entries that were observed
-- the input has no header by both, so nothing was found, and the text is the last line alone
never_whole age input found end text other (inl (lacks, none, ended), (es, inl (also, empty), (lines, are, whole))) =
    inl (lacks, none, ended, whole ∙ ap (λ l. l ++ end_text end (length found)) (subst (λ fs. IsTextOf es fs lines) none are) ∙ ap (λ fs. end_text end (length fs)) none)
-- both cannot be: by one the input has no header, and by the other it has one
never_whole age input found end text other (inl (lacks, none, ended), (es, inr (q, others, last, says, seen), told)) = absurd (lacks says.format q _ says.header)
never_whole age input found end text other (inr (p, items, close, says, is), (es, inl (lacks, empty), told)) = absurd (lacks says.format p _ says.header)
never_whole age input found end text other (inr (p, items, close, says, is), (es, inr (q, others, last, say, seen), (lines, are, whole))) =
    -- both have a header: what was observed is the same, and the survey may stop to forget at any entry, but does so at none
    let saw : AreSeen [] items es = says_same (λ r xs a. AreSeen [] xs es) input p q items others close last says say seen in
    let stream = log_streams input p items close says (not_cut_off p items items close found end refl is other) in
    let few = says.few in
    inr (p, items, close, lines, stream, never_after age None p [] items items close found end es lines (whole_taken items) (omega arith) (omega arith) is saw are, whole)

-- the item as the log of the part has it, by which way its message went
abbrev IsPartAs : PartOf → Item → Item → Option Direction → Type 0
IsPartAs part item cut direction = MatchOption direction (cut ≡ item) (λ d. (branch : List ℕ) × TellsBranch item.text branch × (cut ≡ if falls_into part branch then item else mark_of item))

-- the log of a part has an item in one way only
item_one : (part : PartOf) (item a b : Item) → IsPartItem part item a → IsPartItem part item b → a ≡ b
item_one part item a b one other = by (direction_of item.action) one other
  where
    -- two items that are cut of one item are the same, whether or not it has a message
    -- an item without a message stays; one with a message is cut by its branch, of which a message tells only one
    by : (direction : Option Direction) → IsPartAs part item a direction → IsPartAs part item b direction → a ≡ b
    by None is are = is ∙ sym are
    by (Some d) (branch, tells, is) (told, also, are) = is ∙ ap (λ t. if falls_into part t then item else mark_of item) (one_told item.text branch told tells also) ∙ sym are

-- a part has one log
part_one : (part : PartOf) (items cuts others : List Item) → IsPartLog part items cuts → IsPartLog part items others → cuts ≡ others
part_one part [] [] [] is are = refl
-- no list is longer than another
part_one part [] [] (x ∷ others) is are = absurd are
part_one part [] (x ∷ cuts) others is are = absurd is
part_one part (item ∷ items) [] others is are = absurd is
part_one part (item ∷ items) (x ∷ cuts) [] is are = absurd are
part_one part (item ∷ items) (x ∷ cuts) (y ∷ others) (one, is) (other, are) =
    ap (λ z. z ∷ cuts) (item_one part item x y one other) ∙ ap (λ zs. y ∷ zs) (part_one part items cuts others is are)

-- where nothing is forgotten, the survey of a part and its text are among those of a survey that may forget
pub never_part : (age : ℕ) (part : PartOf) (input : List ℕ) (found : List Finding) (end : SurveyEnd) (text : List ℕ) → end ≢ LogFault (most_entries + 1) Limit → IsPartToldOf part input found end text → IsToldForgetting age (Some part) input found end text
-- p and q are the times of the log by the survey and by what is told, and es are the entries that were observed
-- the input has no header by both, so nothing was found, and the text is the last line alone
never_part age part input found end text other (inl (lacks, none, ended), (es, inl (also, empty), (lines, are, whole))) =
    inl (lacks, none, ended, whole ∙ ap (λ l. l ++ end_text end (length found)) (subst (λ fs. IsTextOf es fs lines) none are) ∙ ap (λ fs. end_text end (length fs)) none)
-- both cannot be: by one the input has no header, and by the other it has one
never_part age part input found end text other (inl (lacks, none, ended), (es, inr (q, others, last, taken, says, cut, seen), told)) = absurd (lacks says.format q _ says.header)
never_part age part input found end text other (inr (p, items, close, cuts, says, cut, is), (es, inl (lacks, empty), told)) = absurd (lacks says.format p _ says.header)
-- both surveys are of entries of the part
never_part age part input found end text other (inr (p, items, close, cuts, says, cut, is), (es, inr (q, others, last, taken, say, part_of, seen), (lines, are, whole))) =
    let same : taken ≡ cuts = part_one part items taken cuts (says_same (λ r xs a. IsPartLog part xs taken) input p q items others close last says say part_of) cut in
    let (are_taken, long) = part_taken part items cuts cut in
    let stream = log_streams input p items close says (not_cut_off p items cuts close found end long is other) in
    -- there is room for all entries
    let few = says.few in
    inr (p, items, close, lines, stream, never_after age (Some part) p [] items cuts close found end es lines are_taken (omega arith) (omega arith) is (subst (λ xs. AreSeen [] xs es) same seen) are, whole)
