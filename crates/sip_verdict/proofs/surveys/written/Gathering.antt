-- What is found at the entries of a log, one after another, is the survey when the log ends.
use Rattle.std.proofs.Common.{◌≡◌, ◌+◌, ◌∙◌, inl, inr, ℕ, Option, Some, None, IfSome, List, [], ◌∷◌, ◌++◌, length, refl, sym, ap, subst, append_assoc, arith}
use Rattle.std.proofs.lemmas.List.{append-nil}
use Rattle.std.proofs.lemmas.Option.{same_Some}
use Rattle.sip_standard.specs.Key.{KeyParts}
use Rattle.sip_standard.specs.Times.{Times}
use Rattle.sip_part.specs.Part.{PartOf}
use Rattle.sip_log.specs.declared.entry.Entry.{Entry}
use Rattle.sip_standard.specs.LogSays.{LogEnd, Clean, Stops, LogSays, LacksHeader}
use Rattle.sip_standard.specs.LogEntry.{Item}
use Rattle.sip_log.specs.Told.{item}
use Rattle.sip_log.proofs.answers.ReadingLemmas.{IfSome-map}
use Rattle.sip_verdict.specs.declared.finding.Finding.{Finding}
use Rattle.sip_standard.specs.declared.log_reason.LogReason.{LogReason}
use Rattle.sip_standard.specs.declared.log_reason.LogReason.TheVariants.{Header}
use Rattle.sip_verdict.specs.declared.survey_end.SurveyEnd.{SurveyEnd}
use Rattle.sip_standard.specs.declared.verdict.Verdict.{Verdict}
use Rattle.sip_standard.specs.declared.verdict.Verdict.TheVariants.{Legal, Malformed, Breach, Undecided, LogFault as FaultOfLog}
use Rattle.sip_standard.specs.Observation.{Observation}
use Rattle.sip_standard.specs.ListingOf.{trouble_of}
use Rattle.sip_standard.specs.Seen.{AreSeen}
use Rattle.sip_standard.specs.VerdictOf.{keys_in, HasTrouble, IsVerdictAfter, IsVerdictOf, Sees}
use Rattle.sip_verdict.specs.SurveyOf.{AreFoundAt, IsSurveyAfter}
use Rattle.sip_verdict.specs.Surveys.{Surveying, SurveysFor}
use Rattle.sip_verdict.specs.SurveyParts.{IsPartLog, IsTaken}
use Rattle.sip_verdict.specs.inner.SurveyingLogs.{AreTaken, IsSurveyIn, SurveysRead, IsToldIn}
use Rattle.sip_verdict.specs.inner.Walking.{HasRead}
use Rattle.sip_verdict.proofs.judges.JudgingLemmas.{seen-push}
use Rattle.sip_verdict.specs.SurveyText.{IsSurveyText, end_text}
use Rattle.sip_log.specs.Reading as log
use Rattle.sip_verdict.specs.declared.survey_end.SurveyEnd.TheVariants as ended

-- where items are taken for a part, and one item more is, all of them are
pub taken_push : (part : Option PartOf) (items takens : List Item) (item taken : Item) → AreTaken part items takens → IsTaken part item taken → AreTaken part (items ++ item ∷ []) (takens ++ taken ∷ [])
taken_push part [] [] item taken are one = (one, tt)
-- as many items are taken as there are, so that no list is longer
taken_push part [] (x ∷ takens) item taken are one = absurd are
taken_push part (i ∷ items) [] item taken are one = absurd are
taken_push part (i ∷ items) (x ∷ takens) item taken (first, are) one = (first, taken_push part items takens item taken are one)

-- the whole log is taken as it is
pub taken_whole : (items takens : List Item) → AreTaken None items takens → takens ≡ items
taken_whole [] [] are = refl
-- no list is longer than the other
taken_whole [] (x ∷ takens) are = absurd are
taken_whole (i ∷ items) [] are = absurd are
taken_whole (i ∷ items) (x ∷ takens) (same, are) = let rest = taken_whole items takens are in cc

-- a log that is surveyed for a part is the log of the part
pub taken_part : (part : PartOf) (items takens : List Item) → AreTaken (Some part) items takens → IsPartLog part items takens
taken_part part [] [] are = tt
-- no list is longer than the other
taken_part part [] (x ∷ takens) are = absurd are
taken_part part (i ∷ items) [] are = absurd are
taken_part part (i ∷ items) (x ∷ takens) (one, are) = (one, taken_part part items takens are)

-- what is found at the items as they are taken is the survey of the input, or of the part
survey_in : (part : Option PartOf) (input : List ℕ) (p : Times) (items takens : List Item) (close : LogEnd) (found : List Finding) (end : SurveyEnd) → LogSays input p items close → AreTaken part items takens
    → IsSurveyAfter p [] takens close found end → IsSurveyIn part input found end
survey_in None input p items takens close found end log are whole =
    inr (p, items, close, log, subst (λ is. IsSurveyAfter p [] is close found end) (taken_whole items takens are) whole)
survey_in (Some part) input p items takens close found end log are whole = inr (p, items, close, takens, log, taken_part part items takens are, whole)

-- where entries are seen of the items as they are taken, and a text is the text of the survey in them, the survey is told with this text
pub entries_in : (part : Option PartOf) (input : List ℕ) (p : Times) (items takens : List Item) (es : List (Observation KeyParts)) (close : LogEnd) (found : List Finding) (end : SurveyEnd) (text : List ℕ)
    → LogSays input p items close → AreTaken part items takens → AreSeen [] takens es → IsSurveyIn part input found end → IsSurveyText es found end text → IsToldIn part input found end text
entries_in None input p items takens es close found end text log are seen survey told =
    (survey, (es, inr (p, items, close, log, subst (λ is. AreSeen [] is es) (taken_whole items takens are) seen), told))
entries_in (Some part) input p items takens es close found end text log are seen survey told = (survey, (es, inr (p, items, close, takens, log, taken_part part items takens are, seen), told))

-- the survey of an input that lacks a header is told by the line of its end alone
pub told_without : (part : Option PartOf) (input : List ℕ) (end : SurveyEnd) → LacksHeader input → end ≡ ended.LogFault 0 Header → IsToldIn part input [] end (end_text end 0)
told_without None input end lacks same = (inl (lacks, refl, same), ([], inl (lacks, refl), ([], refl, refl)))
told_without (Some part) input end lacks same = (inl (lacks, refl, same), ([], inl (lacks, refl), ([], refl, refl)))

-- an input without a header has this survey, whatever part of it is taken
survey_without : (part : Option PartOf) (input : List ℕ) (end : SurveyEnd) → LacksHeader input → end ≡ ended.LogFault 0 Header → IsSurveyIn part input [] end
survey_without None input end lacks same = inl (lacks, refl, same)
survey_without (Some part) input end lacks same = inl (lacks, refl, same)

-- What follows is of a survey, `s`, that has read some items of a log or of a part of it, and of what it has found; `now` is the state of its reader.
module _ (part : Option PartOf) (start : Option (List ℕ)) (now : log.ReaderState) (s : Surveying) (found : List Finding) (read : SurveysRead part s found start now) where
  -- where one more item was read and taken, and these findings were made at it, the survey has read that item too
  -- i is the item and `cut` the entry as which it is taken; `new` is the state of the reader and k the survey after it
  unfoldable pub found_on : (i : Item) (cut : Entry) (new : log.ReaderState) → HasRead start s.tables.times (read.items ++ i ∷ []) new → IsTaken part i (item cut) → (k : Surveying) → k.tables.times ≡ s.tables.times
      → (seen : Observation KeyParts) (here : List Finding) → Sees read.es (item cut) seen → AreFoundAt s.tables.times read.es seen here → SurveysFor k (read.es ++ seen ∷ [])
      → SurveysRead part k (found ++ here) start new
  found_on i cut new more is_taken k times seen here observed are stands =
      let p = s.tables.times in
      record {
        items = read.items ++ i ∷ [];
        taken = read.taken ++ item cut ∷ [];
        es = read.es ++ seen ∷ [];
        -- the entry is seen after the others, and the survey stands after it
        are_taken = taken_push part read.items read.taken i (item cut) read.are_taken is_taken;
        seen = seen-push [] read.taken read.es (item cut) seen read.seen observed;
        follows = stands;
        read = subst (λ t. HasRead start t (read.items ++ i ∷ []) new) (sym times) more;
        -- with what comes later the findings are those of all
        front = λ rest close later end left.
            -- what is found at the later items comes after what is found at this one (`whole`), which is then put into brackets with what was found before
            let after : IsSurveyAfter p (read.es ++ seen ∷ []) rest close later end = subst (λ t. IsSurveyAfter t (read.es ++ seen ∷ []) rest close later end) times left in
            let whole : IsSurveyAfter p [] (read.taken ++ item cut ∷ rest) close (found ++ (here ++ later)) end =
            read.front (item cut ∷ rest) close (here ++ later) end (seen, here, later, observed, refl, are, after) in
            let by_items = subst (λ is. IsSurveyAfter p [] is close (found ++ (here ++ later)) end) (sym (append_assoc read.taken (item cut ∷ []) rest)) whole in
            subst (λ t. IsSurveyAfter t [] ((read.taken ++ item cut ∷ []) ++ rest) close ((found ++ here) ++ later) end) (sym times)
            (subst (λ fs. IsSurveyAfter p [] ((read.taken ++ item cut ∷ []) ++ rest) close fs end) (sym (append_assoc found here later)) by_items);
      }

  -- where the findings at the next entry are put after those so far, the survey has read that entry too
  -- e is the entry and `cut` the one as which it is taken; `new` is the state of the reader and k the survey after it, and `items` are all findings then
  pub gathered_on : (e cut : Entry) (new : log.ReaderState) → HasRead start s.tables.times (read.items ++ item e ∷ []) new → IsTaken part (item e) (item cut) → (k : Surveying) → k.tables.times ≡ s.tables.times
      → (items : List Finding)
      → ((es : List (Observation KeyParts)) → SurveysFor s es → (seen : Observation KeyParts) × (here : List Finding) × Sees es (item cut) seen
      × AreFoundAt s.tables.times es seen here × (items ≡ found ++ here) × SurveysFor k (es ++ seen ∷ []))
      → SurveysRead part k items start new
  gathered_on e cut new more is_taken k times items says =
      let (seen, here, observed, are, same, stands) = says read.es read.follows in
      subst (λ fs. SurveysRead part k fs start new) (sym same) (found_on (item e) cut new more is_taken k times seen here observed are stands)

  -- where the log ends after the items that were read, what was found is the survey of the input, or of the part
  pub gathered_of : (close : LogEnd) (end : SurveyEnd) → IsSurveyAfter s.tables.times read.es [] close [] end → (input : List ℕ) → LogSays input s.tables.times read.items close → IsSurveyIn part input found end
  gathered_of close end left input log_is =
      let p = s.tables.times in
      let whole : IsSurveyAfter p [] read.taken close found end =
      subst (λ fs. IsSurveyAfter p [] read.taken close fs end) (append-nil found) (subst (λ is. IsSurveyAfter p [] is close (found ++ []) end) (append-nil read.taken) (read.front [] close [] end left)) in
      survey_in part input p read.items read.taken close found end log_is read.are_taken whole

  -- where the input is known and its log ends after the items that were read, what was found is its survey, or the part's
  gathered : (close : LogEnd) (end : SurveyEnd) → IsSurveyAfter s.tables.times read.es [] close [] end → IfSome start (λ input. LogSays input s.tables.times read.items close)
      → IfSome start (λ input. IsSurveyIn part input found end)
  gathered close end left logs = IfSome-map start (λ input. LogSays input s.tables.times read.items close) (λ input. IsSurveyIn part input found end) (gathered_of close end left) logs

  -- where the log is read to its end, what was found is the survey, with the counts of its entries and transactions
  pub gathered_end : (end : SurveyEnd) → end ≡ ended.Clean (length read.es) (length (keys_in read.es)) → IfSome start (λ input. LogSays input s.tables.times read.items Clean)
      → IfSome start (λ input. IsSurveyIn part input found end)
  gathered_end end is logs = gathered Clean end (refl, is) logs

  -- where what comes after the entries cannot be read, what was found is the survey, which ends with that fault
  pub gathered_stop : (count : ℕ) (reason : LogReason) → count ≡ s.number → (fault : LogReason) × (reason ≡ fault) × IfSome start (λ input. LogSays input s.tables.times read.items (Stops fault))
      → IfSome start (λ input. IsSurveyIn part input found (ended.LogFault (count + 1) reason))
  gathered_stop count reason counted (fault, same, logs) =
      gathered (Stops fault) (ended.LogFault (count + 1) reason)
      (refl, ap (λ n. ended.LogFault (n + 1) reason) (counted ∙ read.follows.number) ∙ ap (ended.LogFault (length read.es + 1)) same) logs

-- the verdict of an entry in trouble has a number that is not 0
-- a legal log and a fault of the log are no trouble at an entry; any trouble has the number of its entry, which counts from 1
trouble-counted : (p : Times) (front : List (Observation KeyParts)) (e : Observation KeyParts) (v : Verdict) → HasTrouble p front e v → trouble_of v ≡ Some 0 → ⊥
trouble-counted p front e (Legal entries transactions) is none = is
trouble-counted p front e (Malformed entry fault) (at, has) none = let same = same_Some entry 0 none in omega (arith, at, same)
trouble-counted p front e (Breach entry transaction) (at, formed, first) none = let same = same_Some entry 0 none in omega (arith, at, same)
trouble-counted p front e (Undecided entry transaction) (at, formed, runs, first) none = let same = same_Some entry 0 none in omega (arith, at, same)
trouble-counted p front e (FaultOfLog entry reason) is none = is

-- the option None is not a number
none-some : (n : ℕ) → None ≡ Some n → ⊥
none-some n same = cc

-- no verdict on the entries of a log is of the entry 0
-- a legal log has no number, and a fault has one that is above 0
counted : (p : Times) (es : List (Observation KeyParts)) (items : List Item) (close : LogEnd) (v : Verdict) → IsVerdictAfter p es items close v → trouble_of v ≡ Some 0 → ⊥
counted p es [] Clean v is none = none-some 0 (sym (ap trouble_of is) ∙ none)
counted p es [] (Stops fault) v is none = let same = same_Some (length es + 1) 0 (sym (ap trouble_of is) ∙ none) in omega (arith, same)
counted p es (item ∷ items) close v (e, sees, inl trouble) none = trouble-counted p es e v trouble none
counted p es (item ∷ items) close v (e, sees, inr (fine, more)) none = counted p (es ++ e ∷ []) items close v more none

-- where the verdict is of entry 0, the input lacks a header
pub header_lacks : (input : List ℕ) (v : Verdict) → IsVerdictOf input v → trouble_of v ≡ Some 0 → LacksHeader input
header_lacks input v (inl (lacks, is)) none = lacks
header_lacks input v (inr (p, items, close, says, judged)) none = absurd (counted p [] items close v judged none)

-- where the header cannot be read, the survey of the input, or of the part, finds nothing and ends with the fault of the header
pub gathered_header : (part : Option PartOf) (start : Option (List ℕ)) (v : Verdict) → IfSome start (λ input. IsVerdictOf input v) → trouble_of v ≡ Some 0
    → IfSome start (λ input. IsSurveyIn part input [] (ended.LogFault 0 Header))
gathered_header part start v is none =
    IfSome-map start (λ input. IsVerdictOf input v) (λ input. IsSurveyIn part input [] (ended.LogFault 0 Header))
    (λ input verdict. survey_without part input (ended.LogFault 0 Header) (header_lacks input v verdict none) refl) is
