-- What a survey writes of its findings, line after line, is the survey's text at the end of the log.
use Rattle.std.proofs.Common.{◌≡◌, ◌+◌, ◌∙◌, ℕ, Option, Some, IfSome, Result, Ok, Err, IfOk, OnOk, Bool, false, List, [], ◌∷◌, ◌++◌, length, filter, refl, sym, ap, subst, arith, ◌-◌, suc, None, IsSomeAnd, Contains, slice_get, append_assoc}
use Rattle.std.proofs.lemmas.List.{length-append, append-nil}
use Rattle.std.proofs.lemmas.List.Elements.{filter-append}
use Rattle.std.specs.Io.KnownBytes.{Appends}
use Rattle.std.proofs.KnownBytes.{Appends-nil, Appends-trans}
use Rattle.sip_standard.specs.Key.{KeyParts}
use Rattle.sip_standard.specs.Times.{Times}
use Rattle.sip_part.specs.Part.{PartOf}
use Rattle.sip_log.specs.declared.entry.Entry.{Entry}
use Rattle.sip_standard.specs.LogEntry.{Item}
use Rattle.sip_standard.specs.LogSays.{LogEnd, Clean, Stops, LogSays, line_feed}
use Rattle.sip_log.specs.Told.{item}
use Rattle.sip_log.proofs.answers.ReadingLemmas.{IfSome-map}
use Rattle.sip_verdict.specs.declared.finding.Finding.{Finding}
use Rattle.sip_standard.specs.declared.log_reason.LogReason.{LogReason}
use Rattle.sip_standard.specs.declared.log_reason.LogReason.TheVariants.{Header}
use Rattle.sip_verdict.specs.declared.summary.Summary.{Summary}
use Rattle.sip_verdict.specs.declared.survey_end.SurveyEnd.{SurveyEnd}
use Rattle.sip_verdict.specs.declared.surveying.Counts.{Counts}
use Rattle.sip_standard.specs.declared.verdict.Verdict.{Verdict}
use Rattle.sip_standard.specs.Observation.{Observation}
use Rattle.sip_standard.specs.ListingOf.{trouble_of}
use Rattle.sip_standard.specs.VerdictOf.{keys_in, IsVerdictOf, Sees}
use Rattle.sip_verdict.specs.SurveyOf.{AreFoundAt, IsSurveyAfter, HoldsOf, IsFoundAt, verdict_of}
use Rattle.sip_verdict.specs.SurveyText.{SumsUp, end_text, is_undecided, AreWordsOf, IsFirstEntryOf, IsLastEntryOf, IsTextOf, entry_of, line_with, told_words, transaction_words}
use Rattle.sip_verdict.specs.Surveys.{Surveying, SurveysFor}
use Rattle.sip_verdict.specs.SurveyParts.{IsTaken}
use Rattle.sip_verdict.specs.inner.SurveyingLogs.{AreCounted, HasWritten, IsSurveyIn, IsWritten, SurveysRead, AreLinesBy, IsLineBy, IsToldIn, Tells, TellsOf}
use Rattle.sip_verdict.specs.inner.Walking.{HasRead}
use Rattle.sip_verdict.proofs.surveys.written.Gathering.{found_on, entries_in, gathered_of, header_lacks, told_without}
use Rattle.std.specs.Option.{ok_or}
use Rattle.sip_verdict.specs.declared.finding.Finding.TheVariants.{Malformed, Breach, Undecided}
use Rattle.sip_verdict.specs.declared.transaction.Transaction.{Transaction}
use Rattle.sip_standard.specs.Rendering.{rendered}
use Rattle.sip_states.proofs.lists.Places.{middle_place}
use Rattle.sip_log.specs.Reading as log
use Rattle.sip_verdict.specs.declared.survey_end.SurveyEnd.TheVariants as ended

-- before the first entry nothing is counted and nothing is written
pub told_none : (counts : Counts) (w : Option (List ℕ)) → counts.findings ≡ 0 → counts.undecided ≡ 0 → HasWritten [] [] counts w w
told_none counts w none nothing = record { findings = none; undecided = nothing; written = Appends-nil w }

-- where findings are told, and those of one entry more are counted and written, all of them are told
pub told_more : (found here : List Finding) (lines text : List ℕ) (a b : Counts) (before mid after : Option (List ℕ)) → HasWritten found lines a before mid → AreCounted here a b → Appends mid after text
    → HasWritten (found ++ here) (lines ++ text) b before after
told_more found here lines text a b before mid after told counted written =
    -- the counts of all findings, and of the undecided among them, are those so far and those of this entry together
    let long = length-append found here in
    let undecided = ap length (filter-append is_undecided found here) ∙ length-append (filter is_undecided found) (filter is_undecided here) in
    let one = told.findings in
    let two = counted.findings in
    let three = told.undecided in
    let four = counted.undecided in
    record { findings = omega (arith, long, one, two); undecided = omega (arith, undecided, three, four); written = Appends-trans before mid after lines text told.written written }

-- where the findings were counted, and then one finding more, all of them are counted
-- a counts before the findings, b after them, and c after the finding f more; o is what the code answers
pub counted_more : (found : List Finding) (f : Finding) (a b c : Counts) (o : Option Counts) → AreCounted found a b → IfSome o (AreCounted (f ∷ []) b) → o ≡ Some c → AreCounted (found ++ f ∷ []) a c
counted_more found f a b c o told one is =
    -- the counts of all findings, and of the undecided among them, are those of the first and of the one more together
    let next = subst (λ x. IfSome x (AreCounted (f ∷ []) b)) is one in
    let long = length-append found (f ∷ []) in
    let undecided = ap length (filter-append is_undecided found (f ∷ [])) ∙ length-append (filter is_undecided found) (filter is_undecided (f ∷ [])) in
    let p = told.findings in
    let q = next.findings in
    let r = told.undecided in
    let s = next.undecided in
    record { findings = omega (arith, long, p, q); undecided = omega (arith, undecided, r, s) }

-- an option that gives a value in place of an error holds this value
pub some_of_ok : {A E : Type 0} (o : Option A) (e : E) (a : A) → ok_or o e ≡ Ok a → o ≡ Some a
some_of_ok None e a is = absurd cc
some_of_ok (Some x) e a is = let same : x ≡ a = cc in ap Some same

-- What follows is of the lines of findings.

-- where a text has the lines of findings, and the line of one more is written after it, the text has the lines of all
pub lines_push : (s : Surveying) (found : List Finding) (f : Finding) (text line : List ℕ) → AreLinesBy s found text → IsLineBy s f line → AreLinesBy s (found ++ f ∷ []) (text ++ line)
lines_push s [] f text line none is = (line, [], is, refl, ap (λ t. t ++ line) none ∙ sym (append-nil line))
lines_push s (g ∷ found) f text line (first, more, first_is, are, whole) is =
    (first, more ++ line, first_is, lines_push s found f more line are is, ap (λ t. t ++ line) whole ∙ append_assoc first more line)

-- a line with the words that the survey tells of a transaction is the line of a finding of that transaction
line_with-told : (s : Surveying) (f : Finding) (number : ℕ) (told : Option Transaction) (line : List ℕ) → Tells s number told → line ≡ line_with f told → (es : List (Observation KeyParts)) → SurveysFor s es
    → (P : KeyParts → Type 0) → HoldsOf P (keys_in es) number
    → (words : List ℕ) × HoldsOf (AreWordsOf es words) (keys_in es) number × (line ≡ rendered (verdict_of f) ++ words ++ line_feed ∷ [])
line_with-told s f number told line tells is es stands P (before, key, rest, whole, holds, counts) =
    by told (subst (λ o. IfSome o (λ k. IsSomeAnd told (λ t. (t.key.now ≡ k) × IsFirstEntryOf es k t.first t.branch.now × IsLastEntryOf es k t.last))) at (tells es stands (omega (arith, counts)))) is
  where
    -- the key stands at the place of its number
    at : slice_get (keys_in es) (number - 1) ≡ Some key
    at = ap (slice_get (keys_in es)) (let n : number - 1 ≡ length before = omega (arith, counts) in n) ∙ ap (λ ks. slice_get ks (length before)) whole ∙ middle_place before key rest

    -- the line has the words of the transaction, which the survey has
    -- the survey knows the transaction, so that it tells something of it
    by : (o : Option Transaction) → IsSomeAnd o (λ t. (t.key.now ≡ key) × IsFirstEntryOf es key t.first t.branch.now × IsLastEntryOf es key t.last) → line ≡ line_with f o
        → (words : List ℕ) × HoldsOf (AreWordsOf es words) (keys_in es) number × (line ≡ rendered (verdict_of f) ++ words ++ line_feed ∷ [])
    by None none same = absurd none
    by (Some t) (key_is, first, last) same = (
      told_words t,
      (before, key, rest, whole, (t.branch.now, t.first, t.last, first, last, ap (λ k. transaction_words k t.branch.now t.first t.last) key_is), counts),
      same,
    )

-- a line with what the survey tells of its finding is the line of the finding
-- a fault names no transaction, so that its line has no words of one
pub line_by : (s : Surveying) (f : Finding) (told : Option Transaction) (line : List ℕ) → TellsOf s f told → line ≡ line_with f told → IsLineBy s f line
line_by s (Malformed entry fault) told line none is p es e stands found = is ∙ ap (line_with (Malformed entry fault)) none
line_by s (Breach entry number) told line tells is p es e stands found = line_with-told s (Breach entry number) number told line tells is (es ++ e ∷ []) stands _ found.1
line_by s (Undecided entry number) told line tells is p es e stands found = line_with-told s (Undecided entry number) number told line tells is (es ++ e ∷ []) stands _ found.1

-- the lines of the findings of the newest entry are their text in the log so far
pub found_text : (s : Surveying) (p : Times) (es : List (Observation KeyParts)) (e : Observation KeyParts) → SurveysFor s (es ++ e ∷ []) → (found : List Finding) (text : List ℕ)
    → ((f : Finding) → Contains found f → IsFoundAt p es e f) → AreLinesBy s found text → IsTextOf (es ++ e ∷ []) found text
found_text s p es e stands [] text at none = none
found_text s p es e stands (f ∷ found) text at (line, more, is, are, whole) =
    let here = at f (0, omega arith, refl) in (
      es ++ e ∷ [],
      [],
      -- the first finding is of the newest entry, and so are the others
      line,
      more,
      -- the entries up to the finding's own are all entries; the line is its line there, and the rest of the text is of the other findings
      sym (append-nil (es ++ e ∷ [])),
      length-append es (e ∷ []) ∙ sym (at_entry f here),
      is p es e stands here,
      found_text s p es e stands found more (λ g has. at g (suc has.0, omega (arith, has.1), has.2)) are,
      whole,
    )
  where
    -- each finding is of the newest entry
    at_entry : (g : Finding) → IsFoundAt p es e g → entry_of g ≡ length es + 1
    at_entry (Malformed entry fault) h = h.0
    at_entry (Breach entry transaction) h = h.0
    at_entry (Undecided entry transaction) h = h.0

-- the text of findings stays their text when more entries come
text_more : (es more : List (Observation KeyParts)) (found : List Finding) (text : List ℕ) → IsTextOf es found text → IsTextOf (es ++ more) found text
text_more es more [] text none = none
text_more es more (f ∷ found) text (front, rest, line, lines, whole, counts, is, are, text_is) =
    (front, rest ++ more, line, lines, ap (λ xs. xs ++ more) whole ∙ append_assoc front rest more, counts, is, text_more es more found lines are, text_is)

-- a text of findings, and a text of others after it, is a text of them all
text_append : (es : List (Observation KeyParts)) (found here : List Finding) (a b : List ℕ) → IsTextOf es found a → IsTextOf es here b → IsTextOf es (found ++ here) (a ++ b)
text_append es [] here a b none are = subst (IsTextOf es here) (ap (λ t. t ++ b) (sym none)) are
text_append es (f ∷ found) here a b (front, rest, line, lines, whole, counts, is, more, text_is) are =
    (front, rest, line, lines ++ b, whole, counts, is, text_append es found here lines b more are, ap (λ t. t ++ b) text_is ∙ append_assoc line lines b)

-- where the last line was written with these counts, the answer's sums are right, and P holds of them
-- r is the result of the whole call, and Q what holds where it wrote all
pub summed : {E Q : Type 0} {P : Summary → Type 0} (r : Result Summary E) (counts : Counts) (end : SurveyEnd)
    → IfOk r (λ s. (s.end ≡ end) × (s.findings ≡ counts.findings) × (s.undecided ≡ counts.undecided)) → OnOk r Q
    → ((s : Summary) → s.end ≡ end → s.findings ≡ counts.findings → s.undecided ≡ counts.undecided → Q → P s) → IfOk r P
summed (Ok s) counts end sums wrote f = f s sums.0 sums.1 sums.2 wrote
summed (Err e) counts end sums wrote f = tt

-- a survey that has read the header has found nothing yet
pub surveys_none : (part : Option PartOf) (s : Surveying) (p : Times) (start : Option (List ℕ)) (now : log.ReaderState) → s.tables.times ≡ p → SurveysFor s [] → HasRead start p [] now
    → SurveysRead part s [] start now
surveys_none part s p start now times stands read =
    record { items = []; taken = []; es = []; are_taken = tt; seen = tt; follows = stands; read = subst (λ t. HasRead start t [] now) (sym times) read; front = λ rest close later end is. is }

-- what a survey has read of a log and found in it, and the text of what it found
pub record ToldSoFar (part : Option PartOf) (s : Surveying) (found : List Finding) (lines : List ℕ) (start : Option (List ℕ)) (now : log.ReaderState) : Type 0 where
  pub read : SurveysRead part s found start now
  pub lines_are : IsTextOf read.es found lines

-- a survey that has found nothing yet has told no text
pub told_nothing : (part : Option PartOf) (s : Surveying) (start : Option (List ℕ)) (now : log.ReaderState) → SurveysRead part s [] start now → ToldSoFar part s [] [] start now
told_nothing part s start now read = record { read = read; lines_are = refl }

-- What follows is of a survey, `s`, that has read some items: `found` is what it has found, `lines` what it has written, and `now` the state of its reader.
module _ (part : Option PartOf) (start : Option (List ℕ)) (now : log.ReaderState) (s : Surveying) (found : List Finding) (lines : List ℕ) (told_so : ToldSoFar part s found lines start now) where
  -- what the survey has read so far
  abbrev pub read : SurveysRead part s found start now
  read = told_so.read

  -- where one more item was read and surveyed, and its lines were written, the survey has read and told that item too
  -- i is the item and `cut` the entry as which it is taken; `new` is the state of the reader and k the survey after it; `items` and `text` are the
  -- findings at it and their lines
  pub surveys_on : (i : Item) (cut : Entry) (new : log.ReaderState) → HasRead start s.tables.times (read.items ++ i ∷ []) new → IsTaken part i (item cut) → (k : Surveying) → k.tables.times ≡ s.tables.times
      → (items : List Finding)
      -- what was found at the entry, and the lines of that
      → ((es : List (Observation KeyParts)) → SurveysFor s es → (seen : Observation KeyParts) × (here : List Finding) × Sees es (item cut) seen
      × AreFoundAt s.tables.times es seen here × (items ≡ here) × SurveysFor k (es ++ seen ∷ []))
      → (text : List ℕ) → AreLinesBy k items text → ToldSoFar part k (found ++ items) (lines ++ text) start new
  unfolding found_on
  surveys_on i cut new more is_taken k times items says text are_lines =
      let (seen, here, observed, are, same, stands) = says read.es read.follows in
      -- the survey has read the item, and its lines are those before and these
      subst (λ fs. ToldSoFar part k (found ++ fs) (lines ++ text) start new) (sym same) (record {
        read = found_on part start now s found read i cut new more is_taken k times seen here observed are stands;
        lines_are = text_append (read.es ++ seen ∷ []) found here lines text (text_more read.es (seen ∷ []) found lines told_so.lines_are)
            (found_text k s.tables.times read.es seen stands here text (λ f has. (are.1 f).0 has) (subst (λ fs. AreLinesBy k fs text) same are_lines));
      })

  -- What follows is of the end of the survey: `counts` are what its lines count, `summary` is what it tells last, and `before`, `mid` and `after` are what
  -- the sink has before its lines, after them, and after the last line.
  module _ (counts : Counts) (summary : Summary) (before mid after : Option (List ℕ)) (told : HasWritten found lines counts before mid)
      (findings : summary.findings ≡ counts.findings) (undecided : summary.undecided ≡ counts.undecided) where
    -- where the log ends after the items that were read, and the last line is written, the survey is written and summed up
    ends : (close : LogEnd) (end : SurveyEnd) → summary.end ≡ end → Appends mid after (end_text end counts.findings) → IsSurveyAfter s.tables.times read.es [] close [] end
        → IfSome start (λ input. LogSays input s.tables.times read.items close) → IfSome start (λ input. IsWritten part input summary before after)
    ends close end is last left logs =
        let text = lines ++ end_text end (length found) in
        IfSome-map start (λ input. LogSays input s.tables.times read.items close) (λ input. IsWritten part input summary before after)
        (λ input says.
        let survey : IsSurveyIn part input found end = gathered_of part start now s found read close end left input says in
        -- the survey is that of the input
        record {
          found = found;
          text = text;
          told = subst (λ e. IsToldIn part input found e text) (sym is)
              (entries_in part input s.tables.times read.items read.taken read.es close found end text says read.are_taken read.seen survey (lines, told_so.lines_are, refl));
          sums = record { findings = findings ∙ told.findings; undecided = undecided ∙ told.undecided };
          written = Appends-trans before mid after lines (end_text end (length found)) told.written (subst (λ n. Appends mid after (end_text end n)) told.findings last);
        }) logs

    -- where the log ends, the survey is written and summed up
    pub surveys_end : summary.end ≡ ended.Clean (length read.es) (length (keys_in read.es)) → Appends mid after (end_text (ended.Clean (length read.es) (length (keys_in read.es))) counts.findings)
        → IfSome start (λ input. LogSays input s.tables.times read.items Clean) → IfSome start (λ input. IsWritten part input summary before after)
    surveys_end is last logs = ends Clean (ended.Clean (length read.es) (length (keys_in read.es))) is last (refl, refl) logs

    -- where the log cannot be read on, the survey is written and summed up, and ends with the fault
    pub surveys_stop : (count : ℕ) (reason : LogReason) → count ≡ s.number → summary.end ≡ ended.LogFault (count + 1) reason → Appends mid after (end_text (ended.LogFault (count + 1) reason) counts.findings)
        → (fault : LogReason) × (reason ≡ fault) × IfSome start (λ input. LogSays input s.tables.times read.items (Stops fault)) → IfSome start (λ input. IsWritten part input summary before after)
    surveys_stop count reason counted is last (fault, same, logs) =
        ends (Stops fault) (ended.LogFault (count + 1) reason) is last
        (refl, ap (λ n. ended.LogFault (n + 1) reason) (counted ∙ read.follows.number) ∙ ap (ended.LogFault (length read.es + 1)) same) logs

-- where the header cannot be read, the last line is the survey, which finds nothing and ends with the fault of the header
pub surveys_header : (part : Option PartOf) (start : Option (List ℕ)) (v : Verdict) (counts : Counts) (summary : Summary) (before after : Option (List ℕ)) → IfSome start (λ input. IsVerdictOf input v) → trouble_of v ≡ Some 0
    → counts.findings ≡ 0 → counts.undecided ≡ 0 → summary.end ≡ ended.LogFault 0 Header → summary.findings ≡ counts.findings → summary.undecided ≡ counts.undecided
    → Appends before after (end_text (ended.LogFault 0 Header) counts.findings) → IfSome start (λ input. IsWritten part input summary before after)
surveys_header part start v counts summary before after is none no_findings no_undecided end findings undecided last =
    IfSome-map start (λ input. IsVerdictOf input v) (λ input. IsWritten part input summary before after)
    -- nothing is found, and the text is the last line
    (λ input verdict. record {
      found = [];
      text = end_text summary.end 0;
      told = told_without part input summary.end (header_lacks input v verdict none) end;
      sums = record { findings = findings ∙ no_findings; undecided = undecided ∙ no_undecided };
      written = subst (λ e. Appends before after (end_text e 0)) (sym end) (subst (λ n. Appends before after (end_text (ended.LogFault 0 Header) n)) no_findings last);
    }) is

-- what is written of an input that is known in whole is the text of its survey
pub as_told : (part : Option PartOf) (start : Option (List ℕ)) (summary : Summary) (before after : Option (List ℕ)) → IfSome start (λ input. IsWritten part input summary before after)
    → IfSome start (λ input. (found : List Finding) × (text : List ℕ) × IsToldIn part input found summary.end text × SumsUp found summary × Appends before after text)
as_told part start summary before after written =
    IfSome-map start (λ input. IsWritten part input summary before after)
    (λ input. (found : List Finding) × (text : List ℕ) × IsToldIn part input found summary.end text × SumsUp found summary × Appends before after text)
    (λ input w. (w.found, w.text, w.told, w.sums, w.written)) written

-- what is written, where there is an answer, is the text of the survey
pub all_told : {E : Type 0} (part : Option PartOf) (S : Option (List ℕ) → Type 0) (r : Result Summary E) (start before after : Option (List ℕ))
    → IfOk r (λ summary. (given : Option (List ℕ)) → S given → IfSome given (λ input. IsWritten part input summary before after)) → S start
    → IfOk r (λ summary. IfSome start (λ input. (found : List Finding) × (text : List ℕ) × IsToldIn part input found summary.end text × SumsUp found summary × Appends before after text))
all_told part S (Ok summary) start before after writes read = as_told part start summary before after (writes start read)
all_told part S (Err e) start before after writes read = tt

-- where a reader or a writer had not failed before, and an answer leaves that as it was, it has not failed after
-- r is the answer, `old` and `new` say whether there was a failure before and after, and Q is what else the answer says
pub still_fine : {A E : Type 0} (Q : Type 0) (r : Result A E) (old new : Bool) → OnOk r ((new ≡ old) × Q) → old ≡ false → OnOk r ((new ≡ false) × Q)
still_fine Q (Ok a) old new fine before = (fine.0 ∙ before, fine.1)
still_fine Q (Err e) old new fine before = tt
