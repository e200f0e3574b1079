-- What a survey that forgets writes of its findings, line after line, is the survey's text at the end of the log.
use Rattle.std.proofs.Common.{◌≡◌, ◌≤◌, ◌+◌, ◌∙◌, inl, inr, ℕ, Option, Some, None, IfSome, Result, Ok, Err, IfOk, List, [], ◌∷◌, ◌++◌, length, refl, sym, ap, subst, arith, append_assoc}
use Rattle.std.proofs.lemmas.List.{append-nil}
use Rattle.std.specs.Io.KnownBytes.{Appends}
use Rattle.std.proofs.KnownBytes.{Appends-trans}
use Rattle.sip_standard.specs.Key.{KeyParts}
use Rattle.sip_standard.specs.Times.{Times}
use Rattle.sip_standard.specs.LogEntry.{Item}
use Rattle.sip_standard.specs.LogSays.{LogEnd, Clean, Stops}
use Rattle.sip_standard.specs.ListingOf.{trouble_of}
use Rattle.sip_standard.specs.Observation.{Observation}
use Rattle.sip_standard.specs.VerdictOf.{keys_in, IsVerdictOf, Sees}
use Rattle.sip_standard.specs.declared.log_reason.LogReason.{LogReason}
use Rattle.sip_standard.specs.declared.log_reason.LogReason.TheVariants.{Header, Limit}
use Rattle.sip_standard.specs.declared.verdict.Verdict.{Verdict}
use Rattle.sip_part.specs.Part.{PartOf}
use Rattle.sip_log.specs.Reading as log
use Rattle.sip_log.specs.Stream.{StreamSays}
use Rattle.sip_log.specs.Told.{item}
use Rattle.sip_log.specs.declared.entry.Entry.{Entry}
use Rattle.sip_log.proofs.answers.ReadingLemmas.{IfSome-map}
use Rattle.sip_log.proofs.answers.StreamLemmas.{HasStreamed, streamed_log}
use Rattle.sip_verdict.specs.declared.finding.Finding.{Finding}
use Rattle.sip_verdict.specs.declared.horizon.Horizon.{Horizon}
use Rattle.sip_verdict.specs.declared.summary.Summary.{Summary}
use Rattle.sip_verdict.specs.declared.survey_end.SurveyEnd.{SurveyEnd}
use Rattle.sip_verdict.specs.declared.survey_end.SurveyEnd.TheVariants as ended
use Rattle.sip_verdict.specs.declared.surveying.Counts.{Counts}
use Rattle.sip_verdict.specs.ForgettingText.{IsLeftOf, IsToldAfter, IsToldForgetting}
use Rattle.sip_verdict.specs.Room.{HasRoom}
use Rattle.sip_verdict.specs.SurveyOf.{AreFoundAt, IsSurveyAfter}
use Rattle.sip_verdict.specs.SurveyParts.{IsTaken}
use Rattle.sip_verdict.specs.SurveyText.{SumsUp, IsTextOf, end_text}
use Rattle.sip_verdict.specs.Surveys.{Surveying, SurveysFor}
use Rattle.sip_verdict.specs.inner.ForgettingLogs.{IsHorizonOf, IsWrittenForgetting, RemembersRead}
use Rattle.sip_verdict.specs.inner.SurveyingLogs.{AreLinesBy, HasWritten}
use Rattle.sip_verdict.proofs.keys.Keys.{newest_moment-push}
use Rattle.sip_verdict.proofs.surveys.written.Gathering.{header_lacks}
use Rattle.sip_verdict.proofs.surveys.written.Horizons.{horizon_push}
use Rattle.sip_verdict.proofs.surveys.written.Writing.{found_text}

-- a survey that has read the header has found and written nothing yet
pub remembers_none : (age : ℕ) (part : Option PartOf) (p : Times) (s : Surveying) (start : Option (List ℕ)) (now : log.ReaderState) → s.tables.times ≡ p → SurveysFor s [] → HasStreamed start p [] now
    → RemembersRead age part p s [] [] start now
remembers_none age part p s start now times stands read =
    record { items = []; es = []; times = times; follows = stands; read = read; front = λ rest close later end more told. told }

-- What follows is of a survey, `s`, that has read some items and may have forgotten transactions whose last entry came at least `age` milliseconds ago:
-- `found` is what it has found, `lines` is what it has written, and `now` is the state of its reader.
module _ (age : ℕ) (part : Option PartOf) (p : Times) (start : Option (List ℕ)) (now : log.ReaderState) (s : Surveying) (found : List Finding) (lines : List ℕ) (so : RemembersRead age part p s found lines start now) where
  -- where transactions may have been forgotten, one more item was read and surveyed, and its lines were written, the survey has read that item too
  -- m is the horizon before; f and a are the survey and the horizon after what was due was forgotten, and k and b those after the entry
  pub remembers_on : (m : Horizon) → IsHorizonOf m so.es → m.age ≡ age
      → (i : Item) (cut : Entry) (new : log.ReaderState) → HasStreamed start p (so.items ++ i ∷ []) new → IsTaken part i (item cut)
      → (f k : Surveying) (a b : Horizon) → f.tables.times ≡ s.tables.times → k.tables.times ≡ f.tables.times → f.moment ≤ k.moment
      → ((es : List (Observation KeyParts)) → SurveysFor s es → IsHorizonOf m es
      → (left : List (Observation KeyParts)) × IsLeftOf m.age s.tables.times es left × SurveysFor f left × IsHorizonOf a left)
      -- what was found at the entry, and the lines that were written
      → HasRoom f.number (length f.tables.keys) → (items : List Finding)
      → ((es : List (Observation KeyParts)) → SurveysFor f es → (seen : Observation KeyParts) × (here : List Finding) × Sees es (item cut) seen
      × AreFoundAt f.tables.times es seen here × (items ≡ here) × SurveysFor k (es ++ seen ∷ []))
      → (text : List ℕ) → AreLinesBy k items text
      → ((es : List (Observation KeyParts)) → IsHorizonOf a es → SurveysFor k es → IsHorizonOf b es)
      → (on : RemembersRead age part p k (found ++ items) (lines ++ text) start new) × IsHorizonOf b on.es
  remembers_on m horizon_is aged i cut new more is_taken f k a b f_times k_times moves forgets room items says text are_lines notes =
      -- what is left after the forgetting, and what is seen and found at the entry
      let (left, left_is, f_stands, f_horizon) = forgets so.es so.follows horizon_is in
      let (seen, here, observed, are, same, k_stands) = says left f_stands in
      -- what is left, the findings at the entry, their lines and the room are as the definition asks, by the times and the age of the whole survey
      let is_left : IsLeftOf age p so.es left = subst (λ t. IsLeftOf age t so.es left) so.times (subst (λ n. IsLeftOf n s.tables.times so.es left) aged left_is) in
      let found_here : AreFoundAt p left seen items = subst (AreFoundAt p left seen) (sym same) (subst (λ t. AreFoundAt t left seen here) (f_times ∙ so.times) are) in
      let text_is : IsTextOf (left ++ seen ∷ []) items text = found_text k p left seen k_stands items text (λ g has. (found_here.1 g).0 has) are_lines in
      let has_room : HasRoom (length left) (length (keys_in left)) = subst (λ keys. HasRoom (length left) (length keys)) f_stands.follows.tracks.keys (subst (λ n. HasRoom n (length f.tables.keys)) f_stands.number room) in
      -- f_now and k_now are the moments at which the survey stands before the entry and after it
      let f_now = f_stands.moment in
      let k_now = k_stands.moment in
      let newest = newest_moment-push left seen in (
        -- the survey has read the item, and its horizon goes on
        record {
          items = so.items ++ i ∷ [];
          es = left ++ seen ∷ [];
          times = k_times ∙ f_times ∙ so.times;
          follows = k_stands;
          read = more;
          -- with what comes later the text is that of the whole
          front = λ rest close later end further told.
              -- what is found and written later comes after what is found and written here (`whole`), which is then put into brackets with what came before
              let whole : IsToldAfter age part p [] (so.items ++ i ∷ rest) close (found ++ (items ++ later)) end (lines ++ (text ++ further)) =
              so.front (i ∷ rest) close (items ++ later) end (text ++ further)
              (left, is_left, inr (has_room, (item cut, seen, items, later, text, further, is_taken, observed, found_here, text_is, refl, refl, told))) in
              subst (λ xs. IsToldAfter age part p [] ((so.items ++ i ∷ []) ++ rest) close ((found ++ items) ++ later) end xs) (sym (append_assoc lines text further))
              (subst (λ fs. IsToldAfter age part p [] ((so.items ++ i ∷ []) ++ rest) close fs end (lines ++ (text ++ further))) (sym (append_assoc found items later))
              (subst (λ is. IsToldAfter age part p [] is close (found ++ (items ++ later)) end (lines ++ (text ++ further))) (sym (append_assoc so.items (i ∷ []) rest)) whole));
        },
        notes (left ++ seen ∷ []) (horizon_push a left seen f_horizon (omega (arith, f_now, k_now, newest, moves))) k_stands,
      )

  -- What follows is of the end of the survey: `counts` are what its lines count, `summary` is what it tells last, and `before`, `mid` and `after` are what
  -- the sink has before its lines, after them, and after the last line.
  module _ (counts : Counts) (summary : Summary) (before mid after : Option (List ℕ)) (told : HasWritten found lines counts before mid)
      (findings : summary.findings ≡ counts.findings) (undecided : summary.undecided ≡ counts.undecided) where
    -- where the lines tell the findings of the whole input, and the last line is written, the survey of the input is written and summed up
    all_written : (end : SurveyEnd) → summary.end ≡ end → Appends mid after (end_text end counts.findings)
        → IfSome start (λ input. (items : List Item) × (close : LogEnd) × StreamSays input p items close × IsToldAfter age part p [] items close found end lines)
        → IfSome start (λ input. IsWrittenForgetting age part input summary before after)
    all_written end is last whole =
        let text = lines ++ end_text end (length found) in
        IfSome-map start (λ input. (items : List Item) × (close : LogEnd) × StreamSays input p items close × IsToldAfter age part p [] items close found end lines)
        (λ input. IsWrittenForgetting age part input summary before after)
        -- the findings have this text, and the summary sums them up
        (λ input w. record {
          found = found;
          text = text;
          told = subst (λ e. IsToldForgetting age part input found e text) (sym is) (inr (p, w.0, w.1, lines, w.2, w.3, refl));
          sums = record { findings = findings ∙ told.findings; undecided = undecided ∙ told.undecided };
          written = Appends-trans before mid after lines (end_text end (length found)) told.written (subst (λ n. Appends mid after (end_text end n)) told.findings last);
        }) whole

    -- where nothing is found or written after the entries that were read, what was found and written so far is all of the whole log
    at_end : (rest : List Item) (close : LogEnd) (end : SurveyEnd) → IsToldAfter age part p so.es rest close [] end [] → IsToldAfter age part p [] (so.items ++ rest) close found end lines
    at_end rest close end left =
        subst (IsToldAfter age part p [] (so.items ++ rest) close found end) (append-nil lines) (subst (λ fs. IsToldAfter age part p [] (so.items ++ rest) close fs end (lines ++ [])) (append-nil found) (so.front rest close [] end [] left))

    -- where the log ends after the items that were read, and the last line is written, the survey is written and summed up
    ends : (close : LogEnd) (end : SurveyEnd) → summary.end ≡ end → Appends mid after (end_text end counts.findings) → IsSurveyAfter p so.es [] close [] end
        → IfSome start (λ input. StreamSays input p so.items close) → IfSome start (λ input. IsWrittenForgetting age part input summary before after)
    ends close end is last left logs =
        all_written end is last (IfSome-map start (λ input. StreamSays input p so.items close)
        (λ input. (items : List Item) × (close : LogEnd) × StreamSays input p items close × IsToldAfter age part p [] items close found end lines)
        (λ input says. (so.items, close, says, subst (λ is. IsToldAfter age part p [] is close found end lines) (append-nil so.items) (at_end [] close end (left, refl)))) logs)

    -- the survey has no room for the entry that comes next
    -- m is the horizon before; f and a are the survey and the horizon after what was due was forgotten
    pub remembers_full : (m : Horizon) → IsHorizonOf m so.es → m.age ≡ age → (i : Item) (new : log.ReaderState) → HasStreamed start p (so.items ++ i ∷ []) new → (f : Surveying) (a : Horizon)
        → ((es : List (Observation KeyParts)) → SurveysFor s es → IsHorizonOf m es → (left : List (Observation KeyParts)) × IsLeftOf m.age s.tables.times es left × SurveysFor f left × IsHorizonOf a left)
        → ¬ (HasRoom f.number (length f.tables.keys)) → (number : ℕ) → number ≡ f.number + 1 → summary.end ≡ ended.LogFault number Limit → Appends mid after (end_text (ended.LogFault number Limit) counts.findings)
        → IfSome start (λ input. IsWrittenForgetting age part input summary before after)
    remembers_full m horizon_is aged i new more f a forgets no_room number next is last =
        -- what is left after the forgetting fills the room
        let (left, left_is, f_stands, f_horizon) = forgets so.es so.follows horizon_is in
        let is_left : IsLeftOf age p so.es left = subst (λ t. IsLeftOf age t so.es left) so.times (subst (λ n. IsLeftOf n s.tables.times so.es left) aged left_is) in
        let full : ¬ (HasRoom (length left) (length (keys_in left))) =
        subst (λ keys. ¬ (HasRoom (length left) (length keys))) f_stands.follows.tracks.keys (subst (λ n. ¬ (HasRoom n (length f.tables.keys))) f_stands.number no_room) in
        let at : ended.LogFault number Limit ≡ ended.LogFault (length left + 1) Limit = ap (λ n. ended.LogFault n Limit) (next ∙ ap (λ n. n + 1) f_stands.number) in
        -- the survey ends with the fault Limit at this number
        all_written (ended.LogFault number Limit) is last (IfSome-map start (λ input. (rest : List Item) × (close : LogEnd) × StreamSays input p ((so.items ++ i ∷ []) ++ rest) close)
        (λ input. (items : List Item) × (close : LogEnd) × StreamSays input p items close × IsToldAfter age part p [] items close found (ended.LogFault number Limit) lines)
        (λ input w. (
          so.items ++ (i ∷ w.0),
          w.1,
          subst (λ is. StreamSays input p is w.1) (append_assoc so.items (i ∷ []) w.0) w.2,
          at_end (i ∷ w.0) w.1 (ended.LogFault number Limit) (left, is_left, inl (full, refl, at, refl)),
        )) (streamed_log start p (so.items ++ i ∷ []) new more))

    -- where the log is read to its end, the survey is written and summed up
    pub remembers_end : summary.end ≡ ended.Clean (length so.es) (length (keys_in so.es)) → Appends mid after (end_text (ended.Clean (length so.es) (length (keys_in so.es))) counts.findings)
        → IfSome start (λ input. StreamSays input p so.items Clean) → IfSome start (λ input. IsWrittenForgetting age part input summary before after)
    remembers_end is last logs = ends Clean (ended.Clean (length so.es) (length (keys_in so.es))) is last (refl, refl) logs

    -- where the log cannot be read on, the survey is written and summed up, and ends with the fault
    pub remembers_stop : (count : ℕ) (reason : LogReason) → count ≡ s.number → summary.end ≡ ended.LogFault (count + 1) reason → Appends mid after (end_text (ended.LogFault (count + 1) reason) counts.findings)
        → (fault : LogReason) × (reason ≡ fault) × IfSome start (λ input. StreamSays input p so.items (Stops fault)) → IfSome start (λ input. IsWrittenForgetting age part input summary before after)
    remembers_stop count reason counted is last (fault, same, logs) =
        ends (Stops fault) (ended.LogFault (count + 1) reason) is last
        (refl, ap (λ n. ended.LogFault (n + 1) reason) (counted ∙ so.follows.number) ∙ ap (ended.LogFault (length so.es + 1)) same) logs

-- where the header cannot be read, the last line is the survey, which finds nothing and ends with the fault of the header
pub remembers_header : (age : ℕ) (part : Option PartOf) (start : Option (List ℕ)) (v : Verdict) (counts : Counts) (summary : Summary) (before after : Option (List ℕ)) → IfSome start (λ input. IsVerdictOf input v) → trouble_of v ≡ Some 0
    → counts.findings ≡ 0 → counts.undecided ≡ 0 → summary.end ≡ ended.LogFault 0 Header → summary.findings ≡ counts.findings → summary.undecided ≡ counts.undecided
    → Appends before after (end_text (ended.LogFault 0 Header) counts.findings) → IfSome start (λ input. IsWrittenForgetting age part input summary before after)
remembers_header age part start v counts summary before after is none no_findings no_undecided end findings undecided last =
    IfSome-map start (λ input. IsVerdictOf input v) (λ input. IsWrittenForgetting age part input summary before after)
    -- nothing is found, and the text is the last line
    (λ input verdict. record {
      found = [];
      text = end_text summary.end 0;
      told = inl (header_lacks input v verdict none, refl, end, refl);
      sums = record { findings = findings ∙ no_findings; undecided = undecided ∙ no_undecided };
      written = subst (λ e. Appends before after (end_text e 0)) (sym end) (subst (λ n. Appends before after (end_text (ended.LogFault 0 Header) n)) no_findings last);
    }) is

-- what is written of an input that is known in whole is the text of a survey that may forget
pub told_forgetting : (age : ℕ) (part : Option PartOf) (start : Option (List ℕ)) (summary : Summary) (before after : Option (List ℕ)) → IfSome start (λ input. IsWrittenForgetting age part input summary before after)
    → IfSome start (λ input. (found : List Finding) × (text : List ℕ) × IsToldForgetting age part input found summary.end text × SumsUp found summary × Appends before after text)
told_forgetting age part start summary before after written =
    IfSome-map start (λ input. IsWrittenForgetting age part input summary before after)
    (λ input. (found : List Finding) × (text : List ℕ) × IsToldForgetting age part input found summary.end text × SumsUp found summary × Appends before after text)
    (λ input w. (w.found, w.text, w.told, w.sums, w.written)) written

-- what is written, where there is an answer, is the text of a survey that may forget
pub all_told_forgetting : {E : Type 0} (age : ℕ) (part : Option PartOf) (S : Option (List ℕ) → Type 0) (r : Result Summary E) (start before after : Option (List ℕ))
    → IfOk r (λ summary. (given : Option (List ℕ)) → S given → IfSome given (λ input. IsWrittenForgetting age part input summary before after)) → S start
    → IfOk r (λ summary. IfSome start (λ input. (found : List Finding) × (text : List ℕ) × IsToldForgetting age part input found summary.end text × SumsUp found summary × Appends before after text))
all_told_forgetting age part S (Ok summary) start before after writes read = told_forgetting age part start summary before after (writes start read)
all_told_forgetting age part S (Err e) start before after writes read = tt
