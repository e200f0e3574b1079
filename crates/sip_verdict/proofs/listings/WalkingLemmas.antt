-- What each answer of the reader adds to the entries that were read.
use Rattle.std.proofs.Common.{◌≡◌, inr, Bool, Ok, Err, Option, Some, None, IfSome, ℕ, List, [], ◌∷◌, ◌++◌, refl, subst}
use Rattle.sip_standard.specs.Times.{Times}
use Rattle.sip_log.specs.declared.entry.Entry.{Entry}
use Rattle.sip_log.specs.declared.log_error.LogError.{LogError}
use Rattle.sip_standard.specs.LogEntry.{Item}
use Rattle.sip_standard.specs.LogSays.{LogEnd, Clean, LogSays}
use Rattle.sip_log.specs.Told.{FailsAs, item}
use Rattle.sip_log.specs.Reading.{Nexts}
use Rattle.sip_log.proofs.answers.ReadingLemmas.{FailsAs-map}
use Rattle.sip_log.proofs.answers.CallerLemmas.{StopsAt, Stands-gives, Stands-ends, Stands-stops, Stands-log, Nexts-counted, Nexts-times}
use Rattle.sip_standard.specs.declared.log_reason.LogReason.{LogReason}
use Rattle.sip_verdict.specs.declared.reading.Next.TheVariants.{Fault}
use Rattle.sip_verdict.specs.inner.Judging.{told_as}
use Rattle.sip_verdict.specs.inner.Walking.{HasRead, WalkGives}
use Rattle.sip_log.specs.declared.log_error.LogError.TheVariants as errors
use Rattle.sip_log.specs.Reading as log
use Rattle.sip_standard.specs.declared.log_reason.LogReason.TheVariants as reasons

-- an error that is told as the reason of a fault is a fault of the input, and no read failed
-- the first five errors are faults of a log; the others are told as no reason, but as why there is no answer
pub told-fault : (before after : Bool) (P : LogReason → Type 0) (e : LogError) (reason : LogReason) → Ok reason ≡ told_as e → FailsAs before after (λ fault. P fault) e → (after ≡ before) × P reason
told-fault before after P errors.Header reason is fails = let same : reasons.Header ≡ reason = cc in (fails.0, subst P same fails.1)
told-fault before after P errors.EntryLine reason is fails = let same : reasons.EntryLine ≡ reason = cc in (fails.0, subst P same fails.1)
told-fault before after P errors.Truncated reason is fails = let same : reasons.Truncated ≡ reason = cc in (fails.0, subst P same fails.1)
told-fault before after P errors.Order reason is fails = let same : reasons.Order ≡ reason = cc in (fails.0, subst P same fails.1)
told-fault before after P errors.Limit reason is fails = let same : reasons.Limit ≡ reason = cc in (fails.0, subst P same fails.1)
told-fault before after P errors.Io reason is fails = cc
told-fault before after P errors.Memory reason is fails = cc
told-fault before after P errors.Failed reason is fails = cc

-- What follows is of a reader: `now` is its state after the header and these items, by the times of the header, and `new` its state after one call more.
module _ (start : Option (List ℕ)) (times : Times) (items : List Item) (now new : log.ReaderState) (read : HasRead start times items now) where
  -- where the reader gives an entry, the entry was read after the others
  pub gives_entry : (e : Entry) → Nexts now new (Ok (Some e)) → HasRead start times (items ++ item e ∷ []) new
  gives_entry e nexts = record {
    on = (Nexts-counted start items now new e nexts).on;
    times_are = Nexts-times now new (Ok (Some e)) times read.on read.times_are nexts;
    stands = Stands-gives start items now new e read.stands nexts;
  }

  -- where the reader gives the end of the log, the log of the input is just the items that were read
  pub gives_end : Nexts now new (Ok None) → IfSome start (λ input. LogSays input times items Clean)
  gives_end nexts =
      subst (λ t. IfSome start (λ input. IfSome t (λ p. LogSays input p items Clean))) (Nexts-times now new (Ok None) times read.on read.times_are nexts)
      (Stands-ends start items now new (inr read.on) read.stands nexts)

  -- where the reader gives an error that is told as the reason of a fault, no read failed, and the log of the input stops at this fault after the items
  pub gives_fault : (e : LogError) (reason : LogReason) → Ok reason ≡ told_as e → Nexts now new (Err e) → (new.has_failed ≡ now.has_failed) × WalkGives start times items new (Fault reason)
  gives_fault e reason is nexts =
      told-fault now.has_failed new.has_failed (λ r. WalkGives start times items new (Fault r)) e reason is (FailsAs-map now.has_failed new.has_failed
      (λ fault. IfSome start (λ input. StopsAt start items now new input new.times fault)) (λ fault. WalkGives start times items new (Fault fault)) e
      (λ fault stops. (fault, refl, subst (λ t. IfSome start (λ input. StopsAt start items now new input t fault)) (Nexts-times now new (Err e) times read.on read.times_are nexts) stops))
      (Stands-stops start items now new e (inr read.on) read.stands nexts))

-- the items that were read are the first ones of the log of the input
pub read_log : (start : Option (List ℕ)) (times : Times) (items : List Item) (now : log.ReaderState) → HasRead start times items now
    → IfSome start (λ input. (more : List Item) × (end : LogEnd) × LogSays input times (items ++ more) end)
read_log start times items now read =
    subst (λ t. IfSome start (λ input. IfSome t (λ p. (more : List Item) × (end : LogEnd) × LogSays input p (items ++ more) end))) read.times_are (Stands-log start items now read.on read.stands)
