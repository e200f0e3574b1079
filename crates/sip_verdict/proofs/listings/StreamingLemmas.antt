-- What each answer of the reader adds to the entries that were read, where the entries are counted anew before each answer.
use Rattle.std.proofs.Common.{◌≡◌, ◌≤◌, ◌+◌, Bool, Ok, Err, Result, Option, Some, None, IfSome, ℕ, List, [], ◌∷◌, ◌++◌, length, refl, sym, ap, ◌∙◌, subst}
use Rattle.sip_standard.specs.Times.{Times, last_moment}
use Rattle.sip_standard.specs.LogEntry.{Item}
use Rattle.sip_standard.specs.LogSays.{Stops}
use Rattle.sip_standard.specs.declared.log_reason.LogReason.{LogReason}
use Rattle.sip_log.specs.declared.entry.Entry.{Entry}
use Rattle.sip_log.specs.declared.log_error.LogError.{LogError}
use Rattle.sip_log.specs.Reading.{ProgressState, ReaderState, beside_source, entries, Nexts, NextsAt}
use Rattle.sip_log.specs.Stream.{StreamSays}
use Rattle.sip_log.proofs.answers.ReadingLemmas.{FailsAs-map}
use Rattle.sip_log.proofs.answers.StreamLemmas.{HasStreamed, streams_stop}
use Rattle.sip_verdict.specs.declared.reading.Next.TheVariants as next
use Rattle.sip_verdict.specs.inner.Judging.{told_as}
use Rattle.sip_verdict.specs.inner.ForgettingLogs.{StreamGives, StreamsOn}
use Rattle.sip_verdict.proofs.listings.WalkingLemmas.{told-fault}

-- the place of a reader in its log, as it is after the entries are counted anew
abbrev pub anew : ProgressState → ProgressState
anew p = record { stage = p.stage; held = p.held; format = p.format; times = p.times; count = 0; last = p.last }

-- what was read up to a place was read up to the same place after the entries are counted anew
pub counted_anew : (old mid : ProgressState) (left : Option (List ℕ)) (has_failed : Bool) → mid ≡ anew old → (start : Option (List ℕ)) (p : Times) (items : List Item)
    → HasStreamed start p items (beside_source old left has_failed) → HasStreamed start p items (beside_source mid left has_failed) × ((beside_source mid left has_failed).count ≡ 0)
counted_anew old mid left has_failed is start p items read = (
  subst (λ q. HasStreamed start p items (beside_source q left has_failed)) (sym is) (record { on = read.on; times_are = read.times_are; last = read.last; starts = read.starts }),
  ap (λ (q : ProgressState). q.count) is,
)

-- where the reader gives an entry, and the entry gets the number after `count`, the log goes on with that entry
pub streams_on : (count : ℕ) (old mid new : ProgressState) (left : Option (List ℕ)) (before : Bool) (rest : Option (List ℕ)) (after : Bool) → mid ≡ anew old → old.stage ≡ entries
    → (e numbered : Entry) → numbered.number ≡ count + 1 → numbered.moment ≡ e.moment → numbered.bytes ≡ e.bytes → Nexts (beside_source mid left before) (beside_source new rest after) (Ok (Some e))
    → StreamsOn count old new (next.Entry numbered)
streams_on count old mid new left before rest after is on e numbered number moment bytes nexts =
    -- `steps` is what the answer says of a reader that reads entries, and `continues` what it says of the entry
    let steps = subst (λ s. NextsAt s (beside_source mid left before) (beside_source new rest after) (Ok (Some e))) (ap (λ (q : ProgressState). q.stage) is ∙ on) nexts in
    let continues = steps.moves.1 in (
      steps.moves.0,
      record {
        -- the entry has the next number, keeps order and is within the limits; 65535 is the most bytes that a message in a log may have
        number_is = number;
        order = subst (λ m. old.last ≤ m) (sym moment) (subst (λ m. m ≤ e.moment) (ap (λ (q : ProgressState). q.last) is) continues.order);
        moment_high = subst (λ m. m ≤ last_moment) (sym moment) continues.moment_high;
        length_high = subst (λ b. length b.items ≤ 65535) (sym bytes) continues.length_high;
      },
      steps.moves.3 ∙ sym moment,
    )

-- where the reader gives an error that is told as the reason of a fault, no read failed, and the log stops at this fault after the items
pub stream_fault : (start : Option (List ℕ)) (p : Times) (items : List Item) (old new : ReaderState) → HasStreamed start p items old → old.count ≡ 0 → (e : LogError) (reason : LogReason) → Ok reason ≡ told_as e → Nexts old new (Err e)
    → (new.has_failed ≡ old.has_failed) × StreamGives start p items new (next.Fault reason)
stream_fault start p items old new has none e reason is nexts =
    told-fault old.has_failed new.has_failed (λ r. StreamGives start p items new (next.Fault r)) e reason is (FailsAs-map old.has_failed new.has_failed
    (λ fault. IfSome start (λ input. StreamSays input p items (Stops fault))) (λ fault. StreamGives start p items new (next.Fault fault)) e
    (λ fault stops. (fault, refl, stops)) (streams_stop start p items old new has none e nexts))
