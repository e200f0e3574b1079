-- l is how the loop stands, and `start` the input; `old` and `new` are how far the log was read before the next entry and after it.
use Rattle.std.proofs.Common.{◌+◌, ◌∙◌, ◌++◌, ◌∷◌, [], Some, refl, sym, subst, arith}
use Rattle.std.specs.Io.KnownBytes.{Appends}
use Rattle.sip_standard.specs.LogSays.{line_feed}
use Rattle.sip_log.specs.Reading as log
use Rattle.sip_log.specs.Reading.{beside_source}
use Rattle.sip_log.proofs.answers.CallerLemmas.{Opens-stands, Nexts-counted, Nexts-fine}
use Rattle.sip_standard.specs.declared.shown.Shown.TheVariants.{End, Malformed, LogFault}
use Rattle.sip_standard.specs.Showing.{last_text}
use Rattle.sip_verdict.proofs.listings.WalkingLemmas.{told-fault}
use Rattle.sip_verdict.proofs.shows.ShowingLemmas.{Answers, finished, showed_start, showed_end, showed_stops, showed_more, showed_fault}
use Rattle.sip_verdict.proofs.showing.show.Goals as goal

-- after the header no entry was shown and nothing was written
pub loop-entry-init : goal.loop-entry-init
loop-entry-init g c =
    let start = g.R.Source.left c.args.reader.now in
    let left = g.R.Source.left c.open.new.source in
    let before = g.R.Source.has_failed c.args.reader.now in
    let after = g.R.Source.has_failed c.open.new.source in
    let progress = c.in-Ok.progress in
    -- the reader stands after the header
    let opened = Opens-stands start left before after c.in-Ok.field-0-0 progress c.in-Ok.ensures in
    record {
      -- no entry was counted, nothing has failed since, and nothing was written
      count = sym opened.count;
      few = omega (arith, opened.count);
      read = opened.fine;
      written = refl;
      showed = showed_start start (beside_source progress left after) c.in-Ok.field-0-0 (g.W.Sink.written c.args.writer.now) opened.on opened.times opened.stands;
    }

-- where the log ends, all its entries were shown, and the last line tells how many they are
pub returns-in-Ok-None-clause-shown : goal.returns-in-Ok-None-clause-shown
returns-in-Ok-None-clause-shown g c =
    let l = c.loop-entry in
    let start = g.R.Source.left c.args.reader.now in
    let old : log.ReaderState = beside_source l.progress (g.R.Source.left l.reader) (g.R.Source.has_failed l.reader) in
    let new : log.ReaderState = beside_source c.next_into.new.self (g.R.Source.left c.next_into.new.source) (g.R.Source.has_failed c.next_into.new.source) in
    -- what was written before, so far, and with the last line
    let first = g.W.Sink.written c.args.writer.now in
    let before = g.W.Sink.written l.writer in
    let after = g.W.Sink.written c.finish-in-Ok-None.new.writer in
    let nexts = rw c.in-Ok-None.field-0-is at c.in-Ok-None.ensures in
    -- where the last line was written, all that was written is what is shown of the log
    finished c.finish-in-Ok-None.result (End l.count) (Answers start first after) (Appends before after (last_text (End l.count) ++ line_feed ∷ []))
    c.finish-in-Ok-None.ensures.same c.finish-in-Ok-None.ensures.text
    (λ last. showed_end start old first before l.invariant.showed new after l.count l.invariant.count nexts last)

-- where the next entry cannot be read, the last line tells the fault and the entry
pub returns-in-Err-next_into-clause-shown : goal.returns-in-Err-next_into-clause-shown
returns-in-Err-next_into-clause-shown g c =
    let l = c.loop-entry in
    let start = g.R.Source.left c.args.reader.now in
    let old : log.ReaderState = beside_source l.progress (g.R.Source.left l.reader) (g.R.Source.has_failed l.reader) in
    let new : log.ReaderState = beside_source c.next_into.new.self (g.R.Source.left c.next_into.new.source) (g.R.Source.has_failed c.next_into.new.source) in
    -- what was written before, so far, and with the last line
    let first = g.W.Sink.written c.args.writer.now in
    let before = g.W.Sink.written l.writer in
    let after = g.W.Sink.written c.finish-in-Err-next_into.new.writer in
    let reason = c.in_ok-reason-in-Err-next_into.reason in
    -- the last line tells the fault of the log
    finished c.finish-in-Err-next_into.result (LogFault (l.count + 1) reason) (Answers start first after) (Appends before after (last_text (LogFault (l.count + 1) reason) ++ line_feed ∷ []))
    c.finish-in-Err-next_into.ensures.same c.finish-in-Err-next_into.ensures.text
    (told-fault old.has_failed new.has_failed
    (λ reason. Appends before after (last_text (LogFault (l.count + 1) reason) ++ line_feed ∷ []) → Answers start first after (LogFault (l.count + 1) reason))
    c.in-Err-next_into.error reason c.in_ok-reason-in-Err-next_into.ensures
    (showed_stops start old first before l.invariant.showed new after l.count l.invariant.count c.in-Err-next_into.error c.in-Err-next_into.ensures)).1

-- where the message of an entry has a fault, the last line tells the fault and the entry
pub returns-in-Some-clause-shown : goal.returns-in-Some-clause-shown
returns-in-Some-clause-shown g c =
    let l = c.loop-entry in
    let start = g.R.Source.left c.args.reader.now in
    let old : log.ReaderState = beside_source l.progress (g.R.Source.left l.reader) (g.R.Source.has_failed l.reader) in
    let new : log.ReaderState = beside_source c.next_into.new.self (g.R.Source.left c.next_into.new.source) (g.R.Source.has_failed c.next_into.new.source) in
    -- what was written before, so far, and with the last line
    let first = g.W.Sink.written c.args.writer.now in
    let before = g.W.Sink.written l.writer in
    let after = g.W.Sink.written c.finish-in-Some.new.writer in
    let e = c.in-Ok-Some.entry in
    let fault = c.in-Some.fault in
    let nexts = rw c.in-Ok-Some.field-0-is at c.in-Ok-Some.ensures in
    -- the entry was not written, since its message has this fault
    let shows = rw c.in-Some.is at c.in_ok-fault.ensures in
    -- the last line tells the fault of the message
    finished c.finish-in-Some.result (Malformed e.number fault) (Answers start first after) (Appends (g.W.Sink.written c.show_entry.new.writer) after (last_text (Malformed e.number fault) ++ line_feed ∷ []))
    c.finish-in-Some.ensures.same c.finish-in-Some.ensures.text
    (λ last. showed_fault start old first before l.invariant.showed new e nexts after fault shows.0 shows.1
    (subst (λ w. Appends w after (last_text (Malformed e.number fault) ++ line_feed ∷ [])) shows.2 last))

-- after one entry more, what was written is the text of all entries that were read
pub loop-entry-preserved : goal.loop-entry-preserved
loop-entry-preserved g c =
    let l = c.loop-entry in
    let start = g.R.Source.left c.args.reader.now in
    let old : log.ReaderState = beside_source l.progress (g.R.Source.left l.reader) (g.R.Source.has_failed l.reader) in
    let new : log.ReaderState = beside_source c.next_into.new.self (g.R.Source.left c.next_into.new.source) (g.R.Source.has_failed c.next_into.new.source) in
    let e = c.in-Ok-Some.entry in
    let nexts = rw c.in-Ok-Some.field-0-is at c.in-Ok-Some.ensures in
    -- the entry has its canonical form, which was written
    let shows = rw c.in_default.is at c.in_ok-fault.ensures in
    let counted = Nexts-counted start l.invariant.showed.items old new e nexts in
    record {
      count = counted.continues.number_is ∙ sym counted.up;
      few = omega (arith, counted.up, counted.few);
      read = Nexts-fine start l.invariant.showed.items old new (Some e) nexts ∙ l.invariant.read;
      -- no write has failed, and the text is that of one entry more
      written = shows.3 ∙ l.invariant.written;
      showed = showed_more start old (g.W.Sink.written c.args.writer.now) (g.W.Sink.written l.writer) l.invariant.showed new e nexts (g.W.Sink.written c.show_entry.new.writer) shows.0 shows.1 shows.2;
    }
