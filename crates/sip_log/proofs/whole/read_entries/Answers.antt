use Rattle.std.proofs.Common.{◌≡◌, ◌++◌, ◌∷◌, [], Some, inr, IfSome, List, map, subst, sym, ap, ◌∙◌, arith}
use Rattle.std.proofs.lemmas.List.{map-append}
use Rattle.sip_standard.specs.LogEntry.{Item}
use Rattle.sip_log.specs.Told.{FailsAs, item, IsFaultOf}
use Rattle.sip_log.specs.Reading.{ReaderState, beside_source}
use Rattle.sip_log.proofs.answers.CallerLemmas.{Stands, Stands-gives, Stands-fault, Nexts-counted, Nexts-fine}
use Rattle.sip_log.proofs.whole.read_entries.Goals as goal

-- after one entry more, the list has all entries that were read, in their order
pub loop-entry-preserved : goal.loop-entry-preserved
loop-entry-preserved g c =
    -- l is what stands at the start of the loop's turn; `start` is what the source had left at first, and `old` and `new` are how far it was read
    let l = c.loop-entry in
    let start = g.R.Source.left c.args.source.now in
    let old : ReaderState = beside_source l.progress (g.R.Source.left l.source) (g.R.Source.has_failed l.source) in
    let new : ReaderState = beside_source c.next.new.self (g.R.Source.left c.next.new.source) (g.R.Source.has_failed c.next.new.source) in
    let entry = c.in-Ok-Some.entry in
    let items : List Item = map item l.entries.items in
    let nexts = rw c.in-Ok-Some.field-0-is at c.in-Ok-Some.ensures in
    -- the entry is counted, and the reader goes on after it
    let counted = Nexts-counted start items old new entry nexts in
    let kept = c.in_ok-keep-in-Ok-Some.ensures in
    let more : map item c.keep.new.entries.items ≡ items ++ item entry ∷ [] = ap (map item) kept ∙ map-append item l.entries.items (entry ∷ []) in
    record {
      on = inr counted.on;
      stands = subst (λ is. Stands start is new) (sym more) (Stands-gives start items old new entry l.invariant.stands nexts);
      fine = Nexts-fine start items old new (Some entry) nexts ∙ l.invariant.fine;
      few = omega (arith, counted.up, counted.few);
    }

-- where the next entry cannot be read, this fault is that of the log after the entries before it
pub returns-in-Err-clause-err : goal.returns-in-Err-clause-err
returns-in-Err-clause-err g c =
    let l = c.loop-entry in
    let start = g.R.Source.left c.args.source.now in
    -- old is how far the log was read before the call, and new after it; l is how the loop stands
    let old : ReaderState = beside_source l.progress (g.R.Source.left l.source) (g.R.Source.has_failed l.source) in
    let new : ReaderState = beside_source c.next.new.self (g.R.Source.left c.next.new.source) (g.R.Source.has_failed c.next.new.source) in
    -- the reader stood after these entries, so an error of the call that follows tells the fault of the log after them
    let told = Stands-fault start (map item l.entries.items) old new c.in-Err.error l.invariant.on l.invariant.stands c.in-Err.ensures in
    subst (λ before. FailsAs before new.has_failed (λ fault. IfSome start (λ input. IsFaultOf input fault)) c.in-Err.error) l.invariant.fine told
