-- l is how the loop stands, and `start` the input; `old` and `new` are how far the log was read before the next entry and after it, and `moves` says so.
use Rattle.std.proofs.Common.{◌≡◌, ◌≢◌, ◌+◌, ◌∙◌, Option, sym, ap, subst, arith}
use Rattle.std.specs.Prelude.{IfNone}
use Rattle.sip_standard.specs.declared.verdict.Verdict.{Verdict}
use Rattle.sip_verdict.specs.inner.Walking.{JudgesOn, MovesOn, WalkGives}
use Rattle.sip_log.specs.Reading as log
use Rattle.sip_log.specs.Reading.{beside_source}
use Rattle.sip_verdict.specs.declared.walking.Aim.TheVariants as aim
use Rattle.sip_verdict.specs.inner.TablesTracking.{MayTake}
use Rattle.sip_verdict.proofs.tables.JudgeTables.{first_may, next_may}
use Rattle.sip_verdict.proofs.listings.WalksLemmas.{walks_start, walks_stop, none_listed, walks_on, walks_end, walks_fault, walks_trouble, walks_listed}
use Rattle.sip_verdict.proofs.walking.walk.Goals as goal

-- the log has no header that can be read
pub returns-in-Err-clause-answer : goal.returns-in-Err-clause-answer
returns-in-Err-clause-answer g c =
    let fault = rw c.in-Err.is at c.in_ok-opened.ensures.fault in
    walks_stop c.args.aim (g.R.Source.left c.args.reader.now) c.in-Err.verdict 0 fault.1 (λ n same. omega arith) fault.0

-- entry 0 is asked for, which no log has
pub returns-then-is_entry-clause-answer : goal.returns-then-is_entry-clause-answer
returns-then-is_entry-clause-answer g c =
    let start = g.R.Source.left c.args.reader.now in
    let opened = c.in-Ok.opened in
    let now : log.ReaderState = beside_source opened.1 (g.R.Source.left c.read_header.new.reader) (g.R.Source.has_failed c.read_header.new.reader) in
    none_listed c.args.aim start opened.0 now (rw c.in-Ok.is at c.in_ok-opened.ensures.reads) (c.is_entry.ensures.is c.if-is_entry.true)

-- after the header the walk has read no entry and judged nothing
pub loop-standing-init : goal.loop-standing-init
loop-standing-init g c =
    let start = g.R.Source.left c.args.reader.now in
    let opened = c.in-Ok.opened in
    let now : log.ReaderState = beside_source opened.1 (g.R.Source.left c.read_header.new.reader) (g.R.Source.has_failed c.read_header.new.reader) in
    let reads = rw c.in-Ok.is at c.in_ok-opened.ensures.reads in
    record {
      -- no read has failed since, and the reader stands at the entries
      fine = c.in_ok-opened.ensures.ok;
      on = reads.on;
      counts = sym (rw c.in-Ok.is at c.in_ok-opened.ensures.first).0;
      -- no entry was read, and the aim is not entry 0
      few = omega arith;
      left = omega arith;
      before = λ n is.
          let apart : n ≢ 0 = λ zero. c.is_entry.ensures.is_not c.if-is_entry.false (is ∙ ap aim.Entry zero) in
          omega (arith, apart);
      -- the first entry may come, and the walk has walked over none
      may = first_may c.new-standing.result.book c.new-standing.result.tables opened.0 opened.1.last c.new-standing.ensures.book c.new-standing.ensures.tables;
      walks = walks_start c.args.aim start now opened.0 c.new-standing.result.book c.new-standing.result.tables c.new-standing.ensures.book c.new-standing.ensures.tables reads;
    }

-- the entry may come next
pub list-requires-clause-may : goal.list-requires-clause-may
list-requires-clause-may g c =
    let l = c.loop-standing in
    let e = c.in-Entry.entry in
    let moves = rw c.in-Entry.is at c.in_ok-entry.ensures.moves in
    next_may l.standing.book l.standing.tables l.count l.progress.last e.number e.moment (moves.1.number_is ∙ ap (λ n. n + 1) (sym l.invariant.counts)) moves.1.order l.invariant.may

-- the entry may come next
pub judge_on-requires-clause-may : goal.judge_on-requires-clause-may
judge_on-requires-clause-may g c =
    let l = c.loop-standing in
    let e = c.in-Entry.entry in
    let moves = rw c.in-Entry.is at c.in_ok-entry.ensures.moves in
    next_may l.standing.book l.standing.tables l.count l.progress.last e.number e.moment (moves.1.number_is ∙ ap (λ n. n + 1) (sym l.invariant.counts)) moves.1.order l.invariant.may

-- the entry is the aim, and what is listed of it is the answer
pub returns-then-is_entry-2-clause-answer : goal.returns-then-is_entry-2-clause-answer
returns-then-is_entry-2-clause-answer g c =
    -- l is what stands at the start of the loop's turn; `start` is what the source had left at first
    let l = c.loop-standing in
    let start = g.R.Source.left c.args.reader.now in
    -- `old` and `new` are how far the log was read, before the entry and after it
    let old : log.ReaderState = beside_source l.progress (g.R.Source.left l.reader) (g.R.Source.has_failed l.reader) in
    let new : log.ReaderState = beside_source c.read_next.new.progress (g.R.Source.left c.read_next.new.reader) (g.R.Source.has_failed c.read_next.new.reader) in
    let walks = l.invariant.walks in
    let moves = rw c.in-Entry.is at c.in_ok-entry.ensures.moves in
    -- the entry's number is one more than the count so far, which is the aim, and the listing is that of its keys
    walks_listed c.args.aim start old l.count l.left l.standing.book l.standing.tables walks c.in-Entry.entry (moves.1.number_is ∙ ap (λ n. n + 1) (sym l.invariant.counts)) moves.1.order new
    ((rw c.in-Entry.is at c.in_ok-entry.ensures.gives) start l.standing.tables.times walks.items walks.read) c.in_ok-list-in-Entry.field-0 (c.is_entry-in-Entry.ensures.is c.if-is_entry-2.true) c.in_ok-list-in-Entry.ensures.listed

-- where the judge gives a verdict at the entry, this verdict is the walk's answer
pub returns-in-Some-clause-answer : goal.returns-in-Some-clause-answer
returns-in-Some-clause-answer g c =
    let l = c.loop-standing in
    let start = g.R.Source.left c.args.reader.now in
    let old : log.ReaderState = beside_source l.progress (g.R.Source.left l.reader) (g.R.Source.has_failed l.reader) in
    let new : log.ReaderState = beside_source c.read_next.new.progress (g.R.Source.left c.read_next.new.reader) (g.R.Source.has_failed c.read_next.new.reader) in
    -- the walk so far: what was read, and the judge before the entry and after it
    let walks = l.invariant.walks in
    let moves = rw c.in-Entry.is at c.in_ok-entry.ensures.moves in
    let now = c.judge_on.new in
    walks_trouble c.args.aim start old l.count l.left l.standing.book l.standing.tables walks c.in-Entry.entry (moves.1.number_is ∙ ap (λ n. n + 1) (sym l.invariant.counts)) moves.1.order new
    ((rw c.in-Entry.is at c.in_ok-entry.ensures.gives) start l.standing.tables.times walks.items walks.read) now.left now.standing.book now.standing.tables c.in-Some.verdict
    (rw c.in-Some.is at c.in_ok-verdict-in-Entry.ensures.judged) c.in_ok-verdict-in-Entry.ensures.times l.invariant.before

-- after an entry without a verdict the walk has judged one entry more, and its aim is still ahead
pub loop-standing-preserved : goal.loop-standing-preserved
loop-standing-preserved g c =
    let l = c.loop-standing in
    let start = g.R.Source.left c.args.reader.now in
    let old : log.ReaderState = beside_source l.progress (g.R.Source.left l.reader) (g.R.Source.has_failed l.reader) in
    let new : log.ReaderState = beside_source c.read_next.new.progress (g.R.Source.left c.read_next.new.reader) (g.R.Source.has_failed c.read_next.new.reader) in
    -- the entry has the next number, which is not that of the aim
    let walks = l.invariant.walks in
    let e = c.in-Entry.entry in
    let moves = subst (MovesOn l.progress c.read_next.new.progress) c.in-Entry.is c.in_ok-entry.ensures.moves in
    let next : e.number ≡ l.count + 1 = moves.1.number_is ∙ ap (λ n. n + 1) (sym l.invariant.counts) in
    let now = c.judge_on.new in
    record {
      -- no read has failed, and as many entries were counted as were read
      fine = c.in_ok-entry.ensures.ok ∙ l.invariant.fine;
      on = moves.0;
      counts = sym moves.2;
      -- one entry more was judged, and the next may be taken
      few = (let low = moves.4 in let count = moves.1.number_is in omega (arith, low, count));
      left = c.in_ok-verdict-in-Entry.ensures.left;
      before = λ n is.
          let low = l.invariant.before n is in
          let apart : e.number ≢ n = λ same. c.is_entry-in-Entry.ensures.is_not c.if-is_entry-2.false (is ∙ ap aim.Entry (sym same)) in
          omega (arith, low, apart, next);
      -- the walk goes on over the entry
      may = subst (λ m. MayTake now.standing.book now.standing.tables (e.number + 1) m) (sym moves.3) (subst (λ (v : Option Verdict). IfNone v (MayTake now.standing.book now.standing.tables (e.number + 1) e.moment)) c.in_default.is c.in_ok-verdict-in-Entry.ensures.may);
      walks = walks_on c.args.aim start old l.count l.left l.standing.book l.standing.tables walks e next moves.1.order new
          (subst (WalkGives start l.standing.tables.times walks.items new) c.in-Entry.is (c.in_ok-entry.ensures.gives start l.standing.tables.times walks.items walks.read)) now.left now.standing.book now.standing.tables
          (subst (JudgesOn c.args.aim l.standing.book l.standing.tables l.left now.standing.book now.standing.tables now.left e) c.in_default.is c.in_ok-verdict-in-Entry.ensures.judged) c.in_ok-verdict-in-Entry.ensures.times moves.3;
    }

-- where the log ends before the aim, the walk tells how many entries and transactions there were
pub returns-in-End-clause-answer : goal.returns-in-End-clause-answer
returns-in-End-clause-answer g c =
    -- l is how the walk stands, start is the whole input, and old how far the log was read before this entry
    let l = c.loop-standing in
    let start = g.R.Source.left c.args.reader.now in
    let old : log.ReaderState = beside_source l.progress (g.R.Source.left l.reader) (g.R.Source.has_failed l.reader) in
    let walks = l.invariant.walks in
    walks_end c.args.aim start old l.count l.left l.standing.book l.standing.tables walks c.transactions-transactions.result c.transactions-transactions.ensures l.invariant.may.passes.long l.invariant.before
    ((rw c.in-End.is at c.in_ok-entry.ensures.gives) start l.standing.tables.times walks.items walks.read)

-- where the next entry cannot be read, the walk's answer is that fault
pub returns-in-Fault-clause-answer : goal.returns-in-Fault-clause-answer
returns-in-Fault-clause-answer g c =
    -- l is how the walk stands, start is the whole input, and old how far the log was read before this entry
    let l = c.loop-standing in
    let start = g.R.Source.left c.args.reader.now in
    let old : log.ReaderState = beside_source l.progress (g.R.Source.left l.reader) (g.R.Source.has_failed l.reader) in
    let walks = l.invariant.walks in
    walks_fault c.args.aim start old l.count l.left l.standing.book l.standing.tables walks c.in-Fault.reason l.invariant.before
    ((rw c.in-Fault.is at c.in_ok-entry.ensures.gives) start l.standing.tables.times walks.items walks.read)
