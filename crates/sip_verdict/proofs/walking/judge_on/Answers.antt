-- s is what stands before the entry, and `new` what stands after it.
use Rattle.std.proofs.lemmas.Result.{IfOk-weaker}
use Rattle.sip_verdict.proofs.listings.WalksLemmas.{judges_end, judges_entry}
use Rattle.sip_verdict.proofs.walking.judge_on.Goals as goal

-- on the way to the end an entry is judged in the usual way
pub returns-in-End-clause-judged : goal.returns-in-End-clause-judged
returns-in-End-clause-judged g c =
    let s = c.args.standing.now in
    let new = c.judge_next.new.standing in
    IfOk-weaker c.judge_next.result _ _
    (λ verdict says. judges_end s.book new.book s.tables new.tables c.args.left.now c.judge_next.new.left c.args.entry.now c.args.aim c.in-End.is verdict says) c.judge_next.ensures.judged

-- on the way to an entry, an entry is judged without a sweep, so that each message stays in the book under its number
pub returns-in-Entry-clause-judged : goal.returns-in-Entry-clause-judged
returns-in-Entry-clause-judged g c =
    let s = c.args.standing.now in
    let new = c.entry.new.self in
    let told = c.entry.ensures in
    judges_entry s.book new.book s.tables new.tables c.args.left.now c.args.left.now c.args.entry.now c.args.aim c.in-Entry.field-0 c.in-Entry.is c.entry.result told.times told.numbered told.judged
