-- `leads` says that the set leads, from the moment `from` on, to the runs over the events so far, and `late` that the event is not before that moment.
use Rattle.std.proofs.Common.{rules}
use Rattle.sip_states.specs.AnySet.{IsEmpty}
use Rattle.sip_verdict.proofs.keys.AnyHearing.{takes_known, hears_none, hears_some, hears_wide}
use Rattle.sip_verdict.proofs.passing.hear.Goals as goal

-- no state is left, so no run takes the event
pub returns-in-Ok-clause-stepped : goal.returns-in-Ok-clause-stepped
returns-in-Ok-clause-stepped c = λ p machine events from late leads.
    let none : IsEmpty c.take.new.self = search rules in
    hears_none c.args.book.now p machine events from c.args.set.now c.take.new.self leads c.args.event.now late c.requires.order c.in-Ok.ensures.ok none

-- the book has what the new states name
pub returns-in-Ok-2-clause-known : goal.returns-in-Ok-2-clause-known
returns-in-Ok-2-clause-known c = takes_known c.args.book.now c.args.event.now c.args.set.now c.take.new.self c.in-Ok-2.ensures.ok

-- the set that took the event leads to the runs over one event more
pub returns-in-Ok-2-clause-stepped : goal.returns-in-Ok-2-clause-stepped
returns-in-Ok-2-clause-stepped c = λ p machine events from late leads.
    let some : ¬ IsEmpty c.take.new.self = search rules in
    hears_some c.args.book.now p machine events from c.args.set.now c.take.new.self leads c.args.event.now late c.requires.order c.in-Ok-2.ensures.ok some

-- the event leads to too many states
pub returns-in-Err-TooMany-clause-stepped : goal.returns-in-Err-TooMany-clause-stepped
returns-in-Err-TooMany-clause-stepped c = λ p machine events from late leads.
    hears_wide c.args.book.now p machine events from c.args.set.now c.take.new.self leads c.args.event.now late c.requires.order (c.in-Err-TooMany.ensures.too_many (search rules))
