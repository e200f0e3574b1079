use Rattle.std.proofs.lemmas.Result.{on_ok_weaker}
use Rattle.sip_log.specs.Told.{item}
use Rattle.sip_verdict.proofs.surveys.found.Found.{found_here}
use Rattle.sip_verdict.proofs.entries.find.Goals as goal

-- what was found is the fault of the entry's message, if it has one, and then the trouble that the entry brings
pub returns-clause-found : goal.returns-clause-found
returns-clause-found g c =
    -- e is the entry, and took is what holds after it was taken
    let e = c.args.entry.now in
    let took = c.in_ok-fault.ensures in
    -- with the fault appended to the findings, and then what the entry brought into trouble, these are what is found at the entry
    on_ok_weaker c.tell.result (λ told es tracks counts late.
    found_here c.take.new.standing.book c.args.standing.now.tables.times es (item e) e.moment e.number c.in_ok-fault.fault c.take.new.standing.tables c.take.new.troubled c.tell.new.self
    c.args.found.now.items c.push_fault.new.found.items c.tell.new.found.items tracks.order late counts took.may.passes.long took.watched.long took.times c.tell.ensures.deaf
    (took.taken es c.requires.fresh tracks late) c.in_ok-push_fault.ensures.pushed told) c.tell.ensures.told
