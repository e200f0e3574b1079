use Rattle.sip_ledger.proofs.Lemmas.{span-held}
use Rattle.sip_ledger.proofs.accounts.places.Places.span.Goals as goal

-- the messages go from the first to the last
pub returns-in-Some-Some : goal.returns-in-Some-Some
returns-in-Some-Some c =
    let both = c.in-Some-Some in
    rw (← c.self.view_is) (span-held c.self.inside.pairs both.first.now both.last.now both.ensures.least both.ensures'.greatest)
