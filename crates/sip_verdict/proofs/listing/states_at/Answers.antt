use Rattle.std.proofs.Common.{IfSome, sym, subst}
use Rattle.sip_standard.specs.ListingOf.{IsListingOf}
use Rattle.sip_verdict.proofs.listing.states_at.Goals as goal

-- where the walk ended before the entry, the verdict is listed
pub returns-in-Err-clause-listing : goal.returns-in-Err-clause-listing
returns-in-Err-clause-listing g c =
    subst (λ listing. IfSome (g.R.Source.left c.args.reader.now) (λ input. IsListingOf input c.args.entry listing)) (sym c.listing_after.ensures) (rw c.in-Err.is at c.in_ok-listing.ensures.answer)

-- where the walk came to the entry, its listing is given
pub returns-in-Ok-clause-listing : goal.returns-in-Ok-clause-listing
returns-in-Ok-clause-listing g c = rw c.in-Ok.is at c.in_ok-listing.ensures.answer
