use Rattle.std.proofs.Common.{◌≤◌, sym, subst}
use Rattle.sip_verdict.proofs.sweeps.FollowedLemmas.{book_few}
use Rattle.sip_verdict.proofs.standing.Standing.kept.Goals as goal

-- there are at most as many messages as the number that theirs do not pass, since their numbers differ
pub returns-clause-few : goal.returns-clause-few
returns-clause-few g c number below = subst (λ n. n ≤ number) (sym c.len.ensures) (book_few c.args.self.now.book c.known.ensures number below)
