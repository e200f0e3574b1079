use Rattle.sip_ledger.proofs.Lemmas.{arith, cleared-dropped, cleared-more, ◌≡◌}
use Rattle.sip_ledger.proofs.accounts.left.drop_front.Goals as goal

-- the gain at one place more has gone
pub loop-place-preserved : goal.loop-place-preserved
loop-place-preserved c =
    cleared-more c.first_owed-start.result c.loop-place.place c.loop-place.invariant c.let_go.ensures c.first_owed-start.ensures.start (omega arith)

-- what the accounts owe is kept, since only gains before it are dropped
pub returns : goal.returns
returns c =
    let all : c.loop-place.place ≡ c.first_owed-start.result = omega arith in
    cleared-dropped (rw all at c.loop-place.invariant) c.drop_to.ensures.dropped c.drop_to.ensures.gained
