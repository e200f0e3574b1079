use Rattle.sip_machine.proofs.Words.{◌∙◌, sym, owed_in, IfOk-weaker}
use Rattle.sip_machine.proofs.acks.HolderLemmas.{first-is, found-among, in-set}
use Rattle.sip_machine.proofs.invite_client.acks.first_with_to.Goals as goal

-- what is owed first has the To and is in time
pub returns-then-branch-clause-finds : goal.returns-then-branch-clause-finds
returns-then-branch-clause-finds c =
    first-is c.args.book.now c.args.to.now c.args.moment (owed_in c.args.dues.now c.args.row) c.in-Some-first_debt.debt
    (sym (rw c.in-Some.ensures.some at c.first_debt.ensures) ∙ c.in-Some-first_debt.is) (c.in_ok-has_to.ensures.0 c.if-branch.true, c.if-moment-debt.true)

-- the first debt of a message in the set is the first with the To
pub returns-clause-finds : goal.returns-clause-finds
returns-clause-finds c =
    let texts = c.args.book.now in
    let set = c.in-Some-under.messages.now in
    IfOk-weaker c.first_payable.result _ _ (λ found. found-among texts c.args.to.now c.args.moment set (owed_in c.args.dues.now c.args.row) found
    (in-set _ _ c.args.moment _ _ _ _ _ c.requires.row (rw c.in-Some.ensures.some at c.span-low.ensures) c.requires.owed c.in-Some-under.ensures)) c.first_payable.ensures.first
