use Rattle.sip_ledger.proofs.Lemmas.{eased-account, refl, rules}
use Rattle.sip_ledger.proofs.accounts.account.eased.Goals as goal

-- nothing must be sent, so the account owes the same where that is looked for from the place on
pub returns : goal.returns
returns c =
    let new = eased-account c.args.gains.now c.args.strikes.now c.args.account c.args.debt c.args.place c.requires.gained c.requires.account c.requires.next search rules in
    record { account = new.0; next = new.1; debts = new.2; rest = refl }
