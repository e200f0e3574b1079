use Rattle.sip_ledger.proofs.Lemmas.{spanned}
use Rattle.sip_ledger.proofs.accounts.Accounts.span.Goals as goal

-- the span of the gains holds all that the rows owe
pub returns : goal.returns
returns c =
    let s = c.self.inside in rw (← c.self.view_is) (spanned s.gains s.strikes.items s.rows.items c.span.result.0 c.span.result.1 c.span.ensures)
