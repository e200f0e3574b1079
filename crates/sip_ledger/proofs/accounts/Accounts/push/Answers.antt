use Rattle.sip_ledger.proofs.Lemmas.{All-push, empty-account, IsAccount}
use Rattle.sip_ledger.proofs.accounts.Accounts.push.Goals as goal

-- the rows with one more are accounts, since the empty account is one
pub invariant_of-self-2 : goal.invariant_of-self-2
invariant_of-self-2 c =
    let s = c.self.inside in
    rw c.in_ok-push.ensures.items
    (record { gained = c.self.invariant.gained; each = All-push (IsAccount s.gains s.strikes.items) s.rows.items _ c.self.invariant.each (empty-account s.gains s.strikes.items) })
