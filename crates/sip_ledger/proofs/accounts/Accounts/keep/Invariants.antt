use Rattle.sip_ledger.proofs.Lemmas.{IsKeptTo, []}
use Rattle.sip_ledger.proofs.accounts.Accounts.keep.Given as goal

-- the rows that are kept of those so far stand at the front, in their order
abbrev pub invariant-loop-to : goal.invariant-loop-to
invariant-loop-to l = IsKeptTo [] l.rows l.to l.fn.self l.self
