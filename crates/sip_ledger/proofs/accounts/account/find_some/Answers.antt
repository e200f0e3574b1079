use Rattle.sip_ledger.proofs.Lemmas.{found-self, led-first, numbers_of, sym}
use Rattle.sip_ledger.proofs.accounts.account.find_some.Goals as goal

-- the account owes the first place of all at which one of the messages is left
pub returns-then-eq-clause-first : goal.returns-then-eq-clause-first
returns-then-eq-clause-first c =
    led-first c.args.gains.now c.args.strikes.now c.args.account c.requires.gained (rw c.in-Some-2.is at c.in_ok-place.ensures.first)
    (sym (rw (c.if-owes.true, c.first_among.ensures.same) at c.owes.ensures)) (rw (c.entry.ensures, c.first_among.ensures.same) at c.if-moment-entry.true)
    (found-self (numbers_of c.args.messages.now) c.in-Some-2.message c.next_in_both.result c.if-eq.ensures c.next_in_both.ensures.found)
