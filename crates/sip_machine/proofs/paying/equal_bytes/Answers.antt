use Rattle.sip_machine.proofs.Words.{◌≡◌, IsTrue, PaysFor, is_payable, owed_in, payables-seen, text_of}
use Rattle.sip_machine.proofs.acks.HolderLemmas.{FindsFirst-same}
use Rattle.sip_machine.proofs.paying.equal_bytes.Goals as goal

-- equal bytes have one number, so a debt of these bytes is a debt of this number
pub returns-clause-finds : goal.returns-clause-finds
returns-clause-finds c =
    let e = c.args.event.now in
    let texts = c.args.book.now in
    let owes = owed_in c.args.dues.now c.args.row in
    FindsFirst-same (λ debt. IsTrue (is_payable e.number e.moment debt)) (PaysFor (λ message. message ≡ text_of texts e.number) texts e.moment) e.moment owes c.payable.result
    (payables-seen texts e.number e.moment owes c.known.ensures c.requires.fits.keeps c.requires.owed)
    (rw (c.number.ensures, c.moment.ensures) at c.payable.ensures.finds)
