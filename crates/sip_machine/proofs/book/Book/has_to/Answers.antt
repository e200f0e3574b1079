use Rattle.sip_machine.specs.Texts.{text_of}
use Rattle.sip_machine.proofs.acks.ToLemmas.{IsToOf-same}
use Rattle.sip_machine.proofs.texts.HashLaws.{text_ties}
use Rattle.sip_machine.proofs.book.Book.has_to.Goals as goal

-- the To that stands beside the message is compared with this one
pub returns-in-Some : goal.returns-in-Some
returns-in-Some c = rw (c.eq.ensures, ← text_ties c.in-Some.its.now c.args.to.now) (IsToOf-same (text_of c.args.self.now c.args.number) c.args.to.now c.in-Some.its.now (rw c.in-Some.is at c.to_of.ensures))
