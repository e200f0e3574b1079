use Rattle.std.proofs.Common.{rules, subst, ◌≡◌}
use Rattle.sip_message.specs.Reads.{Reads}
use Rattle.sip_machine.specs.Texts.{text_of}
use Rattle.machine_tests.proofs.acks.keep_to.Goals as goal

-- the message was read of the bytes that the book keeps
pub keep_to-requires-clause-read : goal.keep_to-requires-clause-read
keep_to-requires-clause-read c =
    let text : c.deref.result.now ≡ text_of c.args.book.now c.args.number = search rules in
    subst (λ t. Reads t c.in-Ok.message) text c.in-Ok.ensures
