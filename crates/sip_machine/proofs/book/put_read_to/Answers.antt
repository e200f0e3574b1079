use Rattle.std.proofs.Common.{sym, subst}
use Rattle.sip_message.specs.Reads.{Reads}
use Rattle.sip_machine.proofs.book.put_read_to.Goals as goal

-- the bytes are read as a message, and its To is put there
pub returns-in-Ok : goal.returns-in-Ok
returns-in-Ok c texts kept same are = c.put_to.ensures texts kept (subst (λ bytes. Reads bytes c.in-Ok.message) (sym same) c.in-Ok.ensures) are
