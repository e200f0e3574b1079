use Rattle.std.proofs.Common.{◌∙◌, ap}
use Rattle.sip_standard.specs.Solid.{solid}
use Rattle.sip_message.specs.Reads.{Reads}
use Rattle.sip_message.specs.SaidOf.{said_of}
use Rattle.sip_message.proofs.lemmas.says.Reading.{says-no_fault}
use Rattle.sip_machine.specs.Texts.{text_of}
use Rattle.sip_machine.specs.inner.Tos.{IsToOf}
use Rattle.sip_machine.proofs.acks.ToLemmas.{IsToOf-same}
use Rattle.sip_machine.proofs.book.Book.is_read_with.Goals as goal

-- the message is read, and its To is compared
pub returns-in_ok-solid_of-in-Some : goal.returns-in_ok-solid_of-in-Some
returns-in_ok-solid_of-in-Some c =
    let bytes = text_of c.args.self.now c.args.number in
    let reads : Reads bytes c.in-Some.message = rw c.in-Some.is at c.in_ok-message.ensures in
    let its : IsToOf bytes c.as_slice.result.now =
    record { message = c.in-Some.message; reads = reads; is = c.as_slice.ensures.value ∙ c.in_ok-solid_of-in-Some.ensures ∙ ap solid c.to.ensures } in
    rw (c.eq.ensures, c.text.ensures) (IsToOf-same bytes c.args.to.now c.as_slice.result.now its)

-- bytes that are no message have no To
pub returns-in-None : goal.returns-in-None
returns-in-None c =
    let fault = rw c.in-None.is at c.in_ok-message.ensures in
    (λ no. cc, λ its. absurd (says-no_fault (text_of c.args.self.now c.args.number) (said_of its.message) fault.0 its.reads.says fault.1))
