use Rattle.std.specs.Prelude.{drop, take}
use Rattle.std.proofs.Common.{true≢false, sym, ap, ◌∙◌}
use Rattle.sip_machine.specs.Texts.{text_of}
use Rattle.sip_machine.proofs.steps.ProvisionalLemmas.{Is100-read, Is100-fault, Is100-code}
use Rattle.sip_machine.proofs.provisional.is_100.Goals as goal

-- the code at its place is not 100
pub returns-then-not-has_code_100 : goal.returns-then-not-has_code_100
returns-then-not-has_code_100 c = (
  λ no. cc,
  λ is.
      let code = ap (λ bytes. take 3 (drop 8 bytes)) c.bytes_of.ensures ∙ Is100-code (text_of c.args.book.now c.args.number) is in
      absurd (true≢false (sym (c.has_code_100.ensures.1 code) ∙ c.if-not-has_code_100.true)),
)

-- a message is a 100 exactly if its start line has that code
pub returns-in-Some : goal.returns-in-Some
returns-in-Some c =
    let tells = rw c.start.ensures at c.is_status_100.ensures in
    let is = Is100-read (text_of c.args.book.now c.args.number) c.in-Some.message (rw c.in-Some.is at c.in_ok-message.ensures) in
    (λ true. is.0 (tells.0 true), λ spells. tells.1 (is.1 spells))

-- bytes that are no message spell no 100
pub returns-in-None : goal.returns-in-None
returns-in-None c =
    let fault = rw c.in-None.is at c.in_ok-message.ensures in
    (λ no. cc, λ spells. absurd (Is100-fault (text_of c.args.book.now c.args.number) fault.0 fault.1 spells))
