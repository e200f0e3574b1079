-- In the proofs an action and a moment are any that the line before the message may tell; `none` says that no message is answered.
use Rattle.std.proofs.Common.{◌<◌, inl, [], length, refl, subst, arith}
use Rattle.std.proofs.lemmas.List.{append-nil}
use Rattle.sip_standard.specs.declared.log_reason.LogReason.TheVariants as faults
use Rattle.sip_log.specs.Next.{stops}
use Rattle.sip_log.specs.inner.Entry.{MessageComes}
use Rattle.sip_log.proofs.lines.MessageLemmas.{AtMessage-open, AtMessage-gives}
use Rattle.sip_log.proofs.ahead.message_ahead.Goals as goal

-- where the message or the byte after it is not there, the entry is truncated
pub returns-then-rest-len-clause-none : goal.returns-then-rest-len-clause-none
returns-then-rest-len-clause-none c = λ none action moment.
    (faults.Truncated, inl ((λ inside. omega (arith, inside, c.if-rest-len.true)), refl))

-- where no line feed stands after the bytes of the message, the fault is that of an entry's line
pub returns-then-rest-len-ne10-clause-none : goal.returns-then-rest-len-ne10-clause-none
returns-then-rest-len-ne10-clause-none c = λ none action moment.
    let rest = c.args.rest.now in
    let inside : c.args.len < length rest = omega (arith, c.if-rest-len.false) in (
      faults.EntryLine,
      subst (λ xs. MessageComes action moment c.args.len xs (stops faults.EntryLine)) (append-nil rest)
          (AtMessage-open action moment c.args.len rest [] inside c.if-rest-len-ne10.true),
    )

-- where a line feed stands after the bytes of the message, the entry with these bytes comes
pub returns-clause-comes : goal.returns-clause-comes
returns-clause-comes c = λ action moment more.
    let inside : c.args.len < length c.args.rest.now = omega (arith, c.if-rest-len.false) in
    AtMessage-gives action moment c.args.len c.args.rest.now more _ inside c.if-rest-len-ne10.false refl
