use Rattle.std.proofs.Common.{rules, sym, subst}
use Rattle.sip_message.specs.inner.Canon.{HasCode, canon}
use Rattle.sip_message.specs.inner.MessageText.{AreUnfolded, message_of}
use Rattle.sip_message.proofs.lemmas.says.Canonical.{reads-code, reads-canonical}
use Rattle.sip_message.proofs.canon.write.Goals as goal

-- the code of a message that was read has three digits
pub append_all-requires-clause-code : goal.append_all-requires-clause-code
append_all-requires-clause-code c = subst HasCode (sym c.start.ensures) (reads-code c.args.m.now c.known.ensures)

-- where no value of the message may be folded, none is
pub append_all-requires-clause-no_folds : goal.append_all-requires-clause-no_folds
append_all-requires-clause-no_folds c = λ is. subst AreUnfolded (sym c.fields.ensures) (c.may_fold.ensures is)

-- what is appended is the canonical form
pub returns-clause-ok : goal.returns-clause-ok
returns-clause-ok c = (canon (message_of c.args.m.now.message), search rules, reads-canonical c.args.m.now)
