use Rattle.std.proofs.Common.{refl, sym, ap, ◌∙◌, option_copied}
use Rattle.sip_text.specs.Bytes.{space}
use Rattle.sip_text.proofs.cuts.CutLemmas.{past-some}
use Rattle.sip_message.proofs.lemmas.front.Cuts.{stops-behind}
use Rattle.sip_message.proofs.WordLemmas.{one-blank}
use Rattle.sip_message.proofs.cursor.skip_blanks.Goals as goal

-- where no blank stands at the front, the text is what is left after its blanks
pub returns-then-not-may_begin_blank : goal.returns-then-not-may_begin_blank
returns-then-not-may_begin_blank c = stops-behind c.args.text.now (c.may_begin_blank.ensures c.if-not-may_begin_blank.true)

-- where one SP stands at the front, and no blank after it, what follows the SP is what is left after the blanks
pub returns-in-Some : goal.returns-in-Some
returns-in-Some c =
    one-blank c.args.text.now c.in-Some.rest.now (past-some space c.args.text.now c.in-Some.rest.now (sym c.past.ensures ∙ ap option_copied c.in-Some.is)) (c.if-not-may_begin_blank-2.ensures refl)
