use Rattle.std.proofs.Common.{sym, subst}
use Rattle.std.proofs.lemmas.List.Elements.{All-push}
use Rattle.sip_machine.specs.inner.Tos.{AreTos, IsTo}
use Rattle.sip_machine.proofs.texts.OrderLaws.{by_result}
use Rattle.sip_machine.proofs.book.put_text.Goals as goal

-- the To stands after the others, or all are as they were where memory is refused
pub returns : goal.returns
returns c texts is are =
    by_result c.push.result c.push.ensures.ok c.push.ensures.err
    (λ more. record { each = rw more (All-push (IsTo texts) c.args.tos.now (record { number = c.args.number; text = c.args.text }) are.each is) })
    (λ same. subst (AreTos texts) (sym same) are)
