use Rattle.std.proofs.Common.{◌∙◌, Contains, arith, sym, subst}
use Rattle.std.proofs.lemmas.List.Elements.{All-contains}
use Rattle.sip_machine.specs.declared.tos.To.{To}
use Rattle.sip_machine.specs.inner.Order.{texts_of}
use Rattle.sip_machine.specs.inner.Tos.{AreTos, IsTo}
use Rattle.sip_machine.proofs.texts.TextLaws.{text_of-kept}
use Rattle.sip_machine.proofs.book.tos_of.Goals as goal
use Rattle.sip_machine.proofs.book.tos_of.Goals.{in-Some+in_ok-copy-in-Some+in_ok-put_text-in-Some, in-None+in_ok-put_read_to-in-None}

-- the To of one message more is put there: the one that stood beside it, or what is read
pub loop-at-preserved : goal.loop-at-preserved
loop-at-preserved c =
    let texts = texts_of c.args.kept.now in
    elim c.match-get.branch [
      | in-Some+in_ok-copy-in-Some+in_ok-put_text-in-Some w ↦
          let to : To = record { number = c.index-kept-at.result.number; text = w.in_ok-copy-in-Some.field-0 } in
          let has : Contains c.args.beside.now to = subst (λ text. Contains c.args.beside.now (record { number = c.index-kept-at.result.number; text = text })) (sym w.in_ok-copy-in-Some.ensures) w.in-Some.ensures in
          subst (AreTos texts) (sym w.tos-is) (w.put_text.ensures texts (All-contains (IsTo texts) c.args.beside.now to c.requires.beside.each has) c.loop-at.invariant)
      | in-None+in_ok-put_read_to-in-None w ↦
          let here = text_of-kept (λ k. (k.number, k.bytes.items)) c.args.kept.now c.loop-at.at c.index-kept-at.result c.requires.book.rising (omega arith) c.index-kept-at.is in
          subst (AreTos texts) (sym w.tos-is) (w.put_read_to.ensures texts here.0 (here.1 ∙ sym w.as_slice.ensures.value) c.loop-at.invariant)
    ]
