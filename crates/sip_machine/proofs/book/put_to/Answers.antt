use Rattle.std.proofs.Common.{◌∙◌, ap}
use Rattle.sip_standard.specs.Solid.{solid}
use Rattle.sip_machine.proofs.book.put_to.Goals as goal

-- the To of the message stands after the others
pub returns : goal.returns
returns c texts kept reads are =
    -- the code has made the To of the message, without its blanks, under the message's number
    c.put_text.ensures texts
    (record {
      kept = kept;
      text = record { message = c.args.message.now; reads = reads; is = c.of.ensures ∙ c.in_ok-text.ensures ∙ ap solid c.to.ensures };
    })
    are
