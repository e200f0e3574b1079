use Rattle.std.proofs.lemmas.Option.{IfSome_then}
use Rattle.sip_standard.specs.Profile.{Quoted}
use Rattle.sip_standard.specs.Text.{◌then◌}
use Rattle.sip_text.specs.Bytes.{dquote, Byte}
use Rattle.sip_message.specs.inner.AddressFronts.{Words}
use Rattle.sip_message.proofs.PlainLemmas.{stands-as, then-stands}
use Rattle.sip_message.proofs.PlainValueLemmas.{quoted-words}
use Rattle.sip_message.proofs.plain.past_plain_quoted.Goals as goal

-- a quote, words and a quote are a quoted string
pub returns : goal.returns
returns c =
    -- m is the text: the quote ends at `first`, and the words end at `close`, where another quote is looked for
    let m = c.args.masks.now in
    let first = c.in_ok-first.first in
    let close = c.in_ok-close.close in
    IfSome_then c.past_byte-2.result c.past_byte-2.ensures (λ to quote.
    stands-as (Byte dquote then Words then Byte dquote) Quoted m c.args.at c.args.end to quoted-words
    (then-stands (Byte dquote) (Words then Byte dquote) m c.args.at c.args.end first to c.in_ok-first.ensures
    (then-stands Words (Byte dquote) m first c.args.end close to c.in_ok-close.ensures quote)))
