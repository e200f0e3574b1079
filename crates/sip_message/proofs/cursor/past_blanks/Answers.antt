use Rattle.std.proofs.Common.{sym, subst}
use Rattle.std.proofs.lemmas.List.{take_rest}
use Rattle.sip_message.specs.inner.Fronts.{IsOnlyBehind}
use Rattle.sip_message.proofs.lemmas.front.Cuts.{longest-behind}
use Rattle.sip_message.proofs.cursor.past_blanks.Goals as goal

-- what is left begins with no blank
pub returns : goal.returns
returns c =
    -- the code skips the longest run of blanks, and what is left is the text from there on
    subst (IsOnlyBehind c.args.text.now) (sym (take_rest c.args.text.now c.skip_lws.result))
    (longest-behind c.args.text.now c.skip_lws.result c.skip_lws.ensures.reads)
