use Rattle.sip_message.proofs.lemmas.value.Trimmed.{sws-whole}
use Rattle.sip_message.proofs.row.is_sws.Goals as goal

-- the text is a blank run or empty exactly if the blanks at its front are all of it
pub returns : goal.returns
returns c = sws-whole c.args.text.now c.skip_lws.result c.skip_lws.ensures.within c.skip_lws.ensures.reads
