use Rattle.sip_message.proofs.lemmas.address.Reading.{decides-scheme, scheme-short}
use Rattle.sip_message.proofs.address.has_scheme.Goals as goal

-- a byte follows the token, and tells whether it is a colon
pub returns-then-len-text : goal.returns-then-len-text
returns-then-len-text c = decides-scheme c.args.text.now c.token_len-len.result c.token_len-len.ensures.reads c.if-len-text.true

-- the whole text is a token, so no colon follows
pub returns-else-len-text : goal.returns-else-len-text
returns-else-len-text c = scheme-short c.args.text.now c.token_len-len.result c.token_len-len.ensures.reads c.if-len-text.false
