-- `both-when`: where the first of two holds, the test of the second decides both. `both-unless`: where the first fails, its own test does.
use Rattle.sip_text.proofs.uris.UriPartLemmas.{both-when, both-unless, decides-not}
use Rattle.sip_message.proofs.lemmas.address.Reading.{decides-cut, no-address}
use Rattle.sip_message.proofs.address.is_address.Goals as goal

-- the text of the URI is one, so what follows it decides
pub returns-then-is_uri : goal.returns-then-is_uri
returns-then-is_uri c =
    decides-cut c.args.text.now c.in-Some.uri.now c.in-Some.params.now c.are_params.result c.in-Some.ensures
    (both-when c.is_uri.result c.are_params.result c.if-is_uri.true c.is_uri.ensures c.are_params.ensures)

-- where what was cut off as the URI is none, the text is no address
pub returns-else-is_uri : goal.returns-else-is_uri
returns-else-is_uri c =
    decides-cut c.args.text.now c.in-Some.uri.now c.in-Some.params.now c.is_uri.result c.in-Some.ensures
    (both-unless c.is_uri.result c.if-is_uri.false c.is_uri.ensures)

-- where the text cannot be cut, it is no address
pub returns-in-None : goal.returns-in-None
returns-in-None c = decides-not (no-address c.args.text.now c.in-None.ensures)
