use Rattle.sip_text.proofs.uris.UriPartLemmas.{decides-params, decides-no_params}
use Rattle.sip_text.proofs.uri.are_params.Goals as goal

-- where the text begins with a ";", it is parameters exactly if what follows the ";" is joined parameters
pub returns-in-Some : goal.returns-in-Some
returns-in-Some c =
    decides-params c.args.text.now c.in-Some.params.now c.are_joined_params.result c.in-Some.ensures c.are_joined_params.ensures

-- the text begins with no `;`, so it has parameters only if it is empty
pub returns-in-None : goal.returns-in-None
returns-in-None c = decides-no_params c.args.text.now c.is_empty.result c.in-None.ensures c.is_empty.ensures
