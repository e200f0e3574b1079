use Rattle.std.proofs.Common.{sym, ◌∙◌}
use Rattle.sip_text.proofs.uris.UriSchemeLemmas.{decides-scheme}
use Rattle.sip_text.proofs.uri.is_scheme.Goals as goal

-- the first byte is a letter, so the others decide
pub returns-then-has : goal.returns-then-has
returns-then-has c =
    decides-scheme c.args.text.now c.in-Some.rest.now c.in-Some.first.now c.all_in.result
    c.in-Some.ensures.cases.0 (sym c.has.ensures ∙ c.if-has.true) c.all_in.ensures
