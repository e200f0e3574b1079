use Rattle.std.proofs.Common.{sym, ◌∙◌}
use Rattle.sip_text.specs.inner.UriCut.{ClassChar}
use Rattle.sip_text.proofs.uris.UriCharLemmas.{some-decides}
use Rattle.sip_text.proofs.uri.is_some_chars.Goals as goal

-- a text of characters of the class that is not empty has one or more
pub returns-then-not-is_empty : goal.returns-then-not-is_empty
returns-then-not-is_empty c =
    some-decides (ClassChar c.args.class) c.args.text.now c.is_chars.result
    (sym c.is_empty.ensures ∙ c.if-not-is_empty.true) c.is_chars.ensures
