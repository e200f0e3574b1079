-- `decides-param`: what decides the name and the value, cut at the first `=`, decides the parameter. `both-when`: where the first of two holds, the test of
-- the second decides both. `both-unless`: where the first fails, its own test does. `first-alone`: where there is no second, the first does.
use Rattle.std.proofs.Common.{Some, None, sym, ap, ◌∙◌, option_copied}
use Rattle.sip_text.specs.inner.Class.{is_param_unreserved}
use Rattle.sip_text.proofs.uris.UriCharLemmas.{decides-some}
use Rattle.sip_text.proofs.uris.UriPartLemmas.{decides-param, both-when, both-unless, first-alone}
use Rattle.sip_text.proofs.uri.is_param.Goals as goal

-- the name fits, so the value decides
pub returns-then-is_some_chars : goal.returns-then-is_some_chars
returns-then-is_some_chars c =
    decides-param c.args.text.now c.cut.result.0.now (Some c.in-Some.value.now) c.is_some_chars-then-is_some_chars.result
    c.cut.ensures.front (ap option_copied (sym c.in-Some.is) ∙ c.cut.ensures.rest)
    (both-when c.is_some_chars.result c.is_some_chars-then-is_some_chars.result c.if-is_some_chars.true
    (decides-some is_param_unreserved _ _ c.is_some_chars.ensures)
    (decides-some is_param_unreserved _ _ c.is_some_chars-then-is_some_chars.ensures))

-- where the name has a byte that may not stand there, the text is no parameter
pub returns-else-is_some_chars : goal.returns-else-is_some_chars
returns-else-is_some_chars c =
    decides-param c.args.text.now c.cut.result.0.now (Some c.in-Some.value.now) c.is_some_chars.result
    c.cut.ensures.front (ap option_copied (sym c.in-Some.is) ∙ c.cut.ensures.rest)
    (both-unless c.is_some_chars.result c.if-is_some_chars.false (decides-some is_param_unreserved _ _ c.is_some_chars.ensures))

-- where a parameter has no value, its name decides
pub returns-in-None : goal.returns-in-None
returns-in-None c =
    decides-param c.args.text.now c.cut.result.0.now None c.is_some_chars-in-None.result
    c.cut.ensures.front (ap option_copied (sym c.in-None.is) ∙ c.cut.ensures.rest)
    (first-alone _ (decides-some is_param_unreserved _ _ c.is_some_chars-in-None.ensures))
