-- `decides-header`: what decides the name and the value, cut at the first `=`, decides the header. `both-when`: where the first of two holds, the test of
-- the second decides both. `both-unless`: where the first fails, its own test does. `neither`: where the second cannot hold, false does.
use Rattle.std.proofs.Common.{Some, None, sym, ap, ◌∙◌, option_copied}
use Rattle.sip_text.specs.inner.Class.{is_hnv_unreserved}
use Rattle.sip_text.proofs.uris.UriCharLemmas.{decides-some, decides-many}
use Rattle.sip_text.proofs.uris.UriPartLemmas.{decides-header, both-when, both-unless, neither}
use Rattle.sip_text.proofs.uri.is_header.Goals as goal

-- the name fits, so the value decides
pub returns-then-is_some_chars : goal.returns-then-is_some_chars
returns-then-is_some_chars c =
    decides-header c.args.text.now c.cut.result.0.now (Some c.in-Some.value.now) c.is_chars.result
    c.cut.ensures.front (ap option_copied (sym c.in-Some.is) ∙ c.cut.ensures.rest)
    (both-when c.is_some_chars.result c.is_chars.result c.if-is_some_chars.true
    (decides-some is_hnv_unreserved _ _ c.is_some_chars.ensures) (decides-many is_hnv_unreserved _ _ c.is_chars.ensures))

-- where the name has a byte that may not stand there, the text is no header
pub returns-else-is_some_chars : goal.returns-else-is_some_chars
returns-else-is_some_chars c =
    decides-header c.args.text.now c.cut.result.0.now (Some c.in-Some.value.now) c.is_some_chars.result
    c.cut.ensures.front (ap option_copied (sym c.in-Some.is) ∙ c.cut.ensures.rest)
    (both-unless c.is_some_chars.result c.if-is_some_chars.false (decides-some is_hnv_unreserved _ _ c.is_some_chars.ensures))

-- a text without a `=` is no header
pub returns-in-None : goal.returns-in-None
returns-in-None c =
    decides-header c.args.text.now c.cut.result.0.now None _
    c.cut.ensures.front (ap option_copied (sym c.in-None.is) ∙ c.cut.ensures.rest) (neither (λ none. none))
