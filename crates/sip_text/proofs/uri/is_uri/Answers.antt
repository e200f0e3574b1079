-- `c.NAME.branch` says which of several tests led to this place: `via-then-A` that A passed, `via-else-A+then-B` that A failed and B passed.
use Rattle.std.proofs.Common.{inl, inr, option_copied, sym, ap, ◌∙◌}
use Rattle.sip_standard.specs.Profile.{SipScheme}
use Rattle.sip_text.specs.inner.Class.{is_reserved}
use Rattle.sip_text.proofs.uris.UriCharLemmas.{decides-some}
use Rattle.sip_text.proofs.uris.UriPartLemmas.{both-when, both-unless, decides-not}
use Rattle.sip_text.proofs.uris.UriLemmas.{scheme-at, decides-sip, decides-other, not-sip, no-colon}
use Rattle.sip_text.proofs.uri.is_uri.Goals as goal
use Rattle.sip_text.proofs.uri.is_uri.Goals.{then-same_text-via-then-same_text, then-same_text-via-else-same_text+then-same_text-2}

-- a text with no colon is no URI
pub returns-in_default : goal.returns-in_default
returns-in_default c =
    decides-not (no-colon c.args.text.now (ap option_copied (sym c.in_default.is) ∙ c.cut_scheme.ensures.rest))

-- where the scheme is `sip` or `sips`, the answer is whether the rest is that of a SIP URI
pub returns-then-same_text : goal.returns-then-same_text
returns-then-same_text c =
    let scheme = c.cut_scheme.result.0.now in
    -- `cut` says that the scheme and the rest are what stands before and after the first ":"
    let cut = scheme-at c.args.text.now scheme c.cut_scheme.result.1 c.in-Some.rest c.cut_scheme.ensures.front c.cut_scheme.ensures.rest c.in-Some.is in
    let sip : SipScheme scheme =
    elim c.then-same_text.branch [
      | then-same_text-via-then-same_text w ↦ inl (c.same_text.ensures.0 w.if-same_text.true)
      | then-same_text-via-else-same_text+then-same_text-2 w ↦ inr (w.same_text-else-same_text.ensures.0 w.if-same_text-2.true)
    ] in
    decides-sip c.args.text.now scheme c.in-Some.rest.now c.is_sip_rest.result cut sip c.is_sip_rest.ensures

-- another scheme, so the answer is whether bytes of a URI follow
pub returns-then-is_scheme : goal.returns-then-is_scheme
returns-then-is_scheme c =
    let scheme = c.cut_scheme.result.0.now in
    let cut = scheme-at c.args.text.now scheme c.cut_scheme.result.1 c.in-Some.rest c.cut_scheme.ensures.front c.cut_scheme.ensures.rest c.in-Some.is in
    let other = not-sip scheme c.same_text.result c.same_text-else-same_text.result c.same_text.ensures c.same_text-else-same_text.ensures c.if-same_text.false c.if-same_text-2.false in
    decides-other c.args.text.now scheme c.in-Some.rest.now c.is_some_chars.result cut other
    (both-when c.is_scheme.result c.is_some_chars.result c.if-is_scheme.true c.is_scheme.ensures
    (decides-some is_reserved c.in-Some.rest.now c.is_some_chars.result c.is_some_chars.ensures))

-- where no scheme stands before the colon, the text is no URI
pub returns-else-is_scheme : goal.returns-else-is_scheme
returns-else-is_scheme c =
    let scheme = c.cut_scheme.result.0.now in
    let cut = scheme-at c.args.text.now scheme c.cut_scheme.result.1 c.in-Some.rest c.cut_scheme.ensures.front c.cut_scheme.ensures.rest c.in-Some.is in
    let other = not-sip scheme c.same_text.result c.same_text-else-same_text.result c.same_text.ensures c.same_text-else-same_text.ensures c.if-same_text.false c.if-same_text-2.false in
    decides-other c.args.text.now scheme c.in-Some.rest.now c.is_scheme.result cut other
    (both-unless c.is_scheme.result c.if-is_scheme.false c.is_scheme.ensures)
