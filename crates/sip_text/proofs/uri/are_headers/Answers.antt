-- `each-past`: where the first part is a header, all parts of the text are headers exactly if those of the rest are (`.0`), and the rest is shorter (`.1`)
-- `c.headers.invariant`: .0, where all parts of the rest are headers, all of the text are; .1, the other way round.
use Rattle.std.proofs.Common.{sym, ap, ◌∙◌, refl, option_copied}
use Rattle.std.proofs.lemmas.Bool.{both_ways, false≢true}
use Rattle.sip_text.specs.Bytes.{ampersand}
use Rattle.sip_text.specs.inner.Pieces.{Header}
use Rattle.sip_text.proofs.uris.UriPartLemmas.{each-past, each-last, each-first, headers-each, each-headers}
use Rattle.sip_text.proofs.uri.are_headers.Goals as goal

-- where one of the parts between `&` is no header, the text is no headers
pub returns-then-not-is_header : goal.returns-then-not-is_header
returns-then-not-is_header c = (
  λ is. absurd (false≢true is),
  λ headers.
      -- of headers each part is a header, and so is this one, which the test refused
      let each = c.headers.invariant.1 (headers-each c.args.text.now headers) in
      absurd (both_ways c.is_header.result c.if-not-is_header.true
      (c.is_header.ensures.1 (each-first ampersand Header c.headers.rest.now _ c.cut.ensures.front each))),
)

-- what is left is shorter
pub headers-smaller : goal.headers-smaller
headers-smaller c =
    (each-past ampersand Header c.headers.rest.now c.cut.result.0.now c.in-Some.more.now c.cut.ensures.front
    (ap option_copied (sym c.in-Some.is) ∙ c.cut.ensures.rest) (c.is_header.ensures.0 c.if-not-is_header.false)).1

-- after one header more, the text is headers exactly if what is left is
pub headers-preserved : goal.headers-preserved
headers-preserved c =
    let past = (each-past ampersand Header c.headers.rest.now c.cut.result.0.now c.in-Some.more.now c.cut.ensures.front
    (ap option_copied (sym c.in-Some.is) ∙ c.cut.ensures.rest) (c.is_header.ensures.0 c.if-not-is_header.false)).0 in
    (λ each. c.headers.invariant.0 (past.0 each), λ each. past.1 (c.headers.invariant.1 each))

-- each part was a header, the last one too, so the text is headers
pub returns-in-None : goal.returns-in-None
returns-in-None c = (
  λ _. each-headers c.args.text.now (c.headers.invariant.0
      (each-last ampersand Header c.headers.rest.now c.cut.result.0.now c.cut.ensures.front
      (ap option_copied (sym c.in-None.is) ∙ c.cut.ensures.rest) (c.is_header.ensures.0 c.if-not-is_header.false))),
  λ _. refl,
)
