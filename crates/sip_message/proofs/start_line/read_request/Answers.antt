use Rattle.std.proofs.Common.{false, refl, sym, subst, arith}
use Rattle.std.proofs.lemmas.Bool.{both_ways}
use Rattle.sip_text.specs.inner.Case.{SameText}
use Rattle.sip_standard.specs.Profile.{Uri}
use Rattle.std.specs.Prelude.{codes}
use Rattle.sip_message.specs.inner.StartLine.{RequestLine}
use Rattle.sip_message.specs.inner.Fronts.{pair_parts}
use Rattle.sip_message.proofs.lemmas.front.Cuts.{ReadAs}
use Rattle.sip_message.proofs.lemmas.start_line.Reading.{request-no_token, request-no_space, request-short, request-no_version, request-no_uri, request-read}
use Rattle.sip_message.specs.inner.Only.{IsOnlyValue}
use Rattle.sip_message.proofs.start_line.read_request.Goals as goal

-- no token stands at the front, so the line has no method
pub returns-in_err-method : goal.returns-in_err-method
returns-in_err-method c = subst (IsOnlyValue RequestLine pair_parts c.args.line.now) (sym c.from_residual.ensures) (request-no_token c.args.line.now c.in_err-method.ensures)

-- where no SP follows the method, the line is no request line
pub returns-in_err-rest : goal.returns-in_err-rest
returns-in_err-rest c =
    subst (IsOnlyValue RequestLine pair_parts c.args.line.now) (sym c.from_residual-in_err-rest.ensures)
    (request-no_space c.args.line.now c.in_ok-method.method.now c.in_ok-method.rest.now c.in_ok-method.ensures (sym c.in_err-rest.ensures))

-- a line that is too short for the version is no request line
pub returns-in_err-at : goal.returns-in_err-at
returns-in_err-at c =
    -- the method and a SP were read, but fewer than eight bytes follow
    subst (IsOnlyValue RequestLine pair_parts c.args.line.now) (sym c.from_residual-in_err-at.ensures)
    (request-short c.args.line.now c.in_ok-method.method.now c.in_ok-method.rest.now c.in_ok-rest.rest.now c.in_ok-method.ensures (sym c.in_ok-rest.ensures) (omega (arith, c.in_err-at.ensures)))

-- where the line does not end with SP and SIP/2.0, it is no request line
pub returns-then-not-same_text : goal.returns-then-not-same_text
returns-then-not-same_text c =
    -- the place `at` is eight bytes before the end, and what stands from there on is not the version
    let more = c.in_ok-rest.rest.now in
    request-no_version c.args.line.now c.in_ok-method.method.now c.in_ok-method.rest.now more c.in_ok-at.at c.in_ok-method.ensures (sym c.in_ok-rest.ensures) (omega (arith, c.in_ok-at.ensures.0, c.in_ok-at.ensures.1))
    (λ same. both_ways false refl (c.if-not-same_text.ensures.1 (subst (λ t. SameText t (codes " SIP/2.0")) (sym c.split_at.ensures.back) same)))

-- where what stands before the version is no URI, the line is no request line
pub returns-else-is_uri : goal.returns-else-is_uri
returns-else-is_uri c =
    -- the place `at` is eight bytes before the end, and what stands before it is no URI
    request-no_uri c.args.line.now c.in_ok-method.method.now c.in_ok-method.rest.now c.in_ok-rest.rest.now c.in_ok-at.at c.in_ok-method.ensures (sym c.in_ok-rest.ensures) (omega (arith, c.in_ok-at.ensures.0, c.in_ok-at.ensures.1))
    (λ uri. both_ways c.is_uri.result c.if-is_uri.false (c.is_uri.ensures.1 (subst Uri (sym c.split_at.ensures.front) uri)))

-- a method, a URI and the version are the parts of the request line
pub returns-then-is_uri : goal.returns-then-is_uri
returns-then-is_uri c =
    -- `more` is what follows the method and its SP; the code cuts it at `at`, where the version begins
    let more = c.in_ok-rest.rest.now in
    let at = c.in_ok-at.at in
    subst (λ t. ReadAs (RequestLine c.args.line.now) (c.in_ok-method.method.now, t)) (sym c.split_at.ensures.front)
    (request-read c.args.line.now c.in_ok-method.method.now c.in_ok-method.rest.now more at c.in_ok-method.ensures (sym c.in_ok-rest.ensures)
    (subst (λ t. SameText t (codes " SIP/2.0")) c.split_at.ensures.back (c.if-not-same_text.ensures.0 refl))
    (subst Uri c.split_at.ensures.front (c.is_uri.ensures.0 c.if-is_uri.true)))
