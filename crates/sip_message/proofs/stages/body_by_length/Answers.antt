use Rattle.std.proofs.Common.{Some, false, option_copied, refl, sym, ap, ◌∙◌, subst}
use Rattle.std.specs.Prelude.{IfSome}
use Rattle.std.specs.Option.{option_map}
use Rattle.std.specs.Str.Parse.{digits_value}
use Rattle.std.proofs.lemmas.Bool.{both_ways}
use Rattle.sip_message.specs.inner.Values.{Digits}
use Rattle.sip_message.specs.ValueParts.{start_parts, element}
use Rattle.sip_message.proofs.lemmas.message.Body.{stream-first, body-method, body-no_length, body-all, body-short, body-long, body-cut, body-whole}
use Rattle.sip_message.proofs.stages.body_by_length.Goals as goal

-- where the method of CSeq is not that of the request line, this is the fault of the bytes
-- the test of the method says that it does not fit
pub returns-then-not-fits_method : goal.returns-then-not-fits_method
returns-then-not-fits_method c = body-method (start_parts c.args.start) (c.args.named.cseq_line, c.args.named.cseq.now) c.args.named.via.now (option_map (digits_value 10) (option_copied c.args.length)) c.args.rest.now (λ fits. both_ways false refl ((c.if-not-fits_method.ensures c.args.named.cseq.now c.requires.cseq).1 fits))

-- where a message over a stream has no Content-Length, this is the fault of the bytes
pub returns-then-is_stream : goal.returns-then-is_stream
returns-then-is_stream c =
    -- the method fits, there is no Content-Length, and the first element of Via has a stream
    body-no_length (start_parts c.args.start) (c.args.named.cseq_line, c.args.named.cseq.now) c.args.named.via.now (option_map (digits_value 10) (option_copied c.args.length)) c.args.rest.now ((c.if-not-fits_method.ensures c.args.named.cseq.now c.requires.cseq).0 refl) (ap (λ o. option_map (digits_value 10) (option_copied o)) c.in_default.is) ((stream-first c.args.named.via.now (element c.args.via.now) _ c.requires.via c.if-is_stream.ensures).0 refl)

-- without Content-Length all that follows is the body
pub returns-in_default : goal.returns-in_default
returns-in_default c =
    -- the method fits, there is no Content-Length, and the first element of Via has no stream
    body-all (start_parts c.args.start) (c.args.named.cseq_line, c.args.named.cseq.now) c.args.named.via.now (option_map (digits_value 10) (option_copied c.args.length)) c.args.rest.now ((c.if-not-fits_method.ensures c.args.named.cseq.now c.requires.cseq).0 refl) (ap (λ o. option_map (digits_value 10) (option_copied o)) c.in_default.is) (λ stream. both_ways false refl ((stream-first c.args.named.via.now (element c.args.via.now) _ c.requires.via c.if-is_stream.ensures).1 stream))

-- where Content-Length writes a number above the greatest that is read, fewer bytes follow than it says
pub returns-in_default-number_at_most : goal.returns-in_default-number_at_most
returns-in_default-number_at_most c =
    -- the value of Content-Length is digits, as the caller has promised
    let digits = subst (λ o. IfSome (option_copied o) Digits) c.in-Some.is c.requires.digits in
    body-short (start_parts c.args.start) (c.args.named.cseq_line, c.args.named.cseq.now) c.args.named.via.now (option_map (digits_value 10) (option_copied c.args.length)) c.args.rest.now (digits_value 10 c.in-Some.digits.now) (ap (λ o. option_map (digits_value 10) (option_copied o)) c.in-Some.is) ((c.if-not-fits_method.ensures c.args.named.cseq.now c.requires.cseq).0 refl) (c.in_default-number_at_most.ensures digits)

-- where Content-Length is the length of what follows, all of that is the body
pub returns-then-len-rest : goal.returns-then-len-rest
returns-then-len-rest c =
    -- the method fits, and the number of the digits is the length of what follows
    body-whole (start_parts c.args.start) (c.args.named.cseq_line, c.args.named.cseq.now) c.args.named.via.now (option_map (digits_value 10) (option_copied c.args.length)) c.args.rest.now c.in-Some-number_at_most.len (ap (λ o. option_map (digits_value 10) (option_copied o)) c.in-Some.is ∙ ap (λ n. Some n) (sym c.in-Some-number_at_most.ensures.0)) ((c.if-not-fits_method.ensures c.args.named.cseq.now c.requires.cseq).0 refl) c.if-len-rest.true

-- where more bytes follow in a stream than Content-Length says, this is the fault of the bytes
pub returns-then-is_stream-2 : goal.returns-then-is_stream-2
returns-then-is_stream-2 c =
    -- the method fits, more bytes follow than the number says, and the first element of Via has a stream
    body-long (start_parts c.args.start) (c.args.named.cseq_line, c.args.named.cseq.now) c.args.named.via.now (option_map (digits_value 10) (option_copied c.args.length)) c.args.rest.now c.in-Some-number_at_most.len (ap (λ o. option_map (digits_value 10) (option_copied o)) c.in-Some.is ∙ ap (λ n. Some n) (sym c.in-Some-number_at_most.ensures.0)) ((c.if-not-fits_method.ensures c.args.named.cseq.now c.requires.cseq).0 refl)
    c.in-Some-number_at_most.ensures.1 c.if-len-rest.false ((stream-first c.args.named.via.now (element c.args.via.now) _ c.requires.via c.if-is_stream-2.ensures).0 refl)

-- where Content-Length is less than what follows in a datagram, the body is as long as it says
pub returns : goal.returns
returns c =
    -- the method fits, enough bytes follow, and the first element of Via has no stream
    body-cut (start_parts c.args.start) (c.args.named.cseq_line, c.args.named.cseq.now) c.args.named.via.now (option_map (digits_value 10) (option_copied c.args.length)) c.args.rest.now c.in-Some-number_at_most.len (ap (λ o. option_map (digits_value 10) (option_copied o)) c.in-Some.is ∙ ap (λ n. Some n) (sym c.in-Some-number_at_most.ensures.0)) ((c.if-not-fits_method.ensures c.args.named.cseq.now c.requires.cseq).0 refl)
    c.in-Some-number_at_most.ensures.1 (λ stream. both_ways false refl ((stream-first c.args.named.via.now (element c.args.via.now) _ c.requires.via c.if-is_stream-2.ensures).1 stream))
