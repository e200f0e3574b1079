use Rattle.std.proofs.Common.{Some, false, take, option_copied, refl, sym, ap, ◌∙◌, subst, arith}
use Rattle.std.specs.Option.{option_map}
use Rattle.std.specs.Str.Parse.{digits_value}
use Rattle.std.proofs.lemmas.Bool.{both_ways}
use Rattle.std.proofs.Math.Seq.{take-length}
use Rattle.sip_standard.specs.Outcome.{gives}
use Rattle.sip_standard.specs.Body.{BodySays}
use Rattle.sip_message.specs.ValueParts.{start_parts, element}
use Rattle.sip_message.proofs.lemmas.message.Body.{stream-first, body-all, body-cut, body-whole}
use Rattle.sip_message.proofs.stages.body_len.Goals as goal

-- over a transport that keeps messages apart, a body without Content-Length is all that follows
pub returns-else-is_stream : goal.returns-else-is_stream
returns-else-is_stream c = (
  omega arith,
  λ v cseq first said.
      -- len is what Content-Length says, which is nothing, and `all` says that the body is all that follows
      let len = option_map (digits_value 10) (option_copied c.args.content_length) in
      let all = body-all (start_parts c.args.start.now) cseq (v.1) len c.args.rest.now ((c.if-not-fits_method.ensures (cseq.1) said).0 refl) (ap (λ o. option_map (digits_value 10) (option_copied o)) c.in_default.is)
      (λ stream. both_ways false refl ((stream-first (v.1) (element c.args.via.now) _ first c.if-is_stream.ensures).1 stream)) in
      subst (λ b. BodySays (start_parts c.args.start.now) cseq (v.1) len c.args.rest.now (gives b)) (sym (take-length c.args.rest.now)) all,
)

-- where Content-Length is the length of what follows, all of that is the body
pub returns-then-len-rest : goal.returns-then-len-rest
returns-then-len-rest c = (
  omega (arith, c.if-len-rest.true),
  λ v cseq first said.
      -- len is what Content-Length says, and `all` says that the body is all that follows
      let len = option_map (digits_value 10) (option_copied c.args.content_length) in
      let all = body-whole (start_parts c.args.start.now) cseq (v.1) len c.args.rest.now c.in_ok-len.len (ap (λ o. option_map (digits_value 10) (option_copied o)) c.in-Some.is ∙ ap (λ n. Some n) (sym c.in_ok-len.ensures.0)) ((c.if-not-fits_method.ensures (cseq.1) said).0 refl) c.if-len-rest.true in
      subst (λ b. BodySays (start_parts c.args.start.now) cseq (v.1) len c.args.rest.now (gives b)) (sym (ap (λ n. take n c.args.rest.now) c.if-len-rest.true ∙ take-length c.args.rest.now)) all,
)

-- where Content-Length is less than what follows, and the transport keeps messages apart, the body is as long as it says
pub returns-else-is_stream-2 : goal.returns-else-is_stream-2
returns-else-is_stream-2 c = (
  c.in_ok-len.ensures.1,
  λ v cseq first said.
      -- len is what Content-Length says: enough bytes follow, and the first element of Via has no stream
      let len = option_map (digits_value 10) (option_copied c.args.content_length) in
      body-cut (start_parts c.args.start.now) cseq (v.1) len c.args.rest.now c.in_ok-len.len (ap (λ o. option_map (digits_value 10) (option_copied o)) c.in-Some.is ∙ ap (λ n. Some n) (sym c.in_ok-len.ensures.0)) ((c.if-not-fits_method.ensures (cseq.1) said).0 refl)
      c.in_ok-len.ensures.1 (λ stream. both_ways false refl ((stream-first (v.1) (element c.args.via.now) _ first c.if-is_stream-2.ensures).1 stream)),
)
