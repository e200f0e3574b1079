use Rattle.std.proofs.Common.{option_copied}
use Rattle.sip_message.specs.inner.Views.{fields_parts}
use Rattle.sip_message.specs.ValueParts.{cseq_parts, element}
use Rattle.sip_message.proofs.lemmas.canon.Law.{fields-rows}
use Rattle.sip_message.proofs.lemmas.asked.Asked.{said-digits}
use Rattle.sip_message.proofs.lemmas.message.Ordinary.{ordinary-whole}
use Rattle.sip_message.proofs.lemmas.message.Stages.{found-keeps, found-reads}
use Rattle.sip_message.proofs.message.Message.read.Goals as goal

-- what is kept of Content-Length is digits
pub body_len-requires : goal.body_len-requires
body_len-requires c =
    -- h says that the head is ordinary, and `of` that what was kept is what its fields say
    let h = rw c.in-Some.is at c.in_ok-start.ensures.head in
    let of = rw c.in-Some.is at c.in_ok-start.ensures.asked in
    let fields = fields_parts c.read_ordinary.new.fields in
    said-digits fields (option_copied c.read_ordinary.new.asked.content_length) (fields-rows h.others fields h.are_fields) of.content_length

-- where the head and the body are ordinary, the parts that were found are those of the bytes
pub new-requires-clause-keeps : goal.new-requires-clause-keeps
new-requires-clause-keeps c =
    -- h says that the head is ordinary, `of` that what was kept is what its fields say, and `whole` that the bytes are a message
    let h = rw c.in-Some.is at c.in_ok-start.ensures.head in
    let of = rw c.in-Some.is at c.in_ok-start.ensures.asked in
    let whole = ordinary-whole c.in-Some.start c.read_ordinary.new.asked c.unwrap-via.result c.unwrap-from.result c.unwrap-to.result c.unwrap-call_id.result c.unwrap-cseq.result h of
    c.unwrap-via.ensures c.unwrap-from.ensures c.unwrap-to.ensures c.unwrap-call_id.ensures c.unwrap-cseq.ensures c.in-Some-body_len.ensures.1 in
    found-keeps (element c.unwrap-via.result) (cseq_parts c.unwrap-cseq.result) whole.found whole.says_via whole.says_cseq

-- no value of an ordinary head is folded
pub new-requires-clause-no_folds : goal.new-requires-clause-no_folds
new-requires-clause-no_folds c =
    -- h says that the head is ordinary
    let h = rw c.in-Some.is at c.in_ok-start.ensures.head in
    λ _. h.no_folds

-- where the head and the body are ordinary, the message is what the bytes are read as
pub returns : goal.returns
returns c =
    -- h says that the head is ordinary, `of` that what was kept is what its fields say, and `whole` that the bytes are a message
    let h = rw c.in-Some.is at c.in_ok-start.ensures.head in
    let of = rw c.in-Some.is at c.in_ok-start.ensures.asked in
    let whole = ordinary-whole c.in-Some.start c.read_ordinary.new.asked c.unwrap-via.result c.unwrap-from.result c.unwrap-to.result c.unwrap-call_id.result c.unwrap-cseq.result h of
    c.unwrap-via.ensures c.unwrap-from.ensures c.unwrap-to.ensures c.unwrap-call_id.ensures c.unwrap-cseq.ensures c.in-Some-body_len.ensures.1 in
    found-reads c.new.result whole.found c.new.ensures.message c.new.ensures.parts
