use Rattle.std.proofs.Common.{◌≡◌, ◌+◌, ◌++◌, length, drop, refl, ap, ◌∙◌, arith}
use Rattle.std.proofs.lemmas.List.{take_rest, append_assoc, drop-append-le}
use Rattle.sip_message.specs.inner.Views.{fields_parts}
use Rattle.sip_message.specs.ValueParts.{start_parts}
use Rattle.sip_message.proofs.QuickLemmas.{control-within, ordinary-head, front-rest}
use Rattle.sip_message.proofs.quick.read_ordinary.Goals as goal

-- the first control stands within the text
pub is_line-requires-clause-within : goal.is_line-requires-clause-within
is_line-requires-clause-within c = control-within c.of-masks.result 0 c.next_control-end.result (omega arith) c.next_control-end.ensures

-- a CR stands at the end of the start line
pub start_up_to-requires-clause-within : goal.start_up_to-requires-clause-within
start_up_to-requires-clause-within c = c.if-not-is_line.ensures.ends refl

-- no control stands in the start line
pub start_up_to-requires-clause-clear : goal.start_up_to-requires-clause-clear
start_up_to-requires-clause-clear c = (c.if-not-is_line.ensures.line refl).2

-- where the start line and all fields are ordinary, they are the head of the bytes
pub returns-clause-head : goal.returns-clause-head
returns-clause-head c =
    let bytes = c.args.bytes.now in
    let text = c.of-masks.result in
    let front = c.front.result.now in
    let more = drop (length text) front ++ drop (length front) bytes in
    let whole : bytes ≡ text ++ more =
    front-rest bytes front c.front.ensures.front ∙ ap (λ t. t ++ drop (length front) bytes) (front-rest front text c.of-masks.ensures) ∙ append_assoc text (drop (length text) front) (drop (length front) bytes) in
    -- the start line and the fields were read up to the empty line
    let at = c.in-Some-2.at in
    let start = start_parts c.in-Some.start in
    let fields = fields_parts c.ordinary_fields.new.fields in
    let are = rw c.in-Some-2.is at c.in_ok-at.ensures.lines in
    let rest : drop (at + 2) bytes ≡ drop (at + 2) text ++ more = ap (drop (at + 2)) whole ∙ drop-append-le (at + 2) text more are.within in
    let line = c.if-not-is_line.ensures.line refl in
    ordinary-head bytes text more _ start fields c.next_control-end.result at whole line.2 line.3 c.in-Some.ensures are (take_rest bytes (at + 2) ∙ rest)
