use Rattle.std.proofs.Common.{rules, ◌≡◌, false, refl, sym, ap, ◌∙◌, subst}
use Rattle.std.specs.Prelude.{is_some}
use Rattle.sip_message.specs.declared.name.Known.TheVariants as known_name
use Rattle.sip_message.specs.Name.{known, is_name_of}
use Rattle.sip_message.specs.inner.Values.{OtherText}
use Rattle.sip_message.specs.inner.Views.{name_parts}
use Rattle.sip_message.specs.inner.Plain.{segment}
use Rattle.sip_message.specs.inner.FieldText.{Row}
use Rattle.sip_message.proofs.QuickLemmas.{open-other}
use Rattle.sip_message.proofs.lemmas.asked.Kept.{via-row, cseq-row}
use Rattle.sip_message.proofs.lemmas.asked.Asked.{asks-via, asks-from, asks-to, asks-call_id, asks-cseq, asks-content_length, asks-other}
use Rattle.sip_message.proofs.quick.is_value_at.Goals as goal

-- a value of which a first Via is kept, or was read, is one of its row
pub returns-in-Known-Via-clause-row : goal.returns-in-Known-Via-clause-row
returns-in-Known-Via-clause-row c = λ so.
    -- `named`: the field is a Via; `kept` is what the call that keeps it says
    let named : name_parts c.args.name ≡ known known_name.Via = ap name_parts c.in-Known-Via.is ∙ ap known (rw c.in-Known-Via.is at c.in-Known-Via.field-0-is) in
    let kept = c.keep_via.ensures in
    subst (λ n. Row n (segment c.args.at c.args.end c.args.masks.now)) (sym named) ((via-row (segment c.args.at c.args.end c.args.masks.now) kept.0 c.keep_via.result kept.2 kept.1).0 so)

-- the first Via is kept
pub returns-in-Known-Via-clause-asked : goal.returns-in-Known-Via-clause-asked
returns-in-Known-Via-clause-asked c =
    -- `named`: the field is a Via; `kept` is what the call that keeps it says
    let named : name_parts c.args.name ≡ known known_name.Via = ap name_parts c.in-Known-Via.is ∙ ap known (rw c.in-Known-Via.is at c.in-Known-Via.field-0-is) in
    let kept = c.keep_via.ensures in
    asks-via _ _ kept.0 _ c.keep_via.result named kept.2 kept.1 kept.3

-- the value of From is kept, where none was kept
pub returns-in-Known-From-clause-asked : goal.returns-in-Known-From-clause-asked
returns-in-Known-From-clause-asked c = λ so.
    -- `named`: the field is a From; `kept` is what the call that keeps it says
    let named : name_parts c.args.name ≡ known known_name.From = ap name_parts c.in-Known-From.is ∙ ap known (rw c.in-Known-From.is at c.in-Known-From.field-0-is) in
    let kept = c.keep_once.ensures.kept so in
    asks-from _ _ _ _ (ap (segment c.args.at c.args.end) c.text.ensures) kept.1 named kept.0

-- the value of To is kept, where none was kept
pub returns-in-Known-To-clause-asked : goal.returns-in-Known-To-clause-asked
returns-in-Known-To-clause-asked c = λ so.
    -- `named`: the field is a To; `kept` is what the call that keeps it says
    let named : name_parts c.args.name ≡ known known_name.To = ap name_parts c.in-Known-To.is ∙ ap known (rw c.in-Known-To.is at c.in-Known-To.field-0-is) in
    let kept = c.keep_once-in-Known-To.ensures.kept so in
    asks-to _ _ _ _ (ap (segment c.args.at c.args.end) c.text.ensures) kept.1 named kept.0

-- the value of Call-ID is kept, where none was kept
pub returns-in-Known-CallId-clause-asked : goal.returns-in-Known-CallId-clause-asked
returns-in-Known-CallId-clause-asked c = λ so.
    -- `named`: the field is a Call-ID; `kept` is what the call that keeps it says
    let named : name_parts c.args.name ≡ known known_name.CallId = ap name_parts c.in-Known-CallId.is ∙ ap known (rw c.in-Known-CallId.is at c.in-Known-CallId.field-0-is) in
    let kept = c.keep_once-in-Known-CallId.ensures.kept so in
    asks-call_id _ _ _ _ (ap (segment c.args.at c.args.end) c.text.ensures) kept.1 named kept.0

-- a value of which a CSeq is kept is one of its row
pub returns-in-Known-CSeq-clause-row : goal.returns-in-Known-CSeq-clause-row
returns-in-Known-CSeq-clause-row c = λ so.
    -- `named`: the field is a CSeq
    let named : name_parts c.args.name ≡ known known_name.CSeq = ap name_parts c.in-Known-CSeq.is ∙ ap known (rw c.in-Known-CSeq.is at c.in-Known-CSeq.field-0-is) in
    subst (λ n. Row n (segment c.args.at c.args.end c.args.masks.now)) (sym named) ((cseq-row (segment c.args.at c.args.end c.args.masks.now) c.cseq_at.result (is_some c.cseq_at.result) refl c.cseq_at.ensures).0 (c.keep_one.ensures.says so))

-- the CSeq is kept, and with it what it says
pub returns-in-Known-CSeq-clause-asked : goal.returns-in-Known-CSeq-clause-asked
returns-in-Known-CSeq-clause-asked c = λ so.
    -- `named`: the field is a CSeq
    let named : name_parts c.args.name ≡ known known_name.CSeq = ap name_parts c.in-Known-CSeq.is ∙ ap known (rw c.in-Known-CSeq.is at c.in-Known-CSeq.field-0-is) in
    asks-cseq _ _ c.cseq_at.result _ named (c.keep_one.ensures.says so) c.cseq_at.ensures (c.keep_one.ensures.kept so)

-- the value of Content-Length is kept, where none was kept
pub returns-in-Known-ContentLength-clause-asked : goal.returns-in-Known-ContentLength-clause-asked
returns-in-Known-ContentLength-clause-asked c = λ so.
    -- `named`: the field is a Content-Length; `kept` is what the call that keeps it says
    let named : name_parts c.args.name ≡ known known_name.ContentLength = ap name_parts c.in-Known-ContentLength.is ∙ ap known (rw c.in-Known-ContentLength.is at c.in-Known-ContentLength.field-0-is) in
    let kept = c.keep_once-in-Known-ContentLength.ensures.kept so in
    asks-content_length _ _ _ _ (ap (segment c.args.at c.args.end) c.text.ensures) kept.1 named kept.0

-- any other field may have a value without controls
pub returns-in_default-clause-row : goal.returns-in_default-clause-row
returns-in_default-clause-row c = λ _.
    -- the row of any other name asks for a value that is not looked into
    let other : OtherText (segment c.args.at c.args.end c.args.masks.now) = open-other _ c.requires.clear in
    search rules

-- a field with another name than these six is not asked for
pub returns-in_default-clause-asked : goal.returns-in_default-clause-asked
returns-in_default-clause-asked c = λ _.
    -- each of the six names is another one than the field's, since the match has a case for each of them
    let name = name_parts c.args.name in
    let via : is_name_of known_name.Via name ≡ false = search rules in
    let from : is_name_of known_name.From name ≡ false = search rules in
    let to : is_name_of known_name.To name ≡ false = search rules in
    let call_id : is_name_of known_name.CallId name ≡ false = search rules in
    let cseq : is_name_of known_name.CSeq name ≡ false = search rules in
    let content_length : is_name_of known_name.ContentLength name ≡ false = search rules in
    asks-other _ _ (via, from, to, call_id, cseq, content_length)

-- a value without controls is one that the reader does not look into
pub returns-in_default-2-clause-row : goal.returns-in_default-2-clause-row
returns-in_default-2-clause-row c = λ _.
    -- the row of any other name asks for a value that is not looked into
    let other : OtherText (segment c.args.at c.args.end c.args.masks.now) = open-other _ c.requires.clear in
    search rules

-- a field with another name than these six is not asked for
pub returns-in_default-2-clause-asked : goal.returns-in_default-2-clause-asked
returns-in_default-2-clause-asked c = λ _.
    -- each of the six names is another one than the field's, since the match has a case for each of them
    let name = name_parts c.args.name in
    let via : is_name_of known_name.Via name ≡ false = search rules in
    let from : is_name_of known_name.From name ≡ false = search rules in
    let to : is_name_of known_name.To name ≡ false = search rules in
    let call_id : is_name_of known_name.CallId name ≡ false = search rules in
    let cseq : is_name_of known_name.CSeq name ≡ false = search rules in
    let content_length : is_name_of known_name.ContentLength name ≡ false = search rules in
    asks-other _ _ (via, from, to, call_id, cseq, content_length)
