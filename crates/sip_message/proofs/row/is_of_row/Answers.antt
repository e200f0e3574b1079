use Rattle.std.proofs.Common.{rules, ◌≡◌, ◌↔◌, false, refl, sym, ap, ◌∙◌, subst}
use Rattle.std.specs.Prelude.{IsTrue}
use Rattle.sip_message.specs.declared.name.Known.TheVariants as known_name
use Rattle.sip_message.specs.Name.{known, is_name_of}
use Rattle.sip_message.specs.inner.FieldText.{Row}
use Rattle.sip_message.specs.inner.Views.{name_parts}
use Rattle.sip_message.proofs.lemmas.asked.Kept.{via-row, via-keeps, cseq-row, cseq-keeps, named-keeps, other-keeps}
use Rattle.sip_message.proofs.row.is_of_row.Goals as goal

-- the value is of the row of Via exactly if elements are read of it
pub returns-in-Known-Via-clause-row : goal.returns-in-Known-Via-clause-row
returns-in-Known-Via-clause-row c =
    -- `named`: the field is a Via
    let named : name_parts c.args.name ≡ known known_name.Via = ap name_parts c.in-Known-Via.is ∙ ap known (rw c.in-Known-Via.is at c.in-Known-Via.field-0-is) in
    subst (λ n. IsTrue c.keep.result ↔ Row n c.args.value.now) (sym named)
    (via-row c.args.value.now c.first_via.result c.keep.result c.keep.ensures.says c.first_via.ensures)

-- the first Via is kept
pub returns-in-Known-Via-clause-kept : goal.returns-in-Known-Via-clause-kept
returns-in-Known-Via-clause-kept c =
    -- `named`: the field is a Via
    let named : name_parts c.args.name ≡ known known_name.Via = ap name_parts c.in-Known-Via.is ∙ ap known (rw c.in-Known-Via.is at c.in-Known-Via.field-0-is) in
    via-keeps _ c.first_via.result c.keep.result _ _ named c.keep.ensures.says c.first_via.ensures c.keep.ensures.kept refl

-- nothing is kept of a From
pub returns-in-Known-From-clause-kept : goal.returns-in-Known-From-clause-kept
returns-in-Known-From-clause-kept c = λ _.
    -- the field is a From, and so neither a Via nor a CSeq
    named-keeps known_name.From _ _ (ap name_parts c.in-Known-From.is ∙ ap known (rw c.in-Known-From.is at c.in-Known-From.field-0-is)) (refl, refl)

-- nothing is kept of a To
pub returns-in-Known-To-clause-kept : goal.returns-in-Known-To-clause-kept
returns-in-Known-To-clause-kept c = λ _.
    -- the field is a To, and so neither a Via nor a CSeq
    named-keeps known_name.To _ _ (ap name_parts c.in-Known-To.is ∙ ap known (rw c.in-Known-To.is at c.in-Known-To.field-0-is)) (refl, refl)

-- nothing is kept of a Call-ID
pub returns-in-Known-CallId-clause-kept : goal.returns-in-Known-CallId-clause-kept
returns-in-Known-CallId-clause-kept c = λ _.
    -- the field is a Call-ID, and so neither a Via nor a CSeq
    named-keeps known_name.CallId _ _ (ap name_parts c.in-Known-CallId.is ∙ ap known (rw c.in-Known-CallId.is at c.in-Known-CallId.field-0-is)) (refl, refl)

-- the value is one of CSeq's row exactly if it is read as a CSeq
pub returns-in-Known-CSeq-clause-row : goal.returns-in-Known-CSeq-clause-row
returns-in-Known-CSeq-clause-row c =
    -- `named`: the field is a CSeq
    let named : name_parts c.args.name ≡ known known_name.CSeq = ap name_parts c.in-Known-CSeq.is ∙ ap known (rw c.in-Known-CSeq.is at c.in-Known-CSeq.field-0-is) in
    subst (λ n. IsTrue c.keep-in-Known-CSeq.result ↔ Row n c.args.value.now) (sym named)
    (cseq-row c.args.value.now c.read_cseq.result c.keep-in-Known-CSeq.result c.keep-in-Known-CSeq.ensures.says c.read_cseq.ensures)

-- the first CSeq is kept as it was read
pub returns-in-Known-CSeq-clause-kept : goal.returns-in-Known-CSeq-clause-kept
returns-in-Known-CSeq-clause-kept c =
    -- `named`: the field is a CSeq
    let named : name_parts c.args.name ≡ known known_name.CSeq = ap name_parts c.in-Known-CSeq.is ∙ ap known (rw c.in-Known-CSeq.is at c.in-Known-CSeq.field-0-is) in
    cseq-keeps _ c.read_cseq.result c.keep-in-Known-CSeq.result _ _ named c.keep-in-Known-CSeq.ensures.says c.read_cseq.ensures c.keep-in-Known-CSeq.ensures.kept refl

-- nothing is kept of a Content-Length
pub returns-in-Known-ContentLength-clause-kept : goal.returns-in-Known-ContentLength-clause-kept
returns-in-Known-ContentLength-clause-kept c = λ _.
    -- the field is a Content-Length, and so neither a Via nor a CSeq
    named-keeps known_name.ContentLength _ _ (ap name_parts c.in-Known-ContentLength.is ∙ ap known (rw c.in-Known-ContentLength.is at c.in-Known-ContentLength.field-0-is)) (refl, refl)

-- nothing is kept of another field
pub returns-in_default-clause-kept : goal.returns-in_default-clause-kept
returns-in_default-clause-kept c = λ _.
    -- `other`: the field is neither a Via nor a CSeq
    let other : (is_name_of known_name.Via (name_parts c.args.name) ≡ false) × (is_name_of known_name.CSeq (name_parts c.args.name) ≡ false) = search rules in
    other-keeps _ _ other
