-- Fields have their parts in one way: each value of a name is read in one way.
-- In the lemmas es and fs are elements of Via by two readings, or their first e and what comes after it; what belongs to the second reading has `_too`.
use Rattle.std.proofs.Common.{◌≡◌, ℕ, List, [], ◌∷◌, ◌++◌, refl, sym, ap, ◌∙◌, subst}
use Rattle.sip_standard.specs.Values.{CSeqSays}
use Rattle.sip_standard.specs.Via.{SaidVia, ViasSay}
use Rattle.sip_standard.specs.Says.{ViasTell}
use Rattle.sip_message.specs.inner.Parts.{HasParts}
use Rattle.sip_message.specs.declared.name.Known.TheVariants as known_name
use Rattle.sip_message.specs.inner.Marks.{comma}
use Rattle.sip_message.specs.Field.{Field, values}
use Rattle.sip_message.specs.inner.Fronts.{MarkFront}
use Rattle.sip_message.specs.inner.ElementFronts.{MoreSay}
use Rattle.sip_message.specs.Reading.{Parts}
use Rattle.sip_message.proofs.lemmas.front.OneWay.{one-mark}
use Rattle.sip_message.proofs.lemmas.via.Elements.{more-mark, no_mark-nil, says-front}
use Rattle.sip_message.proofs.lemmas.message.Views.{same-value}
use Rattle.sip_message.proofs.lemmas.value.CSeq.{same-cseq}
use Rattle.sip_message.proofs.lemmas.via.Steps.{one-via}

-- the parts of a message, made of what is read of its named fields
-- v is the first element of Via, o the others, f, t, i and c From, To, Call-ID and CSeq
abbrev make : SaidVia → List SaidVia → List ℕ → List ℕ → List ℕ → ℕ × List ℕ → Parts
make v o f t i c = record { via = v; others = o; from = f; to = t; call_id = i; cseq = c }

-- elements of Via that are read of one text are the same, where further elements are
same-with : (e : SaidVia) (es : List SaidVia) (f : SaidVia) (fs : List SaidVia) (text : List ℕ) → ViasSay (e ∷ es) text → ViasSay (f ∷ fs) text → ((x : List ℕ) → MoreSay es x → MoreSay fs x → es ≡ fs) → e ∷ es ≡ f ∷ fs
-- u is the text of the first element and x that of the others, by the first reading; w and y by the second
same-with e es f fs text (u, x, via, more, is) (w, y, via_too, more_too, is_too) later =
    -- the first element and what follows it are read in one way
    let same : ◌≡◌ {A = SaidVia × List ℕ} (e, x) (f, y) = one-via text (e, x) (f, y) (says-front e es text u x via more is) (says-front f fs text w y via_too more_too is_too) in
    let first : e ≡ f = ap (λ p. p.0) same in
    let others : es ≡ fs = later x more (subst (MoreSay fs) (sym (ap (λ p. p.1) same)) more_too) in
    cc

-- further elements of Via, each after a comma, are read in one way
same-more : (es fs : List SaidVia) (rest : List ℕ) → MoreSay es rest → MoreSay fs rest → es ≡ fs
-- where the one list ends, no comma follows, and so the other ends
same-more [] [] rest a b = refl
-- an element is left in the other list alone, after a comma that does not stand there
same-more [] (f ∷ fs) rest a b = let m = more-mark f fs rest b in absurd (no_mark-nil comma m.0 (subst (λ t. MarkFront comma t m.0) a m.1))
-- an element is left in the one list alone, after a comma that does not stand there
same-more (e ∷ es) [] rest a b = let m = more-mark e es rest a in absurd (no_mark-nil comma m.0 (subst (λ t. MarkFront comma t m.0) b m.1))
-- e and f are the first elements after a comma, which is the same one; what follows is the same too
same-more (e ∷ es) (f ∷ fs) rest a b =
    -- m and n are what follows the comma, by the two readings
    let m = more-mark e es rest a in
    let n = more-mark f fs rest b in
    same-with e es f fs m.0 m.2 (subst (ViasSay (f ∷ fs)) (one-mark comma rest refl n.0 m.0 n.1 m.1) n.2) (same-more es fs)

-- the elements of a value of Via are read in one way
same-now : (text : List ℕ) (es fs : List SaidVia) → ViasSay es text → ViasSay fs text → es ≡ fs
-- a value has one element at least
same-now text [] fs a b = absurd a
same-now text (e ∷ es) [] a b = absurd b
-- e and f are the first elements; what follows them is read in one way
same-now text (e ∷ es) (f ∷ fs) a b = same-with e es f fs text a b (same-more es fs)

-- the elements of several values of Via are read in one way
same-elements : (texts : List (List ℕ)) (es fs : List SaidVia) → ViasTell texts es → ViasTell texts fs → es ≡ fs
-- of no values there are no elements
same-elements [] es fs a b = a ∙ sym b
same-elements (text ∷ texts) es fs (now, more, is, are, whole) (now_too, more_too, is_too, are_too, whole_too) =
    -- the elements of the first value are the same, and so are those of the others
    whole ∙ ap (λ t. t ++ more) (same-now text now now_too is is_too) ∙ ap (λ t. now_too ++ t) (same-elements texts more more_too are are_too) ∙ sym whole_too

-- fields have their parts in one way
pub parts-one : (fields : List Field) (p q : Parts) → HasParts fields p → HasParts fields q → p ≡ q
parts-one fields p q a b =
    -- the elements are the same: the first one, and the others
    let vias : ◌≡◌ {A = List SaidVia} (p.via ∷ p.others) (q.via ∷ q.others) = same-elements (values known_name.Via fields) _ _ a.vias b.vias in
    let via : p.via ≡ q.via = cc in
    let others : p.others ≡ q.others = cc in
    -- each named field has one value, which says only one thing
    let from = same-value known_name.From fields a.from b.from in
    let to = same-value known_name.To fields a.to b.to in
    let call_id = same-value known_name.CallId fields a.call_id b.call_id in
    let text : b.cseq.0 ≡ a.cseq.0 = same-value known_name.CSeq fields b.cseq.1 a.cseq.1 in
    let cseq : p.cseq ≡ q.cseq = same-cseq a.cseq.0 p.cseq q.cseq a.cseq.2 (subst (λ t. CSeqSays q.cseq t) text b.cseq.2) in
    -- all parts are the same, one after another, since each is read in one way
    ap (λ v. make v p.others p.from p.to p.call_id p.cseq) via ∙ ap (λ o. make q.via o p.from p.to p.call_id p.cseq) others
    ∙ ap (λ f. make q.via q.others f p.to p.call_id p.cseq) from ∙ ap (λ t. make q.via q.others q.from t p.call_id p.cseq) to
    ∙ ap (λ i. make q.via q.others q.from q.to i p.cseq) call_id ∙ ap (λ c. make q.via q.others q.from q.to q.call_id c) cseq
