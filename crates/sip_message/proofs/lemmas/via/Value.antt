-- The elements of a Via value, read one after another.
-- `ViaFront` is an element of Via at the front of a text with what is left, where the element ends: with the text, or before a comma.
use Rattle.std.proofs.Common.{◌≡◌, ◌↔◌, ℕ, List, [], ◌∷◌, sym, ap, ◌∙◌, subst}
use Rattle.sip_standard.specs.Via.{SaidVia, ViasSay}
use Rattle.sip_message.specs.inner.Marks.{comma}
use Rattle.sip_message.specs.inner.ElementFronts.{MoreSay, ViaFront, FirstVia}
use Rattle.sip_message.specs.inner.Fronts.{MarkFront}
use Rattle.sip_message.proofs.lemmas.front.Cuts.{ReadAs, NotRead}
use Rattle.sip_message.proofs.lemmas.front.OneWay.{AtMostOne}
use Rattle.sip_message.proofs.lemmas.via.Steps.{one-via}
use Rattle.sip_message.proofs.lemmas.via.Elements.{no_mark-nil, more-mark, mark-more, says-front}

-- the text is elements of Via
abbrev pub AreVias : List ℕ → Type 0
AreVias text = (vias : List SaidVia) × ViasSay vias text

-- elements of Via are a first one and further ones
first-more : (text : List ℕ) → AreVias text → (v : SaidVia) × FirstVia text v
first-more text ([], none) = absurd none
first-more text (v ∷ vias, are) = (v, (vias, are))

-- the first of the elements stands at the front
pub first-stands : (text : List ℕ) (v : SaidVia) → (first : FirstVia text v) → ViaFront text (v, first.1.1)
-- x is the text of the first element and y that of the others
first-stands text v (vias, (x, y, via, more, whole)) = says-front v vias text x y via more whole

-- where no element is read at the front of a text, the text is no elements
pub vias-none : (text : List ℕ) → NotRead (ViaFront text) → AreVias text → ⊥
-- the first element would be read at the front
vias-none text none are = let first = first-more text are in none (first.0, first.1.1.1) (first-stands text first.0 first.1)

-- the text is elements of Via, each after a comma
abbrev pub AreMore : List ℕ → Type 0
AreMore text = (vias : List SaidVia) × MoreSay vias text

-- where an element is read at the front of a text, the text is elements exactly if what is left is further ones
pub vias-behind : (text more : List ℕ) (e : SaidVia) → ReadAs (ViaFront text) (e, more) → AreVias text ↔ AreMore more
vias-behind text more e read = (to, from)
  where
    -- where the text is elements, what is left after the first is further ones
    to : AreVias text → AreMore more
    -- the first element is the one that is read, so what follows it is what is left
    to are =
        let (v, first) = first-more text are in
        (first.0, subst (MoreSay first.0) (ap (λ x. x.1) (read.1 (v, first.1.1) (first-stands text v first))) first.1.3)

    -- where what is left is further elements, the text is elements
    from : AreMore more → AreVias text
    -- the element that is read comes before the further ones
    from (vias, are) = (e ∷ vias, (e.whole, more, read.0.0, are, read.0.1))

-- where a comma stands at the front of a text, the text is further elements exactly if what follows it is elements
pub more-behind : (rest next : List ℕ) → ReadAs (MarkFront comma rest) next → AreMore rest ↔ AreVias next
more-behind rest next read = (to, from)
  where
    -- where the text is further elements, what follows the comma is elements
    to : AreMore rest → AreVias next
    -- without further elements the text is empty, where no comma stands
    to ([], is) = absurd (no_mark-nil comma next (subst (λ t. MarkFront comma t next) is read.0))
    to (v ∷ vias, is) =
        -- `found` is the comma and what follows it, which is what is read after the comma
        let found = more-mark v vias rest is in
        (v ∷ vias, subst (ViasSay (v ∷ vias)) (read.1 found.0 found.1) found.2)

    -- elements after a comma are further elements
    from : AreVias next → AreMore rest
    from are = let (v, first) = first-more next are in (v ∷ first.0, mark-more v first.0 rest next read.0 first.1)

-- where no comma stands at the front of a text, the text is further elements exactly if it is empty
pub more-none : (rest : List ℕ) → NotRead (MarkFront comma rest) → AreMore rest ↔ (rest ≡ [])
more-none rest none = (to, λ is. ([], is))
  where
    -- where the text is further elements, it is empty, since they would begin with a comma
    to : AreMore rest → rest ≡ []
    -- there are none, so the text is empty
    to ([], is) = is
    -- there would be a comma
    to (v ∷ vias, is) = let found = more-mark v vias rest is in absurd (none found.0 found.1)

-- the first of the elements of a text is one element
pub one-first : (text : List ℕ) → AtMostOne (FirstVia text)
-- it stands at the front, where one element is read
one-first text v w a b = ap (λ x. x.0) (one-via text (v, a.1.1) (w, b.1.1) (first-stands text v a) (first-stands text w b))

-- where an element is read at the front of a text that is elements, it is the first of them, and read as that alone
pub first-is : (text more : List ℕ) (e : SaidVia) → ReadAs (ViaFront text) (e, more) → AreVias text → ReadAs (FirstVia text) e
first-is text more e read are = (subst (FirstVia text) same first, (λ x is. one-first text x v is first ∙ same))
  where
    -- the first of the elements
    v : SaidVia
    v = (first-more text are).0

    -- it is the first
    first : FirstVia text v
    first = (first-more text are).1

    -- it stands at the front, where no other element is read
    same : v ≡ e
    same = ap (λ y. y.0) (read.1 (v, first.1.1) (first-stands text v first))

-- where no first element is read of a text, the text is no elements
pub first-none : (text : List ℕ) → NotRead (FirstVia text) → AreVias text → ⊥
-- the first of the elements would be read
first-none text none are = let first = first-more text are in none first.0 first.1

-- the transport of the first element of this value of Via
abbrev pub TopTransport : List ℕ → List ℕ → Type 0
TopTransport value transport =
    (v : SaidVia) × (more : List SaidVia) × ViasSay (v ∷ more) value × (transport ≡ v.transport)

-- a value of Via has one transport of its first element
pub same_transport : (value t u : List ℕ) → TopTransport value t → TopTransport value u → t ≡ u
same_transport value t u (v, vs, is, t_is) (x, xs, is_too, u_is) = t_is ∙ ap (λ e. e.transport) (one-first value v x (vs, is) (xs, is_too)) ∙ sym u_is
