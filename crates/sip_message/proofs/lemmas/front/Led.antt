-- An optional part after its mark, and what may follow a part.
use Rattle.std.proofs.Common.{◌≡◌, ℕ, ◌<◌, ◌≤◌, ◌⊎◌, Bool, true, false, List, [], ◌∷◌, ◌++◌, Some, None, length, refl, sym, ap, ◌∙◌, subst, inl, inr, arith}
use Rattle.std.proofs.lemmas.Bool.{both_ways}
use Rattle.std.proofs.lemmas.List.{append_assoc, length-append}
use Rattle.sip_standard.specs.Field.{is_lws_byte}
use Rattle.sip_message.specs.inner.Marks.{comma, Mark}
use Rattle.sip_message.specs.inner.Fronts.{Stops, Behind, TokenFront, MarkFront}
use Rattle.sip_message.specs.inner.ElementFronts.{EndsElement}
use Rattle.sip_message.specs.inner.ParamFronts.{LedFront}
use Rattle.sip_message.proofs.lemmas.text.Cuts.{All}
use Rattle.sip_message.proofs.lemmas.text.Each.{each-sws}
use Rattle.sip_message.proofs.lemmas.front.Cuts.{ReadAs, NotRead, mark-parts, same-behind, stops-byte}
use Rattle.sip_message.proofs.lemmas.via.Elements.{no_mark-nil}
use Rattle.sip_message.proofs.lemmas.front.OneWay.{AtMostOne, read-one, one-led}

-- where the mark stands at the front of a text, and a part after it, an optional part is read as that part
pub led-some : (mark : ℕ) (Part : List ℕ → List ℕ × List ℕ → Type 0) (text inner part rest : List ℕ) → is_lws_byte mark ≡ false → ((t : List ℕ) → AtMostOne (Part t)) → ReadAs (MarkFront mark text) inner → Part inner (part, rest) → ReadAs (LedFront mark Part text) (Some part, rest)
led-some mark Part text inner part rest solid one found is =
    -- the mark is read, and the part after it
    read-one (LedFront mark Part text) (Some part, rest) (one-led mark Part text solid one) (inner, found.0, is)

-- where the mark stands at the front of a text, and no part after it, an optional part is not read
pub no-led : (mark : ℕ) (Part : List ℕ → List ℕ × List ℕ → Type 0) (text inner : List ℕ) → ReadAs (MarkFront mark text) inner → NotRead (Part inner) → NotRead (LedFront mark Part text)
-- without the part the mark would not stand there
no-led mark Part text inner found none (None, rest) (no_mark, is) = no_mark inner found.0
no-led mark Part text inner found none (Some part, rest) (t, mark_too, is) =
    -- with the part it would be read after this mark
    none (part, rest) (subst (λ x. Part x (part, rest)) (found.1 t mark_too) is)

-- the text is empty, or after its blanks stands a byte of these
abbrev pub Next : (ℕ → Bool) → List ℕ → Type 0
Next these text = (text ≡ []) ⊎ ((b : ℕ) × (inner : List ℕ) × (these b ≡ true) × Behind text (b ∷ inner))

-- where no byte of these passes the test, and no blank does, a text that begins with them after blanks begins with no byte that passes
pub next-stops : (these test : ℕ → Bool) (text : List ℕ) → ((b : ℕ) → is_lws_byte b ≡ true → test b ≡ false) → ((b : ℕ) → these b ≡ true → test b ≡ false) → Next these text → Stops test text
-- the text is empty
next-stops these test text blank other (inl none) = subst (Stops test) (sym none) tt
-- u is the blanks, v what follows them, and b its first byte
next-stops these test text blank other (inr (b, inner, is, (stops, (u, v, sws, v_is, whole)))) =
    subst (Stops test) (sym (whole ∙ ap (λ x. u ++ x) v_is)) (at u (each-sws u sws))
  where
    -- a text of blanks and then the byte begins with no byte that passes the test
    at : (t : List ℕ) → All is_lws_byte t → Stops test (t ++ (b ∷ inner))
    -- without blanks the byte b stands first
    at [] all = other b is
    -- with blanks a blank stands first
    at (c ∷ t) all = blank c all.0

-- where one of these bytes stands after the blanks at the front of a text, the mark of another byte does not stand there
pub next-other : (these : ℕ → Bool) (mark : ℕ) (text : List ℕ) → is_lws_byte mark ≡ false → these mark ≡ false → Next these text → NotRead (MarkFront mark text)
-- the text is empty, where no mark stands
next-other these mark text solid fails (inl none) rest is = no_mark-nil mark rest (subst (λ t. MarkFront mark t rest) none is)
next-other these mark text solid fails (inr (b, inner, pass, behind)) rest is =
    -- by both readings one byte is the first after the blanks, so the mark would be b
    let parts = mark-parts mark text rest solid is in
    let same : ◌≡◌ {A = List ℕ} (mark ∷ parts.0) (b ∷ inner) = same-behind text (mark ∷ parts.0) (b ∷ inner) parts.1 behind in
    let bytes : mark ≡ b = cc in
    both_ways (these mark) fails (ap these bytes ∙ pass)

-- the byte of a mark stands after the blanks at its front
pub mark-behind : (mark : ℕ) (m z : List ℕ) → is_lws_byte mark ≡ false → Mark mark m → (inner : List ℕ) × Behind (m ++ z) (mark ∷ inner)
-- s is the blanks before the mark's byte, and t the byte with the blanks after it
mark-behind mark m z solid (s, t, sws, (byte, after, byte_is, after_is, t_is), m_is) =
    (after ++ z, (stops-byte mark (after ++ z) solid, (s, mark ∷ (after ++ z), sws, refl, whole)))
  where
    -- the text is blanks, the mark, blanks and what is left
    whole : m ++ z ≡ s ++ (mark ∷ (after ++ z))
    whole = ap (λ x. x ++ z) (m_is ∙ ap (λ x. s ++ x) (t_is ∙ ap (λ x. x ++ after) byte_is)) ∙ append_assoc s (mark ∷ after) z

-- a text that begins with the mark of one of these bytes begins with one of these after its blanks
pub mark-next : (these : ℕ → Bool) (mark : ℕ) (m z : List ℕ) → is_lws_byte mark ≡ false → these mark ≡ true → Mark mark m → Next these (m ++ z)
-- the byte of the mark is the one that stands after the blanks
mark-next these mark m z solid pass is = let behind = mark-behind mark m z solid is in inr (mark, behind.0, pass, behind.1)

-- where an element ends, nothing follows or a comma after blanks
pub ends-next : (these : ℕ → Bool) (text : List ℕ) → these comma ≡ true → EndsElement text → Next these text
-- nothing follows
ends-next these text pass (inl none) = inl none
ends-next these text pass (inr (next, mark)) =
    -- a comma follows, which is one of these bytes
    let parts = mark-parts comma text next refl mark in
    inr (comma, parts.0, pass, parts.1)

-- what is left after a mark is shorter than the text
pub mark-shorter : (mark : ℕ) (text rest : List ℕ) → is_lws_byte mark ≡ false → MarkFront mark text rest → length rest < length text
mark-shorter mark text rest solid is =
    -- `outer` says that the text is blanks and then the mark's byte, and `inner` that what follows that byte is blanks and the rest
    let parts = mark-parts mark text rest solid is in
    let outer = parts.1.1 in
    let inner = parts.2.1 in
    omega (arith, ap length outer.4, length-append outer.0 outer.1, ap length outer.3, ap length inner.4, length-append inner.0 inner.1, ap length inner.3)

-- what is left after a token is no longer than the text
pub token-shorter : (text token rest : List ℕ) → TokenFront text (token, rest) → length rest ≤ length text
token-shorter text token rest (is, stops, (u, v, u_is, v_is, whole)) =
    -- the text is the token and what is left
    omega (arith, ap length whole, length-append u v, ap length v_is)
