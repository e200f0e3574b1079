-- A text is cut at its first line end that no blank follows, LF by LF.
-- In the lemmas u, v and w are parts of a text, l is a line, and m what is left after it.
-- `Cuts` tells of two cuts of one text which first part is longer, if one is: `first_longer`, `same_length`, `second_longer`.
use Rattle.std.proofs.Common.{◌≡◌, ℕ, ◌+◌, ◌-◌, ◌≤◌, ◌⊎◌, Bool, true, false, not, cond, take, drop, Some, None, List, [], ◌∷◌, ◌++◌, length, refl, sym, ap, ◌∙◌, subst, inl, inr, arith}
use Rattle.std.proofs.lemmas.Bool.{both_ways, and_parts, and_from}
use Rattle.std.proofs.lemmas.Option.{none-some}
use Rattle.std.proofs.Math.Seq.{take-append_seam, drop-append_seam}
use Rattle.sip_text.specs.Bytes.{crlf, carriage_return, line_feed}
use Rattle.sip_text.specs.inner.Blanks.{is_wsp}
use Rattle.sip_text.specs.inner.Cut.{before, behind, up_to, led}
use Rattle.sip_text.proofs.cuts.CutLemmas.{cut-whole, lacks-before}
use Rattle.sip_text.proofs.cuts.EndLemmas.{up_to-some, up_to-mark}
use Rattle.std.proofs.lemmas.List.{append_assoc, append-nil, length-append, append_cancel_left, take-append-drop, length-take-le}
use Rattle.sip_text.proofs.texts.LacksLemmas.{Lacks}
use Rattle.sip_standard.specs.Lines.{OpensBlank}
use Rattle.sip_message.specs.inner.Lines.{IsFolded}
use Rattle.sip_message.specs.inner.Fronts.{LineFront, ends_cr, begins_wsp, is_line}
use Rattle.sip_message.proofs.lemmas.text.Cuts.{Cuts, first_longer, same_length, second_longer, two_cuts, same_by_end}
use Rattle.sip_message.proofs.lemmas.lines.OneWay.{same_first}
use Rattle.sip_message.proofs.lemmas.front.Cuts.{ReadAs, NotRead}

-- no line ends in what was scanned, and its last byte is not the CR of a line end
pub record Scanned (done rest : List ℕ) : Type 0 where
  pub apart : (u : List ℕ) → done ≡ u ++ carriage_return ∷ [] → ⊥
  pub folded : (u v : List ℕ) → done ≡ u ++ (crlf ++ v) → OpensBlank (v ++ rest)

-- after what was scanned, each CRLF that no blank follows lies in the rest
-- u and v are the texts before and after the CRLF, and w is the part of u that was not scanned
pub unscanned : (done rest u v : List ℕ) → Scanned done rest → done ++ rest ≡ u ++ (crlf ++ v) → OpensBlank v ⊎ ((w : List ℕ) × (u ≡ done ++ w) × (rest ≡ w ++ (crlf ++ v)))
unscanned done rest u v scanned same = at (two_cuts done rest u (crlf ++ v) same)
  where
    -- the claim holds whether the CRLF begins in the rest or in what was scanned
    at : Cuts done rest u (crlf ++ v) → OpensBlank v ⊎ ((w : List ℕ) × (u ≡ done ++ w) × (rest ≡ w ++ (crlf ++ v)))
    -- the CRLF begins where the rest does, or later: then it lies in the rest
    at (same_length front back) = inr ([], sym front ∙ sym (append-nil done), back)
    at (second_longer c z longer back) = inr (c ∷ z, longer, back)
    -- it begins in what was scanned, whose last byte is then its CR: that was excluded
    at (first_longer c [] longer back) =
        let head : carriage_return ≡ c = cc in
        absurd (scanned.apart u (longer ∙ ap (λ x. u ++ x ∷ []) (sym head)))
    -- the CRLF lies in what was scanned, so a blank follows it
    at (first_longer c (d ∷ z) longer back) =
        let both : carriage_return ∷ line_feed ∷ v ≡ c ∷ d ∷ (z ++ rest) = back in
        let c_is : carriage_return ≡ c = cc in
        let d_is : line_feed ≡ d = cc in
        let v_is : v ≡ z ++ rest = cc in
        inl (subst OpensBlank (sym v_is) (scanned.folded u z (longer ∙ ap (λ x. u ++ x ∷ d ∷ z) (sym c_is) ∙ ap (λ x. u ++ carriage_return ∷ x ∷ z) (sym d_is))))

-- a text with a LF in it does not lack it
no_lf : (u v : List ℕ) → Lacks line_feed (u ++ line_feed ∷ v) → ⊥
-- the LF is the first byte, or stands after it
no_lf [] v lacks = both_ways true lacks.0 refl
no_lf (b ∷ u) v lacks = no_lf u v lacks.1

-- a text without LF has no CRLF
-- u and v would be the texts before and after the CRLF
no_crlf : (t u v : List ℕ) → Lacks line_feed t → t ≡ u ++ (crlf ++ v) → ⊥
no_crlf t u v lacks is =
    -- the CR would have a LF after it
    no_lf (u ++ carriage_return ∷ []) v (subst (Lacks line_feed) (is ∙ sym (append_assoc u (carriage_return ∷ []) (line_feed ∷ v))) lacks)

-- where no LF stands in the rest, no line is read of the text
pub scan-none : (done rest : List ℕ) → Scanned done rest → Lacks line_feed rest → NotRead (LineFront (done ++ rest))
scan-none done rest scanned lacks (line, more) (folded, cut, whole) =
    -- a CRLF that a blank follows ends no line; another one would lie in the rest, which has no LF
    elim (unscanned done rest line more scanned (whole ∙ append_assoc line crlf more)) [
      | inl begins ↦ cut begins
      | inr found ↦ no_crlf rest found.0 more lacks found.2
    ]

-- a text that begins with a blank and goes on with a CR after u has the blank in u
begins-left : (u v : List ℕ) → OpensBlank (u ++ carriage_return ∷ v) → OpensBlank u
-- the CR would be the blank; a text that is not empty has it as its first byte
begins-left [] v begins = both_ways (is_wsp carriage_return) refl begins
begins-left (b ∷ u) v begins = begins

-- where the next LF stands after a CR and before no blank, the line ends there
pub scan-line : (done f more : List ℕ) → Scanned done (f ++ (crlf ++ more)) → Lacks line_feed f → (OpensBlank more → ⊥) → ReadAs (LineFront (done ++ (f ++ (crlf ++ more)))) (done ++ f, more)
scan-line done f more scanned lacks cut = (is, (λ x other. only x.0 x.1 other))
  where
    -- each CRLF within the line has a blank after it
    folded : IsFolded (done ++ f)
    folded u v line_is =
        -- a CRLF in what was scanned has a blank after it, and one in f would have its LF there, where none stands
        elim (unscanned done (f ++ (crlf ++ more)) u (v ++ (crlf ++ more)) scanned (
        sym (append_assoc done f (crlf ++ more)) ∙ ap (λ t. t ++ (crlf ++ more)) line_is ∙ append_assoc u (crlf ++ v) (crlf ++ more))) [
          | inl begins ↦ begins-left v (line_feed ∷ more) begins
          | inr found ↦ absurd (no_crlf f found.0 v lacks (append_cancel_left done f (found.0 ++ (crlf ++ v)) (line_is ∙ ap (λ t. t ++ (crlf ++ v)) found.1 ∙ append_assoc done found.0 (crlf ++ v))))
        ]

    -- the line ends at this CRLF
    is : LineFront (done ++ (f ++ (crlf ++ more))) (done ++ f, more)
    is = (folded, cut, sym (append_assoc done f (crlf ++ more)) ∙ sym (append_assoc (done ++ f) crlf more))

    -- each line at the front ends at this CRLF
    only : (l m : List ℕ) → LineFront (done ++ (f ++ (crlf ++ more))) (l, m) → ◌≡◌ {A = List ℕ × List ℕ} (l, m) (done ++ f, more)
    only l m (l_folded, m_cut, whole) =
        -- two lines at the front, at whose end no blank follows, are the same
        let same = same_first l (done ++ f) m more l_folded folded m_cut cut (sym whole ∙ is.2) in
        ap (λ t. (t, m)) same.0 ∙ ap (λ t. (done ++ f, t)) same.1

-- where the next LF does not end a line, what was scanned goes on up to it
pub scan-more : (done front more : List ℕ) → Scanned done (front ++ line_feed ∷ more) → Lacks line_feed front → ((f : List ℕ) → front ≡ f ++ carriage_return ∷ [] → OpensBlank more) → Scanned (done ++ (front ++ line_feed ∷ [])) more
scan-more done front more scanned lacks blank = record { apart = apart; folded = folded }
  where
    -- the text up to the LF does not end with CR
    apart : (u : List ℕ) → done ++ (front ++ line_feed ∷ []) ≡ u ++ carriage_return ∷ [] → ⊥
    apart u same =
        -- the last bytes are LF and CR, which differ
        let ends = same_by_end (done ++ front) (line_feed ∷ []) u (carriage_return ∷ []) refl (append_assoc done front (line_feed ∷ []) ∙ same) in
        let tails : line_feed ∷ [] ≡ carriage_return ∷ [] = ends.1 in
        let heads : line_feed ≡ carriage_return = cc in
        omega (arith, heads)

    -- a blank follows this CRLF: it ends with this LF, since no other LF stands before it, so nothing is left of the line
    within : (w v : List ℕ) → Cuts front (line_feed ∷ []) (w ++ carriage_return ∷ []) (line_feed ∷ v) → OpensBlank (v ++ more)
    within w v (same_length f_is back) =
        -- the front is of the same length as w and CR, so nothing is left; were it shorter, an LF would stand in w; it cannot be longer
        let none : [] ≡ v = cc in
        subst (λ t. OpensBlank (t ++ more)) none (blank w f_is)
    -- the front goes on after w and CR with a LF, but has none
    within w v (first_longer c z longer back) =
        let head : line_feed ≡ c = cc in
        absurd (no_lf (w ++ carriage_return ∷ []) z (subst (Lacks line_feed) (longer ∙ ap (λ x. (w ++ carriage_return ∷ []) ++ x ∷ z) (sym head)) lacks))
    -- after the front only the one LF is left
    within w v (second_longer c z longer back) = absurd (omega (arith, ap length back, length-append z (line_feed ∷ v)))

    -- each CRLF up to this LF has a blank after it
    folded : (u v : List ℕ) → done ++ (front ++ line_feed ∷ []) ≡ u ++ (crlf ++ v) → OpensBlank (v ++ more)
    folded u v same =
        -- the CRLF lies in what was scanned, or else ends with this LF
        elim (unscanned done (front ++ line_feed ∷ more) u (v ++ more) scanned (
        ap (λ t. done ++ t) (sym (append_assoc front (line_feed ∷ []) more)) ∙ sym (append_assoc done (front ++ line_feed ∷ []) more) ∙ ap (λ t. t ++ more) same ∙ append_assoc u (crlf ++ v) more)) [
          | inl begins ↦ begins
          | inr found ↦ within found.0 v (two_cuts front (line_feed ∷ []) (found.0 ++ carriage_return ∷ []) (line_feed ∷ v) (
              append_cancel_left done (front ++ line_feed ∷ []) (found.0 ++ (crlf ++ v)) (same ∙ ap (λ t. t ++ (crlf ++ v)) found.1 ∙ append_assoc done found.0 (crlf ++ v))
              ∙ sym (append_assoc found.0 (carriage_return ∷ []) (line_feed ∷ v))))
        ]

-- a text that is cut at its first LF is the front, which lacks LF, the LF and the rest
cut-lf : (t front rest : List ℕ) → front ≡ before line_feed t → Some rest ≡ behind line_feed t → (t ≡ front ++ line_feed ∷ rest) × Lacks line_feed front
cut-lf t front rest front_is rest_is = (
  -- the text is what stands before the first LF, and from that LF on
  cut-whole line_feed t ∙ ap (λ x. x ++ led line_feed (behind line_feed t)) (sym front_is) ∙ ap (λ o. front ++ led line_feed o) (sym rest_is),
  subst (Lacks line_feed) (sym front_is) (lacks-before line_feed t),
)

-- where what is left of a text has no LF, no line is read of the text
pub cut-none : (text : List ℕ) (at : ℕ) → Scanned (take at text) (drop at text) → None ≡ behind line_feed (drop at text) → NotRead (LineFront text)
cut-none text at scanned none =
    subst (λ t. NotRead (LineFront t)) (take-append-drop at text)
    (scan-none (take at text) (drop at text) scanned (subst (Lacks line_feed) (sym whole) (lacks-before line_feed (drop at text))))
  where
    -- no LF is left, so what stands before the first one is all that is left
    whole : drop at text ≡ before line_feed (drop at text)
    whole = cut-whole line_feed (drop at text) ∙ ap (λ o. before line_feed (drop at text) ++ led line_feed o) (sym none) ∙ append-nil _

-- a text that ends with CR is some text and a CR
ends-cr : (text : List ℕ) → ends_cr text ≡ true → (f : List ℕ) × (text ≡ f ++ carriage_return ∷ [])
ends-cr text is =
    -- the text up to the CR at its end is there, since the test says that it ends with one
    let found : up_to carriage_return text ≡ Some (take (length text - 1) text) = ap (λ x. cond x (Some (take (length text - 1) text)) None) is in
    (take (length text - 1) text, up_to-some carriage_return text (take (length text - 1) text) found)

-- a text and a CR end with CR
cr-ends : (f : List ℕ) → ends_cr (f ++ carriage_return ∷ []) ≡ true
cr-ends f = at (ends_cr (f ++ carriage_return ∷ [])) refl
  where
    -- the test cannot say no, since the text ends with CR
    at : (x : Bool) → ends_cr (f ++ carriage_return ∷ []) ≡ x → ends_cr (f ++ carriage_return ∷ []) ≡ true
    at true is = is
    at false is =
        absurd (none-some f (sym (ap (λ x. cond x (Some (take (length (f ++ carriage_return ∷ []) - 1) (f ++ carriage_return ∷ []))) None) is) ∙ up_to-mark carriage_return f))

-- a text that opens with a blank passes the test for SP and HTAB
begins-wsp : (text : List ℕ) → OpensBlank text → begins_wsp text ≡ true
-- an empty text opens with no blank
begins-wsp [] begins = absurd begins
begins-wsp (b ∷ text) begins = begins

-- a text that passes the test for SP and HTAB opens with a blank
wsp-begins : (text : List ℕ) → begins_wsp text ≡ true → OpensBlank text
wsp-begins [] is = both_ways false refl is
wsp-begins (b ∷ text) is = is

-- where the next LF ends a line, the line is read up to the CR before it
pub line-found : (text front rest : List ℕ) (at : ℕ) → at ≤ length text → Scanned (take at text) (drop at text) → front ≡ before line_feed (drop at text) → Some rest ≡ behind line_feed (drop at text) → is_line front rest ≡ true → ReadAs (LineFront text) (take (at + length front - 1) text, rest)
line-found text front rest at within scanned front_is rest_is line =
    subst (λ t. ReadAs (LineFront text) (t, rest)) line_is
    (subst (λ t. ReadAs (LineFront t) (take at text ++ f.0, rest)) (sym whole)
    (scan-line (take at text) f.0 rest (subst (Scanned (take at text)) inner scanned) lacks cut))
  where
    -- what is left is cut at its first LF
    both : (drop at text ≡ front ++ line_feed ∷ rest) × Lacks line_feed front
    both = cut-lf (drop at text) front rest front_is rest_is

    -- a CR stands before the LF, and no blank after it
    parts : (ends_cr front ≡ true) × (not (begins_wsp rest) ≡ true)
    parts = and_parts (ends_cr front) (not (begins_wsp rest)) line

    -- the front is f and this CR
    f : (g : List ℕ) × (front ≡ g ++ carriage_return ∷ [])
    f = ends-cr front parts.0

    -- what is left is f, CRLF and the rest
    inner : drop at text ≡ f.0 ++ (crlf ++ rest)
    inner = both.0 ∙ ap (λ t. t ++ line_feed ∷ rest) f.1 ∙ append_assoc f.0 (carriage_return ∷ []) (line_feed ∷ rest)

    -- the text is what was scanned, f, CRLF and the rest
    whole : text ≡ take at text ++ (f.0 ++ (crlf ++ rest))
    whole = sym (take-append-drop at text) ∙ ap (λ t. take at text ++ t) inner

    -- the front of a text without LF has none
    left : (u v : List ℕ) → Lacks line_feed (u ++ v) → Lacks line_feed u
    left [] v all = tt
    left (b ∷ u) v all = (all.0, left u v all.1)

    -- no LF stands in f
    lacks : Lacks line_feed f.0
    lacks = left f.0 (carriage_return ∷ []) (subst (Lacks line_feed) f.1 both.1)

    -- no blank follows the line's end
    cut : OpensBlank rest → ⊥
    cut begins = both_ways false refl (sym (ap not (begins-wsp rest begins)) ∙ parts.1)

    -- the line is the text up to the CR
    line_is : take at text ++ f.0 ≡ take (at + length front - 1) text
    line_is =
        -- the first bytes of the text, as many as what was scanned and f have, are these
        sym (take-append_seam (take at text ++ f.0) (crlf ++ rest))
        ∙ ap (take (length (take at text ++ f.0))) (append_assoc (take at text) f.0 (crlf ++ rest) ∙ sym whole)
        ∙ ap (λ n. take n text) (omega (arith, length-append (take at text) f.0, length-take-le at text within, ap length f.1, length-append f.0 (carriage_return ∷ [])))

-- where the next LF does not end a line, the scan goes on after it
pub line-on : (text front rest : List ℕ) (at : ℕ) → at ≤ length text → Scanned (take at text) (drop at text) → front ≡ before line_feed (drop at text) → Some rest ≡ behind line_feed (drop at text) → is_line front rest ≡ false → (at + length front + 1 ≤ length text) × Scanned (take (at + length front + 1) text) (drop (at + length front + 1) text)
line-on text front rest at within scanned front_is rest_is line = (
  -- what was scanned, the front and the LF lie within the text; and they are scanned
  omega (arith, size, ap length whole, length-append (take at text ++ (front ++ line_feed ∷ [])) rest),
  subst (λ d. Scanned d (drop (at + length front + 1) text)) take_is (subst (Scanned (take at text ++ (front ++ line_feed ∷ []))) drop_is
      (scan-more (take at text) front rest (subst (Scanned (take at text)) both.0 scanned) both.1 blank)),
)
  where
    -- what is left is cut at its first LF
    both : (drop at text ≡ front ++ line_feed ∷ rest) × Lacks line_feed front
    both = cut-lf (drop at text) front rest front_is rest_is

    -- where a CR stands before the LF, a blank follows it
    blank : (f : List ℕ) → front ≡ f ++ carriage_return ∷ [] → OpensBlank rest
    blank f is = go (begins_wsp rest) refl
      where
        -- a blank follows, since the LF would else end the line
        go : (x : Bool) → begins_wsp rest ≡ x → OpensBlank rest
        -- a blank follows by the test; without one, the test of a line's end would pass
        go true e = wsp-begins rest e
        go false e = absurd (both_ways (is_line front rest) line (and_from (ends_cr front) (not (begins_wsp rest)) (ap ends_cr is ∙ cr-ends f) (ap not e)))

    -- what was scanned, with the front and the LF, has this length
    size : length (take at text ++ (front ++ line_feed ∷ [])) ≡ at + length front + 1
    size = omega (arith, length-append (take at text) (front ++ line_feed ∷ []), length-append front (line_feed ∷ []), length-take-le at text within)

    -- the text is what was scanned, the front, the LF and the rest
    whole : text ≡ (take at text ++ (front ++ line_feed ∷ [])) ++ rest
    whole =
        sym (take-append-drop at text) ∙ ap (λ t. take at text ++ t) (both.0 ∙ sym (append_assoc front (line_feed ∷ []) rest))
        ∙ sym (append_assoc (take at text) (front ++ line_feed ∷ []) rest)

    -- what was scanned, the front and the LF are the first bytes of the text
    take_is : (take at text ++ (front ++ line_feed ∷ [])) ≡ take (at + length front + 1) text
    take_is =
        sym (take-append_seam (take at text ++ (front ++ line_feed ∷ [])) rest) ∙ ap (take (length (take at text ++ (front ++ line_feed ∷ [])))) (sym whole) ∙ ap (λ n. take n text) size

    -- the rest is the text after these bytes
    drop_is : rest ≡ drop (at + length front + 1) text
    drop_is =
        sym (drop-append_seam (take at text ++ (front ++ line_feed ∷ [])) rest) ∙ ap (drop (length (take at text ++ (front ++ line_feed ∷ [])))) (sym whole) ∙ ap (λ n. drop n text) size

-- at the start nothing is scanned
pub scan-nothing : (text : List ℕ) → Scanned [] text
scan-nothing text = record {
  -- in the empty text stands neither a CR nor a CRLF
  apart = λ u is. absurd (omega (arith, ap length is, length-append u (carriage_return ∷ [])));
  folded = λ u v is. absurd (omega (arith, ap length is, length-append u (crlf ++ v)));
}

-- the first LF after the index lies within the text
pub lf-within : (text front rest : List ℕ) (at : ℕ) → at ≤ length text → front ≡ before line_feed (drop at text) → Some rest ≡ behind line_feed (drop at text) → at + length front + 1 ≤ length text
lf-within text front rest at within front_is rest_is =
    -- what was scanned and what is left are the text, and what is left is the front, a LF and the rest
    omega (
      arith,
      ap length (take-append-drop at text),
      length-append (take at text) (drop at text),
      length-take-le at text within,
      ap length (cut-lf (drop at text) front rest front_is rest_is).0,
      length-append front (line_feed ∷ rest),
    )
