-- Hostnames, and their test.
-- In the lemmas us are labels with their dots, and w is the first of them.
use Rattle.std.proofs.Common.{◌≡◌, ℕ, ◌<◌, Bool, true, false, nat_eq, List, [], ◌∷◌, ◌++◌, Option, None, Some, unwrap_or, length, slice_index, refl, sym, ap, ◌∙◌, subst, inl, inr, arith}
use Rattle.std.specs.List.{AllByRecursion, concat, join_with_byte, list_all}
use Rattle.std.specs.Char.{is_ascii_alphabetic, is_ascii_alphanumeric}
use Rattle.std.proofs.lemmas.Bool.{and_from, and_parts}
use Rattle.std.proofs.lemmas.List.{append-nil, append_assoc, length-append}
use Rattle.std.proofs.lemmas.List.Splits.{join_with_byte-slice_split}
use Rattle.sip_standard.specs.Text.{One, Many, ◌then◌, Optional}
use Rattle.sip_standard.specs.Profile.{Label, Hostname}
use Rattle.sip_text.specs.Bytes.{dot, Byte}
use Rattle.sip_text.specs.inner.Class.{is_label_byte}
use Rattle.sip_text.specs.inner.Cut.{before, behind, parts, up_to}
use Rattle.sip_text.specs.inner.HostTests.{has_label_ends, has_top_ends, is_label, is_top_label, are_labels, is_hostname}
use Rattle.sip_text.proofs.texts.ManyLemmas.{many-nil, many-cons}
use Rattle.sip_text.proofs.texts.LacksLemmas.{AllLack, lack-one, lack-byte, lack-then, lack-or, lack-many, lack-optional}
use Rattle.sip_text.proofs.cuts.CutLemmas.{later_parts, parts-cut, parts-one, parts-mark}
use Rattle.sip_text.proofs.cuts.EndLemmas.{up_to-mark, up_to-some, up_to-lacks}
use Rattle.sip_text.proofs.hosts.LabelLemmas.{alphanumeric-alphabetic, label-is, label-yes, label-starts, labels-cons}

-- a domainlabel passes its test
domain-is : (text : List ℕ) → Label is_ascii_alphanumeric text → is_label text ≡ true
domain-is text label = (label-is is_ascii_alphanumeric text (λ b pass. pass) label).0

-- a text that passes the test of a domainlabel is one
domain-yes : (text : List ℕ) → is_label text ≡ true → Label is_ascii_alphanumeric text
domain-yes text pass = label-yes is_ascii_alphanumeric text pass (label-starts text pass)

-- a toplabel passes its test
top-is : (text : List ℕ) → Label is_ascii_alphabetic text → is_top_label text ≡ true
top-is text label =
    let both = label-is is_ascii_alphabetic text alphanumeric-alphabetic label in
    let parts = and_parts (has_label_ends text) (list_all is_label_byte text) both.0 in
    and_from _ _ (and_from _ _ both.1 parts.0) parts.1

-- a text that passes the test of a toplabel is one
top-yes : (text : List ℕ) → is_top_label text ≡ true → Label is_ascii_alphabetic text
top-yes text pass =
    let both = and_parts (has_top_ends text) (list_all is_label_byte text) pass in
    let ends = and_parts (is_ascii_alphabetic (slice_index text 0)) (has_label_ends text) both.0 in
    label-yes is_ascii_alphabetic text (and_from _ _ ends.1 both.1) ends.0

-- a label lacks each byte that may neither begin a label nor stand in one
lack-label : (mark : ℕ) (first : ℕ → Bool) → first mark ≡ false → is_label_byte mark ≡ false → is_ascii_alphanumeric mark ≡ false → AllLack mark (Label first)
lack-label mark first no_first no_label no_last =
    lack-or mark (One first) (One first then Many (One is_label_byte) then One is_ascii_alphanumeric) (lack-one mark first no_first)
    (lack-then mark (One first) (Many (One is_label_byte) then One is_ascii_alphanumeric) (lack-one mark first no_first)
    (lack-then mark (Many (One is_label_byte)) (One is_ascii_alphanumeric)
    (lack-many mark (One is_label_byte) (lack-one mark is_label_byte no_label)) (lack-one mark is_ascii_alphanumeric no_last)))

-- a domainlabel has no dot
lack-domain : AllLack dot (Label is_ascii_alphanumeric)
lack-domain = lack-label dot is_ascii_alphanumeric refl refl refl

-- a toplabel has no dot
lack-top : AllLack dot (Label is_ascii_alphabetic)
lack-top = lack-label dot is_ascii_alphabetic refl refl refl

-- a label is not empty
long-label : (first : ℕ → Bool) (text : List ℕ) → Label first text → 0 < length text
long-label first text (inl one) = omega (arith, ap length one.2)
long-label first text (inr more) = omega (arith, ap length more.4, length-append more.0 more.1, ap length more.2.2)

-- a hostname without the dot at its end
abbrev Name : List ℕ → Type 0
Name = Many (Label is_ascii_alphanumeric then Byte dot) then Label is_ascii_alphabetic

-- the parts between the dots of a hostname that has no dot at its end pass the test of labels
name-is : (text : List ℕ) → Name text → are_labels (parts dot text) ≡ true
name-is text (u, top, many, is_top, whole) =
    ap (λ t. are_labels (parts dot t)) (whole ∙ ap (λ t. t ++ top) many.2) ∙ go many.0 many.1
  where
    -- labels with dots between them, and the last label, pass the test
    go : (us : List (List ℕ)) → AllByRecursion (Label is_ascii_alphanumeric then Byte dot) us → are_labels (parts dot (concat us ++ top)) ≡ true
    go [] all = ap are_labels (parts-one dot top (lack-top top is_top)) ∙ top-is top is_top
    -- the first label and its dot come before the others
    go (w ∷ us) all =
        ap (λ t. are_labels (parts dot t)) (spelled w all.0)
        ∙ ap are_labels (parts-mark dot all.0.0 (concat us ++ top) (lack-domain all.0.0 all.0.2))
        ∙ labels-cons all.0.0 (concat us ++ top)
        ∙ and_from _ _ (domain-is all.0.0 all.0.2) (go us all.1)
      where
        -- the first label and its dot stand at the front
        spelled : (x : List ℕ) (label : (Label is_ascii_alphanumeric then Byte dot) x) → (x ++ concat us) ++ top ≡ label.0 ++ (dot ∷ (concat us ++ top))
        spelled x label =
            append_assoc x (concat us) top
            ∙ ap (λ t. t ++ (concat us ++ top)) label.4
            ∙ append_assoc label.0 label.1 (concat us ++ top)
            ∙ ap (λ t. label.0 ++ (t ++ (concat us ++ top))) label.3

-- a text whose parts between the dots pass the test of labels is a hostname that has no dot at its end
name-yes : (text : List ℕ) → are_labels (parts dot text) ≡ true → Name text
name-yes text pass =
    -- the text is its parts, joined by dots, of which the first is what stands before the first dot
    let cut = parts-cut dot text in
    subst Name (ap (join_with_byte dot) (sym cut) ∙ join_with_byte-slice_split dot text)
    (go (before dot text) (later_parts dot (behind dot text)) (ap are_labels (sym cut) ∙ pass))
  where
    -- labels that pass the test, with dots between them, are a name
    go : (label : List ℕ) (labels : List (List ℕ)) → are_labels (label ∷ labels) ≡ true → Name (join_with_byte dot (label ∷ labels))
    -- the last label alone is the top label, with no labels before it
    go label [] pass = ([], label, many-nil (Label is_ascii_alphanumeric then Byte dot), top-yes label pass, refl)
    -- the first label passes its test, and the others are a hostname
    go label (next ∷ labels) pass =
        let both = and_parts (is_label label) (are_labels (next ∷ labels)) pass in
        let rest = go next labels both.1 in (
          (label ++ (dot ∷ [])) ++ rest.0,
          rest.1,
          -- the first label with its dot stands before the labels of the rest; the top label is that of the rest
          many-cons (Label is_ascii_alphanumeric then Byte dot) (label ++ (dot ∷ [])) rest.0 (label, dot ∷ [], domain-yes label both.0, refl, refl) rest.2,
          rest.3,
          -- the text is the first label, a dot and the text of the rest
          ap (λ t. label ++ (dot ∷ t)) rest.4
              ∙ sym (append_assoc (label ++ (dot ∷ [])) rest.0 rest.1 ∙ append_assoc label (dot ∷ []) (rest.0 ++ rest.1)),
        )

-- a hostname passes the test
pub hostname-is : (text : List ℕ) → Hostname text → is_hostname text ≡ true
hostname-is text (u, t, many, (top, end, is_top, inl none, t_is), whole) =
    -- without a dot at its end the text is labels (u) and the top label, which has no dot
    let name : text ≡ u ++ top = whole ∙ ap (λ x. u ++ x) (t_is ∙ ap (λ x. top ++ x) none ∙ append-nil top) in
    let no_dot : up_to dot text ≡ None = ap (up_to dot) name ∙ up_to-lacks dot u top (lack-top top is_top) (long-label is_ascii_alphabetic top is_top) in
    ap (λ o. are_labels (parts dot (unwrap_or o text))) no_dot ∙ name-is text (u, top, many, is_top, name)
hostname-is text (u, t, many, (top, end, is_top, inr is_dot, t_is), whole) =
    -- with a dot at its end it is these and the dot, which the test takes off
    let name : text ≡ (u ++ top) ++ (dot ∷ []) =
    whole ∙ ap (λ x. u ++ x) (t_is ∙ ap (λ x. top ++ x) is_dot) ∙ sym (append_assoc u top (dot ∷ [])) in
    ap (λ o. are_labels (parts dot (unwrap_or o text))) (ap (up_to dot) name ∙ up_to-mark dot (u ++ top))
    ∙ name-is (u ++ top) (u, top, many, is_top, refl)

-- a text that passes the test of a hostname is one
pub hostname-yes : (text : List ℕ) → is_hostname text ≡ true → Hostname text
hostname-yes text pass = at (up_to dot text) refl pass
  where
    -- a name with an optional dot at its end is a hostname
    named : (name end : List ℕ) → Name name → Optional (Byte dot) end → Hostname (name ++ end)
    named name end (u, top, many, is_top, whole) optional =
        (u, top ++ end, many, (top, end, is_top, optional, refl), ap (λ x. x ++ end) whole ∙ append_assoc u top end)

    -- the claim holds whether or not the text ends with a dot
    at : (o : Option (List ℕ)) → up_to dot text ≡ o → are_labels (parts dot (unwrap_or o text)) ≡ true → Hostname text
    at None is passes = subst Hostname (append-nil text) (named text [] (name-yes text passes) (inl refl))
    at (Some name) is passes =
        subst Hostname (sym (up_to-some dot text name is)) (named name (dot ∷ []) (name-yes name passes) (inr refl))

-- a hostname lacks what is neither a dot nor a byte of a label
pub lack-hostname : (mark : ℕ) → nat_eq dot mark ≡ false → is_ascii_alphabetic mark ≡ false → is_label_byte mark ≡ false → is_ascii_alphanumeric mark ≡ false → AllLack mark Hostname
lack-hostname mark other no_top no_label no_domain =
    lack-then mark (Many (Label is_ascii_alphanumeric then Byte dot)) (Label is_ascii_alphabetic then Optional (Byte dot))
    (lack-many mark (Label is_ascii_alphanumeric then Byte dot)
    (lack-then mark (Label is_ascii_alphanumeric) (Byte dot) (lack-label mark is_ascii_alphanumeric no_domain no_label no_domain) (lack-byte mark dot other)))
    (lack-then mark (Label is_ascii_alphabetic) (Optional (Byte dot)) (lack-label mark is_ascii_alphabetic no_top no_label no_domain)
    (lack-optional mark (Byte dot) (lack-byte mark dot other)))
