-- Texts joined by a mark, and the parts between the marks.
-- In the lemmas u is the first part and us are the others, or any parts.
use Rattle.std.proofs.Common.{◌≡◌, ℕ, Bool, true, List, [], ◌∷◌, ◌++◌, refl, sym, ap, ◌∙◌, subst}
use Rattle.std.specs.List.{AllByRecursion, concat, join_with_byte, list_all}
use Rattle.std.proofs.lemmas.Bool.{and_from, and_parts}
use Rattle.std.proofs.lemmas.List.{append-nil}
use Rattle.std.proofs.lemmas.List.Splits.{join_with_byte-slice_split}
use Rattle.sip_standard.specs.Text.{◌then◌}
use Rattle.sip_text.specs.Bytes.{Byte}
use Rattle.sip_text.specs.inner.Cut.{before, behind, parts}
use Rattle.sip_text.specs.inner.Pieces.{Joined}
use Rattle.sip_text.proofs.texts.LacksLemmas.{AllLack}
use Rattle.sip_text.proofs.texts.ManyLemmas.{many-nil, many-cons}
use Rattle.sip_text.proofs.cuts.CutLemmas.{later_parts, parts-cut, parts-one, parts-mark}

-- where texts of P lack the mark, each part of a text that is texts of P with the mark between them is a text of P
pub parts-joined : (mark : ℕ) (P : List ℕ → Type 0) (text : List ℕ) → AllLack mark P → Joined mark P text → AllByRecursion P (parts mark text)
parts-joined mark P text lack joined =
    subst (λ t. AllByRecursion P (parts mark t)) (sym (joined.4 ∙ ap (λ t. joined.0 ++ t) joined.3.2))
    (go joined.0 joined.3.0 joined.2 joined.3.1)
  where
    -- texts of P with the mark before each but the first are the parts of their text, and so each part is of P
    go : (u : List ℕ) (us : List (List ℕ)) → P u → AllByRecursion (Byte mark then P) us → AllByRecursion P (parts mark (u ++ concat us))
    go u [] one all =
        subst (AllByRecursion P) (sym (ap (parts mark) (append-nil u) ∙ parts-one mark u (lack u one))) (one, tt)
    go u (v ∷ us) one all =
        subst (AllByRecursion P) (sym (ap (parts mark) split ∙ parts-mark mark u (all.0.1 ++ concat us) (lack u one)))
        (one, go all.0.1 us all.0.3 all.1)
      where
        -- the text v begins with the mark
        split : u ++ (v ++ concat us) ≡ u ++ (mark ∷ (all.0.1 ++ concat us))
        split = ap (λ t. u ++ (t ++ concat us)) (all.0.4 ∙ ap (λ t. t ++ all.0.1) all.0.2)

-- where each part is a text of P, the text is texts of P with the mark between them
pub joined-parts : (mark : ℕ) (P : List ℕ → Type 0) (text : List ℕ) → AllByRecursion P (parts mark text) → Joined mark P text
joined-parts mark P text all =
    -- the text is its parts, joined by the mark
    let cut = parts-cut mark text in
    subst (Joined mark P) (ap (join_with_byte mark) (sym cut) ∙ join_with_byte-slice_split mark text)
    (go (before mark text) (later_parts mark (behind mark text)) (subst (AllByRecursion P) cut all))
  where
    -- texts of P with the mark between them are joined by it
    go : (u : List ℕ) (us : List (List ℕ)) → AllByRecursion P (u ∷ us) → Joined mark P (join_with_byte mark (u ∷ us))
    -- one part alone has nothing joined to it
    go u [] each = (u, [], each.0, many-nil (Byte mark then P), sym (append-nil u))
    -- the first part is followed by a mark and the other parts
    go u (v ∷ us) each =
        let rest = go v us each.1 in (
          u,
          mark ∷ (rest.0 ++ rest.1),
          each.0,
          many-cons (Byte mark then P) (mark ∷ rest.0) rest.1 (mark ∷ [], rest.0, refl, rest.2, refl) rest.3,
          ap (λ t. u ++ (mark ∷ t)) rest.4,
        )

-- where each text that passes the test is of P, and all texts of a list pass it, all are of P
AllByRecursion-test : (test : List ℕ → Bool) (P : List ℕ → Type 0) (us : List (List ℕ)) → ((u : List ℕ) → test u ≡ true → P u) → list_all test us ≡ true → AllByRecursion P us
AllByRecursion-test test P [] each all = tt
AllByRecursion-test test P (u ∷ us) each all =
    let both = and_parts (test u) (list_all test us) all in
    (each u both.0, AllByRecursion-test test P us each both.1)

-- where each text of P passes the test, and all texts of a list are of P, all pass it
list_all-AllByRecursion : (test : List ℕ → Bool) (P : List ℕ → Type 0) (us : List (List ℕ)) → ((u : List ℕ) → P u → test u ≡ true) → AllByRecursion P us → list_all test us ≡ true
list_all-AllByRecursion test P [] each all = refl
list_all-AllByRecursion test P (u ∷ us) each all =
    and_from (test u) (list_all test us) (each u all.0) (list_all-AllByRecursion test P us each all.1)

-- where each text that passes the test is of P, and all parts pass it, the text is texts of P with the mark between them
pub joined-yes : (test : List ℕ → Bool) (mark : ℕ) (P : List ℕ → Type 0) (text : List ℕ) → ((u : List ℕ) → test u ≡ true → P u) → list_all test (parts mark text) ≡ true → Joined mark P text
joined-yes test mark P text each all = joined-parts mark P text (AllByRecursion-test test P (parts mark text) each all)

-- where texts of P lack the mark and pass the test, each part of a text that is texts of P with the mark between them passes
pub joined-is : (test : List ℕ → Bool) (mark : ℕ) (P : List ℕ → Type 0) (text : List ℕ) → AllLack mark P → ((u : List ℕ) → P u → test u ≡ true) → Joined mark P text → list_all test (parts mark text) ≡ true
joined-is test mark P text lack each joined =
    list_all-AllByRecursion test P (parts mark text) each (parts-joined mark P text lack joined)
