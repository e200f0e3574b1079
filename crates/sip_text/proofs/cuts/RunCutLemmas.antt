-- Where a run of bytes of one class ends, a text is cut at a mark that is not of the class.
use Rattle.std.proofs.Common.{◌≡◌, ℕ, ◌+◌, Bool, true, false, cond, List, [], ◌∷◌, ◌++◌, Option, None, Some, length, take, drop, refl, sym, ap, ◌∙◌, arith}
use Rattle.std.specs.List.{prefix_len, list_all}
use Rattle.std.proofs.lemmas.Bool.{and_parts, eq-eqb, false_from_ne_true}
use Rattle.std.proofs.lemmas.List.{append-nil}
use Rattle.sip_standard.specs.Text.{One, Many}
use Rattle.sip_text.specs.inner.Cut.{led, before, behind, past}
use Rattle.sip_text.proofs.texts.ManyLemmas.{drop-front, front-whole}
use Rattle.sip_text.proofs.texts.LacksLemmas.{lack-many, lack-one}
use Rattle.sip_text.proofs.texts.RunLemmas.{run-front, run-list_all}
use Rattle.sip_text.proofs.cuts.CutLemmas.{cut-whole, before-led, behind-led, past-some}

-- where all bytes of u are of a class, and nothing or a mark that is not of the class follows them, the longest run of the class at the front is u
prefix_len-run : (test : ℕ → Bool) (mark : ℕ) (u : List ℕ) (o : Option (List ℕ)) → test mark ≡ false → list_all test u ≡ true → prefix_len test (u ++ led mark o) ≡ length u
prefix_len-run test mark [] None fails all = refl
prefix_len-run test mark [] (Some v) fails all = ap (λ pass. cond pass (1 + prefix_len test v) 0) fails
prefix_len-run test mark (b ∷ u) o fails all =
    let both = and_parts (test b) (list_all test u) all in
    let rest = prefix_len-run test mark u o fails both.1 in
    ap (λ pass. cond pass (1 + prefix_len test (u ++ led mark o)) 0) both.0 ∙ omega (arith, rest)

-- where all bytes before the first mark are of a class without the mark, they are the longest run of the class at the front of the text
pub run-before : (test : ℕ → Bool) (mark : ℕ) (text : List ℕ) → test mark ≡ false → list_all test (before mark text) ≡ true → prefix_len test text ≡ length (before mark text)
run-before test mark text fails all =
    ap (prefix_len test) (cut-whole mark text) ∙ prefix_len-run test mark (before mark text) (behind mark text) fails all

-- where the longest run of a class without the mark is the whole text, the text has no mark, and all its bytes are of the class
pub run-end : (test : ℕ → Bool) (mark n : ℕ) (text : List ℕ) → test mark ≡ false → n ≡ prefix_len test text → n ≡ length text → (text ≡ before mark text) × (None ≡ behind mark text) × (true ≡ list_all test (before mark text))
run-end test mark n text fails run all =
    -- all bytes of the text are of the class, so the text lacks the mark
    let many = front-whole (Many (One test)) text (prefix_len test text) (run-front test text) (sym run ∙ all) in
    let lacks = lack-many mark (One test) (lack-one mark test fails) text many in
    let whole = sym (before-led mark text None lacks) ∙ ap (before mark) (append-nil text) in (
      whole,
      sym (behind-led mark text None lacks) ∙ ap (behind mark) (append-nil text),
      sym (run-list_all test text many) ∙ ap (list_all test) whole,
    )

-- where the mark stands after the longest run, the run is the first part
pub run-mark : (test : ℕ → Bool) (mark n : ℕ) (text rest : List ℕ) → test mark ≡ false → n ≡ prefix_len test text → Some rest ≡ past mark (drop n text) → (take n text ≡ before mark text) × (Some rest ≡ behind mark text) × (true ≡ list_all test (before mark text))
run-mark test mark n text rest fails run found =
    let front = run-front test text in
    let lacks = lack-many mark (One test) (lack-one mark test fails) front.0 front.2 in
    -- the run is as long as the front, and the mark follows it
    let len : n ≡ length front.0 = run ∙ front.4 in
    let tail : front.1 ≡ mark ∷ rest =
    sym (ap (λ m. drop m text) len ∙ ap (drop (length front.0)) front.3 ∙ drop-front front.0 front.1) ∙ past-some mark (drop n text) rest (sym found) in
    let split : text ≡ front.0 ++ led mark (Some rest) = front.3 ∙ ap (λ t. front.0 ++ t) tail in
    -- the run is what stands before the first mark, and the rest what stands after it
    let first : front.0 ≡ before mark text = sym (before-led mark front.0 (Some rest) lacks) ∙ ap (before mark) (sym split) in (
      ap (λ m. take m text) len ∙ ap (take (length front.0)) front.3 ∙ take-front front.0 front.1 ∙ first,
      sym (behind-led mark front.0 (Some rest) lacks) ∙ ap (behind mark) (sym split),
      sym (run-list_all test front.0 front.2) ∙ ap (list_all test) first,
    )
  where
    -- the first bytes of u and v, as many as u has, are u
    take-front : (u v : List ℕ) → take (length u) (u ++ v) ≡ u
    take-front [] v = refl
    take-front (b ∷ u) v = ap (λ t. b ∷ t) (take-front u v)

-- where neither the end nor the mark follows the longest run of a class, not all bytes before the first mark are of the class
pub run-other : (test : ℕ → Bool) (mark n : ℕ) (text : List ℕ) → test mark ≡ false → n ≡ prefix_len test text → (n ≡ length text → ⊥) → None ≡ past mark (drop n text) → false ≡ list_all test (before mark text)
run-other test mark n text fails run more missing =
    sym (false_from_ne_true (list_all test (before mark text)) (λ all. at (run ∙ run-before test mark text fails all) (behind mark text) refl))
  where
    -- the run cannot end where the bytes before the first mark end, since neither the end nor the mark follows it
    at : n ≡ length (before mark text) → (o : Option (List ℕ)) → behind mark text ≡ o → ⊥
    at len None is = absurd (more (len
        ∙ sym (ap length (cut-whole mark text ∙ ap (λ o. before mark text ++ led mark o) is ∙ append-nil (before mark text)))))
    -- if all bytes before the mark were of the class, the run would end at the mark
    at len (Some rest) is =
        let split : text ≡ before mark text ++ (mark ∷ rest) = cut-whole mark text ∙ ap (λ o. before mark text ++ led mark o) is in
        let tail : drop n text ≡ mark ∷ rest =
        ap (λ m. drop m text) len ∙ ap (drop (length (before mark text))) split ∙ drop-front (before mark text) (mark ∷ rest) in
        let found : past mark (drop n text) ≡ Some rest =
        ap (past mark) tail ∙ ap (λ same. cond same (Some rest) None) (eq-eqb mark mark refl) in
        cc
