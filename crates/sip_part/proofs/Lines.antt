-- The search for the first line that begins as a Via does goes on from one line to the next.
-- Of bytes 13 is CR, 10 LF, 32 SP and 9 HTAB.
use Rattle.std.proofs.Common.{◌≡◌, ◌∙◌, ℕ, ◌+◌, ◌<◌, length, drop, List, [], ◌∷◌, ◌++◌, Bool, true, false, Option, Some, None, ◌&&◌, ◌||◌, not, nat_eq, if◌then◌else◌, refl, sym, ap, inl, inr, append_assoc, arith}
use Rattle.std.proofs.lemmas.Bool.{eqb-true}
use Rattle.std.specs.Prelude.{codes, ◌==◌}
use Rattle.std.specs.List.{concat, AllByRecursion}
use Rattle.sip_standard.specs.Text.{One, ◌or◌, Many}
use Rattle.sip_standard.specs.Chars.{Lit, is_among}
use Rattle.sip_standard.specs.Lines.{OpensBlank}
use Rattle.sip_text.specs.Bytes.{line_feed}
use Rattle.sip_text.specs.inner.Cut.{behind}
use Rattle.sip_text.proofs.cuts.CutLemmas.{before-first, before-nowhere}
use Rattle.memchr.specs.Find.{Nowhere, Passes, is_byte}
use Rattle.sip_part.specs.Led.{opens_via, via_line}

-- the text from the first line on that begins as a Via does, where the line at the text's own front counts too
abbrev pub line_from : List ℕ → Option (List ℕ)
line_from text = if opens_via text then Some text else via_line text

-- the search from a line on, where there is a line
abbrev pub found_in : Option (List ℕ) → Option (List ℕ)
found_in None = None
found_in (Some text) = line_from text

-- the search after the first line is the search from the text after the first LF on
pub after_end : (text : List ℕ) → via_line text ≡ found_in (behind line_feed text)
after_end [] = refl
after_end (b ∷ text) = by (nat_eq b line_feed) (after_end text)
  where
    -- the claim holds whether the text begins with a line end or goes on
    by : (ends : Bool) → via_line text ≡ found_in (behind line_feed text) → (if ends then line_from text else via_line text) ≡ found_in (if ends then Some text else behind line_feed text)
    by true on = refl
    by false on = on

-- where the first LF stands at the place k, the search after the first line is the search from the place after it on
pub next_line : (k : ℕ) (text : List ℕ) → k < length text → Nowhere (Passes (is_byte 10) text) 0 k → Passes (is_byte 10) text k → via_line text ≡ line_from (drop (k + 1) text)
next_line k text within none is = after_end text ∙ ap found_in ((before-first 10 k text within none is).1)

-- where the text has no LF, the search finds nothing
pub no_line : (text : List ℕ) → Nowhere (Passes (is_byte 10) text) 0 (length text) → via_line text ≡ None
no_line text none = after_end text ∙ ap found_in ((before-nowhere 10 text none).1)

-- the clean head of a message is made of such units: a CRLF, or a byte that is neither CR nor LF
abbrev pub Unit : List ℕ → Type 0
Unit = Lit "\r\n" or One (λ byte. not (byte == 0x0D) && not (byte == 0x0A))

-- the line is folded: each CRLF in it is followed by a blank
abbrev pub Folded : List ℕ → Type 0
Folded line = (u v : List ℕ) → line ≡ u ++ (codes "\r\n" ++ v) → OpensBlank v

-- a text that opens with a blank does not begin as a Via does
blank_no_via : (text rest : List ℕ) → OpensBlank text → opens_via (text ++ rest) ≡ false
-- the text is not empty, since it opens with a blank
blank_no_via [] rest blank = absurd blank
blank_no_via (b ∷ text) rest blank = by (nat_eq b 32) (nat_eq b 9) refl refl blank
  where
    -- a blank is no v in either case, whether it is SP or HTAB
    by : (x y : Bool) → nat_eq b 32 ≡ x → nat_eq b 9 ≡ y → (x || y) ≡ true → is_among "vV" b ≡ false
    by true y one two is = ap (is_among "vV") (eqb-true b 32 one)
    by false true one two is = ap (is_among "vV") (eqb-true b 9 two)
    -- the byte is one of the two, since it is a blank
    by false false one two is = absurd (cc)

-- the rest of a folded line is a folded line
folded_rest : (front line : List ℕ) → Folded (front ++ line) → Folded line
folded_rest front line folded u v is = folded (front ++ u) v (ap (λ t. front ++ t) is ∙ sym (append_assoc front u (codes "\r\n" ++ v)))

-- the search passes over the line with its CRLF, and what comes after it is clean
pub record Passed (line more : List ℕ) : Type 0 where
  pub over : (tail : List ℕ) → via_line (line ++ (13 ∷ (10 ∷ tail))) ≡ line_from tail
  pub clean : Many Unit more

-- whatever line the units give up to its CRLF, the search passes over it
abbrev OnFrom : List (List ℕ) → List ℕ → Type 0
OnFrom us more = (line : List ℕ) → concat us ≡ line ++ (13 ∷ (10 ∷ more)) → Folded line → Passed line more

-- a line that begins with a CRLF is passed over where what comes after it is
pass_end : (us : List (List ℕ)) (line more : List ℕ) → AllByRecursion Unit us → 13 ∷ (10 ∷ concat us) ≡ line ++ (13 ∷ (10 ∷ more)) → Folded line → OnFrom us more → Passed line more
-- the line is empty, and ends with this CRLF
pass_end us [] more all same folded on = let rest : concat us ≡ more = cc in record { over = λ tail. refl; clean = (us, all, sym rest) }
-- the line cannot be one byte alone, since the LF of this CRLF would be the CR at its end
pass_end us (x ∷ []) more all same folded on = let odd : ◌≡◌ {A = ℕ} 10 13 = cc in absurd (omega (arith, odd))
-- the line goes on after the CRLF with what follows it
pass_end us (x ∷ y ∷ line) more all same folded on =
    let rest : concat us ≡ line ++ (13 ∷ (10 ∷ more)) = cc in
    let whole : x ∷ y ∷ line ≡ 13 ∷ (10 ∷ line) = cc in
    let later = on line rest (folded_rest (x ∷ y ∷ []) line folded) in
    record {
      -- the search goes on after the CRLF, since a blank follows it and no Via begins there, and passes over the rest of the line
      over = λ tail.
          ap (λ t. via_line (t ++ (13 ∷ (10 ∷ tail)))) whole
          ∙ ap (λ opens. if opens then Some (line ++ (13 ∷ (10 ∷ tail))) else via_line (line ++ (13 ∷ (10 ∷ tail)))) (blank_no_via line (13 ∷ (10 ∷ tail)) (folded [] line whole)) ∙ later.over tail;
      clean = later.clean;
    }

-- a byte that is neither CR nor LF is no LF
no_end : (b : ℕ) → (not (nat_eq b 13) && not (nat_eq b 10)) ≡ true → nat_eq b 10 ≡ false
no_end b plain = by (nat_eq b 13) (nat_eq b 10) plain
  where
    -- where neither x nor y holds, y does not
    by : (x y : Bool) → (not x && not y) ≡ true → y ≡ false
    -- the test says that neither of the two holds
    by true y is = absurd (cc)
    by false true is = absurd (cc)
    by false false is = refl

-- a line that begins with a byte that is neither CR nor LF is passed over where what comes after it is
pass_byte : (b : ℕ) (us : List (List ℕ)) (line more : List ℕ) → (not (nat_eq b 13) && not (nat_eq b 10)) ≡ true → b ∷ concat us ≡ line ++ (13 ∷ (10 ∷ more)) → Folded line → OnFrom us more → Passed line more
-- the line is not empty: the byte would else be the CR of the line's CRLF
pass_byte b us [] more plain same folded on =
    let odd : b ≡ 13 = cc in let e : false ≡ true = ap (λ x. not (nat_eq x 13) && not (nat_eq x 10)) (sym odd) ∙ plain in absurd (cc)
-- the line goes on after the byte with what follows it
pass_byte b us (x ∷ line) more plain same folded on =
    let first : x ≡ b = cc in
    let rest : concat us ≡ line ++ (13 ∷ (10 ∷ more)) = cc in
    let later = on line rest (folded_rest (x ∷ []) line folded) in
    record {
      -- the search goes on after the byte, which is no LF, and passes over the rest of the line
      over = λ tail. ap (λ ends. if ends then line_from (line ++ (13 ∷ (10 ∷ tail))) else via_line (line ++ (13 ∷ (10 ∷ tail)))) (ap (λ y. nat_eq y 10) first ∙ no_end b plain) ∙ later.over tail;
      clean = later.clean;
    }

-- the search passes over each folded line of a clean head
pub pass_line : (us : List (List ℕ)) (line more : List ℕ) → AllByRecursion Unit us → concat us ≡ line ++ (13 ∷ (10 ∷ more)) → Folded line → Passed line more
-- without units there is no CRLF for the line to end with
pass_line [] [] more all is folded = absurd (cc)
pass_line [] (x ∷ line) more all is folded = absurd (cc)
-- the first unit is a CRLF
pass_line (unit ∷ us) line more (inl crlf, all) is folded = pass_end us line more all (ap (λ t. t ++ concat us) (sym crlf) ∙ is) folded (λ later. pass_line us later more all)
-- the first unit is a byte that is neither CR nor LF
pass_line (unit ∷ us) line more (inr (b, plain, one), all) is folded =
    pass_byte b us line more plain (ap (λ t. t ++ concat us) (sym one) ∙ is) folded (λ later. pass_line us later more all)
