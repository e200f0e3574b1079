-- A part of a URI is cut at its mark: parameters and headers.
use Rattle.std.proofs.Common.{◌≡◌, ℕ, ◌<◌, ◌↔◌, ◌==◌, nat_eq, Bool, true, false, List, [], ◌∷◌, ◌++◌, Option, None, Some, IfSome, IsSomeAnd, if◌then◌else◌, length, refl, sym, ap, ◌∙◌, subst, inl, inr, arith}
use Rattle.std.specs.Prelude.{⊤}
use Rattle.std.specs.Bool.{Decides}
use Rattle.std.specs.List.{AllByRecursion}
use Rattle.std.proofs.lemmas.Bool.{both_ways, false≢true, eqb-true}
use Rattle.std.proofs.lemmas.Bool.Decides.{Decides-like}
use Rattle.std.proofs.lemmas.List.{length-append}
use Rattle.sip_standard.specs.Text.{◌then◌, Optional, Many, OneOrMore}
use Rattle.sip_standard.specs.Profile.{UriParameters, Headers}
use Rattle.sip_text.specs.Bytes.{equals, semicolon, ampersand, Byte}
use Rattle.sip_text.specs.inner.Class.{is_param_unreserved, is_hnv_unreserved}
use Rattle.sip_text.specs.inner.Cut.{led, before, behind, past, parts}
use Rattle.sip_text.specs.inner.Pieces.{Joined, ParamChar, ParamWord, UriParameter, HeaderChar, Header}
use Rattle.sip_text.proofs.texts.ManyLemmas.{many-nil, many-cons, some-many}
use Rattle.sip_text.proofs.texts.LacksLemmas.{AllLack, lack-byte, lack-then, lack-optional, lack-many, lack-some}
use Rattle.sip_text.proofs.cuts.CutLemmas.{cut-whole, before-led, behind-led, later_parts, parts-cut}
use Rattle.sip_text.proofs.uris.UriCharLemmas.{is_char_byte, lack-char}
use Rattle.sip_text.proofs.texts.JoinedLemmas.{parts-joined, joined-parts}

-- where P lacks the mark, a text of P [ mark Q ] is of P before its first mark, and of Q after it if there is one
pub cut-optional : (mark : ℕ) (P Q : List ℕ → Type 0) (text : List ℕ) → AllLack mark P → (P then Optional (Byte mark then Q)) text → P (before mark text) × IfSome (behind mark text) Q
-- nothing follows the text of P
cut-optional mark P Q text lack (u, v, one, inl none, whole) =
    let same : text ≡ u ++ led mark None = whole ∙ ap (λ t. u ++ t) none in (
      subst P (sym (ap (before mark) same ∙ before-led mark u None (lack u one))) one,
      subst (λ o. IfSome o Q) (sym (ap (behind mark) same ∙ behind-led mark u None (lack u one))) tt,
    )
-- the mark stands between a text of P and one of Q
-- u is the text of P, m the mark and w the text of Q; v is m and w
cut-optional mark P Q text lack (u, v, one, inr (m, w, is_mark, other, both), whole) =
    let same : text ≡ u ++ led mark (Some w) = whole ∙ ap (λ t. u ++ t) (both ∙ ap (λ t. t ++ w) is_mark) in (
      subst P (sym (ap (before mark) same ∙ before-led mark u (Some w) (lack u one))) one,
      subst (λ o. IfSome o Q) (sym (ap (behind mark) same ∙ behind-led mark u (Some w) (lack u one))) other,
    )

-- where a text is of P before its first mark, and of Q after it if there is one, it is of P [ mark Q ]
pub optional-cut : (mark : ℕ) (P Q : List ℕ → Type 0) (text : List ℕ) → P (before mark text) → IfSome (behind mark text) Q → (P then Optional (Byte mark then Q)) text
optional-cut mark P Q text one other = at (behind mark text) other (cut-whole mark text)
  where
    -- the claim holds whether or not the text has the mark
    at : (o : Option (List ℕ)) → IfSome o Q → text ≡ before mark text ++ led mark o → (P then Optional (Byte mark then Q)) text
    at None none whole = (before mark text, [], one, inl refl, whole)
    at (Some v) some whole = (before mark text, mark ∷ v, one, inr (mark ∷ [], v, refl, some, refl), whole)

-- where P lacks the mark, a text of P mark Q has the mark, and is of P before the first one and of Q after it
pub cut-then : (mark : ℕ) (P Q : List ℕ → Type 0) (text : List ℕ) → AllLack mark P → (P then Byte mark then Q) text → P (before mark text) × IsSomeAnd (behind mark text) Q
-- u is the text of P, m the mark and w the text of Q; v is m and w
cut-then mark P Q text lack (u, v, one, (m, w, is_mark, other, both), whole) =
    let same : text ≡ u ++ led mark (Some w) = whole ∙ ap (λ t. u ++ t) (both ∙ ap (λ t. t ++ w) is_mark) in (
      subst P (sym (ap (before mark) same ∙ before-led mark u (Some w) (lack u one))) one,
      subst (λ o. IsSomeAnd o Q) (sym (ap (behind mark) same ∙ behind-led mark u (Some w) (lack u one))) other,
    )

-- where a text has the mark, and is of P before the first one and of Q after it, it is of P mark Q
pub then-cut : (mark : ℕ) (P Q : List ℕ → Type 0) (text : List ℕ) → P (before mark text) → IsSomeAnd (behind mark text) Q → (P then Byte mark then Q) text
then-cut mark P Q text one other = at (behind mark text) other (cut-whole mark text)
  where
    -- the text is of P mark Q, since it has the mark
    at : (o : Option (List ℕ)) → IsSomeAnd o Q → text ≡ before mark text ++ led mark o → (P then Byte mark then Q) text
    at None none whole = absurd none
    at (Some v) some whole = (before mark text, mark ∷ v, one, (mark ∷ [], v, refl, some, refl), whole)

-- a "=" stands in no name of a parameter
lack-param_word : AllLack equals ParamWord
lack-param_word = lack-some equals ParamChar (lack-char equals is_param_unreserved refl)

-- no "=" stands in the name of a header
lack-hname : AllLack equals (OneOrMore HeaderChar)
lack-hname = lack-some equals HeaderChar (lack-char equals is_hnv_unreserved refl)

-- what decides the name and the value of a parameter, cut at the first "=", decides the parameter
pub decides-param : (text name : List ℕ) (value : Option (List ℕ)) (r : Bool) → name ≡ before equals text → value ≡ behind equals text → Decides r (ParamWord name × IfSome value ParamWord) → Decides r (UriParameter text)
decides-param text name value r name_is value_is =
    -- the text is a parameter where its name and its value are words, and only there, since a word has no "="
    Decides-like r
    (λ both.
    optional-cut equals ParamWord ParamWord text
    (subst ParamWord name_is both.0) (subst (λ o. IfSome o ParamWord) value_is both.1))
    (λ whole.
    let both = cut-optional equals ParamWord ParamWord text lack-param_word whole in
    (subst ParamWord (sym name_is) both.0, subst (λ o. IfSome o ParamWord) (sym value_is) both.1))

-- what decides the name and the value of a header, cut at the first "=", decides the header
-- the text is a header where its name is one character or more and its value, which has to be there, is characters, and only there, since a name has no "="
pub decides-header : (text name : List ℕ) (value : Option (List ℕ)) (r : Bool) → name ≡ before equals text → value ≡ behind equals text → Decides r (OneOrMore HeaderChar name × IsSomeAnd value (Many HeaderChar)) → Decides r (Header text)
decides-header text name value r name_is value_is =
    Decides-like r
    (λ both.
    then-cut equals (OneOrMore HeaderChar) (Many HeaderChar) text
    (subst (OneOrMore HeaderChar) name_is both.0) (subst (λ o. IsSomeAnd o (Many HeaderChar)) value_is both.1))
    (λ whole.
    let both = cut-then equals (OneOrMore HeaderChar) (Many HeaderChar) text lack-hname whole in
    (subst (OneOrMore HeaderChar) (sym name_is) both.0, subst (λ o. IsSomeAnd o (Many HeaderChar)) (sym value_is) both.1))

-- where the first of two tests passes, the second decides both
-- x and y are the answers of the tests for P and Q
pub both-when : {P Q : Type 0} (x y : Bool) → x ≡ true → Decides x P → Decides y Q → Decides y (P × Q)
both-when x y is first second = (λ yes_second. (first.0 is, second.0 yes_second), λ both. second.1 both.1)

-- where the test that decides P fails, it decides P and Q together
pub both-unless : {P Q : Type 0} (x : Bool) → x ≡ false → Decides x P → Decides x (P × Q)
both-unless x is first = (λ passes. absurd (both_ways x is passes), λ both. first.1 both.0)

-- where Q does not hold, false decides P and Q together
pub neither : {P Q : Type 0} → (Q → ⊥) → Decides false (P × Q)
neither no_second = (λ is. absurd (false≢true is), λ both. absurd (no_second both.1))

-- what does not hold is decided by false
pub decides-not : {P : Type 0} → (P → ⊥) → Decides false P
decides-not none = (λ is. absurd (false≢true is), λ one. absurd (none one))

-- where nothing more is asked, what decides P decides all
pub first-alone : {P : Type 0} (x : Bool) → Decides x P → Decides x (P × ⊤)
first-alone x first = (λ is. (first.0 is, tt), λ both. first.1 both.0)

-- P of each part of the text between its marks
abbrev pub Each : ℕ → (List ℕ → Type 0) → List ℕ → Type 0
Each mark P text = AllByRecursion P (parts mark text)

-- a text that has a rest past the mark at its front is the mark and that rest
past-is : (mark : ℕ) (text rest : List ℕ) → past mark text ≡ Some rest → text ≡ mark ∷ rest
-- an empty text has no mark at its front
past-is mark [] rest is = cc
past-is mark (b ∷ text) rest is = at (b == mark) refl is
  where
    -- the text is the mark and the rest, since the first byte is the mark
    at : (same : Bool) → (b == mark) ≡ same → (if same then Some text else None) ≡ Some rest → b ∷ text ≡ mark ∷ rest
    -- the first byte is not the mark, so there is no rest past it
    at false same is = cc
    at true same is = let tail : text ≡ rest = cc in ap (λ x. x ∷ text) (eqb-true b mark same) ∙ ap (λ t. mark ∷ t) tail

-- where the first part is of P, all parts of what follows it are exactly if all parts of the text are, and what follows is shorter
pub each-past : (mark : ℕ) (P : List ℕ → Type 0) (text part rest : List ℕ) → part ≡ before mark text → Some rest ≡ behind mark text → P part → (Each mark P rest ↔ Each mark P text) × (length rest < length text)
each-past mark P text part rest part_is rest_is one =
    -- the parts of the text are the first one and the parts of the rest
    let split : parts mark text ≡ part ∷ parts mark rest =
    parts-cut mark text ∙ ap (λ t. t ∷ later_parts mark (behind mark text)) (sym part_is)
    ∙ ap (λ o. part ∷ later_parts mark o) (sym rest_is) in
    -- the text is the first part, the mark and the rest
    let whole : text ≡ part ++ led mark (Some rest) =
    cut-whole mark text ∙ ap (λ t. t ++ led mark (behind mark text)) (sym part_is)
    ∙ ap (λ o. part ++ led mark o) (sym rest_is) in (
      (
        -- what holds of all parts holds of the first one and of the others, and the other way round
        λ each. subst (AllByRecursion P) (sym split) (one, each),
        λ each. (subst (AllByRecursion P) split each).1,
      ),
      omega (arith, ap length whole, length-append part (mark ∷ rest)),
    )

-- where the first part is of P and no mark follows it, all parts of the text are of P
pub each-last : (mark : ℕ) (P : List ℕ → Type 0) (text part : List ℕ) → part ≡ before mark text → None ≡ behind mark text → P part → Each mark P text
each-last mark P text part part_is rest_is one =
    subst (AllByRecursion P)
    (sym (parts-cut mark text ∙ ap (λ t. t ∷ later_parts mark (behind mark text)) (sym part_is)
    ∙ ap (λ o. part ∷ later_parts mark o) (sym rest_is)))
    (one, tt)

-- where all parts of a text are of P, the first is
pub each-first : (mark : ℕ) (P : List ℕ → Type 0) (text part : List ℕ) → part ≡ before mark text → Each mark P text → P part
each-first mark P text part part_is each =
    subst P (sym part_is) (subst (AllByRecursion P) (parts-cut mark text) each).0

-- a "&" stands in no header
lack-ampersand : AllLack ampersand Header
lack-ampersand =
    let char = lack-char ampersand is_hnv_unreserved refl in
    lack-then ampersand _ _ (lack-some ampersand HeaderChar char)
    (lack-then ampersand _ _ (lack-byte ampersand equals refl) (lack-many ampersand HeaderChar char))

-- headers are texts joined by "&", each a header
pub headers-each : (text : List ℕ) → Headers text → Each ampersand Header text
headers-each text = parts-joined ampersand Header text lack-ampersand

-- a text of which each part between the "&" is a header is headers
pub each-headers : (text : List ℕ) → Each ampersand Header text → Headers text
each-headers text = joined-parts ampersand Header text

-- a byte that is neither "=" nor a byte of a parameter's words stands in no parameter
pub lack-param : (mark : ℕ) → is_char_byte is_param_unreserved mark ≡ false → nat_eq equals mark ≡ false → AllLack mark UriParameter
lack-param mark no_char no_equals =
    let word = lack-some mark ParamChar (lack-char mark is_param_unreserved no_char) in
    lack-then mark _ _ word (lack-optional mark _ (lack-then mark _ _ (lack-byte mark equals no_equals) word))

-- parameters joined by ";" are texts joined by it, each a parameter
pub joined-each : (text : List ℕ) → Joined semicolon UriParameter text → Each semicolon UriParameter text
joined-each text = parts-joined semicolon UriParameter text (lack-param semicolon refl refl)

-- a text of which each part between the ";" is a parameter is parameters with ";" between them
pub each-joined : (text : List ℕ) → Each semicolon UriParameter text → Joined semicolon UriParameter text
each-joined text = joined-parts semicolon UriParameter text

-- where ";" and a text are the parameters of a URI, the text is parameters with ";" between them
pub params-joined : (text : List ℕ) → UriParameters (semicolon ∷ text) → Joined semicolon UriParameter text
params-joined text many =
    elim (some-many (Byte semicolon then UriParameter) (semicolon ∷ text) many) [
      -- there are parameters, since the text begins with ";"
      | inl empty ↦ cc
      -- u is the ";" (m) and the first parameter p, and v the others
      | inr (u, v, (m, p, is_mark, one, both), more, whole) ↦
          let same : semicolon ∷ text ≡ semicolon ∷ (p ++ v) =
          whole ∙ ap (λ t. t ++ v) (both ∙ ap (λ t. t ++ p) is_mark) in
          let tail : text ≡ p ++ v = cc in
          (p, v, one, more, tail)
    ]

-- where a text is parameters with ";" between them, ";" and the text are the parameters of a URI
pub joined-params : (text : List ℕ) → Joined semicolon UriParameter text → UriParameters (semicolon ∷ text)
joined-params text (p, v, one, more, whole) =
    subst UriParameters (ap (λ t. semicolon ∷ t) (sym whole))
    (many-cons (Byte semicolon then UriParameter) (semicolon ∷ p) v (semicolon ∷ [], p, refl, one, refl) more)

-- the parameters of a URI are empty, or begin with ";"
pub params-led : (text : List ℕ) → UriParameters text → (rest : Option (List ℕ)) × (text ≡ led semicolon rest)
params-led text many =
    elim (some-many (Byte semicolon then UriParameter) text many) [
      | inl empty ↦ (None, empty)
      -- u is the ";" (m) and the first parameter p, and v the others
      | inr (u, v, (m, p, is_mark, one, both), more, whole) ↦
          (Some (p ++ v), whole ∙ ap (λ t. t ++ v) (both ∙ ap (λ t. t ++ p) is_mark))
    ]

-- where ";" is first in a text, what decides whether the rest is parameters with ";" between them decides whether the text is those of a URI
pub decides-params : (text params : List ℕ) (r : Bool) → Some params ≡ past semicolon text → Decides r (Joined semicolon UriParameter params) → Decides r (UriParameters text)
decides-params text params r is =
    let same : text ≡ semicolon ∷ params = past-is semicolon text params (sym is) in
    Decides-like r (λ joined. subst UriParameters (sym same) (joined-params params joined))
    (λ many. params-joined params (subst UriParameters same many))

-- where there is no ";" at the front, only the empty text is parameters
pub decides-no_params : (text : List ℕ) (r : Bool) → None ≡ past semicolon text → r ≡ (length text == 0) → Decides r (UriParameters text)
decides-no_params [] r none is = (λ _. many-nil (Byte semicolon then UriParameter), λ _. is)
decides-no_params (b ∷ text) r none is = (
  λ empty. absurd (omega (arith, eqb-true (length (b ∷ text)) 0 (sym is ∙ empty))),
  -- a text of parameters that is not empty begins with a semicolon, but none stands at the front of this one
  λ many.
      let (rest, led_is) = params-led (b ∷ text) many in
      elim rest as (λ o. b ∷ text ≡ led semicolon o → r ≡ true) [
        -- without parameters the text would be empty; with some, it would have a semicolon at the front
        | None ↦ λ none. cc
        | Some more ↦ λ some.
            let other : None ≡ Some more = none ∙ ap (past semicolon) some in
            cc
      ] led_is,
)
