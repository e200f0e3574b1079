-- The law of the canonical form.
-- In the lemmas fs are fields, and n is the number of the first of them; as Bools, x and y are what two tests of a byte say.
-- A text is inner (`Inner`) where it has neither CR nor LF. `unfolded_field` is a field with its value unfolded, and `message_of` a message with such fields.
use Rattle.std.proofs.Common.{◌≡◌, ℕ, ◌+◌, ◌≤◌, ◌<◌, Bool, true, false, not, ◌&&◌, List, [], ◌∷◌, ◌++◌, length, take, map, cond, nat_eq, Option, Some, None, refl, sym, ap, ◌∙◌, subst, inl, inr, arith}
use Rattle.std.specs.Prelude.{is_some, get_or, ◌^◌, codes, decimal}
use Rattle.std.specs.Char.{is_ascii_digit}
use Rattle.std.specs.Str.Parse.{digits_value}
use Rattle.std.specs.List.{AllByRecursion, concat, flat_map, list_all}
use Rattle.std.proofs.lemmas.Bool.{both_ways, and_from, and_parts, eqb-true}
use Rattle.std.proofs.lemmas.Str.Parse.{numerals_by_value, tells_all_ascii_digits}
use Rattle.std.proofs.lemmas.Fmt.{decimal-digits_value}
use Rattle.std.proofs.lemmas.Int.Digits.{digits_value-lt}
use Rattle.std.specs.Str.{all_ascii_digits}
use Rattle.std.proofs.Math.Seq.{take-length}
use Rattle.sip_text.proofs.texts.RunLemmas.{list_all-run}
use Rattle.sip_standard.specs.Chars.{AnyCase}
use Rattle.sip_message.proofs.lemmas.start_line.OneWay.{length-code, status_parts, request_parts, request-line, status-line}
use Rattle.std.proofs.lemmas.List.{append_assoc, append-nil, length-append, length-take-le, length-map}
use Rattle.sip_standard.specs.Text.{One, ◌or◌}
use Rattle.sip_standard.specs.Case.{folded}
use Rattle.sip_standard.specs.Profile.{Token}
use Rattle.sip_text.specs.Bytes.{carriage_return, line_feed, space, colon, is_token_byte}
use Rattle.sip_text.specs.inner.Blanks.{is_wsp}
use Rattle.sip_text.proofs.texts.ManyLemmas.{many-nil}
use Rattle.sip_message.specs.declared.name.Known.{Known}
use Rattle.sip_message.specs.declared.name.Known.TheVariants as known_name
use Rattle.sip_standard.specs.Lines.{OpensBlank}
use Rattle.sip_message.specs.inner.Lines.{is_inner_byte, with_end}
use Rattle.sip_message.specs.inner.FieldText.{EndsSolid, Row, FieldText, FieldsText, OpensSolid}
use Rattle.sip_standard.specs.Field.{is_lws_byte}
use Rattle.sip_standard.specs.Via.{SaidVia, ViasSay}
use Rattle.sip_standard.specs.Canonical.{unfolded, start_text}
use Rattle.sip_message.specs.Name.{FieldName, known, other, name_of, long_name, is_name_of}
use Rattle.sip_message.specs.inner.Canon.{name_text, field_text, canon}
use Rattle.sip_standard.specs.StartLine.{StartLine, request, status, StartSays}
use Rattle.sip_message.specs.inner.StartLine.{CodeText, is_reason_byte}
use Rattle.sip_message.specs.inner.Values.{Digits}
use Rattle.sip_message.specs.Field.{Field}
use Rattle.sip_standard.specs.Body.{length_in, cut_body, MethodSays, StreamSays}
use Rattle.sip_message.specs.Message.{Message}
use Rattle.sip_message.specs.inner.MessageText.{found_from, found, HasField, IsNotTwice, content_length, IsEnough, IsNoMore, MessageFits, MessageText, unfolded_field, message_of, Spells}
use Rattle.sip_message.proofs.lemmas.text.Cuts.{All, all_both}
use Rattle.sip_message.proofs.lemmas.text.Each.{each-many, each-one, each-between, is_solid, solid_class, wsp-blank}
use Rattle.sip_message.proofs.lemmas.field.Spelled.{spellings, name-other, named-by}
use Rattle.sip_message.proofs.lemmas.field.OneWay.{each-token, blank-token, ends_blank}
use Rattle.sip_message.proofs.lemmas.text.Solid.{solid-token, solid-uri, solid-digits}
use Rattle.sip_message.proofs.lemmas.text.Closed.{Closed, closed-unfolded, solid_is, ends-right}
use Rattle.sip_message.proofs.lemmas.params.Closed.{blanks-space, some-run}
use Rattle.sip_message.proofs.lemmas.via.Value.{same_transport, TopTransport}
use Rattle.sip_message.proofs.lemmas.via.Closed.{unfolded-via}
use Rattle.sip_message.proofs.RowLemmas.{unfolded-solid, unfolded-cseq, unfolded-row}
use Rattle.sip_message.proofs.lemmas.canon.Spelling.{Inner, AreInner, unfolded-inner, unfolded-twice, solid-inner, lines-head, inner-folds, inner-no_bare}
use Rattle.sip_message.proofs.lemmas.message.Faults.{same_message}
use Rattle.sip_message.proofs.lemmas.text.Ends.{ends-onto}

-- a text without blanks has no CR and no LF
solid-inners : (text : List ℕ) → All is_solid text → Inner text
solid-inners [] all = tt
solid-inners (b ∷ text) all = (solid-inner b (solid_is b all.0), solid-inners text all.1)

-- the text neither begins nor ends with a blank
abbrev Trimmed : List ℕ → Type 0
Trimmed text = OpensSolid text × EndsSolid text

-- the set of texts that neither begin nor end with a blank is closed under making one SP of a blank run
closed-trimmed : Closed Trimmed
-- an empty front would end with the blanks b and w, and an empty back would be ended by them: neither text is trimmed
closed-trimmed [] v b w ends opens blanks is = absurd (both_ways (is_lws_byte b) is.0 blanks.0)
closed-trimmed (a ∷ u) [] b w ends opens blanks is =
    absurd (ends_blank (a ∷ u) b w (subst EndsSolid (ap (λ t. a ∷ (u ++ t)) (append-nil (b ∷ w))) is.1) blanks)
closed-trimmed (a ∷ u) (c ∷ v) b w ends opens blanks is =
    (is.0, ends-onto (a ∷ u) space (c ∷ v) (tail (subst EndsSolid (sym (append_assoc (a ∷ u) (b ∷ w) (c ∷ v))) is.1)))
  where
    -- what follows the blanks does not end with a blank
    tail : EndsSolid (((a ∷ u) ++ (b ∷ w)) ++ c ∷ v) → EndsSolid (space ∷ c ∷ v)
    tail e = ends-right ((a ∷ u) ++ (b ∷ w)) c v e

-- the long form of a known name spells that name
pub name-known : (k : Known) → name_of (long_name k) ≡ known k
-- each name is tried, by computing
name-known known_name.Via = refl
name-known known_name.From = refl
name-known known_name.To = refl
name-known known_name.CallId = refl
name-known known_name.CSeq = refl
name-known known_name.ContentLength = refl
name-known known_name.Contact = refl
name-known known_name.ContentEncoding = refl
name-known known_name.ContentType = refl
name-known known_name.Subject = refl
name-known known_name.Supported = refl
name-known known_name.Route = refl

-- one byte of a token or more are a token
token_text : (b : ℕ) (text : List ℕ) → list_all is_token_byte (b ∷ text) ≡ true → Token (b ∷ text)
token_text b text all =
    -- the first byte and the others are bytes of tokens
    let parts = and_parts (is_token_byte b) (list_all is_token_byte text) all in
    (b ∷ [], text, (b, parts.0, refl), list_all-run is_token_byte text parts.1, refl)

-- the long form of a known name is a token
long-token : (k : Known) → Token (long_name k)
-- each name is tried, by computing
long-token known_name.Via = token_text _ _ refl
long-token known_name.From = token_text _ _ refl
long-token known_name.To = token_text _ _ refl
long-token known_name.CallId = token_text _ _ refl
long-token known_name.CSeq = token_text _ _ refl
long-token known_name.ContentLength = token_text _ _ refl
long-token known_name.Contact = token_text _ _ refl
long-token known_name.ContentEncoding = token_text _ _ refl
long-token known_name.ContentType = token_text _ _ refl
long-token known_name.Subject = token_text _ _ refl
long-token known_name.Supported = token_text _ _ refl
long-token known_name.Route = token_text _ _ refl

-- the name that a token spells is written as a token, which spells the same name
name-text : (n : FieldName) (spelled : List ℕ) → Token spelled → n ≡ name_of spelled → Token (name_text n) × (n ≡ name_of (name_text n))
-- a known name is written in its long form; any other as it is spelled
name-text (known k) spelled token is = (long-token k, sym (name-known k))
name-text (other t) spelled token is =
    let same = name-other spellings spelled t (named-by spelled ∙ sym is) in
    (subst Token same token, is ∙ ap name_of same)

-- a code of three digits is written as it was spelled
pub code-decimal : (text : List ℕ) (code : ℕ) → CodeText text code → decimal code ≡ text
-- the decimal of the number that digits write is those digits, since the number is small, and they do not begin with 0
code-decimal text code is =
    ap decimal is.1
    ∙ decimal-digits_value (numerals_by_value (λ ds. all_ascii_digits ds ≡ true) tells_all_ascii_digits) text digits
    (omega (arith, len)) (λ zero_first. absurd (first text digits len zero_first (omega (arith, is.2, is.1)))) (omega (arith, is.3, is.1))
  where
    -- a status code has three bytes
    len : length text ≡ 3
    len = length-code text code is

    -- digits, joined, are digits
    each : (us : List (List ℕ)) → AllByRecursion (One is_ascii_digit) us → all_ascii_digits (concat us) ≡ true
    -- the first text is one digit, and the others are digits
    each [] all = refl
    each (u ∷ us) all = ap (λ t. all_ascii_digits (t ++ concat us)) all.0.2 ∙ and_from _ _ all.0.1 (each us all.1)

    -- each byte of a status code is a digit
    digits : all_ascii_digits text ≡ true
    digits = ap all_ascii_digits is.0.2 ∙ each is.0.0 is.0.1

    -- a number from 100 on in three digits does not begin with 0
    first : (ds : List ℕ) → all_ascii_digits ds ≡ true → length ds ≡ 3 → get_or ds 0 0 ≡ 48 → 100 ≤ digits_value 10 ds → ⊥
    -- the number has three digits, a, b and c
    first [] all three zero_first low = omega (arith, three)
    first (a ∷ []) all three zero_first low = omega (arith, three)
    first (a ∷ b ∷ []) all three zero_first low = omega (arith, three)
    first (a ∷ b ∷ c ∷ d ∷ ds) all three zero_first low = omega (arith, three)
    -- where a is 0, the number is that of b and c, and so below 100
    first (a ∷ b ∷ c ∷ []) all three zero_first low =
        let told = (numerals_by_value (λ ds. all_ascii_digits ds ≡ true) tells_all_ascii_digits).to (a ∷ b ∷ c ∷ []) all in
        let small : digits_value 10 (b ∷ c ∷ []) < 10 ^ 2 = digits_value-lt 10 (b ∷ c ∷ []) told.1 in
        let same : digits_value 10 (a ∷ b ∷ c ∷ []) ≡ digits_value 10 (b ∷ c ∷ []) = ap (λ x. digits_value 10 (x ∷ b ∷ c ∷ [])) zero_first in
        omega (arith, small, same, low)

-- the canonical form of a start line is a start line of the same parts
start-canon : (line : List ℕ) (s : StartLine) → StartSays line s → StartSays (start_text s) s
-- the method and the URI stand in the line
start-canon line (request method uri) says =
    let parts = request_parts line method uri says in request-line method uri (codes "SIP/2.0") parts.is_token parts.is_uri refl
-- the code, as it was spelled, and the reason stand in the line; the code in decimal is the three digits
start-canon line (status code reason) says =
    let parts = status_parts line code reason says in
    status-line (codes "SIP/2.0") (decimal code) reason code refl (subst (λ t. CodeText t code) (sym (code-decimal parts.digits code parts.is_code)) parts.is_code) parts.are_bytes

-- a byte of a class without CR and LF is neither
inner_class : (class : ℕ → Bool) → class carriage_return ≡ false → class line_feed ≡ false → (b : ℕ) → class b ≡ true → is_inner_byte b ≡ true
inner_class class cr lf b is = at (nat_eq b carriage_return) (nat_eq b line_feed) refl refl
  where
    -- the claim holds whether or not the byte is CR or LF, which it cannot be
    at : (x y : Bool) → nat_eq b carriage_return ≡ x → nat_eq b line_feed ≡ y → (not x && not y) ≡ true
    at true y x_is y_is = absurd (both_ways (class b) (ap class (eqb-true b carriage_return x_is) ∙ cr) is)
    at false true x_is y_is = absurd (both_ways (class b) (ap class (eqb-true b line_feed y_is) ∙ lf) is)
    at false false x_is y_is = refl

-- the version of SIP has neither CR nor LF
version-inner : Inner (codes "SIP/2.0")
version-inner = (refl, (refl, (refl, (refl, (refl, (refl, (refl, tt)))))))

-- the canonical form of a start line has no CR and no LF, and is not empty
start-inner : (line : List ℕ) (s : StartLine) → StartSays line s → Inner (start_text s) × (start_text s ≡ [] → ⊥)
-- the method and the URI have no blanks, and so neither CR nor LF; and the line has at least its SP
start-inner line (request method uri) says = (
  all_both is_inner_byte method (space ∷ (uri ++ space ∷ codes "SIP/2.0")) (solid-inners method (solid-token method (request_parts line method uri says).is_token))
      (refl, all_both is_inner_byte uri (space ∷ codes "SIP/2.0") (solid-inners uri (solid-uri uri (request_parts line method uri says).is_uri)) (refl, version-inner)),
  (λ none. absurd (omega (arith, ap length none, length-append method (space ∷ (uri ++ space ∷ codes "SIP/2.0"))))),
)
start-inner line (status code reason) says =
    let parts = status_parts line code reason says in
    let digits = subst Inner (sym (code-decimal parts.digits code parts.is_code)) (solid-inners parts.digits (each-between is_solid 3 3 (One is_ascii_digit) (each-one is_solid is_ascii_digit (solid_class is_ascii_digit refl refl refl refl)) parts.digits parts.is_code.0)) in (
      -- neither the version nor the digits nor the reason has CR or LF
      all_both is_inner_byte (codes "SIP/2.0") (space ∷ (decimal code ++ space ∷ reason)) version-inner
          (refl, all_both is_inner_byte (decimal code) (space ∷ reason) digits (refl, each-many is_inner_byte (One is_reason_byte) (each-one is_inner_byte is_reason_byte (inner_class is_reason_byte refl refl)) reason parts.are_bytes)),
      (λ none. absurd (omega (arith, ap length none))),
    )

-- the canonical form of a field is a line that is the field with its value unfolded
field-canon : (line : List ℕ) (f : Field) → FieldText line f → FieldText (field_text (unfolded_field f)) (unfolded_field f)
-- `spelled` says that the written name is a token of this name, and `trimmed` that the unfolded value has no blank at its ends
field-canon line f is =
    let spelled = name-text f.name is.named.spelled is.named.is_token is.named.name_is in
    let trimmed = closed-unfolded Trimmed closed-trimmed f.value (is.valued.opens, is.valued.ends) in
    record {
      rest = space ∷ unfolded f.value;
      -- the name is that of the field, and one SP stands before the value
      named = record {
        spelled = name_text f.name;
        is_token = spelled.0;
        name_is = spelled.1;
        whole = (name_text f.name, colon ∷ space ∷ unfolded f.value, refl, ([], colon ∷ space ∷ unfolded f.value, many-nil (One is_wsp), (colon ∷ [], space ∷ unfolded f.value, refl, refl, refl), refl), refl);
      };
      -- the value, unfolded, neither begins nor ends with a blank
      valued = record {
        opens = trimmed.0;
        ends = trimmed.1;
        whole = (space ∷ [], unfolded f.value, inr blanks-space, (unfolded f.value, [], refl, inl refl, sym (append-nil (unfolded f.value))), refl);
      };
      row = unfolded-row f.name f.value is.row;
    }

-- the canonical form of a field has no CR and no LF, and is not empty
field-inner : (line : List ℕ) (f : Field) → FieldText line f → Inner (field_text (unfolded_field f)) × (field_text (unfolded_field f) ≡ [] → ⊥)
-- the name is a token, and the unfolded value has no CR or LF; the colon between them makes the line not empty
field-inner line f is =
    let spelled = name-text f.name is.named.spelled is.named.is_token is.named.name_is in (
      all_both is_inner_byte (name_text f.name) (colon ∷ space ∷ unfolded f.value) (solid-inners (name_text f.name) (solid-token (name_text f.name) spelled.0)) (refl, (refl, unfolded-inner f.value)),
      (λ none. absurd (omega (arith, ap length none, length-append (name_text f.name) (colon ∷ space ∷ unfolded f.value)))),
    )

-- the canonical form of a field begins with no blank
field-cut : (line : List ℕ) (f : Field) → FieldText line f → OpensBlank (field_text (unfolded_field f)) → ⊥
field-cut line f is =
    at (name_text f.name) (name-text f.name is.named.spelled is.named.is_token is.named.name_is).0
  where
    -- a name begins with no blank, whatever follows it
    at : (name : List ℕ) → Token name → OpensBlank (name ++ colon ∷ space ∷ unfolded f.value) → ⊥
    at [] token begins = absurd (some-run is_token_byte [] token refl)
    at (b ∷ name) token begins =
        both_ways (is_token_byte b) (blank-token b (wsp-blank b begins)) (each-token (b ∷ name) token).0

-- the canonical forms of fields, one after another, are lines that are the fields with their values unfolded
fields-canon : (lines : List (List ℕ)) (fs : List Field) → FieldsText lines fs → FieldsText (map field_text (map unfolded_field fs)) (map unfolded_field fs)
-- without fields there are no lines; else the first field is its line, and the others are theirs
fields-canon [] fs is = subst (λ gs. FieldsText (map field_text (map unfolded_field gs)) (map unfolded_field gs)) (sym is) refl
fields-canon (line ∷ lines) fs (f, more, is, are, whole) =
    subst (λ gs. FieldsText (map field_text (map unfolded_field gs)) (map unfolded_field gs)) (sym whole)
    (unfolded_field f, map unfolded_field more, field-canon line f is, fields-canon lines more are, refl)

-- the canonical forms of fields have no CR and no LF, and none is empty
fields-inner : (lines : List (List ℕ)) (fs : List Field) → FieldsText lines fs → AreInner (map field_text (map unfolded_field fs))
-- without fields there are no lines; else the first line has no CR and no LF, and neither have the others
fields-inner [] fs is = subst (λ gs. AreInner (map field_text (map unfolded_field gs))) (sym is) tt
fields-inner (line ∷ lines) fs (f, more, is, are, whole) =
    subst (λ gs. AreInner (map field_text (map unfolded_field gs))) (sym whole) (field-inner line f is, fields-inner lines more are)

-- no canonical form of a field begins with a blank
fields-cut : (lines : List (List ℕ)) (fs : List Field) → FieldsText lines fs → AllByRecursion (λ line. ¬ (OpensBlank line)) (map field_text (map unfolded_field fs))
-- without fields there are no lines; else the first line begins with no blank, and neither do the others
fields-cut [] fs is = subst (λ gs. AllByRecursion (λ line. ¬ (OpensBlank line)) (map field_text (map unfolded_field gs))) (sym is) tt
fields-cut (line ∷ lines) fs (f, more, is, are, whole) =
    subst (λ gs. AllByRecursion (λ line. ¬ (OpensBlank line)) (map field_text (map unfolded_field gs))) (sym whole) (field-cut line f is, fields-cut lines more are)

-- where lines are fields, each field has a value of its row
pub fields-rows : (lines : List (List ℕ)) (fs : List Field) → FieldsText lines fs → AllByRecursion (λ f. Row f.name f.value) fs
-- of no fields nothing is asked; else the first field is of its row, and so are the others
fields-rows [] fs is = subst (AllByRecursion (λ f. Row f.name f.value)) (sym is) tt
fields-rows (line ∷ lines) fs (f, more, is, are, whole) =
    subst (AllByRecursion (λ g. Row g.name g.value)) (sym whole) (is.row, fields-rows lines more are)

-- a value that was found with the number of its line, unfolded
abbrev unfolded_found : ℕ × List ℕ → ℕ × List ℕ
unfolded_found x = (x.0, unfolded x.1)

-- the values of a name in unfolded fields are its values, unfolded, with the same numbers of lines
found-unfolded : (n : ℕ) (name : Known) (fs : List Field) → found_from n name (map unfolded_field fs) ≡ map unfolded_found (found_from n name fs)
found-unfolded n name [] = refl
found-unfolded n name (f ∷ fs) = at (is_name_of name f.name) (found-unfolded (n + 1) name fs)
  where
    -- the claim holds whether or not the first field has the name
    at : (b : Bool) → found_from (n + 1) name (map unfolded_field fs) ≡ map unfolded_found (found_from (n + 1) name fs) → cond b ((n, unfolded f.value) ∷ found_from (n + 1) name (map unfolded_field fs)) (found_from (n + 1) name (map unfolded_field fs)) ≡ map unfolded_found (cond b ((n, f.value) ∷ found_from (n + 1) name fs) (found_from (n + 1) name fs))
    at true later = ap (λ t. (n, unfolded f.value) ∷ t) later
    at false later = later

-- a field of the name stands there with the folds made one SP too
abbrev stands-unfolded : (name : Known) (fs : List Field) → HasField name fs → HasField name (map unfolded_field fs)
stands-unfolded name fs s = (unfolded_found s.0, (map unfolded_found s.1.0, found-unfolded 1 name fs ∙ ap (map unfolded_found) s.1.1))

-- no second field of the name stands there with the folds made one SP either
once-unfolded : (name : Known) (fs : List Field) → IsNotTwice name fs → IsNotTwice name (map unfolded_field fs)
once-unfolded name fs few =
    omega (arith, few, ap length (found-unfolded 1 name fs), length-map (found_from 1 name fs) unfolded_found)

-- a field name that is Content-Length is the known name
named-length : (n : FieldName) → is_name_of known_name.ContentLength n ≡ true → n ≡ known known_name.ContentLength
-- each name is tried, by computing
named-length (known known_name.Via) is = absurd (both_ways false refl is)
named-length (known known_name.From) is = absurd (both_ways false refl is)
named-length (known known_name.To) is = absurd (both_ways false refl is)
named-length (known known_name.CallId) is = absurd (both_ways false refl is)
named-length (known known_name.CSeq) is = absurd (both_ways false refl is)
named-length (known known_name.ContentLength) is = refl
named-length (known known_name.Contact) is = absurd (both_ways false refl is)
named-length (known known_name.ContentEncoding) is = absurd (both_ways false refl is)
named-length (known known_name.ContentType) is = absurd (both_ways false refl is)
named-length (known known_name.Subject) is = absurd (both_ways false refl is)
named-length (known known_name.Supported) is = absurd (both_ways false refl is)
named-length (known known_name.Route) is = absurd (both_ways false refl is)
named-length (other t) is = absurd (both_ways false refl is)

-- where each field is of its row, the values of Content-Length are digits
found-digits : (n : ℕ) (fs : List Field) → AllByRecursion (λ f. Row f.name f.value) fs → AllByRecursion (λ x. Digits (x.1)) (found_from n known_name.ContentLength fs)
found-digits n [] rows = tt
found-digits n (f ∷ fs) rows = at (is_name_of known_name.ContentLength f.name) refl (found-digits (n + 1) fs rows.1)
  where
    -- the claim holds whether or not the first field is Content-Length
    at : (b : Bool) → is_name_of known_name.ContentLength f.name ≡ b → AllByRecursion (λ x. Digits (x.1)) (found_from (n + 1) known_name.ContentLength fs) → AllByRecursion (λ x. Digits (x.1)) (cond b ((n, f.value) ∷ found_from (n + 1) known_name.ContentLength fs) (found_from (n + 1) known_name.ContentLength fs))
    at true is later = (subst (λ m. Row m f.value) (named-length f.name is) rows.0, later)
    at false is later = later

-- where each field is of its row, the number of Content-Length stays when the fields are unfolded
length-unfolded : (fs : List Field) → AllByRecursion (λ f. Row f.name f.value) fs → content_length (map unfolded_field fs) ≡ content_length fs
length-unfolded fs rows =
    ap length_in (found-unfolded 1 known_name.ContentLength fs) ∙ at (found known_name.ContentLength fs) (found-digits 1 fs rows)
  where
    -- the claim holds whether or not there is a Content-Length
    at : (xs : List (ℕ × List ℕ)) → AllByRecursion (λ x. Digits (x.1)) xs → length_in (map unfolded_found xs) ≡ length_in xs
    at [] all = refl
    at (x ∷ xs) all = ap (λ t. Some (digits_value 10 t)) (unfolded-solid x.1 (solid-digits x.1 all.0))

-- a field name that is Via is the known name
named-via : (n : FieldName) → is_name_of known_name.Via n ≡ true → n ≡ known known_name.Via
-- each name is tried, by computing
named-via (known known_name.Via) is = refl
named-via (known known_name.From) is = absurd (both_ways false refl is)
named-via (known known_name.To) is = absurd (both_ways false refl is)
named-via (known known_name.CallId) is = absurd (both_ways false refl is)
named-via (known known_name.CSeq) is = absurd (both_ways false refl is)
named-via (known known_name.ContentLength) is = absurd (both_ways false refl is)
named-via (known known_name.Contact) is = absurd (both_ways false refl is)
named-via (known known_name.ContentEncoding) is = absurd (both_ways false refl is)
named-via (known known_name.ContentType) is = absurd (both_ways false refl is)
named-via (known known_name.Subject) is = absurd (both_ways false refl is)
named-via (known known_name.Supported) is = absurd (both_ways false refl is)
named-via (known known_name.Route) is = absurd (both_ways false refl is)
named-via (other t) is = absurd (both_ways false refl is)

-- where each field is of its row, the values of Via are of its row
found-vias : (n : ℕ) (fs : List Field) → AllByRecursion (λ f. Row f.name f.value) fs → AllByRecursion (λ x. Row (known known_name.Via) (x.1)) (found_from n known_name.Via fs)
found-vias n [] rows = tt
found-vias n (f ∷ fs) rows = at (is_name_of known_name.Via f.name) refl (found-vias (n + 1) fs rows.1)
  where
    -- the claim holds whether or not the first field is a Via
    at : (b : Bool) → is_name_of known_name.Via f.name ≡ b → AllByRecursion (λ x. Row (known known_name.Via) (x.1)) (found_from (n + 1) known_name.Via fs) → AllByRecursion (λ x. Row (known known_name.Via) (x.1)) (cond b ((n, f.value) ∷ found_from (n + 1) known_name.Via fs) (found_from (n + 1) known_name.Via fs))
    at true is later = (subst (λ m. Row m f.value) (named-via f.name is) rows.0, later)
    at false is later = later

-- the first value of Via is one that its row allows
first-via : (n : ℕ) (fs : List Field) → AllByRecursion (λ f. Row f.name f.value) fs → (one : ℕ × List ℕ) (more : List (ℕ × List ℕ)) → found_from n known_name.Via fs ≡ one ∷ more → Row (known known_name.Via) (one.1)
first-via n fs rows one more is =
    (subst (AllByRecursion (λ x. Row (known known_name.Via) (x.1))) is (found-vias n fs rows)).0

-- a body that was cut at the length is long enough for it
body-enough : (len : Option ℕ) (rest : List ℕ) → IsEnough len rest → IsEnough len (cut_body len rest)
body-enough None rest enough = tt
body-enough (Some n) rest enough = omega (arith, length-take-le n rest enough)

-- nothing follows a body that was cut to its length
body-no_more : (stream : List ℕ) (len : Option ℕ) (rest : List ℕ) → IsEnough len rest → IsNoMore stream len (cut_body len rest)
body-no_more stream None rest enough is = tt
body-no_more stream (Some n) rest enough is = omega (arith, length-take-le n rest enough)

-- a body that was cut at the length stays as it is when it is cut again
body-twice : (len : Option ℕ) (rest : List ℕ) → IsEnough len rest → cut_body len rest ≡ cut_body len (cut_body len rest)
body-twice None rest enough = refl
body-twice (Some n) rest enough =
    sym (ap (λ m. take m (take n rest)) (sym (length-take-le n rest enough)) ∙ take-length (take n rest))

-- where fields and a body meet what a message demands, so do the unfolded fields and the body that is cut to its length
fits-unfolded : (start : StartLine) (fs : List Field) (rest : List ℕ) → AllByRecursion (λ f. Row f.name f.value) fs → MessageFits start fs rest → MessageFits start (map unfolded_field fs) (cut_body (content_length fs) rest)
fits-unfolded start fs rest rows fits = record {
  -- each field that must stand there does so, and none stands twice that may stand once
  via = stands-unfolded known_name.Via fs fits.via;
  from_once = once-unfolded known_name.From fs fits.from_once;
  from = stands-unfolded known_name.From fs fits.from;
  to_once = once-unfolded known_name.To fs fits.to_once;
  to = stands-unfolded known_name.To fs fits.to;
  call_id_once = once-unfolded known_name.CallId fs fits.call_id_once;
  call_id = stands-unfolded known_name.CallId fs fits.call_id;
  -- CSeq stands there, and neither it nor Content-Length twice
  cseq_once = once-unfolded known_name.CSeq fs fits.cseq_once;
  cseq = stands-unfolded known_name.CSeq fs fits.cseq;
  length_once = once-unfolded known_name.ContentLength fs fits.length_once;
  -- the length is the same, and so is what it asks of the body
  method = method start fits.method;
  has_length = λ streams. subst (λ l. is_some l ≡ true) len (fits.has_length (stream streams));
  enough = subst (λ l. IsEnough l (cut_body (content_length fs) rest)) len (body-enough (content_length fs) rest fits.enough);
  no_more = subst (λ l. IsNoMore (unfolded fits.via.0.1) l (cut_body (content_length fs) rest)) len (body-no_more (unfolded fits.via.0.1) (content_length fs) rest fits.enough);
}
  where
    -- the number of Content-Length stays as it is
    len : content_length fs ≡ content_length (map unfolded_field fs)
    len = sym (length-unfolded fs rows)

    -- the first Via is of its row
    via_row : Row (known known_name.Via) fits.via.0.1
    via_row = first-via 1 fs rows fits.via.0 fits.via.1.0 fits.via.1.1

    -- the transport of the folded value is the same, since its first element keeps it
    top : (value : List ℕ) (vias : List SaidVia) → ViasSay vias value → StreamSays (unfolded value) → StreamSays value
    top value [] none streams = absurd none
    top value (v ∷ vias) says (w, more, is, kind) =
        let before : TopTransport value v.transport = (v, vias, says, refl) in
        (v, vias, says, subst (AnyCase "tcp" or AnyCase "tls") (same_transport (unfolded value) w.transport v.transport (w, more, is, refl) (unfolded-via value v.transport before)) kind)

    -- the transport is the same without its folds
    stream : StreamSays (unfolded fits.via.0.1) → StreamSays fits.via.0.1
    stream streams = top fits.via.0.1 via_row.0 via_row.1 streams

    -- the method is the same without its folds
    method : (s : StartLine) → MethodSays s (fits.cseq.0.1) → MethodSays s (unfolded fits.cseq.0.1)
    method (request m uri) is = (is.0, unfolded-cseq fits.cseq.0.1 is.0 m is.1)
    method (status code reason) is = tt

-- where bytes are the text of a message, its canonical form is the text of the message with its values unfolded
pub canon-text : (bytes : List ℕ) (s : Message) → MessageText bytes s → MessageText (canon (message_of s)) (message_of s)
canon-text bytes s text =
    -- the start line, and the fields with their values unfolded, have no line ends within them
    let start = start-inner text.first s.start text.is_start in
    let inner : AreInner (start_text s.start ∷ map field_text (map unfolded_field s.fields)) = (start, fields-inner text.others s.fields text.are_fields) in
    let rows = fields-rows text.others s.fields text.are_fields in
    record {
      head = flat_map with_end (start_text s.start ∷ map field_text (map unfolded_field s.fields));
      rest = s.body;
      first = start_text s.start;
      others = map field_text (map unfolded_field s.fields);
      -- the lines have no line end within them, so they are read as they were written
      is_head = lines-head (start_text s.start) (map field_text (map unfolded_field s.fields)) s.body inner;
      no_bare = inner-no_bare (start_text s.start ∷ map field_text (map unfolded_field s.fields)) inner;
      are_lines = record { whole = refl; folded = inner-folds (start_text s.start ∷ map field_text (map unfolded_field s.fields)) inner; cut = fields-cut text.others s.fields text.are_fields };
      is_start = start-canon text.first s.start text.is_start;
      -- the unfolded fields fit, and the body is cut to its length as before
      are_fields = fields-canon text.others s.fields text.are_fields;
      fits = subst (MessageFits s.start (map unfolded_field s.fields)) (sym text.body_is) (fits-unfolded s.start s.fields text.rest rows text.fits);
      body_is = text.body_is ∙ body-twice (content_length s.fields) text.rest text.fits.enough ∙ ap (λ l. cut_body l (cut_body (content_length s.fields) text.rest)) (sym (length-unfolded s.fields rows))
          ∙ ap (cut_body (content_length (map unfolded_field s.fields))) (sym text.body_is);
    }

-- fields that are unfolded twice are those that are unfolded once
message-twice : (fs : List Field) → map unfolded_field (map unfolded_field fs) ≡ map unfolded_field fs
message-twice [] = refl
message-twice (f ∷ fs) =
    ap (λ v. record { name = f.name; value = v } ∷ map unfolded_field (map unfolded_field fs)) (unfolded-twice f.value)
    ∙ ap (λ gs. unfolded_field f ∷ gs) (message-twice fs)

-- where bytes spell a message, so does its canonical form
pub canon-spells : (bytes : List ℕ) (m : Message) → Spells bytes m → Spells (canon m) m
canon-spells bytes m (s, text, is) =
    -- the canonical form is the text of the unfolded message, which is itself when it is unfolded again
    subst (λ n. Spells (canon n) n) (sym is)
    (message_of s, canon-text bytes s text, ap (λ fs. record { start = s.start; fields = fs; body = s.body }) (sym (message-twice s.fields)))

-- messages that bytes spell, and that have the same canonical form, are the same
-- the bytes b spell the message m, and the bytes c the message n
pub same_canon : (b c : List ℕ) (m n : Message) → Spells b m → Spells c n → canon m ≡ canon n → m ≡ n
same_canon b c m n one two same =
    same_message (canon n) m n (subst (λ t. Spells t m) same (canon-spells b m one)) (canon-spells c n two)
