-- Lines that end at their first control, and what they are read as.
-- An open line (`IsOpen`) has no control other than HTAB; `is_open` is the test of a byte. `AreOrdinary` is of field lines that are open, with an empty line
-- after them, and `IsOrdinary` of a head with a start line and fields, none of which is folded.
-- The number of a text of at most eight bytes (`number_of`) is that of its bytes with the bit of small letters set, filled up with NULs before them
-- (`filled`). `agree_below_at f g 256 b` says that two tests agree at b, since they do at each byte below 256, which are tried by computing.
use Rattle.std.proofs.Common.{◌≡◌, ◌⊎◌, ℕ, zero, suc, ◌+◌, ◌-◌, ◌<◌, ◌≤◌, Bool, true, false, not, ◌&&◌, ◌||◌, ◌==◌, nat_le, nat_lt, ltb, cond, List, [], ◌∷◌, ◌++◌, map, length, take, drop, get_or, Fits, w8, w64, refl, sym, ap, ap₂, ◌∙◌, subst, inl, inr, arith}
use Rattle.std.specs.Prelude.{codes, bytes_eq, replicate}
use Rattle.std.specs.Char.{is_ascii_alphanumeric, to_ascii_lowercase}
use Rattle.std.specs.Int.{from_le_bytes, to_le_bytes}
use Rattle.std.specs.List.{AllByRecursion, filter, flat_map, list_all, list_any, prefix_len}
use Rattle.std.proofs.Math.Seq.{drop-cons, take-append_seam, take-append-add}
use Rattle.std.proofs.lemmas.Bool.{both_ways, agree_below_at, and_parts, or_cases, cases_lt, eqb-true, ltb-true, le-leb, ne_eqb}
use Rattle.std.proofs.lemmas.List.{take-append-drop, drop-drop, append_assoc, append-nil, length-append, length-drop, length-take-le, length-map, length-replicate, map-append, take-map, drop-map}
use Rattle.std.proofs.lemmas.List.Sums.{prefix_len-le-length}
use Rattle.std.proofs.lemmas.Nat.{le_bytes_8, or_of_8}
use Rattle.std.proofs.lemmas.Slice.Eq.{bytes_eq-Decides}
use Rattle.std.proofs.lemmas.Grind.{flat_map-append}
use Rattle.sip_standard.specs.Text.{One, ◌or◌}
use Rattle.sip_standard.specs.Case.{folded}
use Rattle.sip_standard.specs.Profile.{Token, Lws}
use Rattle.sip_standard.specs.Chars.{is_among}
use Rattle.sip_text.specs.inner.Blanks.{is_wsp}
use Rattle.sip_text.specs.Bytes.{is_token_byte, crlf, colon, carriage_return, line_feed}
use Rattle.sip_text.proofs.texts.ManyLemmas.{AllByRecursion-append, many-nil, many-cons, many-map, some-many}
use Rattle.sip_text.proofs.strings.BlanksLemmas.{lws-blank}
use Rattle.sip_text.proofs.texts.RunLemmas.{run-front}
use Rattle.sip_masks.specs.Marks.{is_plain}
use Rattle.sip_standard.specs.Lines.{CutSays, OpensBlank}
use Rattle.sip_message.specs.inner.Lines.{is_inner_byte, with_end}
use Rattle.sip_message.specs.inner.Values.{is_value_byte, OtherText}
use Rattle.sip_message.specs.declared.name.Known.{Known}
use Rattle.sip_message.specs.Name.{FieldName, known, other, name_of}
use Rattle.sip_standard.specs.StartLine.{StartLine, request, status, StartSays}
use Rattle.sip_message.specs.Field.{Field}
use Rattle.sip_message.specs.inner.FieldText.{NameText, ValueText, FieldText, FieldsText}
use Rattle.sip_standard.specs.Canonical.{unfolded}
use Rattle.sip_message.specs.inner.MessageText.{AreUnfolded}
use Rattle.sip_message.specs.inner.Quick.{is_open, IsOpen, AreOrdinary, IsOrdinary}
use Rattle.sip_message.specs.inner.Numbers.{small, filled, number_of}
use Rattle.sip_message.proofs.lemmas.field.Spelled.{spellings, name_by, named-by}
use Rattle.sip_message.proofs.lemmas.text.Cuts.{All, all_left, all_right}
use Rattle.sip_message.proofs.lemmas.text.Each.{each-one, each-many, wsp-blank}
use Rattle.sip_message.proofs.lemmas.field.OneWay.{each-token, blank-token, name_whole}
use Rattle.sip_message.proofs.lemmas.canon.Spelling.{Inner, AreInner, unfolded-same, lines-head, inner-folds, inner-no_bare}
use Rattle.sip_message.proofs.lemmas.lines.Reading.{fields-push}
use Rattle.sip_message.proofs.lemmas.start_line.OneWay.{length-folded}

-- no control stands in a text before its first control
open-front : (text : List ℕ) → All is_open (take (prefix_len is_open text) text)
open-front text =
    -- the longest run of bytes that are no controls stands at the front
    let front = run-front is_open text in
    let same : take (prefix_len is_open text) text ≡ front.0 = ap₂ take front.4 front.3 ∙ take-append_seam front.0 front.1 in
    subst (All is_open) (sym same) (each-many is_open _ (each-one is_open is_open (λ b is. is)) front.0 front.2)

-- where the first control after a place begins a CRLF, the text from the place on is a line without controls, its end, and the rest
pub open-line : (text : List ℕ) (at end : ℕ) → end ≡ at + prefix_len is_open (drop at text) → end + 2 ≤ length text → get_or text end 0 ≡ 13 → get_or text (end + 1) 0 ≡ 10
    → IsOpen (take (end - at) (drop at text)) × (drop at text ≡ with_end (take (end - at) (drop at text)) ++ drop (end + 2) text)
open-line text at end is room cr lf =
    -- n is how many bytes the line has, and `rest` what follows its CRLF
    let n = prefix_len is_open (drop at text) in
    let len : n ≡ end - at = omega (arith, is) in
    let rest = drop (end + 2) text in
    let one : suc end ≡ end + 1 = omega arith in
    let two : suc (end + 1) ≡ end + 2 = omega arith in
    -- at the end of the line stand CR, LF and the rest
    let ends : drop end text ≡ crlf ++ rest =
    drop-cons text end 0 (omega (arith, room)) ∙ ap₂ (λ b t. b ∷ t) cr (ap (λ k. drop k text) one ∙ drop-cons text (end + 1) 0 (omega (arith, room)) ∙ ap₂ (λ b t. b ∷ t) lf (ap (λ k. drop k text) two)) in
    let behind : drop n (drop at text) ≡ crlf ++ rest = drop-drop n at text ∙ ap (λ k. drop k text) (sym is) ∙ ends in (
      subst (λ k. IsOpen (take k (drop at text))) len (open-front (drop at text)),
      sym (take-append-drop n (drop at text)) ∙ ap₂ (λ k t. take k (drop at text) ++ t) len behind ∙ sym (append_assoc (take (end - at) (drop at text)) crlf rest),
    )

-- the next control of a text, or its end, stands within it
pub control-within : (text : List ℕ) (at end : ℕ) → at ≤ length text → end ≡ at + prefix_len is_open (drop at text) → end ≤ length text
control-within text at end within is = omega (arith, within, is, length-drop at text, prefix_len-le-length is_open (drop at text))

-- a byte that is no control may stand in a value that is not looked into, or is a blank
open-byte : (b : ℕ) → is_open b ≡ true → (is_value_byte b || is_wsp b) ≡ true
open-byte b clear =
    elim (cases_lt b 256) [
      -- of the bytes below 256 each is tried, by computing; the bytes from 128 on may all stand in a value
      | inl low ↦
          (and_parts (is_open b) (is_value_byte b || is_wsp b) (agree_below_at (λ x. is_open x && (is_value_byte x || is_wsp x)) is_open 256 b refl low ∙ clear)).1
      | inr high ↦ over (nat_le 128 b) _ (is_wsp b) (le-leb 128 b (omega (arith, high)))
    ]
  where
    -- where x, the second of three tests that are joined by "or", passes, they pass together
    over : (x y z : Bool) → x ≡ true → ((y || x) || z) ≡ true
    over true true z is = refl
    over true false z is = refl
    over false y z is = absurd (both_ways false refl is)

-- a text without controls is a value that the reader doesn't look into
pub open-other : (text : List ℕ) → IsOpen text → OtherText text
-- each byte is a piece of the value
open-other [] clear = many-nil _
open-other (b ∷ text) clear = many-cons _ (b ∷ []) text (piece (or_cases (is_value_byte b) (is_wsp b) (open-byte b clear.0))) (open-other text clear.1)
  where
    -- whether b is a byte of a value or a blank, it is a piece of a value
    piece : (is_value_byte b ≡ true) ⊎ (is_wsp b ≡ true) → (Lws or One is_value_byte) (b ∷ [])
    piece (inl byte) = inr (b, byte, refl)
    piece (inr wsp) = inl (lws-blank (b ∷ []) ([], b ∷ [], inl refl, (b, wsp, refl), refl))

-- a text without controls has no CR and no LF
open-inner : (line : List ℕ) → IsOpen line → Inner line
open-inner [] clear = tt
open-inner (b ∷ line) clear = (inner b clear.0, open-inner line clear.1)
  where
    -- a byte that is no control is neither CR nor LF
    inner : (b : ℕ) → is_open b ≡ true → is_inner_byte b ≡ true
    inner b clear =
        elim (cases_lt b 32) [
          -- of the bytes below 32 each is tried, by computing; CR and LF are below 32
          | inl low ↦ (and_parts (is_open b) (is_inner_byte b) (agree_below_at (λ x. is_open x && is_inner_byte x) is_open 32 b refl low ∙ clear)).1
          | inr high ↦ ap₂ (λ x y. not x && not y) (ne_eqb b carriage_return (λ same. omega (arith, same, high))) (ne_eqb b line_feed (λ same. omega (arith, same, high)))
        ]

-- where a colon stands after n bytes of a line, the line is these bytes, the colon and what follows it
pub line-cut : (text : List ℕ) (at n end : ℕ) → at + n < end → end ≤ length text → get_or text (at + n) 0 ≡ colon
    → take (end - at) (drop at text) ≡ take n (drop at text) ++ colon ∷ take (end - (at + n + 1)) (drop (at + n + 1) text)
line-cut text at n end less within is =
    -- t is the text from the start of the line on, which has n bytes at least
    let t = drop at text in
    let long : n ≤ length t = omega (arith, length-drop at text, less, within) in
    let next : suc (at + n) ≡ at + n + 1 = omega arith in
    -- after the n bytes stand the colon and what follows it
    let behind : drop n t ≡ colon ∷ drop (at + n + 1) text =
    drop-drop n at text ∙ drop-cons text (at + n) 0 (omega (arith, less, within)) ∙ ap₂ (λ b k. b ∷ drop k text) is next in
    let parts : t ≡ take n t ++ colon ∷ drop (at + n + 1) text = sym (take-append-drop n t) ∙ ap (λ r. take n t ++ r) behind in
    let count : end - at ≡ length (take n t) + suc (end - (at + n + 1)) = omega (arith, length-take-le n t long, less) in
    ap₂ take count parts ∙ take-append-add (take n t) (colon ∷ drop (at + n + 1) text) (suc (end - (at + n + 1)))

-- a byte that is one of some bytes below 256 is below 256
pub low-one : (set : List ℕ) (b : ℕ) → AllByRecursion (λ x. x < 256) set → list_any (λ c. c == b) set ≡ true → b < 256
-- b is none of no bytes
low-one [] b low is = absurd (both_ways false refl is)
low-one (x ∷ set) b low is =
    elim (or_cases (x == b) (list_any (λ c. c == b) set) is) [
      -- it is the first of the bytes, or one of the others
      | inl same ↦ omega (arith, eqb-true x b same, low.0)
      | inr later ↦ low-one set b low.1 later
    ]

-- a plain byte is a byte of a token
pub plain-token : (b : ℕ) → is_plain b ≡ true → is_token_byte b ≡ true
plain-token b is =
    elim (or_cases (is_ascii_alphanumeric b) (is_among "-.!*_+'~" b) is) [
      -- letters and digits are bytes of tokens; of the other bytes each below 256 is tried, by computing
      | inl letter ↦ ap (λ x. x || is_among "-.!%*_+`'~" b) letter
      | inr mark ↦
          (and_parts (is_token_byte b) (is_plain b) (agree_below_at (λ x. is_token_byte x && is_plain x) is_plain 256 b refl (low-one (codes "-.!*_+'~") b low mark) ∙ is)).0
    ]
  where
    -- each of these bytes is below 256
    low : AllByRecursion (λ x. x < 256) (codes "-.!*_+'~")
    low = (omega arith, (omega arith, (omega arith, (omega arith, (omega arith, (omega arith, (omega arith, (omega arith, tt))))))))

-- a run of plain bytes at the front of a text, if it is not empty, is a token
pub plain-run : (text : List ℕ) (n : ℕ) → n ≡ prefix_len is_plain text → 0 < n → Token (take n text)
plain-run text n is some =
    -- the first n bytes are the longest run of plain bytes, each of which is a byte of a token
    let front = run-front is_plain text in
    let same : take n text ≡ front.0 = ap₂ take (is ∙ front.4) front.3 ∙ take-append_seam front.0 front.1 in
    elim (some-many _ front.0 (many-map (One is_plain) (One is_token_byte) front.0 (λ u one. (one.0, plain-token one.0 one.1, one.2)) front.2)) [
      | inl none ↦ absurd (omega (arith, some, is, front.4, ap length none))
      | inr token ↦ subst Token (sym same) token
    ]

-- a line that begins with a run of plain bytes and a colon has the field name that the run spells, and what follows the colon is the rest
pub plain-named : (text : List ℕ) (at n end : ℕ) → n ≡ prefix_len is_plain (drop at text) → 0 < n → at + n < end → end ≤ length text → get_or text (at + n) 0 ≡ colon
    → NameText (take (end - at) (drop at text)) (name_of (take n (drop at text))) (take (end - (at + n + 1)) (drop (at + n + 1) text))
plain-named text at n end is some less within mark =
    let name = take n (drop at text) in
    let rest = take (end - (at + n + 1)) (drop (at + n + 1) text) in
    record {
      spelled = name;
      is_token = plain-run (drop at text) n is some;
      name_is = refl;
      -- the name, no blanks and the colon stand before the rest
      whole = (name, colon ∷ rest, refl, ([], colon ∷ rest, many-nil _, (colon ∷ [], rest, refl, refl, refl), refl), line-cut text at n end less within mark);
    }

-- what follows the colon of a line without controls has no controls
pub behind-open : (text : List ℕ) (at n end : ℕ) → at + n < end → end ≤ length text → get_or text (at + n) 0 ≡ colon → IsOpen (take (end - at) (drop at text))
    → IsOpen (take (end - (at + n + 1)) (drop (at + n + 1) text))
behind-open text at n end less within mark clear =
    let rest = take (end - (at + n + 1)) (drop (at + n + 1) text) in
    -- what follows the colon is a part of the line
    (all_right is_open (take n (drop at text)) (colon ∷ rest) (subst IsOpen (line-cut text at n end less within mark) clear)).1

-- the value in a text without controls has no controls
pub value-open : (rest value : List ℕ) → IsOpen rest → ValueText rest value → IsOpen value
value-open rest value clear valued =
    -- `whole`: blanks, the value and blanks are what follows the colon, which has no controls
    let w = valued.whole in
    let whole : rest ≡ w.0 ++ (value ++ w.3.1) = w.4 ∙ ap (λ t. w.0 ++ t) (w.3.4 ∙ ap (λ t. t ++ w.3.1) w.3.2) in
    all_left is_open value w.3.1 (all_right is_open w.0 (value ++ w.3.1) (subst IsOpen whole clear))

-- the line of a field is not empty, and begins with no blank
line-begins : (line : List ℕ) (f : Field) → FieldText line f → (line ≡ [] → ⊥) × (OpensBlank line → ⊥)
line-begins line f is =
    let n = is.named in
    let whole = name_whole line is.rest f.name n in
    -- the name, blanks, the colon and the rest are not empty; and they begin with the name
    (λ none. absurd (omega (arith, ap length (sym none ∙ whole), length-append n.spelled (n.whole.3.0 ++ colon ∷ is.rest), length-append n.whole.3.0 (colon ∷ is.rest))), λ begins. at n.spelled n.is_token _ (subst OpensBlank whole begins))
  where
    -- a name begins with no blank, whatever follows it
    at : (name : List ℕ) → Token name → (more : List ℕ) → OpensBlank (name ++ more) → ⊥
    -- a name has a byte at least
    at [] token more begins = absurd (omega (arith, length-append token.0 token.1, ap length token.4, ap length token.2.2))
    at (b ∷ name) token more begins = both_ways (is_token_byte b) (blank-token b (wsp-blank b begins)) (each-token (b ∷ name) token).0

-- where lines are fields and have no controls, no line has a CR or LF in it or begins with a blank
lines-begin : (lines : List (List ℕ)) (fields : List Field) → FieldsText lines fields → AllByRecursion IsOpen lines → AreInner lines × AllByRecursion (λ line. ¬ (OpensBlank line)) lines
-- without lines nothing is to be shown
lines-begin [] fields are clear = (tt, tt)
lines-begin (line ∷ lines) fields (f, fs, is, are, whole) clear =
    let begins = line-begins line f is in
    let later = lines-begin lines fs are clear.1 in
    (((open-inner line clear.0, begins.0), later.0), (begins.1, later.1))

-- the value of a field whose line has no controls is not folded
field-unfolded : (line : List ℕ) (f : Field) → FieldText line f → IsOpen line → unfolded f.value ≡ f.value
field-unfolded line f is clear =
    let n = is.named in
    -- what follows the colon has no controls, and so the value has none
    let behind = all_right is_open n.spelled (n.whole.3.0 ++ colon ∷ is.rest) (subst IsOpen (name_whole line is.rest f.name n) clear) in
    let rest = (all_right is_open n.whole.3.0 (colon ∷ is.rest) behind).1 in
    unfolded-same f.value (open-inner f.value (value-open is.rest f.value rest is.valued))

-- where lines are fields and have no controls, no value of the fields is folded
fields-unfolded : (lines : List (List ℕ)) (fields : List Field) → FieldsText lines fields → AllByRecursion IsOpen lines → AreUnfolded fields
-- without fields there are no values
fields-unfolded [] fields are clear = subst AreUnfolded (sym are) tt
fields-unfolded (line ∷ lines) fields (f, fs, is, are, whole) clear =
    subst AreUnfolded (sym whole) (field-unfolded line f is clear.0, fields-unfolded lines fs are clear.1)

-- a start line is not empty
start-some : (line : List ℕ) (start : StartLine) → StartSays line start → line ≡ [] → ⊥
-- a request line has its method and a SP
start-some line (request method uri) w none =
    absurd (omega (arith, ap length (sym none ∙ w.4), length-append w.0 w.1, ap length w.3.4, length-append w.3.0 w.3.1, ap length w.3.2))
-- a status line has its version and a SP
start-some line (status code reason) w none =
    absurd (omega (arith, ap length (sym none ∙ w.4), length-append w.0 w.1, ap length w.3.4, length-append w.3.0 w.3.1, ap length w.3.2))

-- the text from the place `from` up to the place `at` is whole lines without controls, and they are these fields
pub record LinesSoFar (text : List ℕ) (from at : ℕ) (fields : List Field) : Type 0 where
  pub lines : List (List ℕ)
  pub within : at ≤ length text
  pub whole : drop from text ≡ flat_map with_end lines ++ drop at text
  pub are_open : AllByRecursion IsOpen lines
  pub are : FieldsText lines fields

-- where the text up to a place is lines without controls, and a further one ends with a CRLF, the text up to the end of that is lines with it
pub so_far-more : (text : List ℕ) (from at end : ℕ) (fields : List Field) (f : Field) → LinesSoFar text from at fields → end + 2 ≤ length text → IsOpen (take (end - at) (drop at text))
    → drop at text ≡ with_end (take (end - at) (drop at text)) ++ drop (end + 2) text → FieldText (take (end - at) (drop at text)) f → LinesSoFar text from (end + 2) (fields ++ f ∷ [])
so_far-more text from at end fields f so room clear is field =
    let line = take (end - at) (drop at text) in
    -- `one`: the text of this line alone is the line with its CRLF
    let one : flat_map with_end (line ∷ []) ≡ with_end line = append-nil (with_end line) in
    record {
      -- the line stands after the lines so far, and its field after theirs
      lines = so.lines ++ line ∷ [];
      within = room;
      whole = so.whole ∙ ap (λ t. flat_map with_end so.lines ++ t) is ∙ sym (append_assoc (flat_map with_end so.lines) (with_end line) (drop (end + 2) text))
          ∙ ap (λ t. t ++ drop (end + 2) text) (sym (flat_map-append with_end so.lines (line ∷ []) ∙ ap (λ t. flat_map with_end so.lines ++ t) one));
      are_open = AllByRecursion-append IsOpen so.lines (line ∷ []) so.are_open (clear, tt);
      -- the new line has no controls, as the lines before it have none
      are = fields-push so.lines fields line f so.are field;
    }

-- a text whose first bytes are a front is the front and what follows it
pub front-rest : (text front : List ℕ) → front ≡ take (length front) text → text ≡ front ++ drop (length front) text
front-rest text front is = sym (take-append-drop (length front) text) ∙ ap (λ t. t ++ drop (length front) text) (sym is)

-- a start line without controls, lines that are fields, and an empty line are an ordinary head
pub ordinary-head : (bytes text more rest : List ℕ) (start : StartLine) (fields : List Field) (end at : ℕ) → bytes ≡ text ++ more
    → IsOpen (take (end - 0) (drop 0 text)) → drop 0 text ≡ with_end (take (end - 0) (drop 0 text)) ++ drop (end + 2) text
    → StartSays (take (end - 0) (drop 0 text)) start → AreOrdinary text (end + 2) at fields → rest ≡ drop (at + 2) text ++ more → IsOrdinary bytes start fields rest
ordinary-head bytes text more rest start fields end at bytes_is clear is is_start are rest_is =
    -- `first` is the start line, ls the text of the field lines, and `behind` what follows the empty line
    let first = take (end - 0) (drop 0 text) in
    let ls = flat_map with_end are.lines in
    let behind = drop (at + 2) text in
    -- the lines have neither CR nor LF, and none of them is empty
    let begins = lines-begin are.lines fields are.are are.are_open in
    let inner : AreInner (first ∷ are.lines) = ((open-inner first clear, start-some first start is_start), begins.0) in
    let text_is : text ≡ (with_end first ++ ls) ++ (crlf ++ behind) =
    is ∙ ap (λ t. with_end first ++ t) (are.whole ∙ ap (λ t. ls ++ t) are.ends) ∙ sym (append_assoc (with_end first) ls (crlf ++ behind)) in
    -- the head is the start line and these lines, and the empty line follows it
    let whole : bytes ≡ (with_end first ++ ls) ++ (crlf ++ rest) =
    bytes_is ∙ ap (λ t. t ++ more) text_is ∙ append_assoc (with_end first ++ ls) (crlf ++ behind) more ∙ ap (λ t. (with_end first ++ ls) ++ (crlf ++ t)) (sym rest_is) in
    record {
      head = with_end first ++ ls;
      first = first;
      others = are.lines;
      is_head = subst (λ t. CutSays t (with_end first ++ ls, rest)) (sym whole) (lines-head first are.lines rest inner);
      no_bare = inner-no_bare (first ∷ are.lines) inner;
      -- the lines of the head are the start line and the fields
      are_lines = record { whole = refl; folded = inner-folds (first ∷ are.lines) inner; cut = begins.1 };
      is_start = is_start;
      are_fields = are.are;
      no_folds = fields-unfolded are.lines fields are.are are.are_open;
    }

-- each number of the text is a byte
abbrev pub Bytes : List ℕ → Type 0
Bytes text = (i : ℕ) → get_or text i 0 < 256

-- a byte of a known name in small letters
abbrev pub is_name_byte : ℕ → Bool
is_name_byte b = (nat_le 97 b && nat_le b 122) || b == 45

-- a byte of a token that is a byte of a known name once the bit of small letters is set has that value as its lower case
token-small : (b : ℕ) → b < 256 → is_token_byte b ≡ true → is_name_byte (small b) ≡ true → to_ascii_lowercase b ≡ small b
token-small b low token name =
    -- each byte below 256 is tried, by computing
    eqb-true _ _ (by (is_token_byte b) (is_name_byte (small b)) _ token name (agree_below_at (λ x. not (is_token_byte x && is_name_byte (small x)) || to_ascii_lowercase x == small x) (λ _. true) 256 b refl low))
  where
    -- where x and y hold, and z holds wherever both do, z holds
    by : (x y z : Bool) → x ≡ true → y ≡ true → (not (x && y) || z) ≡ true → z ≡ true
    by true true z one two is = is
    by true false z one two is = absurd (both_ways false refl two)
    by false y z one two is = absurd (both_ways false refl one)

-- a byte whose lower case is a byte of a known name has that lower case once the bit of small letters is set
lower-small : (b : ℕ) → b < 256 → is_name_byte (to_ascii_lowercase b) ≡ true → small b ≡ to_ascii_lowercase b
lower-small b low name =
    -- each byte below 256 is tried, by computing
    eqb-true _ _ (by (is_name_byte (to_ascii_lowercase b)) _ name (agree_below_at (λ x. not (is_name_byte (to_ascii_lowercase x)) || small x == to_ascii_lowercase x) (λ _. true) 256 b refl low))
  where
    -- where x holds, and z holds wherever x does, z holds
    by : (x z : Bool) → x ≡ true → (not x || z) ≡ true → z ≡ true
    by true z one is = is
    by false z one is = absurd (both_ways false refl one)

-- a token whose bytes are those of a known name once the bit of small letters is set has these bytes as its lower case
small-folded : (text : List ℕ) → Bytes text → All is_token_byte text → list_all is_name_byte (map small text) ≡ true → folded text ≡ map small text
small-folded [] fits token name = refl
small-folded (b ∷ text) fits token name =
    -- with the bit of small letters set the first byte and the others are bytes of known names
    let parts = and_parts (is_name_byte (small b)) (list_all is_name_byte (map small text)) name in
    ap₂ (λ x t. x ∷ t) (token-small b (fits 0) token.0 parts.0) (small-folded text (λ i. fits (suc i)) token.1 parts.1)

-- a text whose lower case has only bytes of known names is that lower case once the bit of small letters is set in each byte
folded-small : (text : List ℕ) → Bytes text → list_all is_name_byte (folded text) ≡ true → map small text ≡ folded text
folded-small [] fits name = refl
folded-small (b ∷ text) fits name =
    -- the first byte and the others are bytes of known names in lower case
    let parts = and_parts (is_name_byte (to_ascii_lowercase b)) (list_all is_name_byte (folded text)) name in
    ap₂ (λ x t. x ∷ t) (lower-small b (fits 0) parts.0) (folded-small text (λ i. fits (suc i)) parts.1)

-- a byte that is not NUL
abbrev pub is_some_byte : ℕ → Bool
is_some_byte b = nat_lt 0 b

-- without its NULs a text with n NULs before it is the text without its NULs
without-nul : (n : ℕ) (text : List ℕ) → filter is_some_byte (replicate n 0 ++ text) ≡ filter is_some_byte text
without-nul zero text = refl
without-nul (suc n) text = without-nul n text

-- a byte with the bit of small letters set is not NUL, so that none is left out
no-nul : (text : List ℕ) → Bytes text → filter is_some_byte (map small text) ≡ map small text
no-nul [] fits = refl
no-nul (b ∷ text) fits =
    -- each byte below 256 is tried, by computing: with the bit set it is not 0
    ap (λ some. cond some (small b ∷ filter is_some_byte (map small text)) (filter is_some_byte (map small text))) (agree_below_at (λ x. is_some_byte (small x)) (λ _. true) 256 b refl (fits 0))
    ∙ ap (λ t. small b ∷ t) (no-nul text (λ i. fits (suc i)))

-- each byte of NULs and a text with the bit of small letters set is below 256
small-fits : (text : List ℕ) (n : ℕ) → Bytes text → (i : ℕ) → get_or (replicate n 0 ++ map small text) i 0 < 256
-- a place in the NULs, or in the text after them; past the end a byte is 0
small-fits text (suc n) fits zero = omega arith
small-fits text (suc n) fits (suc i) = small-fits text n fits i
small-fits [] zero fits i = omega arith
-- with the bit of small letters, 32, a byte stays below 256
small-fits (b ∷ text) zero fits zero = or_of_8 b 32 (fits 0) (omega arith)
small-fits (b ∷ text) zero fits (suc i) = small-fits text zero (λ j. fits (suc j)) i

-- the bytes of the number that a text of at most eight bytes writes, without its NULs, are the text with the bit of small letters set
number-bytes : (text : List ℕ) (n : ℕ) → Bytes text → length text ≤ 8 → n ≡ number_of text → filter is_some_byte (to_le_bytes w64 n) ≡ map small text
number-bytes text n fits few is =
    let lower = map small text in
    -- the text is filled up to eight bytes with NULs before it, which the number writes and the filter leaves out
    let long : length (filled lower) ≡ 8 = omega (arith, few, length-map text small, length-append (replicate (8 - length lower) 0) lower, length-replicate {A = ℕ} (8 - length lower) 0) in
    ap (filter is_some_byte) (le_bytes_8 (filled lower) n long (small-fits text (8 - length lower) fits) is) ∙ without-nul (8 - length lower) lower ∙ no-nul text fits

-- the bytes of a number, without its NULs
abbrev pub spelled : ℕ → List ℕ
spelled n = filter is_some_byte (to_le_bytes w64 n)

-- the name of a text by a list of spellings, where `lower` is the text in small letters
abbrev pub spelled_by : List (List ℕ × Known) → List ℕ → List ℕ → FieldName
spelled_by [] lower text = other text
spelled_by ((s, k) ∷ more) lower text = cond (bytes_eq lower s) (known k) (spelled_by more lower text)

-- a token that is a spelling of a known name, once the bit of small letters is set, has that name
known-by : (text s : List ℕ) (k : Known) → Bytes text → Token text → map small text ≡ s → list_all is_name_byte s ≡ true → spelled_by spellings s text ≡ known k → known k ≡ name_of text
known-by text s k fits token is name found =
    -- the lower case of the text is the spelling s, by which the list has the name k
    let lower = small-folded text fits (each-token text token) (ap (list_all is_name_byte) is ∙ name) ∙ is in
    sym (ap (λ t. spelled_by spellings t text) lower ∙ found) ∙ named-by text

-- a token of at most eight bytes whose number is that of a spelling of a known name has that name
-- n is the number of the token and k the known name; i is a place in the token
pub short-known : (text : List ℕ) (n : ℕ) (k : Known) → ((i : ℕ) → Fits w8 (get_or text i 0)) → Token text → length text ≤ 8 → n ≡ number_of text
    → list_all is_name_byte (spelled n) ≡ true → spelled_by spellings (spelled n) text ≡ known k → known k ≡ name_of text
short-known text n k fits token few is name found =
    -- the text is bytes, so its number tells them
    let bytes : Bytes text = λ i. (fits i).fits in
    known-by text (spelled n) k bytes token (sym (number-bytes text n bytes few is)) name found

-- the first n bytes of a text are at most n
few-front : (n : ℕ) (text : List ℕ) → length (take n text) ≤ n
few-front zero text = omega arith
few-front (suc n) [] = omega arith
few-front (suc n) (b ∷ text) = omega (arith, few-front n text)

-- where all numbers of a text are bytes, those of its first n are
bytes-take : (n : ℕ) (text : List ℕ) → Bytes text → Bytes (take n text)
bytes-take zero text fits i = omega arith
bytes-take (suc n) [] fits i = omega arith
bytes-take (suc n) (b ∷ text) fits zero = fits 0
bytes-take (suc n) (b ∷ text) fits (suc i) = bytes-take n text (λ j. fits (suc j)) i

-- where all numbers of a text are bytes, those after its first n are
bytes-drop : (n : ℕ) (text : List ℕ) → Bytes text → Bytes (drop n text)
bytes-drop zero text fits = fits
bytes-drop (suc n) [] fits = fits
bytes-drop (suc n) (b ∷ text) fits = bytes-drop n text (λ j. fits (suc j))

-- a token of at most sixteen bytes whose halves have the numbers of a spelling of a known name has that name
-- m and n are the numbers of the two halves, k is the known name, and i a place in the text
pub halved-known : (text : List ℕ) (m n : ℕ) (k : Known) → ((i : ℕ) → Fits w8 (get_or text i 0)) → Token text → length text ≤ 16 → m ≡ number_of (take 8 text) → n ≡ number_of (drop 8 text)
    → list_all is_name_byte (spelled m ++ spelled n) ≡ true → spelled_by spellings (spelled m ++ spelled n) text ≡ known k → known k ≡ name_of text
halved-known text m n k fits token few first second name found =
    let bytes : Bytes text = λ i. (fits i).fits in
    -- each half is as its number spells it, but for the case of its letters, so the whole name is what both numbers spell
    let front = number-bytes (take 8 text) m (bytes-take 8 text bytes) (few-front 8 text) first in
    let rest = number-bytes (drop 8 text) n (bytes-drop 8 text bytes) (omega (arith, few, length-drop 8 text)) second in
    let whole : map small text ≡ spelled m ++ spelled n =
    ap (map small) (sym (take-append-drop 8 text)) ∙ map-append small (take 8 text) (drop 8 text) ∙ ap₂ (λ a b. a ++ b) (sym front) (sym rest) in
    known-by text (spelled m ++ spelled n) k bytes token whole name found

-- a text whose lower case is none of the spellings of a list is by the list a name that is not known
unlisted : (list : List (List ℕ × Known)) (text : List ℕ) → AllByRecursion (λ s. folded text ≡ s.0 → ⊥) list → name_by list text ≡ other text
unlisted [] text none = refl
unlisted ((s, k) ∷ more) text none =
    ap (λ is. cond is (known k) (name_by more text)) (not_equal (bytes_eq (folded text) s) refl) ∙ unlisted more text none.1
  where
    -- the text is not the first spelling of the list
    not_equal : (equal : Bool) → bytes_eq (folded text) s ≡ equal → bytes_eq (folded text) s ≡ false
    not_equal true is = absurd (none.0 ((bytes_eq-Decides (folded text) s).0 is))
    not_equal false is = is

-- a text of 2 to 8 bytes whose number is that of no known name has no known name
pub short-other : (text : List ℕ) → ((i : ℕ) → Fits w8 (get_or text i 0)) → 2 ≤ length text → length text ≤ 8
    → AllByRecursion (λ s. number_of text ≡ from_le_bytes w64 (filled s) → ⊥) (codes "via" ∷ codes "from" ∷ codes "to" ∷ codes "call-id" ∷ codes "cseq" ∷ codes "contact" ∷ codes "subject" ∷ codes "route" ∷ [])
    → other text ≡ name_of text
short-other text fits some few (via, (from, (to, (call_id, (cseq, (contact, (subject, (route, end)))))))) =
    -- the number differs from those of all names of 2 to 8 bytes; a spelling of one byte is too short, and one of more than 8 too long
    sym (unlisted spellings text (name refl via, (one refl, (name refl from, (one refl, (name refl to, (one refl, (name refl call_id, (one refl, (name refl cseq, (long refl, (one refl, (name refl contact, (one refl, (long refl, (one refl, (long refl, (one refl, (name refl subject, (one refl, (long refl, (one refl, (name refl route, tt))))))))))))))))))))))) ∙ named-by text
  where
    -- a text that spells a name has the number of that name
    name : {s : List ℕ} → list_all is_name_byte s ≡ true → (number_of text ≡ from_le_bytes w64 (filled s) → ⊥) → folded text ≡ s → ⊥
    name {s = s} all differs is = differs (ap (λ t. from_le_bytes w64 (filled t)) (folded-small text (λ i. (fits i).fits) (ap (list_all is_name_byte) is ∙ all) ∙ is))

    -- the text is not a spelling of one byte
    one : {s : List ℕ} → length s ≡ 1 → folded text ≡ s → ⊥
    one short is = omega (arith, some, short, ap length is, length-folded text)

    -- the text is not a spelling of more than 8 bytes
    long : {s : List ℕ} → ltb 8 (length s) ≡ true → folded text ≡ s → ⊥
    long {s = s} more is = omega (arith, few, ltb-true 8 (length s) more, ap length is, length-folded text)

-- a text of 9 to 16 bytes whose halves do not have the numbers of a known name has no known name
pub halved-other : (text : List ℕ) → ((i : ℕ) → Fits w8 (get_or text i 0)) → 9 ≤ length text
    → AllByRecursion (λ s. number_of (take 8 text) ≡ from_le_bytes w64 (filled (take 8 s)) → number_of (drop 8 text) ≡ from_le_bytes w64 (filled (drop 8 s)) → ⊥)
    (codes "content-length" ∷ codes "content-encoding" ∷ codes "content-type" ∷ codes "supported" ∷ [])
    → other text ≡ name_of text
halved-other text fits some (content_length, (content_encoding, (content_type, (supported, end)))) =
    sym (unlisted spellings text (short refl, (short refl, (short refl, (short refl, (short refl, (short refl, (short refl, (short refl, (short refl, (name refl content_length, (short refl, (short refl, (short refl, (name refl content_encoding, (short refl, (name refl content_type, (short refl, (short refl, (short refl, (name refl supported, (short refl, (short refl, tt))))))))))))))))))))))) ∙ named-by text
  where
    -- the text is not this spelling, since one of its halves has another number
    name : {s : List ℕ} → list_all is_name_byte s ≡ true
        → (number_of (take 8 text) ≡ from_le_bytes w64 (filled (take 8 s)) → number_of (drop 8 text) ≡ from_le_bytes w64 (filled (drop 8 s)) → ⊥) → folded text ≡ s → ⊥
    name {s = s} all differs is =
        let same = folded-small text (λ i. (fits i).fits) (ap (list_all is_name_byte) is ∙ all) ∙ is in
        differs (ap (λ t. from_le_bytes w64 (filled t)) (sym (take-map small 8 text) ∙ ap (take 8) same))
        (ap (λ t. from_le_bytes w64 (filled t)) (sym (drop-map small 8 text) ∙ ap (drop 8) same))

    -- the text is not a spelling of at most 8 bytes
    short : {s : List ℕ} → ltb (length s) 9 ≡ true → folded text ≡ s → ⊥
    short {s = s} less is = omega (arith, some, ltb-true (length s) 9 less, ap length is, length-folded text)

-- where A and B do not hold together, and A holds, B does not
pub one-fails : {A B : Type 0} → (A × (B → ⊥)) ⊎ (A → ⊥) → A → B → ⊥
one-fails (inl first) a b = first.1 b
one-fails (inr none) a b = none a
