-- Plain Call-IDs and CSeqs.
-- `PlainRun` is one plain byte or more. `agree_below_at f g 256 b` says that two tests agree at b, since they do at each byte below 256.
use Rattle.std.proofs.Common.{◌≡◌, ℕ, ◌+◌, ◌*◌, ◌-◌, ◌^◌, ◌<◌, ◌≤◌, Bool, true, false, ◌&&◌, ◌||◌, ◌==◌, nat_le, List, [], length, take, get_or, refl, sym, ap, ◌∙◌, subst, inl, inr, arith}
use Rattle.std.specs.Prelude.{codes}
use Rattle.std.specs.Char.{is_ascii_alphanumeric, is_ascii_digit}
use Rattle.std.specs.Int.{is_in_range}
use Rattle.std.specs.List.{AllByRecursion, list_all}
use Rattle.std.specs.Str.Parse.{digits_value}
use Rattle.std.proofs.lemmas.Bool.{agree_below_at, and_parts, and_from, or_cases, both_ways, cases_lt, le-leb}
use Rattle.std.proofs.lemmas.Int.Digits.{digits_value_more}
use Rattle.std.proofs.lemmas.List.{append-nil, take_all}
use Rattle.std.proofs.lemmas.List.Folds.{list_all_more}
use Rattle.sip_standard.specs.Text.{One, Many, ◌then◌, ◌or◌}
use Rattle.sip_standard.specs.Profile.{Token, Lws, Blanks, Quoted}
use Rattle.sip_text.specs.Bytes.{at_sign, space, backslash, dquote, Byte, is_token_byte}
use Rattle.sip_standard.specs.Chars.{is_among}
use Rattle.sip_text.specs.inner.Class.{is_quoted_byte}
use Rattle.sip_text.specs.inner.Pieces.{Qdtext, QuotedPair}
use Rattle.sip_text.proofs.texts.ManyLemmas.{many-append, many-flat, many-map, many-some}
use Rattle.sip_text.proofs.texts.RunLemmas.{list_all-run}
use Rattle.sip_text.proofs.uris.UriCharLemmas.{some-map}
use Rattle.sip_text.proofs.uris.UriPortLemmas.{digit-above}
use Rattle.sip_masks.specs.Marks.{is_plain}
use Rattle.sip_standard.specs.Values.{CallId, CSeqSays}
use Rattle.sip_message.specs.inner.Values.{is_word_byte, Word, Digits}
use Rattle.sip_message.specs.inner.AddressFronts.{Words}
use Rattle.sip_message.specs.inner.Plain.{segment, LiesWithin, PlainRun}
use Rattle.sip_message.proofs.QuickLemmas.{low-one}
use Rattle.sip_message.proofs.PlainLemmas.{then-stands, run-token}
use Rattle.sip_message.proofs.lemmas.text.Each.{each-one, each-many}
use Rattle.sip_message.proofs.lemmas.front.Prefix.{all-some}
use Rattle.sip_message.proofs.lemmas.params.Closed.{blanks-space}

-- a plain byte may stand in a word
word-byte : (b : ℕ) → is_plain b ≡ true → is_word_byte b ≡ true
word-byte b is =
    elim (or_cases (is_ascii_alphanumeric b) (is_among "-.!*_+'~" b) is) [
      -- letters and digits may stand in a word; of the other plain bytes each below 256 is tried, by computing
      | inl letter ↦ ap (λ x. x || is_among "-.!%*_+`'~()<>:/[]?{}" b || b == backslash || b == dquote) letter
      | inr mark ↦ (and_parts (is_word_byte b) (is_plain b) (agree_below_at (λ x. is_word_byte x && is_plain x) is_plain 256 b refl (low-one (codes "-.!*_+'~") b low mark) ∙ is)).0
    ]
  where
    -- each of these bytes is below 256
    low : AllByRecursion (λ x. x < 256) (codes "-.!*_+'~")
    low = (omega arith, (omega arith, (omega arith, (omega arith, (omega arith, (omega arith, (omega arith, (omega arith, tt))))))))

-- a run of plain bytes is a word
run-word : (u : List ℕ) → PlainRun u → Word u
run-word u run = some-map (One is_plain) (One is_word_byte) u (λ v one. (one.0, word-byte one.0 one.1, one.2)) run

-- a run of plain bytes is a Call-ID
pub call_id-one : (u : List ℕ) → PlainRun u → CallId u
call_id-one u run = (u, [], run-word u run, inl refl, sym (append-nil u))

-- two runs of plain bytes with "@" between them are a Call-ID
pub call_id-two : (u : List ℕ) → (PlainRun then Byte at_sign then PlainRun) u → CallId u
call_id-two u w = (w.0, w.1, run-word w.0 w.2, inr (w.3.0, w.3.1, w.3.2, run-word w.3.1 w.3.3, w.3.4), w.4)

-- a byte of a token may stand in a quoted string
quoted-byte : (b : ℕ) → is_token_byte b ≡ true → is_quoted_byte b ≡ true
quoted-byte b is =
    elim (cases_lt b 256) [
      -- each byte below 256 is tried, by computing; the bytes from 128 on may all stand in a quoted string
      | inl low ↦ (and_parts (is_token_byte b) (is_quoted_byte b) (agree_below_at (λ x. is_token_byte x && is_quoted_byte x) is_token_byte 256 b refl low ∙ is)).1
      | inr high ↦ over (b == 0x21) (is_in_range 0x23 0x5B b) (is_in_range 0x5D 0x7E b) (nat_le 128 b) (le-leb 128 b (omega (arith, high)))
    ]
  where
    -- where w, the fourth of four tests that are joined by "or", passes, they pass together
    over : (x y z w : Bool) → w ≡ true → (x || y || z || w) ≡ true
    -- one of x, y and z passes, or else w
    over true y z true is = refl
    over false true z true is = refl
    over false false true true is = refl
    over false false false true is = refl
    -- w fails, which was excluded
    over x y z false is = absurd (both_ways false refl is)

-- a byte of qdtext, a quoted pair or a blank run: what may stand between quotes
abbrev Inner : List ℕ → Type 0
Inner = Qdtext or QuotedPair

-- a token may stand within quotes
inner-token : (u : List ℕ) → Token u → Many Inner u
inner-token u token = many-map (One is_token_byte) Inner u (λ v one. inl (inr (one.0, quoted-byte one.0 one.1, one.2))) (many-some (One is_token_byte) u token)

-- blanks may stand within quotes
inner-blanks : (u : List ℕ) → Blanks u → Many Inner u
inner-blanks u blanks = many-map Lws Inner u (λ v lws. inl (inl lws)) (many-some Lws u blanks)

-- words may stand between quotes
inner-words : (u : List ℕ) → Words u → Many Inner u
inner-words u w =
    -- each further word is blanks and a token, which may both stand within quotes
    let more = many-flat (Blanks then Token) Inner w.1 (λ v p. subst (Many Inner) (sym p.4) (many-append Inner p.0 p.1 (inner-blanks p.0 p.2) (inner-token p.1 p.3))) w.3 in
    subst (Many Inner) (sym w.4) (many-append Inner w.0 w.1 (inner-token w.0 w.2) more)

-- words in quotes are a quoted string
pub quoted-words : (u : List ℕ) → (Byte dquote then Words then Byte dquote) u → Quoted u
quoted-words u w = (w.0, w.1, w.2, (w.3.0, w.3.1, inner-words w.3.0 w.3.2, w.3.3, w.3.4), w.4)

-- the bytes before the index are digits and write the number, which is below 2^31
pub record ReadsShort (text : List ℕ) (at number : ℕ) : Type 0 where
  pub all : list_all is_ascii_digit (take at text) ≡ true
  pub value : number ≡ digits_value 10 (take at text)
  pub small : number < 2 ^ 31

-- where the digits before the index write a number of at most eight digits, and a digit follows, all of them write ten times that number, plus the digit
pub short-more : (text : List ℕ) (at number : ℕ) → at < length text → ReadsShort text at number → is_ascii_digit (get_or text at 0) ≡ true → number ≤ 99999999 → ReadsShort text (at + 1) (number * 10 + (get_or text at 0 - 48))
short-more text at number within reads is short =
    -- `digit` says how the byte of a digit and its value, which is at most 9, belong together
    let digit = digit-above (get_or text at 0) is in record {
      all = list_all_more is_ascii_digit text at 0 within ∙ and_from (list_all is_ascii_digit (take at text)) (is_ascii_digit (get_or text at 0)) reads.all is;
      value = omega (arith, digits_value_more 10 text at within, reads.value, digit.2, digit.0);
      small = omega (arith, short, digit.1);
    }

-- where the loop is at the end of a text that is not empty, the text is digits and writes the number, which is below 2^31
pub short-end : (text : List ℕ) (at number : ℕ) → 0 < length text → length text ≤ at → ReadsShort text at number → Digits text × (number ≡ digits_value 10 text) × (number < 2 ^ 31)
short-end text at number some end reads =
    -- all of the text was read
    let whole = take_all at text end in
    let digits = list_all-run is_ascii_digit text (ap (list_all is_ascii_digit) (sym whole) ∙ reads.all) in
    let each = each-many is_ascii_digit _ (each-one is_ascii_digit is_ascii_digit (λ b is. is)) text digits in
    (all-some is_ascii_digit text each (λ none. omega (arith, some, ap length none)), reads.value ∙ ap (digits_value 10) whole, reads.small)

-- where digits, a SP and a run of plain bytes lie one after the other, the segment is a CSeq of that number and that method
pub cseq-plain : (text : List ℕ) (at end digits method number : ℕ) → LiesWithin PlainRun text at end digits → LiesWithin (Byte space) text digits end method → LiesWithin PlainRun text method end end
    → Digits (segment at digits text) → number ≡ digits_value 10 (segment at digits text) → number < 2 ^ 31 → CSeqSays (number, segment method end text) (segment at end text)
cseq-plain text at end digits method number run mark is are value low =
    -- D is the digits and M the method
    let D : List ℕ → Type 0 = λ u. Digits u × (number ≡ digits_value 10 u) in
    let M : List ℕ → Type 0 = λ u. Token u × (segment method end text ≡ u) in
    -- the SP and the method stand after the digits
    let behind : LiesWithin (Blanks then M) text digits end end = then-stands Blanks M text digits end method end (mark.0, mark.1, subst Blanks (sym mark.2) blanks-space) (is.0, is.1, (run-token (segment method end text) is.2, refl)) in
    (low, (then-stands D (Blanks then M) text at end digits end (run.0, run.1, (are, value)) behind).2)
