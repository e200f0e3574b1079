-- A quoted string: its blanks, its quotes and its pieces stand where the reader finds them.
-- In the lemmas u is a blank or a piece and v what follows it; n is the length of the blanks before the first quote, and k that of the pieces after it.
use Rattle.std.proofs.Common.{◌≡◌, ℕ, ◌+◌, ◌<◌, ◌⊎◌, Bool, true, false, ◌&&◌, nat_eq, nat_lt, List, [], ◌∷◌, ◌++◌, None, Some, length, drop, slice_index, cond, refl, sym, ap, ◌∙◌, subst, inl, inr, arith}
use Rattle.std.proofs.lemmas.Bool.{and_from, and_parts, or_cases, eqb-true, lt-ltb, ltb-true}
use Rattle.std.proofs.lemmas.List.{append_assoc, length-append}
use Rattle.sip_standard.specs.Text.{◌or◌, Many, ◌then◌}
use Rattle.sip_standard.specs.Profile.{Sws, Quoted}
use Rattle.sip_text.specs.Bytes.{space, tab, dquote, backslash, crlf}
use Rattle.sip_text.specs.inner.Blanks.{is_wsp, Blank, blank_len}
use Rattle.sip_text.specs.Front.{HasFront, IsOnlyFront}
use Rattle.sip_text.specs.inner.Class.{is_quoted_byte, is_escaped_byte}
use Rattle.sip_text.specs.inner.Cut.{past}
use Rattle.sip_text.specs.inner.Pieces.{Qdtext, QuotedPair}
use Rattle.sip_text.specs.inner.Quoted.{QuotedItem, begins_with_pair, item_len}
use Rattle.sip_text.proofs.texts.ManyLemmas.{many-nil, many-one, many-map, many-flat, IsStep, same_many, front-rest}
use Rattle.sip_text.proofs.cuts.CutLemmas.{past-some}
use Rattle.sip_text.proofs.strings.BlanksLemmas.{units-blanks, blanks-units, blanks-lws, lws-blank, blank-step}

-- the byte is no byte of qdtext, and begins no quoted pair
abbrev IsPlain : ℕ → Type 0
IsPlain b = (is_quoted_byte b ≡ false) × (nat_eq b backslash ≡ false)

-- a WSP is no byte of qdtext, and begins no quoted pair
plain_wsp : (b : ℕ) → is_wsp b ≡ true → IsPlain b
plain_wsp b wsp = elim (or_cases (nat_eq b space) (nat_eq b tab) wsp) [
  | inl is ↦ subst IsPlain (sym (eqb-true b space is)) (refl, refl)
  | inr is ↦ subst IsPlain (sym (eqb-true b tab is)) (refl, refl)
]

-- where a blank stands at the front of a text, `item_len` gives what `blank_len` gives
item-blank : (u v : List ℕ) → Blank u → item_len (u ++ v) ≡ blank_len (u ++ v)
item-blank u v (front, b, inl none, one, whole) =
    -- the blank is SP or HTAB, for which both give 1
    let text : u ≡ one.0 ∷ [] = whole ∙ ap (λ t. t ++ b) none ∙ one.2 in
    let plain = plain_wsp one.0 one.1 in
    ap (λ t. item_len (t ++ v)) text
    ∙ ap (λ q. cond q 1 (cond (begins_with_pair (one.0 ∷ v)) 2 (blank_len (one.0 ∷ v)))) plain.0
    ∙ ap (λ q. cond (q && nat_lt 1 (length (one.0 ∷ v)) && is_escaped_byte (slice_index (one.0 ∷ v) 1)) 2 (blank_len (one.0 ∷ v))) plain.1
    ∙ sym (ap (λ t. blank_len (t ++ v)) text)
-- the blank is a fold, which begins with no plain byte and no escape
item-blank u v (front, b, inr fold, one, whole) =
    let text : u ≡ crlf ++ (one.0 ∷ []) = whole ∙ ap (λ t. t ++ b) fold ∙ ap (λ t. crlf ++ t) one.2 in
    ap (λ t. item_len (t ++ v)) text ∙ sym (ap (λ t. blank_len (t ++ v)) text)

-- where a piece of a quoted string stands at the front of a text, `item_len` gives its length
item-at_front : (u v : List ℕ) → QuotedItem u → item_len (u ++ v) ≡ length u
-- the piece is one byte of qdtext
item-at_front u v (inl byte) =
    ap (λ t. item_len (t ++ v)) byte.2
    ∙ ap (λ q. cond q 1 (cond (begins_with_pair (byte.0 ∷ v)) 2 (blank_len (byte.0 ∷ v)))) byte.1
    ∙ sym (ap length byte.2)
-- an escaped byte is two bytes, and a blank has the length of its own
item-at_front u v (inr (inl pair)) =
    let text : u ≡ backslash ∷ pair.3.0 ∷ [] = pair.4 ∙ ap (λ t. t ++ pair.1) pair.2 ∙ ap (λ t. backslash ∷ t) pair.3.2 in
    let long : nat_lt 1 (length (backslash ∷ pair.3.0 ∷ v)) ≡ true = lt-ltb 1 (length (backslash ∷ pair.3.0 ∷ v)) (omega arith) in
    ap (λ t. item_len (t ++ v)) text
    ∙ ap (λ q. cond q 2 (blank_len (backslash ∷ pair.3.0 ∷ v))) (and_from _ _ long pair.3.1)
    ∙ sym (ap length text)
item-at_front u v (inr (inr blank)) = item-blank u v blank ∙ blank-step.at_piece u v blank

-- a piece is not empty
item-moves : (u : List ℕ) → QuotedItem u → 0 < length u
item-moves u (inl byte) = omega (arith, ap length byte.2)
item-moves u (inr (inl pair)) = omega (arith, ap length pair.4, length-append pair.0 pair.1, ap length pair.2)
item-moves u (inr (inr blank)) = blank-step.moves u blank

-- `item_len` gives 0, or a piece of that length stands at the front of the text
item-piece : (text : List ℕ) → (item_len text ≡ 0) ⊎ HasFront QuotedItem text (item_len text)
item-piece [] = inl refl
item-piece (a ∷ text) = at (is_quoted_byte a) refl
  where
    -- the length of the piece: 2 for a quoted pair, and else that of the blank at the front
    other_len : Bool → ℕ
    other_len pair = cond pair 2 (blank_len (a ∷ text))

    -- a backslash and a byte that may be escaped are a piece of two bytes
    pair_at : (t : List ℕ) → 1 < length (a ∷ t) → a ≡ backslash → is_escaped_byte (slice_index t 0) ≡ true → HasFront QuotedItem (a ∷ t) 2
    pair_at [] long is escaped = absurd (omega (arith, long))
    pair_at (b ∷ t) long is escaped =
        (backslash ∷ b ∷ [], t, inr (inl (backslash ∷ [], b ∷ [], refl, (b, escaped, refl), refl)), ap (λ x. x ∷ b ∷ t) is, refl)

    -- a blank at the front is a piece
    blank_at : (blank_len (a ∷ text) ≡ 0) ⊎ HasFront QuotedItem (a ∷ text) (blank_len (a ∷ text))
    blank_at = elim (blank-step.piece (a ∷ text)) [
      -- no blank stands there, or one does, which is the third kind of piece
      | inl none ↦ inl none
      | inr front ↦ inr (front.0, front.1, inr (inr front.2), front.3, front.4)
    ]

    -- the claim holds whether or not an escaped byte stands there
    pairs : (pair : Bool) → begins_with_pair (a ∷ text) ≡ pair → (other_len pair ≡ 0) ⊎ HasFront QuotedItem (a ∷ text) (other_len pair)
    pairs true is =
        let both = and_parts _ _ is in
        let first = and_parts _ _ both.0 in
        inr (pair_at text (ltb-true _ _ first.1) (eqb-true _ _ first.0) both.1)
    pairs false is = blank_at

    -- the claim holds whether or not the first byte may stand in quotes
    at : (quoted : Bool) → is_quoted_byte a ≡ quoted → (cond quoted 1 (other_len (begins_with_pair (a ∷ text))) ≡ 0) ⊎ HasFront QuotedItem (a ∷ text) (cond quoted 1 (other_len (begins_with_pair (a ∷ text))))
    at true is = inr (a ∷ [], text, inl (a, is, refl), refl, refl)
    at false is = pairs (begins_with_pair (a ∷ text)) refl

-- `item_len` measures the piece at the front of a text, and is 0 where there is none
pub item-step : IsStep QuotedItem item_len
item-step = record { at_piece = item-at_front; moves = item-moves; piece = item-piece }

-- what is empty or a blank run is blanks
units-sws : (text : List ℕ) → Sws text → Many Blank text
units-sws text (inl none) = subst (Many Blank) (sym none) (many-nil Blank)
units-sws text (inr blanks) = units-blanks text blanks

-- the contents of a quoted string are pieces
items-contents : (text : List ℕ) → Many (Qdtext or QuotedPair) text → Many QuotedItem text
items-contents text many = many-flat (Qdtext or QuotedPair) QuotedItem text each many
  where
    -- blanks are pieces, and so is each other content
    each : (u : List ℕ) → (Qdtext or QuotedPair) u → Many QuotedItem u
    each u (inl (inl lws)) = many-map Blank QuotedItem u (λ w blank. inr (inr blank)) (blanks-lws u lws)
    each u (inl (inr byte)) = many-one QuotedItem u (inl byte)
    each u (inr pair) = many-one QuotedItem u (inr (inl pair))

-- pieces are the contents of a quoted string
contents-items : (text : List ℕ) → Many QuotedItem text → Many (Qdtext or QuotedPair) text
contents-items text many = many-map QuotedItem (Qdtext or QuotedPair) text each many
  where
    -- each piece is a content
    each : (u : List ℕ) → QuotedItem u → (Qdtext or QuotedPair) u
    each u (inl byte) = inl (inr byte)
    each u (inr (inl pair)) = inr pair
    each u (inr (inr blank)) = inl (inl (lws-blank u blank))

-- the text is blanks, a quote, pieces, a quote, and what is left
record Quotes (text blanks items rest : List ℕ) : Type 0 where
  are_blanks : Many Blank blanks
  are_items : Many QuotedItem items
  whole : text ≡ blanks ++ (dquote ∷ (items ++ (dquote ∷ rest)))

-- the text of a quoted string
abbrev quoted_text : List ℕ → List ℕ → List ℕ
quoted_text blanks items = blanks ++ (dquote ∷ (items ++ (dquote ∷ [])))

-- the text of a quoted string is as long as its blanks and its pieces, and two quotes
length-quoted_text : (blanks items : List ℕ) → length (quoted_text blanks items) ≡ length blanks + length items + 2
length-quoted_text blanks items =
    omega (arith, length-append blanks (dquote ∷ (items ++ (dquote ∷ []))), length-append items (dquote ∷ []))

-- a quoted string and a rest are its blanks, a quote, its pieces, a quote and the rest
quoted_text-append : (blanks items rest : List ℕ) → quoted_text blanks items ++ rest ≡ blanks ++ (dquote ∷ (items ++ (dquote ∷ rest)))
quoted_text-append blanks items rest =
    append_assoc blanks (dquote ∷ (items ++ (dquote ∷ []))) rest
    ∙ ap (λ t. blanks ++ (dquote ∷ t)) (append_assoc items (dquote ∷ []) rest)

-- a quoted string at the front of a text is blanks, a quote, pieces and a quote, and has the length of these
quotes-front : (text : List ℕ) (n : ℕ) → HasFront (Sws then Quoted) text n → (blanks : List ℕ) × (items : List ℕ) × (rest : List ℕ) × Quotes text blanks items rest × (n ≡ length blanks + length items + 2)
-- u is the string with its blanks and v what is left; t is the string after the blanks, and w that after the first quote
quotes-front text n (u, v, (blanks, t, sws, (first, w, is_first, (items, last, contents, is_last, w_is), t_is), u_is), whole, n_is) = (
  blanks,
  items,
  v,
  -- the blanks, the pieces and the rest are the text
  record {
    are_blanks = units-sws blanks sws;
    are_items = items-contents items contents;
    whole = whole ∙ ap (λ x. x ++ v) spelled ∙ quoted_text-append blanks items v;
  },
  n_is ∙ ap length spelled ∙ length-quoted_text blanks items,
)
  -- the parts in a row are the text that is spelled
  where
    -- the text is spelled as the blanks and the items say
    spelled : u ≡ quoted_text blanks items
    spelled =
        u_is ∙ ap (λ x. blanks ++ x) (t_is ∙ ap (λ x. x ++ w) is_first ∙ ap (λ x. dquote ∷ x) (w_is ∙ ap (λ x. items ++ x) is_last))

-- blanks, a quote, pieces and a quote at the front of a text are a quoted string there
front-quotes : (text blanks items rest : List ℕ) → Quotes text blanks items rest → HasFront (Sws then Quoted) text (length blanks + length items + 2)
front-quotes text blanks items rest quotes = (
  quoted_text blanks items,
  rest,
  (
    blanks,
    dquote ∷ (items ++ (dquote ∷ [])),
    -- the pieces stand between the two quotes
    blanks-units blanks quotes.are_blanks,
    (dquote ∷ [], items ++ (dquote ∷ []), refl, (items, dquote ∷ [], contents-items items quotes.are_items, refl, refl), refl),
    refl,
  ),
  quotes.whole ∙ sym (quoted_text-append blanks items rest),
  sym (length-quoted_text blanks items),
)

-- the blanks of a quoted string are those at the front that no blank follows, and then its quote stands
opens : (text : List ℕ) (n : ℕ) (blanks items rest : List ℕ) (front : HasFront (Many Blank) text n) → blank_len (drop n text) ≡ 0 → Quotes text blanks items rest → (front.0 ≡ blanks) × (drop n text ≡ dquote ∷ (items ++ (dquote ∷ rest)))
opens text n blanks items rest front stops quotes =
    let at_rest = front-rest (Many Blank) text n front in
    let same = same_many Blank blank_len front.0 front.1 blanks (dquote ∷ (items ++ (dquote ∷ rest))) blank-step front.2 quotes.are_blanks (sym front.3 ∙ quotes.whole) (ap blank_len (sym at_rest) ∙ stops) refl in
    (same.0, at_rest ∙ same.1)

-- the pieces of a quoted string are those after its first quote that no piece follows, and then its last quote stands
closes : (text inner : List ℕ) (n k : ℕ) (blanks items rest : List ℕ) (front : HasFront (Many Blank) text n) (contents : HasFront (Many QuotedItem) inner k) → blank_len (drop n text) ≡ 0 → past dquote (drop n text) ≡ Some inner → item_len (drop k inner) ≡ 0 → Quotes text blanks items rest → (contents.0 ≡ items) × (drop k inner ≡ dquote ∷ rest)
closes text inner n k blanks items rest front contents stops found ends quotes =
    let at_rest = front-rest (Many QuotedItem) inner k contents in
    let opened = opens text n blanks items rest front stops quotes in
    -- the text opens with its blanks and the quote, so that the pieces and the last quote stand in what follows
    let both : dquote ∷ inner ≡ dquote ∷ (items ++ (dquote ∷ rest)) = sym (past-some dquote (drop n text) inner found) ∙ opened.1 in
    let inner_is : inner ≡ items ++ (dquote ∷ rest) = cc in
    -- the pieces are read in one way, up to where no piece follows
    let same = same_many QuotedItem item_len contents.0 contents.1 items (dquote ∷ rest) item-step contents.2 quotes.are_items (sym contents.3 ∙ inner_is) (ap item_len (sym at_rest) ∙ ends) refl in
    (same.0, at_rest ∙ same.1)

-- where no quote follows the longest blank run, no quoted string stands at the front of the text
pub none-opens : (text : List ℕ) (n : ℕ) → HasFront (Many Blank) text n → blank_len (drop n text) ≡ 0 → past dquote (drop n text) ≡ None → IsOnlyFront (Sws then Quoted) text None
none-opens text n front stops missing m quoted =
    let parse = quotes-front text m quoted in
    let opened = opens text n parse.0 parse.1 parse.2 front stops parse.3 in
    -- a quote would stand after the blanks, but none does
    let found = ap (past dquote) opened.1 in
    cc

-- where no quote follows the longest run of pieces after the first quote, no quoted string stands at the front of the text
pub none-closes : (text inner : List ℕ) (n k : ℕ) → HasFront (Many Blank) text n → HasFront (Many QuotedItem) inner k → blank_len (drop n text) ≡ 0 → past dquote (drop n text) ≡ Some inner → item_len (drop k inner) ≡ 0 → past dquote (drop k inner) ≡ None → IsOnlyFront (Sws then Quoted) text None
none-closes text inner n k front contents stops first ends missing m quoted =
    let parse = quotes-front text m quoted in
    let closed = closes text inner n k parse.0 parse.1 parse.2 front contents stops first ends parse.3 in
    -- a quote would stand after the pieces, but none does
    let found = ap (past dquote) closed.1 in
    cc

-- where a quote follows the blanks and another the pieces after it, the one quoted string at the front of the text ends there
pub only-quoted : (text inner rest : List ℕ) (n k : ℕ) → HasFront (Many Blank) text n → HasFront (Many QuotedItem) inner k → blank_len (drop n text) ≡ 0 → past dquote (drop n text) ≡ Some inner → item_len (drop k inner) ≡ 0 → past dquote (drop k inner) ≡ Some rest → IsOnlyFront (Sws then Quoted) text (Some (n + k + 2))
only-quoted text inner rest n k front contents stops first ends last =
    (subst (HasFront (Sws then Quoted) text) len (front-quotes text front.0 contents.0 rest quotes), only)
  where
    -- the text is the blanks, the quote, the pieces, the quote and the rest
    quotes : Quotes text front.0 contents.0 rest
    quotes = record {
      are_blanks = front.2;
      are_items = contents.2;
      whole = front.3 ∙ ap (λ t. front.0 ++ t) (
          sym (front-rest (Many Blank) text n front) ∙ past-some dquote (drop n text) inner first
          ∙ ap (λ t. dquote ∷ t) (contents.3 ∙ ap (λ t. contents.0 ++ t) (
          sym (front-rest (Many QuotedItem) inner k contents) ∙ past-some dquote (drop k inner) rest last))
          );
    }

    -- the length is that of the blanks, the pieces and the two quotes
    len : length front.0 + length contents.0 + 2 ≡ n + k + 2
    len = omega (arith, front.4, contents.4)

    -- a quoted string at the front has this length
    only : (m : ℕ) → HasFront (Sws then Quoted) text m → m ≡ n + k + 2
    only m quoted =
        let parse = quotes-front text m quoted in
        let opened = opens text n parse.0 parse.1 parse.2 front stops parse.3 in
        let closed = closes text inner n k parse.0 parse.1 parse.2 front contents stops first ends parse.3 in
        omega (arith, parse.4, ap length opened.0, ap length closed.0, len)
