-- An address is cut into its URI and its parameters, and what is cut is what the grammar has.
-- A cut of the text (`AddressCut`) is `named`, with the URI in "<" and ">", or `plain`, without them.
-- In the lemmas u and w are the URI and what follows it.
-- `HasScheme` says that a text begins with bytes of tokens, or none, and a colon; `NameFront` is a display name at the front, and `DisplayFront` that, if
-- there is one, and "<" after its blanks, with what is left.
use Rattle.std.proofs.Common.{◌≡◌, ℕ, zero, suc, ◌<◌, ◌≤◌, Bool, true, false, ◌||◌, not, nat_eq, nat_lt, List, [], ◌∷◌, ◌++◌, Option, Some, None, length, take, drop, get_or, slice_index, Bor, option_copied, refl, sym, ap, ◌∙◌, subst, inl, inr, arith}
use Rattle.std.specs.Bool.{Decides}
use Rattle.std.specs.List.{prefix_len}
use Rattle.std.proofs.Math.Seq.{drop-cons}
use Rattle.std.proofs.lemmas.Bool.Decides.{Decides-like}
use Rattle.std.proofs.lemmas.Option.{same_Some}
use Rattle.std.proofs.lemmas.Bool.{both_ways, eqb-true, eq-eqb, or_parts, and_parts, and_from, ltb-true}
use Rattle.std.proofs.lemmas.List.{append_assoc, length-drop, take-append-drop}
use Rattle.sip_standard.specs.Text.{◌then◌, Many}
use Rattle.sip_standard.specs.Profile.{Token, Sws, Blanks, Uri}
use Rattle.sip_standard.specs.Values.{Address}
use Rattle.sip_text.specs.Bytes.{colon, dquote, semicolon, is_token_byte}
use Rattle.sip_standard.specs.Chars.{is_among}
use Rattle.sip_text.specs.Front.{IsLongestFront}
use Rattle.sip_text.specs.inner.Cut.{before, behind, past, led}
use Rattle.sip_text.proofs.cuts.CutLemmas.{cut-whole, past-some, before-led, behind-led}
use Rattle.sip_text.proofs.texts.ManyLemmas.{some-many}
use Rattle.sip_text.proofs.texts.LacksLemmas.{Lacks}
use Rattle.sip_standard.specs.Field.{is_lws_byte}
use Rattle.sip_message.specs.inner.Marks.{left_angle, right_angle, Mark}
use Rattle.sip_message.specs.inner.Only.{IsOnlyValue}
use Rattle.sip_message.specs.inner.Fronts.{Stops, Behind, IsOnlyBehind, text_parts}
use Rattle.sip_message.specs.inner.AddressFronts.{DisplayName, Opening, Words, WordsFront, NameFront, DisplayFront, HasScheme, is_unmarked_byte, AddressCut, named, plain}
use Rattle.sip_message.specs.inner.ParamFronts.{GenericParams}
use Rattle.sip_message.proofs.lemmas.text.Cuts.{All, same_front}
use Rattle.sip_message.proofs.lemmas.text.Each.{each-one, each-many, blank_is}
use Rattle.sip_message.proofs.lemmas.field.OneWay.{each-token}
use Rattle.sip_message.proofs.lemmas.text.Solid.{solid-uri}
use Rattle.sip_message.proofs.lemmas.via.Transport.{Fails, fail-then, fail-blanks, fail-mark, fails-append}
use Rattle.sip_message.proofs.lemmas.params.Closed.{some-run}
use Rattle.sip_message.proofs.lemmas.front.Cuts.{ReadAs, NotRead, token-cut, stops-byte, same-behind}
use Rattle.sip_message.proofs.lemmas.front.Prefix.{prefix-at, all-run}
use Rattle.sip_message.proofs.lemmas.front.OneWay.{AtMostOne, read-one, one-quoted, quoted-whole, quoted-first, first-all, first-fails}
use Rattle.sip_message.proofs.WordLemmas.{one-words, longest-stops}
use Rattle.sip_message.proofs.lemmas.address.Uri.{uri-scheme, uri-lacks}

-- all bytes of the longest token at the front of a text are bytes of tokens, also where there is none
token-all : (text : List ℕ) (n : ℕ) → IsLongestFront Token text n → All is_token_byte (take n text)
-- there is no token, and so no byte
token-all text zero longest = tt
-- the first bytes are a token, and each of them is a byte of a token
token-all text (suc n) longest = each-token _ (token-cut text (suc n) longest (λ none. absurd (omega (arith, none)))).0

-- where a text begins with a scheme, a colon stands after its longest token
scheme-behind : (text : List ℕ) (n : ℕ) → IsLongestFront Token text n → HasScheme text → (rest : List ℕ) × (drop n text ≡ colon ∷ rest)
scheme-behind text n longest (scheme, rest, all, whole) =
    -- the scheme and the first n bytes are both the longest run of bytes of tokens at the front, so they and what follows them are the same
    let same = same_front is_token_byte scheme (colon ∷ rest) (take n text) (drop n text) all (token-all text n longest) refl (longest-stops text n longest) (sym whole ∙ sym (take-append-drop n text)) in
    -- what follows the token is the colon and what the text has after it
    (rest, sym same.1)

-- a text begins with a scheme exactly if a colon stands after its longest token
pub decides-scheme : (text : List ℕ) (n : ℕ) → IsLongestFront Token text n → n < length text → Decides (nat_eq (get_or text n 0) colon) (HasScheme text)
decides-scheme text n longest within = (
  -- if: the token and the colon after it are a scheme, up to the rest
  λ same.
      (take n text, drop (suc n) text, token-all text n longest, sym (take-append-drop n text) ∙ ap (λ t. take n text ++ t) (drop-cons text n 0 within ∙ ap (λ b. b ∷ drop (suc n) text) (eqb-true (get_or text n 0) colon same))),
  -- only if: what stands after the scheme's token is its colon
  λ has.
      let behind = scheme-behind text n longest has in
      let heads : get_or text n 0 ∷ drop (suc n) text ≡ colon ∷ behind.0 = sym (drop-cons text n 0 within) ∙ behind.1 in
      let byte : get_or text n 0 ≡ colon = cc in
      eq-eqb (get_or text n 0) colon byte,
)

-- where the longest token reaches the end of the text, the text begins with no scheme
pub scheme-short : (text : List ℕ) (n : ℕ) → IsLongestFront Token text n → length text ≤ n → Decides (nat_lt n (length text)) (HasScheme text)
scheme-short text n longest short = (
  -- if: the place n would lie within the text, which it does not
  λ less. absurd (omega (arith, ltb-true n (length text) less, short)),
  -- only if: a colon would stand at the place n
  λ has. absurd (omega (arith, ap length (scheme-behind text n longest has).1, length-drop n text, short)),
)

-- a text that begins with a byte that is neither of a token nor a colon begins with no scheme
no_scheme : (b : ℕ) (t : List ℕ) → is_token_byte b ≡ false → nat_eq b colon ≡ false → HasScheme (b ∷ t) → ⊥
-- an empty scheme has its colon first; another one begins with a byte of a token: b is neither
no_scheme b t token apart ([], rest, all, whole) = let byte : b ≡ colon = cc in both_ways (nat_eq b colon) apart (eq-eqb b colon byte)
no_scheme b t token apart (c ∷ s, rest, all, whole) =
    let byte : c ≡ b = cc in
    both_ways (is_token_byte b) token (subst (λ x. is_token_byte x ≡ true) byte all.0)

-- a byte of a token, or the colon of a scheme
abbrev is_scheme_front : ℕ → Bool
is_scheme_front b = is_token_byte b || nat_eq b colon

-- a blank does not stand in front of a scheme's colon
blank-front : (b : ℕ) → is_lws_byte b ≡ true → is_scheme_front b ≡ false
-- SP, HTAB, CR and LF are tried, by computing
blank-front = blank_is (λ b. is_scheme_front b ≡ false) refl refl refl refl

-- where "<" follows words after blanks, what follows a word begins with no byte of a token and no colon
after-word : (more rest inner : List ℕ) → Many (Blanks then Token) more → Behind rest (left_angle ∷ inner) → Fails is_scheme_front (more ++ rest)
after-word more rest inner many (stops, (k, y, sws, y_is, r_is)) = elim (some-many (Blanks then Token) more many) [
  -- without further words the blanks k and "<" follow the word
  | inl none ↦ subst (Fails is_scheme_front) (sym (ap (λ t. t ++ rest) none ∙ r_is ∙ ap (λ t. k ++ t) y_is)) (at sws)
  -- each further word has blanks before it, and they stand at the front
  | inr some ↦
      subst (λ t. Fails is_scheme_front (t ++ rest)) (sym some.4)
      (fails-append is_scheme_front (some.0 ++ some.1) rest (fails-append is_scheme_front some.0 some.1 (fail-then is_scheme_front Blanks Token (fail-blanks is_scheme_front blank-front) some.0 some.2)))
]
  where
    -- what follows the word begins with no byte of a token and no colon, whether blanks stand before the "<" or not
    at : Sws k → Fails is_scheme_front (k ++ (left_angle ∷ inner))
    at (inl none) = subst (λ t. Fails is_scheme_front (t ++ (left_angle ∷ inner))) (sym none) refl
    at (inr blanks) = fails-append is_scheme_front k (left_angle ∷ inner) (fail-blanks is_scheme_front blank-front k blanks)

-- where the front of a scheme ends, a token ends
fails-token : (u : List ℕ) → Fails is_scheme_front u → Stops is_token_byte u
-- a text that fails has a first byte, which is neither of a token nor a colon
fails-token [] fails = absurd fails
fails-token (b ∷ u) fails = (or_parts (is_token_byte b) (nat_eq b colon) fails).0

-- words that "<" follows after blanks do not begin with a scheme
words_no_scheme : (w rest inner : List ℕ) → Words w → Behind rest (left_angle ∷ inner) → HasScheme (w ++ rest) → ⊥
words_no_scheme w rest inner (t, more, token, many, w_is) behind (scheme, r, all, whole) =
    -- what follows the first word begins with no byte of a token and no colon
    let fails = after-word more rest inner many behind in
    -- the scheme and the first word, t, are the longest run of bytes of tokens, so a colon would follow that word
    let same = same_front is_token_byte scheme (colon ∷ r) t (more ++ rest) all (each-token t token) refl (fails-token (more ++ rest) fails)
    (sym whole ∙ ap (λ x. x ++ rest) w_is ∙ append_assoc t more rest) in
    both_ways true (subst (Fails is_scheme_front) (sym same.1) fails) refl

-- a text that begins with a scheme does not begin with a display name and "<"
pub no-display : (text : List ℕ) → HasScheme text → NotRead (DisplayFront text)
-- "<" stands first, which is neither of a token nor a colon
no-display text has inner (inl is) = no_scheme left_angle inner refl refl (subst HasScheme is has)
-- a quoted string begins with its quote, which is neither
no-display text has inner (inr ((name, rest), inl (q, whole), behind)) =
    no_scheme dquote (q.3.0 ++ dquote ∷ rest) refl refl (subst HasScheme (whole ∙ quoted-whole name rest q) has)
-- the name is words, and "<" follows them
no-display text has inner (inr ((name, rest), inr (words, no_word, whole), behind)) =
    words_no_scheme name rest inner words behind (subst HasScheme whole has)

-- where words are read at the front of a text, its first byte is of a token
words-first_byte : (text : List ℕ) (x : List ℕ × List ℕ) → WordsFront text x → is_token_byte (slice_index text 0) ≡ true
-- w is the words, t their first token, and r what is left
words-first_byte text (w, r) ((t, more, token, many, w_is), no_word, whole) =
    ap (λ x. is_token_byte (slice_index x 0)) (whole ∙ ap (λ x. x ++ r) w_is ∙ append_assoc t more r)
    ∙ first-all is_token_byte t (more ++ r) (each-token t token) (some-run is_token_byte t token)

-- a display name is read in one way
pub one-name : (text : List ℕ) → AtMostOne (NameFront text)
-- both are quoted strings
one-name text x y (inl a) (inl b) = one-quoted text x y a b
-- one is a quoted string, which begins with its quote, and the other words, which begin with a byte of a token
one-name text x y (inl a) (inr b) = absurd (first-fails is_token_byte (slice_index text 0) dquote refl (quoted-first text x a) (words-first_byte text y b))
one-name text x y (inr a) (inl b) = absurd (first-fails is_token_byte (slice_index text 0) dquote refl (quoted-first text y b) (words-first_byte text x a))
-- both are words
one-name text x y (inr a) (inr b) = one-words text x y a b

-- where a display name is read at the front of a text, the text does not begin with "<"
name-angle : (text : List ℕ) (x : List ℕ × List ℕ) → NameFront text x → slice_index text 0 ≡ left_angle → ⊥
-- a quoted string begins with its quote, and words with a byte of a token: neither is "<"
name-angle text x (inl is) angle = absurd (omega (arith, quoted-first text x is, angle))
name-angle text x (inr is) angle = first-fails is_token_byte (slice_index text 0) left_angle refl angle (words-first_byte text x is)

-- the display name, if there is one, and "<" at the front of a text are read in one way
pub one-display : (text : List ℕ) → AtMostOne (DisplayFront text)
-- i and j are what follows "<" by the two readings
-- neither reading has a display name, so what follows "<" is the same
one-display text i j (inl a) (inl b) =
    let wholes : left_angle ∷ i ≡ left_angle ∷ j = sym a ∙ b in
    cc
-- one has no display name, so that "<" stands first, and the other a name, which does not begin with "<"
one-display text i j (inl a) (inr (x, is, behind)) = absurd (name-angle text x is (ap (λ t. slice_index t 0) a))
one-display text i j (inr (x, is, behind)) (inl b) = absurd (name-angle text x is (ap (λ t. slice_index t 0) b))
-- both have a display name, which is the same, and so is what follows it
one-display text i j (inr (x, is, behind)) (inr (y, is_too, behind_too)) =
    let same : x ≡ y = one-name text x y is is_too in
    let angles : left_angle ∷ i ≡ left_angle ∷ j = same-behind (y.1) (left_angle ∷ i) (left_angle ∷ j) (subst (λ n. Behind (n.1) (left_angle ∷ i)) same behind) behind_too in
    cc

-- a text that begins with a display name, and with "<" after the blanks that follow, is read as what follows "<"
display-some : (text name rest stop inner : List ℕ) → ReadAs (NameFront text) (name, rest) → IsOnlyBehind rest stop → past left_angle stop ≡ Some inner → ReadAs (DisplayFront text) inner
display-some text name rest stop inner is behind found =
    read-one (DisplayFront text) inner (one-display text) (inr ((name, rest), is.0, subst (Behind rest) (past-some left_angle stop inner found) behind.0))

-- a text that begins with "<" is read as what follows it
pub display-angle : (text inner : List ℕ) → past left_angle text ≡ Some inner → ReadAs (DisplayFront text) inner
display-angle text inner found = read-one (DisplayFront text) inner (one-display text) (inl (past-some left_angle text inner found))

-- a text that begins with neither "<" nor a display name is not read as one that opens a URI in angles
pub display-no_name : (text : List ℕ) → past left_angle text ≡ None → NotRead (NameFront text) → NotRead (DisplayFront text)
-- without a name "<" would stand first; with one, a display name would be read
display-no_name text missing none inner (inl is) = let found : past left_angle text ≡ Some inner = ap (past left_angle) is in cc
display-no_name text missing none inner (inr (x, is, behind)) = none x is

-- a text that begins with a display name after whose blanks no "<" stands is not read as one that opens a URI in angles
display-no_angle : (text name rest stop : List ℕ) → past left_angle text ≡ None → ReadAs (NameFront text) (name, rest) → IsOnlyBehind rest stop → past left_angle stop ≡ None → NotRead (DisplayFront text)
-- without a name "<" would stand first
display-no_angle text name rest stop missing is behind no_angle inner (inl begins) = let found : past left_angle text ≡ Some inner = ap (past left_angle) begins in cc
-- with a name, it is the one that was read, and "<" would stand after its blanks
display-no_angle text name rest stop missing is behind no_angle inner (inr (x, name_is, angle)) =
    let stop_is = behind.1 (left_angle ∷ inner) (subst (λ n. Behind (n.1) (left_angle ∷ inner)) (is.1 x name_is) angle) in
    let found : past left_angle stop ≡ Some inner = ap (past left_angle) (sym stop_is) in
    cc

-- after a display name what follows "<" is read, if "<" stands after the blanks
pub display-past : (text name rest stop : List ℕ) (r : Option (Bor (List ℕ))) → past left_angle text ≡ None → ReadAs (NameFront text) (name, rest) → IsOnlyBehind rest stop → option_copied r ≡ past left_angle stop → IsOnlyValue DisplayFront text_parts text r
display-past text name rest stop None missing is behind found = display-no_angle text name rest stop missing is behind (sym found)
display-past text name rest stop (Some inner) missing is behind found = display-some text name rest stop inner.now is behind (sym found)

-- an address is cut in one way
one-cut : (text : List ℕ) → AtMostOne (AddressCut text)
one-cut text (u, r) (w, s) (named i display uri rest) (named j display_too uri_too rest_too) =
    -- both have the URI in angles: what follows "<" is the same, and so are the URI before the first ">" and the rest after it
    let inner = one-display text i j display display_too in
    let rests : Some r ≡ Some s = sym rest ∙ ap (behind right_angle) inner ∙ rest_too in
    ap (λ x. (x, r)) (uri ∙ ap (before right_angle) inner ∙ sym uri_too) ∙ ap (λ x. (w, x)) (same_Some r s rests)
-- a URI in angles and one without them cannot both stand there
one-cut text c d (named i display uri rest) (plain has all stops whole) = absurd (no-display text has i display)
one-cut text c d (plain has all stops whole) (named j display uri rest) = absurd (no-display text has j display)
-- both have no angles, and end at the same byte
one-cut text (u, r) (w, s) (plain has all stops whole) (plain has_too all_too stops_too whole_too) =
    let same = same_front is_unmarked_byte u r w s all all_too stops stops_too (sym whole ∙ whole_too) in
    ap (λ x. (x, r)) same.0 ∙ ap (λ x. (w, x)) same.1

-- a text that begins with a scheme is cut after the bytes that a URI without "<" may hold
pub cut-plain : (text rest : List ℕ) (n : ℕ) → HasScheme text → n ≡ prefix_len is_unmarked_byte text → rest ≡ drop n text → ReadAs (AddressCut text) (take n text, rest)
cut-plain text rest n has n_is rest_is =
    -- `cut` says that the first n bytes may stand in a URI without "<", and that the next one, if any, may not
    let cut = prefix-at is_unmarked_byte text n n_is in
    read-one (AddressCut text) (take n text, rest) (one-cut text)
    (plain has cut.0 (subst (Stops is_unmarked_byte) (sym rest_is) cut.1) (sym (take-append-drop n text) ∙ ap (λ t. take n text ++ t) (sym rest_is)))

-- a text that opens a URI in angles is cut at the first ">" after that
pub cut-named : (text inner uri rest : List ℕ) → ReadAs (DisplayFront text) inner → uri ≡ before right_angle inner → Some rest ≡ behind right_angle inner → ReadAs (AddressCut text) (uri, rest)
cut-named text inner uri rest is uri_is rest_is =
    read-one (AddressCut text) (uri, rest) (one-cut text) (named inner is.0 uri_is (sym rest_is))

-- a text that neither begins with a scheme nor opens a URI in angles is not cut
pub cut-no_display : (text : List ℕ) → (HasScheme text → ⊥) → NotRead (DisplayFront text) → NotRead (AddressCut text)
-- in angles a display name, if any, and "<" would be read; without angles the text would begin with a scheme
cut-no_display text no_has none c (named inner display uri rest) = none inner display
cut-no_display text no_has none c (plain has all stops whole) = no_has has

-- a text that opens a URI in angles, but has no ">" after that, is not cut
pub cut-open : (text inner : List ℕ) → (HasScheme text → ⊥) → ReadAs (DisplayFront text) inner → None ≡ behind right_angle inner → NotRead (AddressCut text)
-- in angles: what follows "<" is what was read, in which no ">" stands
cut-open text inner no_has is missing c (named i display uri rest) =
    let found : behind right_angle inner ≡ Some (c.1) = ap (behind right_angle) (sym (is.1 i display)) ∙ rest in
    cc
-- without angles the text would begin with a scheme
cut-open text inner no_has is missing c (plain has all stops whole) = no_has has

-- where "<" or a display name and "<" stand before a URI in angles, the reader cuts them off there
before-display : (d text inner : List ℕ) → Opening d → text ≡ d ++ inner → DisplayFront text inner
before-display d text inner (inl is) whole = inl (whole ∙ ap (λ t. t ++ inner) is)
-- e is the name and t what stands before the URI after it: blanks s and the "<", l
before-display d text inner (inr (e, t, fits, (s, l, sws, l_is, t_is), d_is)) whole = inr ((e, s ++ (left_angle ∷ inner)), at fits, behind_is)
  where
    -- the text is the name, blanks, "<" and what is inside
    flat : text ≡ e ++ (s ++ (left_angle ∷ inner))
    flat =
        whole ∙ ap (λ x. x ++ inner) (d_is ∙ ap (λ x. e ++ x) (t_is ∙ ap (λ x. s ++ x) l_is))
        ∙ append_assoc e (s ++ (left_angle ∷ [])) inner ∙ ap (λ x. e ++ x) (append_assoc s (left_angle ∷ []) inner)

    -- after the name only blanks stand before "<"
    behind_is : Behind (s ++ (left_angle ∷ inner)) (left_angle ∷ inner)
    behind_is = (stops-byte left_angle inner refl, (s, left_angle ∷ inner, sws, refl, refl))

    -- whether the name is a quoted string or words, it is read at the front of the text
    at : DisplayName e → NameFront text (e, s ++ (left_angle ∷ inner))
    at (inl quoted) = inl (quoted, flat)
    at (inr words) = inr (words, (left_angle ∷ inner, behind_is, refl), flat)

-- what the reader cuts off before a URI in angles stands there by the grammar
display-before : (text inner : List ℕ) → DisplayFront text inner → (d : List ℕ) × Opening d × (text ≡ d ++ inner)
-- without a display name "<" alone stands before the URI
display-before text inner (inl is) = (left_angle ∷ [], inl refl, is)
-- the name, its blanks and "<" stand before the URI
display-before text inner (inr ((name, rest), is, (stops, (s, y, sws, y_is, rest_is)))) = (
  name ++ (s ++ (left_angle ∷ [])),
  inr (name, s ++ (left_angle ∷ []), fits is, (s, left_angle ∷ [], sws, refl, refl), refl),
  front is ∙ ap (λ t. name ++ t) (rest_is ∙ ap (λ t. s ++ t) y_is ∙ sym (append_assoc s (left_angle ∷ []) inner)) ∙ sym (append_assoc name (s ++ (left_angle ∷ [])) inner),
)
  where
    -- the name that was cut off is one of the grammar
    fits : NameFront text (name, rest) → DisplayName name
    fits (inl quoted) = inl quoted.0
    fits (inr words) = inr words.0

    -- the name that was cut off stands at the front
    front : NameFront text (name, rest) → text ≡ name ++ rest
    front (inl quoted) = quoted.1
    front (inr words) = words.2

-- a blank may not stand in a URI without "<"
not-plain : (b : ℕ) → is_lws_byte b ≡ true → is_unmarked_byte b ≡ false
-- SP, HTAB, CR and LF are tried, by computing
not-plain = blank_is (λ b. is_unmarked_byte b ≡ false) refl refl refl refl

-- bytes that are no blanks and none of `,?;` may stand in a URI without angles
plain-all : (u : List ℕ) → All (λ b. not (is_lws_byte b)) u → All (λ b. not (is_among ",?;" b)) u → All is_unmarked_byte u
-- of no bytes nothing is asked
plain-all [] solid other = tt
plain-all (b ∷ u) solid other = (and_from (not (is_lws_byte b)) (not (is_among ",?;" b)) solid.0 other.0, plain-all u solid.1 other.1)

-- bytes that may stand in a URI without angles are none of `,?;`
all-other : (u : List ℕ) → All is_unmarked_byte u → All (λ b. not (is_among ",?;" b)) u
-- of no bytes nothing is asked
all-other [] all = tt
all-other (b ∷ u) all = ((and_parts (not (is_lws_byte b)) (not (is_among ",?;" b)) all.0).1, all-other u all.1)

-- where no byte of a URI without angles follows, that URI stops
fails-plain : (u : List ℕ) → Fails is_unmarked_byte u → Stops is_unmarked_byte u
-- a text that fails has a first byte; an empty one does not fail
fails-plain [] fails = absurd fails
fails-plain (b ∷ u) fails = fails

-- parameters, or their blanks, begin with a byte that may not stand in a URI without "<"
params-stop : (text : List ℕ) → GenericParams text → Stops is_unmarked_byte text
params-stop text are = elim (some-many _ text are) [
  -- without parameters nothing follows
  | inl none ↦ subst (Stops is_unmarked_byte) (sym none) tt
  -- the first parameter begins with its ";", or with the blanks before it
  | inr some ↦
      fails-plain text (fail-then is_unmarked_byte _ _ (fail-then is_unmarked_byte (Mark semicolon) _ (fail-mark is_unmarked_byte semicolon not-plain refl)) text some)
]

-- the text is cut into a URI and parameters
abbrev IsCut : List ℕ → Type 0
IsCut text = (cut : List ℕ × List ℕ) × AddressCut text cut × (Uri (cut.0) × GenericParams (cut.1))

-- an address of the grammar is cut into its URI and its parameters
address-cut : (text : List ℕ) → Address text → IsCut text
-- d is what stands before the URI, u the URI, g the ">" and w3 the parameters; w1 to w3 are what follows each part
address-cut text (inl (d, w1, before_is, (u, w2, uri, (g, w3, g_is, params, w2_is), w1_is), whole)) = (
  (u, w3),
  -- the cut is what stands before the URI, the URI before the first ">", and what follows that
  named w1 (before-display d text w1 before_is whole)
      (sym (ap (before right_angle) inner ∙ before-led right_angle u (Some w3) lacks))
      (ap (behind right_angle) inner ∙ behind-led right_angle u (Some w3) lacks),
  (uri, params),
)
  where
    -- inside the angles stand the URI, ">" and what follows
    inner : w1 ≡ u ++ (right_angle ∷ w3)
    inner = w1_is ∙ ap (λ t. u ++ t) (w2_is ∙ ap (λ t. t ++ w3) g_is)

    -- no ">" stands in the URI
    lacks : Lacks right_angle u
    lacks = uri-lacks u uri
-- a URI without angles ends before a byte that may not stand in it, and has parameters after it
address-cut text (inr (u, w, (uri, bare), params, whole)) =
    -- the text begins with a scheme, no byte of the URI is a blank or one of `,?;`, and what follows begins with none that may stand in it
    let has = uri-scheme u uri in (
      (u, w),
      plain (has.0, has.1 ++ w, has.2, whole ∙ ap (λ t. t ++ w) has.3 ∙ append_assoc has.0 (colon ∷ has.1) w)
          (plain-all u (solid-uri u uri) (each-many (λ b. not (is_among ",?;" b)) _ (each-one (λ b. not (is_among ",?;" b)) (λ b. not (is_among ",?;" b)) (λ b is. is)) u bare))
          (params-stop w params) whole,
      (uri, params),
    )

-- what is cut into a URI and parameters is an address of the grammar
cut-address : (text : List ℕ) (cut : List ℕ × List ℕ) → AddressCut text cut → Uri (cut.0) × GenericParams (cut.1) → Address text
-- in angles: the name, "<", the URI, ">" and the parameters
cut-address text (u, w) (named inner display uri_is rest_is) (uri, params) =
    -- `front` is what stands before the URI; inside the angles stand the URI, ">" and the rest
    let front = display-before text inner display in
    let inner_is : inner ≡ u ++ (right_angle ∷ w) =
    cut-whole right_angle inner ∙ ap (λ t. t ++ led right_angle (behind right_angle inner)) (sym uri_is) ∙ ap (λ o. u ++ led right_angle o) rest_is in
    inl (front.0, inner, front.1, (u, right_angle ∷ w, uri, (right_angle ∷ [], w, refl, params, refl), inner_is), front.2)
-- without angles: the URI and the parameters
cut-address text (u, w) (plain has all stops whole) (uri, params) = inr (u, w, (uri, all-run (λ b. not (is_among ",?;" b)) u (all-other u all)), params, whole)

-- where a text is cut in one way, what decides that it is cut into a URI and parameters decides an address
pub decides-cut : (text uri rest : List ℕ) (r : Bool) → ReadAs (AddressCut text) (uri, rest) → Decides r (Uri uri × GenericParams rest) → Decides r (Address text)
decides-cut text uri rest r read =
    Decides-like r (cut-address text (uri, rest) read.0)
    (λ address. let is = address-cut text address in subst (λ c. Uri (c.0) × GenericParams (c.1)) (read.1 is.0 is.1) is.2)

-- a text that is not cut is no address
pub no-address : (text : List ℕ) → NotRead (AddressCut text) → Address text → ⊥
no-address text none address = let is = address-cut text address in none is.0 is.1
