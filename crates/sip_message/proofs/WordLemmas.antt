-- Words are tokens and blanks in pieces that begin no other, so they are read in one way.
-- `IsStep P len` says that `len` gives the length of the piece of P at the front of a text, or 0; a text that is cut so is cut in one way (`same_many`).
use Rattle.std.proofs.Common.{◌≡◌, ℕ, zero, suc, ◌+◌, ◌<◌, ◌≤◌, ◌⊎◌, Bool, true, false, cond, if◌then◌else◌, List, [], ◌∷◌, ◌++◌, length, take, drop, slice_index, refl, sym, ap, ◌∙◌, subst, inl, inr, arith}
use Rattle.std.proofs.lemmas.List.{append-nil, append_assoc, append_cancel_left, length-append, length-drop, take-append-drop, length-take-le}
use Rattle.std.proofs.Math.Seq.{take-append_seam, drop-append_seam}
use Rattle.sip_standard.specs.Text.{One, ◌then◌, ◌or◌, Many}
use Rattle.sip_standard.specs.Profile.{Token, Sws, Blanks}
use Rattle.sip_text.specs.Bytes.{space, crlf, is_token_byte}
use Rattle.sip_text.specs.Front.{HasFront, IsLongestFront}
use Rattle.sip_text.specs.inner.Blanks.{Blank, blank_len}
use Rattle.sip_text.proofs.texts.ManyLemmas.{many-nil, many-cons, many-append, many-push, many-map, many-flat, many-some, IsStep, same_many}
use Rattle.sip_text.proofs.strings.BlanksLemmas.{units-blanks, blanks-units, blank-step}
use Rattle.sip_message.specs.inner.FieldText.{EndsSolid}
use Rattle.sip_message.specs.inner.Fronts.{Stops, StopsBlank, Behind, IsOnlyBehind, TokenFront, BlanksFront}
use Rattle.sip_message.specs.inner.AddressFronts.{Words, WordsFront}
use Rattle.sip_message.proofs.lemmas.text.Each.{each-sws, wsp-blank}
use Rattle.sip_message.proofs.lemmas.field.OneWay.{blank-token, same_solid}
use Rattle.sip_message.proofs.lemmas.text.Ends.{firm-then_right, end-firm, end-many, ends-both}
use Rattle.sip_message.proofs.lemmas.params.Closed.{some-run, firm-token}
use Rattle.sip_message.proofs.lemmas.front.Cuts.{ReadAs, NotRead, token-cut, same-behind, longest-behind, longest-blanks_front}
use Rattle.sip_message.proofs.lemmas.front.OneWay.{AtMostOne, read-one}
use Rattle.sip_message.proofs.lemmas.value.Trimmed.{length-none}
use Rattle.sip_message.proofs.lemmas.params.Value.{no-token-stops}

-- a piece of words: a byte of a token, or a blank
abbrev WordItem : List ℕ → Type 0
WordItem = One is_token_byte or Blank

-- the length of the token byte or the blank at the front of the text, and 0 if there is neither
abbrev word_len : List ℕ → ℕ
word_len text = if is_token_byte (slice_index text 0) then 1 else blank_len text

-- where a blank stands at the front of a text, `word_len` gives its length
word-blank : (u v : List ℕ) → Blank u → word_len (u ++ v) ≡ blank_len (u ++ v)
-- the blank is one byte, which is no byte of a token
word-blank u v (front, b, inl none, one, whole) =
    let text : u ≡ one.0 ∷ [] = whole ∙ ap (λ t. t ++ b) none ∙ one.2 in
    ap (λ t. word_len (t ++ v)) text ∙ ap (λ q. cond q 1 (blank_len (one.0 ∷ v))) (blank-token one.0 (wsp-blank one.0 one.1))
    ∙ sym (ap (λ t. blank_len (t ++ v)) text)
-- the blank is a fold, which begins with CR
word-blank u v (front, b, inr fold, one, whole) =
    let text : u ≡ crlf ++ (one.0 ∷ []) = whole ∙ ap (λ t. t ++ b) fold ∙ ap (λ t. crlf ++ t) one.2 in
    ap (λ t. word_len (t ++ v)) text ∙ sym (ap (λ t. blank_len (t ++ v)) text)

-- where a piece of words stands at the front of a text, `word_len` gives its length
word-at_front : (u v : List ℕ) → WordItem u → word_len (u ++ v) ≡ length u
-- the piece is a byte of a token
word-at_front u v (inl one) =
    ap (λ t. word_len (t ++ v)) one.2 ∙ ap (λ q. cond q 1 (blank_len (one.0 ∷ v))) one.1 ∙ sym (ap length one.2)
word-at_front u v (inr blank) = word-blank u v blank ∙ blank-step.at_piece u v blank

-- a token byte or a blank is not empty
word-moves : (u : List ℕ) → WordItem u → 0 < length u
word-moves u (inl one) = omega (arith, ap length one.2)
word-moves u (inr blank) = blank-step.moves u blank

-- `word_len` gives 0, or a piece of words of that length stands at the front of the text
word-piece : (text : List ℕ) → (word_len text ≡ 0) ⊎ HasFront WordItem text (word_len text)
-- at the front of an empty text no piece stands
word-piece [] = inl refl
word-piece (a ∷ text) = at (is_token_byte a) refl
  where
    -- a blank at the front is a piece of words
    blank : (blank_len (a ∷ text) ≡ 0) ⊎ HasFront WordItem (a ∷ text) (blank_len (a ∷ text))
    blank = elim (blank-step.piece (a ∷ text)) [
      | inl none ↦ inl none
      | inr front ↦ inr (front.0, front.1, inr front.2, front.3, front.4)
    ]

    -- the claim holds whether or not the first byte is one of a token
    at : (token : Bool) → is_token_byte a ≡ token → (cond token 1 (blank_len (a ∷ text)) ≡ 0) ⊎ HasFront WordItem (a ∷ text) (cond token 1 (blank_len (a ∷ text)))
    -- the first byte is a piece
    at true is = inr (a ∷ [], text, inl (a, is, refl), refl, refl)
    at false is = blank

-- `word_len` steps over token bytes and blanks, one after another
word-step : IsStep WordItem word_len
word-step = record { at_piece = word-at_front; moves = word-moves; piece = word-piece }

-- a token is a run of token bytes and blanks
token-items : (t : List ℕ) → Token t → Many WordItem t
token-items t token = many-map (One is_token_byte) WordItem t (λ u one. inl one) (many-some (One is_token_byte) t token)

-- blanks are a run of token bytes and blanks
blank-items : (b : List ℕ) → Blanks b → Many WordItem b
blank-items b blanks = many-map Blank WordItem b (λ u one. inr one) (units-blanks b blanks)

-- optional blanks are a run of token bytes and blanks
sws-items : (b : List ℕ) → Sws b → Many WordItem b
sws-items b (inl none) = subst (Many WordItem) (sym none) (many-nil WordItem)
sws-items b (inr blanks) = blank-items b blanks

-- words are pieces of words
words-items : (w : List ℕ) → Words w → Many WordItem w
words-items w (t, more, token, many, whole) =
    subst (Many WordItem) (sym whole) (many-append WordItem t more (token-items t token) (many-flat (Blanks then Token) WordItem more word many))
  where
    -- blanks and a token are pieces of words
    word : (u : List ℕ) → (Blanks then Token) u → Many WordItem u
    word u (b, v, blanks, is, u_is) = subst (Many WordItem) (sym u_is) (many-append WordItem b v (blank-items b blanks) (token-items v is))

-- words do not end with a blank
words-solid : (w : List ℕ) → Words w → EndsSolid w
words-solid w (p, q, token, many, whole) =
    subst EndsSolid (sym whole) (ends-both p q (end-firm Token firm-token p token) (end-many (Blanks then Token) (end-firm (Blanks then Token) (firm-then_right Blanks Token firm-token)) q many))

-- where neither a blank nor a token byte stands at the front, `word_len` is 0
no_item : (t : List ℕ) → StopsBlank t → Stops is_token_byte t → word_len t ≡ 0
-- an empty text has no piece
no_item [] blank token = refl
-- the first byte is none of a token, so `word_len` is the length of a blank, which is 0
no_item (a ∷ t) blank token = ap (λ q. cond q 1 (blank_len (a ∷ t))) token ∙ blank

-- the words at the front of a text are read in one way: (w, r) and (x, s) are two readings, with the words and what is left; k and l are the blanks at
-- the front of r and s, and stop and halt follow them
pub one-words : (text : List ℕ) → AtMostOne (WordsFront text)
one-words text (w, r) (x, s) (w_is, (stop, (stop_blank, (k, y, k_is, y_is, r_is)), stop_token), whole) (x_is, (halt, (halt_blank, (l, z, l_is, z_is, s_is)), halt_token), whole_too) =
    -- the text is read in both ways as words, blanks and what follows
    let left : text ≡ (w ++ k) ++ stop = whole ∙ ap (λ t. w ++ t) (r_is ∙ ap (λ t. k ++ t) y_is) ∙ sym (append_assoc w k stop) in
    let right : text ≡ (x ++ l) ++ halt = whole_too ∙ ap (λ t. x ++ t) (s_is ∙ ap (λ t. l ++ t) z_is) ∙ sym (append_assoc x l halt) in
    -- word items and blanks are told apart byte by byte, so that words and blanks together are the same texts in both readings
    let same = same_many WordItem word_len (w ++ k) stop (x ++ l) halt word-step
    (many-append WordItem w k (words-items w w_is) (sws-items k k_is)) (many-append WordItem x l (words-items x x_is) (sws-items l l_is))
    (sym left ∙ right) (no_item stop stop_blank stop_token) (no_item halt halt_blank halt_token) in
    -- the words end where no blank does, and so they are the same, and so is what is left
    let words : w ≡ x = same_solid w k x l (words-solid w w_is) (words-solid x x_is) (each-sws k k_is) (each-sws l l_is) same.0 in
    let rests : r ≡ s = append_cancel_left x r s (ap (λ t. t ++ r) (sym words) ∙ sym whole ∙ whole_too) in
    ap (λ t. (t, r)) words ∙ ap (λ t. (x, t)) rests

-- after the longest token at the front of a text stands no byte of a token
pub longest-stops : (text : List ℕ) (n : ℕ) → IsLongestFront Token text n → Stops is_token_byte (drop n text)
longest-stops text zero longest = no-token-stops text longest
longest-stops text (suc n) longest = (token-cut text (suc n) longest (λ none. absurd (omega (arith, none)))).1

-- the bytes before the index are words, and no byte of a token stands after them
pub record WordsSoFar (text : List ℕ) (at : ℕ) : Type 0 where
  pub within : at ≤ length text
  pub words : Words (take at text)
  pub stops : Stops is_token_byte (drop at text)

-- the longest token at the front of a text, if there is one, is the first of its words
pub words-first : (text : List ℕ) (n : ℕ) → n ≤ length text → IsLongestFront Token text n → (n ≡ 0 → ⊥) → WordsSoFar text n
words-first text n within longest some = record {
  -- the token is the first word, and no further one is counted yet
  within = within;
  words = (take n text, [], (token-cut text n longest some).0, many-nil (Blanks then Token), sym (append-nil (take n text)));
  stops = longest-stops text n longest;
}

-- a text that is a front and a rest is cut into these at the length of the front
cut-at : (text front rest : List ℕ) (n : ℕ) → text ≡ front ++ rest → n ≡ length front → (take n text ≡ front) × (drop n text ≡ rest)
cut-at text front rest n whole n_is = (
  ap (λ m. take m text) n_is ∙ ap (take (length front)) whole ∙ take-append_seam front rest,
  ap (λ m. drop m text) n_is ∙ ap (drop (length front)) whole ∙ drop-append_seam front rest,
)

-- where blanks and a token follow the words so far, the words so far with the blanks and the token are words so far, too
-- `at` is how far the words so far go, b how many blanks follow, and w how long the token after these is
pub words-more : (text rest stop : List ℕ) (at b w : ℕ) → rest ≡ drop at text → stop ≡ drop b rest → WordsSoFar text at → b ≤ length rest → w ≤ length stop → IsLongestFront Blanks rest b → (b ≡ 0 → ⊥) → IsLongestFront Token stop w → (w ≡ 0 → ⊥) → WordsSoFar text (at + (b + w))
words-more text rest stop at b w rest_is stop_is so b_in w_in blanks some_b token some_w = record {
  -- the words so far, the blanks and the token lie within the text
  within = omega (arith, ap length whole, length-append (take at text ++ (u ++ take w stop)) (drop w stop), size);
  -- the words are the former ones and one word more, the blanks with the token
  words = subst Words (sym cut.0) (so.words.0, so.words.1 ++ (u ++ take w stop), so.words.2, many-push (Blanks then Token) so.words.1 (u ++ take w stop) so.words.3 (u, take w stop, front.1.2, word.0, refl), ap (λ t. t ++ (u ++ take w stop)) so.words.4 ∙ append_assoc so.words.0 so.words.1 (u ++ take w stop));
  -- after the token no byte of a token stands
  stops = subst (Stops is_token_byte) (sym cut.1) word.1;
}
  where
    -- blanks stand at the front of the rest
    front : BlanksFront rest (drop b rest)
    front = (longest-blanks_front rest b blanks some_b).0

    -- a token stands after the blanks
    word : TokenFront stop (take w stop, drop w stop)
    word = token-cut stop w token some_w

    -- the blanks that stand before the rest
    u : List ℕ
    u = front.1.0

    -- the rest is the blanks and what stops them
    rest_whole : rest ≡ u ++ stop
    rest_whole = front.1.4 ∙ ap (λ t. u ++ t) (front.1.3 ∙ sym stop_is)

    -- the text is the words so far, the blanks, the token and what is left
    whole : text ≡ (take at text ++ (u ++ take w stop)) ++ drop w stop
    whole =
        -- the text is the words so far and the rest, and the rest is the blanks, the token and what is left
        sym (take-append-drop at text) ∙ ap (λ t. take at text ++ t) (sym rest_is ∙ rest_whole ∙ ap (λ t. u ++ t) (sym (take-append-drop w stop)) ∙ sym (append_assoc u (take w stop) (drop w stop)))
        ∙ sym (append_assoc (take at text) (u ++ take w stop) (drop w stop))

    -- the words, the blanks and the token have this length together
    size : length (take at text ++ (u ++ take w stop)) ≡ at + (b + w)
    size = omega (arith, length-append (take at text) (u ++ take w stop), length-append u (take w stop), length-take-le at text so.within, length-take-le w stop w_in, ap length rest_whole, length-append u stop, ap length stop_is, length-drop b rest, b_in)

    -- the text is cut after the token
    cut : (take (at + (b + w)) text ≡ take at text ++ (u ++ take w stop)) × (drop (at + (b + w)) text ≡ drop w stop)
    cut = cut-at text (take at text ++ (u ++ take w stop)) (drop w stop) (at + (b + w)) whole (sym size)

-- where no blank or no token follows the words so far, they are the words at the front of the text, and the only ones
pub words-all : (text rest stop : List ℕ) (at b w : ℕ) → rest ≡ drop at text → stop ≡ drop b rest → WordsSoFar text at → IsLongestFront Blanks rest b → IsLongestFront Token stop w → (b ≡ 0) ⊎ (w ≡ 0) → ReadAs (WordsFront text) (take at text, rest)
words-all text rest stop at b w rest_is stop_is so blanks token none =
    -- the words are read so, since they are words, no word follows them, and they are read in one way
    read-one (WordsFront text) (take at text, rest) (one-words text)
    (so.words, (drop b rest, (longest-behind rest b blanks).0, stops none), sym (take-append-drop at text) ∙ ap (λ t. take at text ++ t) (sym rest_is))
  where
    -- where no blank or no token follows the words so far, no token follows the blanks
    stops : (b ≡ 0) ⊎ (w ≡ 0) → Stops is_token_byte (drop b rest)
    stops (inl no_blank) = subst (Stops is_token_byte) (sym (ap (λ n. drop n rest) no_blank ∙ rest_is)) so.stops
    stops (inr no_word) = subst (Stops is_token_byte) stop_is (longest-stops stop 0 (subst (IsLongestFront Token stop) no_word token))

-- where no token stands at the front of a text, no words do
pub no-words : (text : List ℕ) (n : ℕ) → IsLongestFront Token text n → n ≡ 0 → NotRead (WordsFront text)
-- w would be the words and r what is left, t the first token of w
no-words text n longest none (w, r) ((t, more, token, many, w_is), no_word, whole) =
    -- the first token of the words would be no longer than the longest one, which is empty
    let low = longest.longest (length t) (t, more ++ r, token, whole ∙ ap (λ x. x ++ r) w_is ∙ append_assoc t more r, refl) in
    some-run is_token_byte t token (length-none t (omega (arith, low, none)))

-- where one SP stands at the front of a text, and no blank after it, the text after the SP is the one rest after the blanks
pub one-blank : (text rest : List ℕ) → text ≡ space ∷ rest → StopsBlank rest → IsOnlyBehind text rest
one-blank text rest is stops =
    -- the SP is one blank, and all that stand there
    let blank : Blank (space ∷ []) = ([], space ∷ [], inl refl, (space, refl, refl), refl) in
    let blanks = blanks-units (space ∷ []) (many-cons Blank (space ∷ []) [] blank (many-nil Blank)) in
    let behind : Behind text rest = (stops, (space ∷ [], rest, blanks, refl, is)) in
    (behind, (λ other front. same-behind text other rest front behind))
