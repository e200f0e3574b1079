-- A Call-ID is cut at its first "@".
use Rattle.std.proofs.Common.{◌≡◌, ◌<◌, ◌&&◌, ◌++◌, Bool, true, List, [], ◌∷◌, ℕ, drop, length, get_or, Fits, w8, Option, IfSome, refl, sym, ap, ◌∙◌, subst, inl, inr}
use Rattle.std.specs.Bool.{Decides}
use Rattle.std.specs.List.{list_all}
use Rattle.std.proofs.lemmas.Bool.{agree_below_at, and_parts, and_from}
use Rattle.std.proofs.lemmas.List.Folds.{list_all-append}
use Rattle.std.proofs.lemmas.Simd.{Each1-from_get_or}
use lib.Lanes.{Each1}
use Rattle.std.proofs.lemmas.Bool.Decides.{Decides-like}
use Rattle.sip_standard.specs.Text.{One}
use Rattle.sip_standard.specs.Profile.{Token}
use Rattle.sip_text.specs.Bytes.{at_sign, is_token_byte}
use Rattle.sip_text.specs.Front.{IsLongestFront}
use Rattle.sip_text.specs.inner.Cut.{before, behind}
use Rattle.sip_text.proofs.texts.ManyLemmas.{many-some, drop-front}
use Rattle.sip_text.proofs.texts.RunLemmas.{run-list_all}
use Rattle.sip_text.proofs.texts.LacksLemmas.{AllLack, lack-one, lack-some}
use Rattle.sip_text.proofs.uris.UriPartLemmas.{cut-optional, optional-cut}
use Rattle.sip_standard.specs.Values.{CallId}
use Rattle.sip_message.specs.inner.Values.{is_word_byte, Word}

-- a word lacks "@"
lack-word : AllLack at_sign Word
-- "@" is none of the bytes of a word
lack-word = lack-some at_sign (One is_word_byte) (lack-one at_sign is_word_byte refl)

-- what decides whether the word before the first "@", and the one after it if there is one, are words decides whether a text is a Call-ID
pub decides-call_id : (text word : List ℕ) (more : Option (List ℕ)) (r : Bool) → word ≡ before at_sign text → more ≡ behind at_sign text → Decides r (Word word × IfSome more Word) → Decides r (CallId text)
decides-call_id text word more r word_is more_is =
    -- a text of words around "@" is cut at its first "@" into these, since a word has none
    Decides-like r
    (λ both. optional-cut at_sign Word Word text (subst Word word_is both.0) (subst (λ o. IfSome o Word) more_is both.1))
    (λ whole.
    let both = cut-optional at_sign Word Word text lack-word whole in
    (subst Word (sym word_is) both.0, subst (λ o. IfSome o Word) (sym more_is) both.1))

-- a byte of a token may stand in a word
token-word : (b : ℕ) → b < 256 → is_token_byte b ≡ true → is_word_byte b ≡ true
token-word b below is =
    -- each byte below 256 is tried, by computing
    (and_parts (is_token_byte b) (is_word_byte b) (agree_below_at (λ x. is_token_byte x && is_word_byte x) is_token_byte 256 b refl below ∙ is)).1

-- bytes of a text that are bytes of tokens may stand in a word
token-words : (u v : List ℕ) → Each1 (Fits w8) (u ++ v) → list_all is_token_byte u ≡ true → list_all is_word_byte u ≡ true
-- the empty text passes
token-words [] v fits all = refl
token-words (b ∷ u) v fits all =
    -- the first byte and the others are bytes of tokens, and so pass
    let both = and_parts (is_token_byte b) (list_all is_token_byte u) all in
    and_from _ _ (token-word b fits.0.fits both.0) (token-words u v fits.1 both.1)

-- all bytes of a text may stand in a word exactly if those after its longest token may
pub words-behind : (text : List ℕ) (n : ℕ) → ((k : ℕ) → Fits w8 (get_or text k 0)) → IsLongestFront Token text n → list_all is_word_byte (drop n text) ≡ list_all is_word_byte text
words-behind text n fits longest =
    elim longest.front [
      -- no token stands at the front, so all bytes are those after it
      | inl none ↦ ap (λ m. list_all is_word_byte (drop m text)) none
      -- a token stands at the front: u is it, and v what follows
      | inr front ↦
          let u = front.0 in
          let v = front.1 in
          let whole : text ≡ u ++ v = front.3 in
          -- the bytes of the token may stand in a word, so those after it decide
          let each = subst (Each1 (Fits w8)) whole (Each1-from_get_or (Fits w8) text 0 (λ k lt. fits k)) in
          let words = token-words u v each (run-list_all is_token_byte u (many-some (One is_token_byte) u front.2)) in
          ap (λ m. list_all is_word_byte (drop m text)) front.4 ∙ ap (λ t. list_all is_word_byte (drop (length u) t)) whole
          ∙ ap (list_all is_word_byte) (drop-front u v)
          ∙ sym (ap (list_all is_word_byte) whole ∙ list_all-append is_word_byte u v ∙ ap (λ r. r && list_all is_word_byte v) words)
    ]
