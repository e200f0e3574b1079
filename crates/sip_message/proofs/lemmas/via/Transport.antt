-- Sets whose texts begin with no byte of a class, as marks and blanks do.
-- In the lemmas u is a text and v what follows it, and b a byte of it.
-- A set is `AllFail test` where each of its texts has a first byte, which does not pass the test.
use Rattle.std.proofs.Common.{◌≡◌, ℕ, Bool, true, false, List, [], ◌∷◌, ◌++◌, length, refl, sym, ap, ◌∙◌, subst, inl, inr, arith}
use Rattle.std.proofs.lemmas.List.{length-append}
use Rattle.sip_standard.specs.Text.{◌then◌}
use Rattle.sip_standard.specs.Profile.{Blanks}
use Rattle.sip_text.specs.Bytes.{is_token_byte}
use Rattle.sip_standard.specs.Field.{is_lws_byte}
use Rattle.sip_message.specs.inner.Marks.{slash, Mark}
use Rattle.sip_message.proofs.lemmas.text.Cuts.{All}
use Rattle.sip_message.proofs.lemmas.text.Each.{each-blanks}
use Rattle.sip_message.proofs.lemmas.field.OneWay.{blank-token}

-- the text has a first byte, which does not pass
abbrev pub Fails : (ℕ → Bool) → List ℕ → Type 0
Fails test [] = ⊥
Fails test (b ∷ text) = test b ≡ false

-- no text of the set begins with a byte that passes, and none is empty
abbrev pub AllFail : (ℕ → Bool) → (List ℕ → Type 0) → Type 0
AllFail test P = (u : List ℕ) → P u → Fails test u

-- a text whose first byte does not pass has such a first byte whatever follows it
pub fails-append : (test : ℕ → Bool) (u v : List ℕ) → Fails test u → Fails test (u ++ v)
-- an empty text does not fail the test
fails-append test [] v fails = absurd fails
fails-append test (b ∷ u) v fails = fails

-- no text of P Q begins with a byte that passes where none of P does
pub fail-then : (test : ℕ → Bool) (P Q : List ℕ → Type 0) → AllFail test P → AllFail test (P then Q)
-- the text of P stands first, and its first byte does not pass
fail-then test P Q fail u both = subst (Fails test) (sym both.4) (fails-append test both.0 both.1 (fail both.0 both.2))

-- a text of a class that is not empty begins with no byte that passes where no byte of the class does
fails-class : (test class : ℕ → Bool) (u : List ℕ) → ((b : ℕ) → class b ≡ true → test b ≡ false) → (u ≡ [] → ⊥) → All class u → Fails test u
fails-class test class [] fail some all = some refl
fails-class test class (b ∷ u) fail some all = fail b all.0

-- a blank run is not empty
pub some-blanks : (u : List ℕ) → Blanks u → u ≡ [] → ⊥
-- a blank run has its SP or HTAB at least
some-blanks u b none =
    absurd (omega (arith, ap length none, ap length b.4, length-append b.0 b.1, ap length b.2.4, length-append b.2.0 b.2.1, ap length b.2.3.4, length-append b.2.3.0 b.2.3.1, ap length b.2.3.2.2))

-- no blank run begins with a byte that passes where no blank does
pub fail-blanks : (test : ℕ → Bool) → ((b : ℕ) → is_lws_byte b ≡ true → test b ≡ false) → AllFail test Blanks
fail-blanks test fail u blanks = fails-class test is_lws_byte u fail (some-blanks u blanks) (each-blanks u blanks)

-- no mark begins with a byte that passes where no blank does, and its byte does not
pub fail-mark : (test : ℕ → Bool) (mark : ℕ) → ((b : ℕ) → is_lws_byte b ≡ true → test b ≡ false) → test mark ≡ false → AllFail test (Mark mark)
-- v is the mark's byte m with the blanks w after it
-- without blanks before it the mark begins with its byte
fail-mark test mark fail at_mark u (sws, v, inl none, (m, w, m_is, w_sws, v_is), u_is) =
    subst (Fails test) (sym (u_is ∙ ap (λ t. t ++ v) none ∙ v_is ∙ ap (λ t. t ++ w) m_is)) at_mark
-- with blanks before it the mark begins with a blank
fail-mark test mark fail at_mark u (sws, v, inr blanks, rest, u_is) =
    subst (Fails test) (sym u_is) (fails-append test sws v (fail-blanks test fail sws blanks))

-- SLASH and what follows it do not begin with a byte of a token
pub fail-slash : (R : List ℕ → Type 0) → AllFail is_token_byte (Mark slash then R)
fail-slash R = fail-then is_token_byte (Mark slash) R (fail-mark is_token_byte slash blank-token refl)
