-- How the reader of addresses cuts a text.
use Rattle.std.specs.Prelude.{◌≡◌, ◌⊎◌, ◌&&◌, not, ℕ, Bool, true, List, ◌∷◌, ◌++◌, Some}
use Rattle.std.specs.List.{AllByRecursion}
use Rattle.sip_standard.specs.Text.{◌then◌, ◌or◌, Many}
use Rattle.sip_standard.specs.Profile.{Token, Sws, Blanks, Quoted}
use Rattle.sip_text.specs.Bytes.{colon, Byte, is_token_byte}
use Rattle.sip_standard.specs.Chars.{is_among}
use Rattle.sip_text.specs.inner.Cut.{before, behind}
use Rattle.sip_standard.specs.Field.{is_lws_byte}
use Rattle.sip_message.specs.inner.Marks.{left_angle, right_angle}
use Rattle.sip_message.specs.inner.Fronts.{Stops, Behind}
use Rattle.sip_message.specs.inner.ParamFronts.{QuotedFront}

-- tokens, with a blank run between any two
abbrev pub Words : List ℕ → Type 0
Words = Token then Many (Blanks then Token)

-- display-name = *( token LWS ) / quoted-string
abbrev pub DisplayName : List ℕ → Type 0
DisplayName = Quoted or Words

-- [ display-name ] SWS "<": what opens a URI in angles
abbrev pub Opening : List ℕ → Type 0
Opening = Byte left_angle or (DisplayName then Sws then Byte left_angle)

-- all the words at the front of the text, and what is left; no token begins after the blanks of what is left
abbrev pub WordsFront : List ℕ → List ℕ × List ℕ → Type 0
WordsFront text (words, rest) =
    Words words × ((stop : List ℕ) × Behind rest stop × Stops is_token_byte stop) × (text ≡ words ++ rest)

-- a display name at the front of the text, and what is left
abbrev pub NameFront : List ℕ → List ℕ × List ℕ → Type 0
NameFront text name = QuotedFront text name ⊎ WordsFront text name

-- [ display-name ] SWS "<" at the front of the text, and what is left
abbrev pub DisplayFront : List ℕ → List ℕ → Type 0
DisplayFront text inner =
    (text ≡ left_angle ∷ inner) ⊎ ((name : List ℕ × List ℕ) × NameFront text name × Behind (name.1) (left_angle ∷ inner))

-- the text begins with a token and a colon, as a URI does
abbrev pub HasScheme : List ℕ → Type 0
HasScheme text =
    (scheme : List ℕ) × (rest : List ℕ) × AllByRecursion (λ byte. is_token_byte byte ≡ true) scheme
    × (text ≡ scheme ++ colon ∷ rest)

-- a byte that a URI may hold where it stands without "<"
abbrev pub is_unmarked_byte : ℕ → Bool
is_unmarked_byte byte = not (is_lws_byte byte) && not (is_among ",?;" byte)

-- the text is cut into its URI and what follows it, or the ">" after it: a URI in "<" ends at the first ">", and one without "<" where a byte
-- stands that it cannot hold
pub data AddressCut (text : List ℕ) (cut : List ℕ × List ℕ) : Type 0 where
  named : (inner : List ℕ) → DisplayFront text inner
      → cut.0 ≡ before right_angle inner → behind right_angle inner ≡ Some (cut.1) → AddressCut text cut
  plain : HasScheme text
      → AllByRecursion (λ byte. is_unmarked_byte byte ≡ true) (cut.0) → Stops is_unmarked_byte (cut.1)
      → text ≡ cut.0 ++ cut.1 → AddressCut text cut
