-- Sets of texts by their characters (RFC 5234, sections 2.3 and 3.4).
use Rattle.std.specs.Prelude.{◌≡◌, ℕ, ◌||◌, ◌==◌, Bool, List, [], ◌∷◌, codes}
use Rattle.std.specs.List.{list_any}
use Rattle.std.specs.Char.{is_ascii_alphanumeric}
use Prim.Native.String.{String}
use Rattle.sip_standard.specs.Text.{◌then◌}
use Rattle.sip_standard.specs.Case.{folded}

-- these characters, with case, as "::"
abbrev pub Lit : String → List ℕ → Type 0
Lit chars text = text ≡ codes chars

-- these characters, which are in lower case, in any case, as "sip"
abbrev pub AnyCase : String → List ℕ → Type 0
AnyCase chars text = folded text ≡ codes chars

-- the byte is one of these characters
abbrev pub is_among : String → ℕ → Bool
is_among chars byte = list_any (λ b. b == byte) (codes chars)

-- the byte is an alphanum, or one of these characters
abbrev pub is_alphanum_or : String → ℕ → Bool
is_alphanum_or chars byte = is_ascii_alphanumeric byte || is_among chars byte

-- P is part: a text of P that is this part; `is` binds closer than `then` (`infixr`)
infixr 50 ◌is◌
abbrev pub ◌is◌ : (List ℕ → Type 0) → List ℕ → List ℕ → Type 0
(P is part) text = P text × (part ≡ text)

-- texts one after another, each saying one of the values
abbrev pub EachSays : {A : Type 0} → (A → List ℕ → Type 0) → List A → List ℕ → Type 0
EachSays R [] text = text ≡ []
EachSays R (a ∷ more) text = (R a then EachSays R more) text
