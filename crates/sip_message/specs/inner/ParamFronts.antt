-- Parameters at the front of a text, with what is left after them.
use Rattle.std.specs.Prelude.{◌≡◌, ◌⊎◌, ◌||◌, ◌==◌, ℕ, Bool, List, [], ◌∷◌, ◌++◌, true, false, Option, None, Some, option_copied}
use Rattle.std.specs.List.{AllByRecursion}
use Rattle.std.specs.Borrow.{Bor}
use Rattle.sip_standard.specs.Text.{Exactly, ◌then◌, ◌or◌, Optional, Many}
use Rattle.sip_standard.specs.Chars.{EachSays}
use Rattle.sip_standard.specs.Profile.{Token, Ipv6, Bracketed, Quoted}
use Rattle.sip_standard.specs.Via.{GenValue}
use Rattle.sip_text.specs.Bytes.{colon, semicolon, equals, left_bracket, right_bracket, is_token_byte}
use Rattle.sip_message.specs.inner.Marks.{Mark}
use Rattle.sip_message.specs.inner.Fronts.{Stops, TokenFront, MarkFront, Seq}

-- a parameter: its name, and its value if it has one
abbrev pub Param : Type 0
Param = List ℕ × Option (List ℕ)

-- generic-param = token [ EQUAL gen-value ], with its name and its value
abbrev pub ParamText : Param → List ℕ → Type 0
ParamText (name, None) text = Token name × (text ≡ name)
ParamText (name, Some value) text =
    Token name × GenValue value × (Exactly name then Mark equals then Exactly value) text

-- *( SEMI generic-param ), with the name and the value of each
abbrev pub ParamsText : List Param → List ℕ → Type 0
ParamsText = EachSays (λ param. Mark semicolon then ParamText param)

-- *( SEMI generic-param )
abbrev pub GenericParams : List ℕ → Type 0
GenericParams = Many (Mark semicolon then (Token then Optional (Mark equals then GenValue)))

-- a byte of a value that is neither quoted nor in brackets: of a token, or a colon
abbrev pub is_bare_byte : ℕ → Bool
is_bare_byte byte = is_token_byte byte || byte == colon

-- the rest stands after the longest run at the front of the text of bytes that pass the test
abbrev pub PastRun : (ℕ → Bool) → List ℕ → List ℕ → Type 0
PastRun test text rest =
    Stops test rest × ((run : List ℕ) × AllByRecursion (λ byte. test byte ≡ true) run × (text ≡ run ++ rest))

-- a token or an IPv6 address without brackets at the front of the text, and what is left
abbrev pub BareFront : List ℕ → List ℕ × List ℕ → Type 0
BareFront text (value, rest) = (Token or Ipv6) value × Stops is_bare_byte rest × (text ≡ value ++ rest)

-- a quoted string at the front of the text, and what is left
abbrev pub QuotedFront : List ℕ → List ℕ × List ℕ → Type 0
QuotedFront text (value, rest) = Quoted value × (text ≡ value ++ rest)

-- what stands at the front of the text from "[" to the first "]", and what is left
abbrev pub BracketFront : List ℕ → List ℕ × List ℕ → Type 0
BracketFront text (part, rest) =
    (inner : List ℕ) × AllByRecursion (λ byte. (byte == right_bracket) ≡ false) inner
    × (part ≡ left_bracket ∷ (inner ++ right_bracket ∷ [])) × (text ≡ part ++ rest)

-- an IPv6 address in brackets at the front of the text, and what is left
abbrev pub ReferenceFront : List ℕ → List ℕ × List ℕ → Type 0
ReferenceFront text (value, rest) = Bracketed value × (text ≡ value ++ rest)

-- a parameter's value at the front of the text, and what is left
abbrev pub ValueFront : List ℕ → List ℕ × List ℕ → Type 0
ValueFront text value = QuotedFront text value ⊎ (ReferenceFront text value ⊎ BareFront text value)

-- [ mark part ] at the front of the text, and what is left
abbrev pub LedFront : ℕ → (List ℕ → List ℕ × List ℕ → Type 0) → List ℕ → Option (List ℕ) × List ℕ → Type 0
LedFront mark Part text (None, rest) = ((inner : List ℕ) → ¬ (MarkFront mark text inner)) × (rest ≡ text)
LedFront mark Part text (Some part, rest) = (inner : List ℕ) × MarkFront mark text inner × Part inner (part, rest)

-- SEMI generic-param at the front of the text, and what is left
abbrev pub ParamFront : List ℕ → Param × List ℕ → Type 0
ParamFront text =
    Seq (MarkFront semicolon text) (λ inner.
    Seq (TokenFront inner) (λ name.
    Seq (LedFront equals ValueFront (name.1)) (λ value p. p ≡ ((name.0, value.0), value.1))))

-- *( SEMI generic-param ) at the front of the text, and what is left
abbrev pub ParamsFront : List ℕ → List Param → List ℕ → Type 0
ParamsFront text [] rest = rest ≡ text
ParamsFront text (param ∷ params) rest =
    (more : List ℕ) × ParamFront text (param, more) × ParamsFront more params rest

-- all parameters at the front of the text, and what is left, at whose front no parameter stands
abbrev pub AllParamsFront : List ℕ → List Param × List ℕ → Type 0
AllParamsFront text (params, rest) =
    ParamsFront text params rest × ((next : Param × List ℕ) → ¬ (ParamFront rest next))

-- an optional part and the rest, as the code's borrows mean them
abbrev pub led_parts : Option (Bor (List ℕ)) × Bor (List ℕ) → Option (List ℕ) × List ℕ
led_parts (part, rest) = (option_copied part, rest.now)

-- a parameter and the rest, as the code's borrows mean them
abbrev pub param_parts : Bor (List ℕ) × Option (Bor (List ℕ)) × Bor (List ℕ) → Param × List ℕ
param_parts (name, value, rest) = ((name.now, option_copied value), rest.now)
