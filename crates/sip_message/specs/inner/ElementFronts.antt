-- An element of Via at the front of a text, and those that are left, one after another.
use Rattle.std.specs.Prelude.{◌≡◌, ◌⊎◌, ℕ, List, [], ◌∷◌, ◌++◌}
use Rattle.std.specs.Borrow.{Bor}
use Rattle.sip_standard.specs.Text.{◌then◌}
use Rattle.sip_standard.specs.Chars.{EachSays}
use Rattle.sip_standard.specs.Via.{SaidVia, ViaSays, ViasSay}
use Rattle.sip_standard.specs.Says.{ViasTell}
use Rattle.sip_message.specs.declared.via.Via.{Via}
use Rattle.sip_message.specs.ValueParts.{element}
use Rattle.sip_message.specs.inner.Marks.{comma, Mark}
use Rattle.sip_message.specs.inner.Fronts.{MarkFront}

-- *( COMMA via-parm )
abbrev pub MoreSay : List SaidVia → List ℕ → Type 0
MoreSay = EachSays (λ v. Mark comma then ViaSays v)

-- the elements that are left: those in the rest of a value, each after a comma, and those of the values after it
pub record AreLeft (rest : List ℕ) (values : List (List ℕ)) (es : List SaidVia) : Type 0 where
  pub now : List SaidVia
  pub more : List SaidVia
  pub are_now : MoreSay now rest
  pub are_more : ViasTell values more
  pub whole : es ≡ now ++ more

-- the elements that are left are those of this text and of the values `more`: the next one begins the text
pub record NextText (rest : List ℕ) (values : List (List ℕ)) (text : List ℕ) (more : List (List ℕ)) : Type 0 where
  pub to : (es : List SaidVia) → AreLeft rest values es → ViasTell (text ∷ more) es
  pub from : (es : List SaidVia) → ViasTell (text ∷ more) es → AreLeft rest values es

-- an element ends where the text does, or before a comma
abbrev pub EndsElement : List ℕ → Type 0
EndsElement rest = (rest ≡ []) ⊎ ((next : List ℕ) × MarkFront comma rest next)

-- an element of Via at the front of the text, and what is left, where the element ends
abbrev pub ViaFront : List ℕ → SaidVia × List ℕ → Type 0
ViaFront text (v, rest) = ViaSays v v.whole × (text ≡ v.whole ++ rest) × EndsElement rest

-- the text is elements of Via, and this is the first of them
abbrev pub FirstVia : List ℕ → SaidVia → Type 0
FirstVia text v = (more : List SaidVia) × ViasSay (v ∷ more) text

-- the element and the rest that the code's Via and its borrow mean
abbrev pub front_parts : Via × Bor (List ℕ) → SaidVia × List ℕ
front_parts (v, rest) = (element v, rest.now)
