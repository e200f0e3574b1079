-- A line of a head as a field (RFC 3261, section 7.3).
use Rattle.std.specs.Prelude.{◌≡◌, ℕ, false, List, [], ◌∷◌, ⊤}
use Rattle.sip_standard.specs.Text.{One, Exactly, ◌then◌, Many}
use Rattle.sip_standard.specs.Profile.{Token, Sws}
use Rattle.sip_text.specs.Bytes.{colon, Byte}
use Rattle.sip_text.specs.inner.Blanks.{is_wsp}
use Rattle.sip_standard.specs.Case.{folded}
use Rattle.sip_standard.specs.Field.{is_lws_byte, RowSays}
use Rattle.sip_message.specs.Name.{FieldName, known, other, long_name, name_of}
use Rattle.sip_message.specs.Field.{Field}
use Rattle.sip_message.specs.inner.Values.{OtherText}

-- the text does not begin with a byte of a blank run
abbrev pub OpensSolid : List ℕ → Type 0
OpensSolid [] = ⊤
OpensSolid (byte ∷ text) = is_lws_byte byte ≡ false

-- the text does not end with a byte of a blank run
abbrev pub EndsSolid : List ℕ → Type 0
EndsSolid [] = ⊤
EndsSolid (byte ∷ []) = is_lws_byte byte ≡ false
EndsSolid (byte ∷ next ∷ text) = EndsSolid (next ∷ text)

-- the values that a field of the name may have: its row
abbrev pub Row : FieldName → List ℕ → Type 0
Row (known name) = RowSays (folded (long_name name))
Row (other text) = OtherText

-- header-name HCOLON: a token, any SP and HTAB, a colon, and the rest of the line
pub record NameText (line : List ℕ) (name : FieldName) (rest : List ℕ) : Type 0 where
  pub spelled : List ℕ
  pub is_token : Token spelled
  pub name_is : name ≡ name_of spelled
  pub whole : (Exactly spelled then Many (One is_wsp) then Byte colon then Exactly rest) line

-- the value is what follows the colon, without the longest blank runs at its two ends
pub record ValueText (rest value : List ℕ) : Type 0 where
  pub opens : OpensSolid value
  pub ends : EndsSolid value
  pub whole : (Sws then Exactly value then Sws) rest

-- the line is this field: a name, a colon, and a value of the name's row
pub record FieldText (line : List ℕ) (f : Field) : Type 0 where
  pub rest : List ℕ
  pub named : NameText line f.name rest
  pub valued : ValueText rest f.value
  pub row : Row f.name f.value

-- the lines are these fields, one by one
abbrev pub FieldsText : List (List ℕ) → List Field → Type 0
FieldsText [] fields = fields ≡ []
FieldsText (line ∷ lines) fields =
    (f : Field) × (fs : List Field) × FieldText line f × FieldsText lines fs × (fields ≡ f ∷ fs)
