-- The canonical form of a message that is kept, and what is appended to bytes.
use Rattle.std.specs.Prelude.{ℕ, Bool, List, [], ◌∷◌, ◌++◌, map, ◌≡◌, ◌≤◌, ◌<◌, Result, Ok, Err, ⊤, if◌then◌else◌}
use Rattle.std.specs.List.{flat_map}
use Rattle.sip_text.specs.Bytes.{crlf, colon, space}
use Rattle.sip_message.specs.inner.Lines.{with_end}
use Rattle.sip_message.specs.Name.{FieldName, known, other, long_name}
use Rattle.sip_standard.specs.Canonical.{start_text, unfolded}
use Rattle.sip_message.specs.Field.{Field}
use Rattle.sip_message.specs.Message.{Message}
use Rattle.sip_standard.specs.StartLine.{StartLine, request, status}

-- the name as the canonical form writes it
abbrev pub name_text : FieldName → List ℕ
name_text (known name) = long_name name
name_text (other text) = text

-- a field: its name, ": ", and its value
abbrev pub field_text : Field → List ℕ
field_text f = name_text f.name ++ colon ∷ space ∷ f.value

-- a text after the end of the line before it
abbrev pub after_end : List ℕ → List ℕ
after_end text = crlf ++ text

-- what stands before the value of a field of this name: the end of the line before it, the name and ": "
abbrev pub front_text : FieldName → List ℕ
front_text name = after_end (name_text name ++ colon ∷ space ∷ [])

-- the canonical form of a message: each line with its end, an empty line, and the body
abbrev pub canon : Message → List ℕ
canon m = flat_map with_end (start_text m.start ∷ map field_text m.fields) ++ (crlf ++ m.body)

-- on success the text was appended to `old`; where memory was refused, some bytes were
abbrev pub Appends : {A E : Type 0} → List ℕ → List ℕ → List ℕ → Result A E → Type 0
Appends old new text (Ok _) = new ≡ old ++ text
Appends old new text (Err _) = (part : List ℕ) × (new ≡ old ++ part)

-- a status line's code has three digits, of which the first is 1 to 6
abbrev pub HasCode : StartLine → Type 0
HasCode (request method uri) = ⊤
HasCode (status code reason) = (100 ≤ code) × (code < 700)

-- a value as it is written: unfolded where it may be folded
abbrev pub written_value : Bool → List ℕ → List ℕ
written_value may_fold value = if may_fold then unfolded value else value

-- a field with its value as it is written
abbrev pub written_field : Bool → Field → Field
written_field may_fold f = record { name = f.name; value = written_value may_fold f.value }

-- the text of fields as they are written, each after the end of the line before it
abbrev pub fields_text : Bool → List Field → List ℕ
fields_text may_fold fields = flat_map after_end (map field_text (map (written_field may_fold) fields))
