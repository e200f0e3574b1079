-- What the code's names are.
use Rattle.std.specs.Prelude.{ℕ, List, Option, None, Some}
use Rattle.std.specs.Borrow.{Bor}
use Rattle.sip_message.specs.declared.name.Known.{Known}
use Rattle.sip_message.specs.declared.name.Name.{Name}
use Rattle.sip_message.specs.Name.{FieldName, known, other}
use Rattle.sip_message.specs.inner.Views.{name_parts}

-- the known name, or else the text as another name
abbrev pub name_or : Option Known → List ℕ → FieldName
name_or None text = other text
name_or (Some name) text = known name

-- a name that the code cut off a line, and what follows its colon
abbrev pub named_parts : Name × Bor (List ℕ) → FieldName × List ℕ
named_parts (name, rest) = (name_parts name, rest.now)
