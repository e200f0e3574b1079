-- What the code's values say.
use Rattle.std.specs.Prelude.{List, map}
use Rattle.std.specs.Global.{Vec}
use Rattle.std.specs.Borrow.{Bor}
use Rattle.sip_message.specs.declared.name.Name.{Name}
use Rattle.sip_message.specs.declared.name.Name.TheVariants as variant
use Rattle.sip_message.specs.declared.field.Field.{Field as Code}
use Rattle.sip_message.specs.Name.{FieldName, known, other}
use Rattle.sip_message.specs.Field.{Field}

-- the name that a name of the code means
abbrev pub name_parts : Name → FieldName
name_parts (variant.Known name) = known name
name_parts (variant.Other text) = other text.now

-- the field that a field of the code means
abbrev pub field_parts : Code → Field
field_parts f = record { name = name_parts f.name; value = f.value.now }

-- the fields that a vector holds
abbrev pub fields_parts : Vec Code → List Field
fields_parts fields = map field_parts fields.items

-- the fields that a slice holds
abbrev pub slice_fields : Bor (List Code) → List Field
slice_fields fields = map field_parts fields.now
