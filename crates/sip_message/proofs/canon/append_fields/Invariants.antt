use Rattle.std.proofs.Common.{take, map, ◌≡◌, ◌++◌}
use Rattle.sip_message.specs.inner.Canon.{fields_text}
use Rattle.sip_message.specs.inner.Views.{field_parts}
use Rattle.sip_message.proofs.canon.append_fields.Given as goal

-- the text of the fields so far was appended
abbrev pub invariant-fields : goal.invariant-fields
invariant-fields l = l.out.items ≡ l.fn.out.items ++ fields_text l.may_fold (map field_parts (take l.field-index l.fields))
