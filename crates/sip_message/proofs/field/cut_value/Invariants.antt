use Rattle.std.proofs.Common.{◌+◌, length, ◌-◌, ◌≡◌, drop, map}
use Rattle.sip_message.specs.inner.MessageText.{found_from}
use Rattle.sip_message.specs.inner.Views.{field_parts}
use Rattle.sip_message.specs.Field.{values}
use Rattle.sip_message.proofs.field.cut_value.Given as goal

-- no field of the name stands between the place from which they are looked for and the index
abbrev pub invariant-loop-at : goal.invariant-loop-at
invariant-loop-at l = record {
  -- the values from both places on are the same, and so are the fields that are found
  values : values l.name (drop l.fn.from (map field_parts l.fields)) ≡ values l.name (drop l.at (map field_parts l.fields));
  found : found_from (l.fn.from + 1) l.name (drop l.fn.from (map field_parts l.fields)) ≡ found_from (l.at + 1) l.name (drop l.at (map field_parts l.fields));
}

-- each turn of the loop goes on by a field
abbrev pub decreases-loop-at : goal.decreases-loop-at
decreases-loop-at l = length l.fields - l.at
