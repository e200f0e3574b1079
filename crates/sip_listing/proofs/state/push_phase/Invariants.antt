use Rattle.std.proofs.Common.{◌≡◌, ◌++◌, take, map, string_bytes}
use Rattle.std.specs.List.{flat_map}
use Rattle.sip_machine.specs.Told.{field_of_code}
use Rattle.sip_standard.specs.StateText.{told_text}
use Rattle.sip_listing.proofs.state.push_phase.Given as goal

-- the name of the phase and its fields so far were appended
abbrev pub invariant-loop-field : goal.invariant-loop-field
invariant-loop-field l =
    string_bytes l.line ≡ string_bytes l.fn.line ++ l.told.name.now ++ flat_map told_text (map field_of_code (take l.field-index l.told.fields.items))
