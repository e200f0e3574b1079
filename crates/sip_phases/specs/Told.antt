-- The messages that a phase in words tells.
use Rattle.std.specs.Prelude.{Option, None, List}
use Rattle.std.specs.List.{filter_map}
use Rattle.sip_standard.specs.Told.{ToldField, Told, Message}

-- the message that a field tells, if it tells one
abbrev pub field_message : {M : Type 0} → ToldField M → Option M
field_message (Message name message) = message
field_message field = None

-- the messages that a phase in words tells, in order
abbrev pub messages_told : {M : Type 0} → Told M → List M
messages_told told = filter_map field_message told.fields
