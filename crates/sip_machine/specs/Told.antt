-- A phase in words of the code, whose messages are numbers of a book.
use Rattle.std.specs.Prelude.{ℕ, map}
use Rattle.sip_standard.specs.Told.{ToldField, Told, Flag, Number, Message}
pub use Rattle.sip_phases.specs.Told.{field_message, messages_told}
use Rattle.sip_machine.specs.declared.told.ToldField.{ToldField as CodeField}
use Rattle.sip_machine.specs.declared.told.ToldField.TheVariants as code
use Rattle.sip_machine.specs.declared.told.Told.{Told as CodeTold}

-- a field that a phase of the code tells, in the words of a listing
abbrev pub field_of_code : CodeField → ToldField ℕ
field_of_code (code.Flag name is) = Flag name.now is
field_of_code (code.Number name value) = Number name.now value
field_of_code (code.Message name message) = Message name.now message

-- a phase in words of the code, as a phase in words
abbrev pub told_of : CodeTold → Told ℕ
told_of told = record { name = told.name.now; fields = map field_of_code told.fields.items }
