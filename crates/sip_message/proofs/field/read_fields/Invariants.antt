use Rattle.std.proofs.Common.{ℕ, List, length}
use Rattle.sip_message.specs.inner.Lines.{AreLines}
use Rattle.sip_message.specs.inner.Kept.{KeptOf}
use Rattle.sip_message.specs.inner.Views.{fields_parts}
use Rattle.sip_message.proofs.lemmas.lines.Reading.{SoFar}
use Rattle.sip_message.proofs.field.read_fields.Given as goal

-- the fields are those of the lines that were read, and what is kept of them is what is asked for
abbrev pub invariant-lines : goal.invariant-lines
invariant-lines l =
    -- of whatever lines the text is, those read so far are the fields, and the rest is the others
    ((lines : List (List ℕ)) → AreLines l.fn.text lines → SoFar lines l.rest (fields_parts l.fields))
    × KeptOf (fields_parts l.fields) l.kept

-- what is left gets shorter in each turn of the loop
abbrev pub decreases-lines : goal.decreases-lines
decreases-lines l = length l.rest
