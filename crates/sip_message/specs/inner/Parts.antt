-- The parts of the named fields, by the values of their names.
use Rattle.std.specs.Prelude.{ℕ, List, ◌∷◌}
use Rattle.sip_standard.specs.Values.{CSeqSays}
use Rattle.sip_standard.specs.Says.{ViasTell, IsFirstOf}
use Rattle.sip_message.specs.declared.name.Known.TheVariants as known_name
use Rattle.sip_message.specs.Field.{Field, values}
use Rattle.sip_message.specs.Reading.{Parts}

-- the fields have these parts, by the first field of each name and by all Via fields
pub record HasParts (fields : List Field) (p : Parts) : Type 0 where
  pub vias : ViasTell (values known_name.Via fields) (p.via ∷ p.others)
  pub from : IsFirstOf (values known_name.From fields) p.from
  pub to : IsFirstOf (values known_name.To fields) p.to
  pub call_id : IsFirstOf (values known_name.CallId fields) p.call_id
  pub cseq : (text : List ℕ) × IsFirstOf (values known_name.CSeq fields) text × CSeqSays p.cseq text
