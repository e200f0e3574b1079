-- What the stages of the reader find.
use Rattle.std.specs.Prelude.{ℕ, List, Option}
use Rattle.std.specs.Option.{option_map}
use Rattle.std.specs.Str.Parse.{digits_value}
use Rattle.sip_standard.specs.Body.{BodySays}
use Rattle.sip_message.specs.declared.name.Known.TheVariants as known_name
use Rattle.sip_message.specs.declared.start_line.StartLine.{StartLine}
use Rattle.sip_message.specs.declared.stages.Named.{Named}
use Rattle.sip_message.specs.declared.values.CSeq.{CSeq}
use Rattle.sip_message.specs.declared.via.Via.{Via}
use Rattle.sip_message.specs.Field.{Field, values}
use Rattle.sip_standard.specs.Outcome.{gives}
use Rattle.sip_standard.specs.Says.{IsFirstOf}
use Rattle.sip_message.specs.inner.Values.{CSeqValue}
use Rattle.sip_message.specs.ValueParts.{start_parts, element, cseq_parts}
use Rattle.sip_message.specs.inner.ElementFronts.{FirstVia}

-- the first Via and the CSeq that the code found, with the numbers of their lines
abbrev pub names_parts : Named → (ℕ × List ℕ) × (ℕ × List ℕ)
names_parts n = ((n.via_line, n.via.now), (n.cseq_line, n.cseq.now))

-- the values of the named fields, those of Via and CSeq with the numbers of their lines
pub record Names : Type 0 where
  pub via : ℕ × List ℕ
  pub from : List ℕ
  pub to : List ℕ
  pub call_id : List ℕ
  pub cseq : ℕ × List ℕ

-- the values of the named fields that the code found
abbrev pub names_of : Named → Names
names_of n = record {
  via = (n.via_line, n.via.now);
  from = n.from.now;
  to = n.to.now;
  call_id = n.call_id.now;
  cseq = (n.cseq_line, n.cseq.now);
}

-- these are the values of the first fields of the named fields' names
pub record Stand (fields : List Field) (n : Names) : Type 0 where
  pub via : IsFirstOf (values known_name.Via fields) (n.via.1)
  pub from : IsFirstOf (values known_name.From fields) n.from
  pub to : IsFirstOf (values known_name.To fields) n.to
  pub call_id : IsFirstOf (values known_name.CallId fields) n.call_id
  pub cseq : IsFirstOf (values known_name.CSeq fields) (n.cseq.1)

-- the demands on the method and the body give this body, for each Via value that begins with this element and each value with this CSeq
abbrev pub HasBody : StartLine → Via → CSeq → Option (List ℕ) → List ℕ → List ℕ → Type 0
HasBody start via cseq len rest body =
    (v c : ℕ × List ℕ) → FirstVia (v.1) (element via) → CSeqValue (c.1) (cseq_parts cseq)
    → BodySays (start_parts start) c (v.1) (option_map (digits_value 10) len) rest (gives body)
