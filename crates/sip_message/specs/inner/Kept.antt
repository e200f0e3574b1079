-- What is kept of fields as they are read.
use Rattle.std.specs.Prelude.{◌≡◌, ℕ, List, [], ◌∷◌, ◌++◌, Option, None, Some}
use Rattle.std.specs.Option.{option_map}
use Rattle.sip_message.specs.inner.Parts.{HasParts}
use Rattle.sip_message.specs.inner.Only.{IsOnly}
use Rattle.sip_message.specs.declared.kept.Kept.{Kept}
use Rattle.sip_message.specs.declared.name.Known.TheVariants as known_name
use Rattle.sip_message.specs.Field.{Field, values}
use Rattle.sip_message.specs.Message.{Message}
use Rattle.sip_message.specs.inner.Values.{CSeqValue}
use Rattle.sip_message.specs.Reading.{Parts}
use Rattle.sip_standard.specs.Via.{SaidVia}
use Rattle.sip_standard.specs.Says.{IsFirstOf}
use Rattle.sip_message.specs.inner.MessageText.{MessageText}
use Rattle.sip_message.specs.ValueParts.{element, cseq_parts}
use Rattle.sip_message.specs.inner.ElementFronts.{FirstVia}

-- some bytes are the text of the message, p are the parts of its named fields, and v, f, t, i and c are the first values of their names
pub record Keeps (m : Message) (p : Parts) (v f t i c : List ℕ) : Type 0 where
  pub parts : IsOnly (HasParts m.fields) p
  pub spelled : (bytes : List ℕ) × MessageText bytes m
  pub via : IsFirstOf (values known_name.Via m.fields) v
  pub from : IsFirstOf (values known_name.From m.fields) f
  pub to : IsFirstOf (values known_name.To m.fields) t
  pub call_id : IsFirstOf (values known_name.CallId m.fields) i
  pub cseq : IsFirstOf (values known_name.CSeq m.fields) c

-- what the first of these values says, or None where there is no value
abbrev pub SaysFirst : {X : Type 0} → (List ℕ → X → Type 0) → List (List ℕ) → Option X → Type 0
SaysFirst R [] said = said ≡ None
SaysFirst {X = X} R (value ∷ more) said = (x : X) × R value x × (said ≡ Some x)

-- what is kept is what the first Via and the first CSeq of these fields say
pub record KeptOf (fields : List Field) (kept : Kept) : Type 0 where
  pub via : SaysFirst FirstVia (values known_name.Via fields) (option_map element kept.via)
  pub cseq : SaysFirst CSeqValue (values known_name.CSeq fields) (option_map cseq_parts kept.cseq)

-- where `old` is kept of some fields, `new` is kept of them and a further field f
abbrev pub KeepsMore : Field → Kept → Kept → Type 0
KeepsMore f old new = (fields : List Field) → KeptOf fields old → KeptOf (fields ++ f ∷ []) new

-- some bytes are the text of the message m, p are the parts of its named fields, e and s are what its top Via and its CSeq say, and
-- f, t and i are the first values of From, To and Call-ID
pub record KeepsRead (m : Message) (p : Parts) (e : SaidVia) (f t i : List ℕ) (s : ℕ × List ℕ) : Type 0 where
  pub via_text : List ℕ
  pub cseq_text : List ℕ
  pub keeps : Keeps m p via_text f t i cseq_text
  pub via : e ≡ p.via
  pub cseq : s ≡ p.cseq
