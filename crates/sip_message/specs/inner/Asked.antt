-- What the quick reader keeps of the fields that are asked for, as they come.
use Rattle.std.specs.Prelude.{◌≡◌, ℕ, Bool, List, [], ◌∷◌, ◌++◌, Option, None, Some, is_some, option_copied}
use Rattle.std.specs.Option.{option_map, option_or}
use Rattle.sip_message.specs.declared.asked.Asked.{Asked}
use Rattle.sip_message.specs.declared.name.Known.{Known}
use Rattle.sip_message.specs.declared.name.Known.TheVariants as known_name
use Rattle.sip_message.specs.declared.via.Via.{Via}
use Rattle.sip_message.specs.Field.{Field}
use Rattle.sip_message.specs.inner.MessageText.{found, IsFirstFound}
use Rattle.sip_message.specs.inner.Values.{CSeqValue}
use Rattle.sip_message.specs.ValueParts.{element, cseq_parts}
use Rattle.sip_message.specs.inner.Only.{IsOnlyValue}
use Rattle.sip_message.specs.inner.ElementFronts.{FirstVia}

-- what the one field of the name says, or None where there is no field of the name
abbrev pub OnceSays : {X : Type 0} → (List ℕ → X → Type 0) → Known → List Field → Option X → Type 0
OnceSays R k fields None = found k fields ≡ []
OnceSays R k fields (Some x) = (one : ℕ × List ℕ) × (found k fields ≡ one ∷ []) × R (one.1) x

-- what the first field of the name says, or None where there is no field of the name
abbrev pub FirstSays : {X : Type 0} → (List ℕ → X → Type 0) → Known → List Field → Option X → Type 0
FirstSays R k fields None = found k fields ≡ []
FirstSays R k fields (Some x) = (one : ℕ × List ℕ) × IsFirstFound k fields one × R (one.1) x

-- a value says itself
abbrev pub Itself : List ℕ → List ℕ → Type 0
Itself value text = text ≡ value

-- what the quick reader keeps is what these fields say: the first Via, and the one field of each other name
pub record AskedOf (fields : List Field) (a : Asked) : Type 0 where
  pub via : FirstSays FirstVia known_name.Via fields (option_map element a.via)
  pub from : OnceSays Itself known_name.From fields (option_copied a.from)
  pub to : OnceSays Itself known_name.To fields (option_copied a.to)
  pub call_id : OnceSays Itself known_name.CallId fields (option_copied a.call_id)
  pub cseq : OnceSays CSeqValue known_name.CSeq fields (option_map cseq_parts a.cseq)
  pub content_length : OnceSays Itself known_name.ContentLength fields (option_copied a.content_length)

-- where `old` is kept of some fields, `new` is kept of them and a further field f
abbrev pub AsksMore : Field → Asked → Asked → Type 0
AsksMore f old new = (fields : List Field) → AskedOf fields old → AskedOf (fields ++ f ∷ []) new

-- whether the text says an element of Via; what it says is kept where no element is kept yet
abbrev pub KeepsVia : List ℕ → Bool → Option Via → Option Via → Type 0
KeepsVia text is old new =
    (said : Option Via) × IsOnlyValue FirstVia element text said × (is ≡ is_some said) × (new ≡ option_or old said)
