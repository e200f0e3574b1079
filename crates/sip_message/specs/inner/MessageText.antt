-- The bytes of a message, as its readers read them (RFC 3261, section 7), and the message with its values unfolded.
use Rattle.std.specs.Prelude.{◌≡◌, ◌||◌, ℕ, ◌+◌, ◌≤◌, Bool, true, List, [], ◌∷◌, length, map, codes, bytes_eq, Option, is_some, IfSome, if◌then◌else◌}
use Rattle.std.specs.List.{AllByRecursion}
use Rattle.sip_standard.specs.Case.{folded}
use Rattle.sip_message.specs.declared.name.Known.{Known}
use Rattle.sip_message.specs.declared.name.Known.TheVariants as known_name
use Rattle.sip_standard.specs.Lines.{CutSays, LinesSay}
use Rattle.sip_message.specs.inner.Lines.{HasNoBareEnd}
use Rattle.sip_message.specs.Name.{is_name_of}
use Rattle.sip_standard.specs.StartLine.{StartLine, StartSays}
use Rattle.sip_message.specs.Field.{Field}
use Rattle.sip_message.specs.Message.{Message}
use Rattle.sip_message.specs.inner.FieldText.{FieldsText}
use Rattle.sip_standard.specs.Canonical.{unfolded}
use Rattle.sip_standard.specs.Body.{length_in, cut_body, MethodSays, StreamSays}

-- the values of the fields of the name, each with the number of its line, where the lines are numbered from n
abbrev pub found_from : ℕ → Known → List Field → List (ℕ × List ℕ)
found_from n name [] = []
found_from n name (f ∷ fs) =
    if is_name_of name f.name then (n, f.value) ∷ found_from (n + 1) name fs else found_from (n + 1) name fs

-- the values of the fields of the name, each with the number of its line, where the first field is line 1
abbrev pub found : Known → List Field → List (ℕ × List ℕ)
found name fields = found_from 1 name fields

-- this is the value of the first field of the name, with the number of its line
abbrev pub IsFirstFound : Known → List Field → ℕ × List ℕ → Type 0
IsFirstFound name fields one = (more : List (ℕ × List ℕ)) × (found name fields ≡ one ∷ more)

-- a field has the name
abbrev pub HasField : Known → List Field → Type 0
HasField name fields = (one : ℕ × List ℕ) × IsFirstFound name fields one

-- at most one field has the name
abbrev pub IsNotTwice : Known → List Field → Type 0
IsNotTwice name fields = length (found name fields) ≤ 1

-- a transport is a stream where it is TCP or TLS
abbrev pub is_stream : List ℕ → Bool
is_stream transport = bytes_eq (folded transport) (codes "tcp") || bytes_eq (folded transport) (codes "tls")

-- where the transport is a stream, there is a Content-Length (section 18.3)
abbrev pub HasLength : List ℕ → Option ℕ → Type 0
HasLength via len = StreamSays via → is_some len ≡ true

-- the bytes after the head are at least as many as Content-Length says
abbrev pub IsEnough : Option ℕ → List ℕ → Type 0
IsEnough len rest = IfSome len (λ n. n ≤ length rest)

-- where the transport is a stream, the bytes after the head are not more than Content-Length says
abbrev pub IsNoMore : List ℕ → Option ℕ → List ℕ → Type 0
IsNoMore via len rest = StreamSays via → IfSome len (λ n. length rest ≤ n)

-- the number of the one Content-Length, if there is one
abbrev pub content_length : List Field → Option ℕ
content_length fields = length_in (found known_name.ContentLength fields)

-- what a message demands of its fields and its body, where they follow this start line and `rest` follows the head
pub record MessageFits (start : StartLine) (fields : List Field) (rest : List ℕ) : Type 0 where
  pub via : HasField known_name.Via fields
  pub from_once : IsNotTwice known_name.From fields
  pub from : HasField known_name.From fields
  pub to_once : IsNotTwice known_name.To fields
  pub to : HasField known_name.To fields
  -- Call-ID, CSeq and Content-Length stand once at most, and the first two stand there
  pub call_id_once : IsNotTwice known_name.CallId fields
  pub call_id : HasField known_name.CallId fields
  pub cseq_once : IsNotTwice known_name.CSeq fields
  pub cseq : HasField known_name.CSeq fields
  pub length_once : IsNotTwice known_name.ContentLength fields
  -- the method and the body fit the start line, the Via and the length
  pub method : MethodSays start (cseq.0.1)
  pub has_length : HasLength (via.0.1) (content_length fields)
  pub enough : IsEnough (content_length fields) rest
  pub no_more : IsNoMore (via.0.1) (content_length fields) rest

-- the bytes are the text of the message, with its values as they are spelled
pub record MessageText (bytes : List ℕ) (m : Message) : Type 0 where
  pub head : List ℕ
  pub rest : List ℕ
  pub first : List ℕ
  pub others : List (List ℕ)
  pub is_head : CutSays bytes (head, rest)
  pub no_bare : HasNoBareEnd head
  pub are_lines : LinesSay head first others
  -- the start line and the fields are what the lines say, and the body has its length
  pub is_start : StartSays first m.start
  pub are_fields : FieldsText others m.fields
  pub fits : MessageFits m.start m.fields rest
  pub body_is : m.body ≡ cut_body (content_length m.fields) rest

-- the field with its value unfolded
abbrev pub unfolded_field : Field → Field
unfolded_field f = record { name = f.name; value = unfolded f.value }

-- no value of the fields is folded: each is as it is when it is unfolded
abbrev pub AreUnfolded : List Field → Type 0
AreUnfolded = AllByRecursion (λ f. unfolded f.value ≡ f.value)

-- the message with its values unfolded
abbrev pub message_of : Message → Message
message_of m = record { start = m.start; fields = map unfolded_field m.fields; body = m.body }

-- the bytes spell the message, whose values are unfolded
abbrev pub Spells : List ℕ → Message → Type 0
Spells bytes m = (spelled : Message) × MessageText bytes spelled × (m ≡ message_of spelled)
