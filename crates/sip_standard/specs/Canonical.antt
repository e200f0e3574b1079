-- The canonical form of a message: each field in one line, by its full name. The standard names none; this one is its own.
use Rattle.std.specs.Prelude.{◌≡◌, ℕ, ◌||◌, ◌==◌, Bool, List, [], ◌∷◌, ◌++◌, map, flat_map, codes, bytes_eq, decimal, if◌then◌else◌}
use Rattle.std.specs.List.{list_any}
use Prim.Native.String.{String}
use Rattle.sip_standard.specs.Case.{folded}
use Rattle.sip_standard.specs.Outcome.{gives}
use Rattle.sip_standard.specs.StartLine.{StartLine, request, status}
use Rattle.sip_standard.specs.Field.{SaidField, is_lws_byte}
use Rattle.sip_standard.specs.Says.{BytesTell}

-- the name of a field in full, where it is one of these or its compact form, by `has` without case (sections 7.3.3 and 20); any other as it is spelled
abbrev pub long_name : List ℕ → List ℕ
long_name name =
    let has = λ (text : String). bytes_eq (folded name) (codes text) in
    if has "via" || has "v" then codes "Via" else if has "from" || has "f" then codes "From" else if has "to" || has "t" then codes "To"
    else if has "call-id" || has "i" then codes "Call-ID" else if has "cseq" then codes "CSeq"
    else if has "content-length" || has "l" then codes "Content-Length" else if has "contact" || has "m" then codes "Contact"
    else if has "content-encoding" || has "e" then codes "Content-Encoding" else if has "content-type" || has "c" then codes "Content-Type"
    else if has "subject" || has "s" then codes "Subject" else if has "supported" || has "k" then codes "Supported"
    else if has "route" then codes "Route" else name

-- CR or LF
abbrev pub is_end_byte : ℕ → Bool
is_end_byte byte = byte == 0x0D || byte == 0x0A

-- a longest blank run that holds a line end is one SP (section 7.3.1), any other is as it is
abbrev pub unfolded_run : List ℕ → List ℕ
unfolded_run run = if list_any is_end_byte run then 0x20 ∷ [] else run

-- a text whose blanks so far are `run`, with each longest blank run unfolded
abbrev pub unfolded_from : List ℕ → List ℕ → List ℕ
unfolded_from run [] = unfolded_run run
unfolded_from run (byte ∷ text) =
    if is_lws_byte byte then unfolded_from (run ++ byte ∷ []) text
    else unfolded_run run ++ byte ∷ unfolded_from [] text

-- the text with each longest blank run that holds a line end replaced by one SP
abbrev pub unfolded : List ℕ → List ℕ
unfolded text = unfolded_from [] text

-- the start line, with SIP/2.0
abbrev pub start_text : StartLine → List ℕ
start_text (request method uri) = method ++ (codes " " ++ (uri ++ codes " SIP/2.0"))
start_text (status code reason) = codes "SIP/2.0 " ++ (decimal code ++ (codes " " ++ reason))

-- a field: its name, ": ", and its value in one line
abbrev pub field_text : SaidField → List ℕ
field_text f = long_name f.spelled ++ (codes ": " ++ unfolded f.value)

-- a start line, fields and a body: each line with its end, an empty line, and the body
abbrev pub canonical : StartLine × List SaidField × List ℕ → List ℕ
canonical (start, fields, body) = flat_map (λ line. line ++ codes "\r\n") (start_text start ∷ map field_text fields) ++ (codes "\r\n" ++ body)

-- the text is the canonical form of what the bytes tell
abbrev pub IsCanonical : List ℕ → List ℕ → Type 0
IsCanonical bytes text = (told : StartLine × List SaidField × List ℕ) × BytesTell bytes (gives told) × (text ≡ canonical told)
