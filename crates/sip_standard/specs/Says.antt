-- What bytes say, or their first fault (RFC 3261, section 7).
-- The numbers before colons, as 3 to 11, are those of the faults (reason_number in Reason.antt).
use Rattle.std.specs.Prelude.{◌≡◌, ℕ, ◌&&◌, ◌==◌, not, List, [], ◌∷◌, ◌++◌}
use Rattle.std.specs.List.{join_with_byte}
use Rattle.sip_standard.specs.Text.{One, ◌or◌, Many}
use Rattle.sip_standard.specs.Chars.{Lit}
use Rattle.sip_standard.specs.declared.fault.Reason.TheVariants as reason
use Rattle.sip_standard.specs.Outcome.{Outcome, gives, Gives, Demand, Holds, Then}
use Rattle.sip_standard.specs.Faults.{fault_in_head, fault_in_line}
use Rattle.sip_standard.specs.StartLine.{StartLine, StartSays}
use Rattle.sip_standard.specs.Via.{SaidVia, ViasSay}
use Rattle.sip_standard.specs.Values.{CSeqSays}
use Rattle.sip_standard.specs.Field.{SaidField, all, said_values, FieldsSay, NamesSay}
use Rattle.sip_standard.specs.Body.{length_in, BodySays}
use Rattle.sip_standard.specs.Lines.{CutSays, LinesSay}

-- 3 to 11: the start line, the fields and the body of these lines, with this after the head
abbrev pub LinesTell : List ℕ → List ℕ → List (List ℕ) → Outcome (StartLine × List SaidField × List ℕ) → Type 0
LinesTell rest first others =
    Then (Demand (StartSays first) (fault_in_line 0 reason.StartLine)) (λ start. Then (FieldsSay 1 others) (λ fields. Then (NamesSay fields) (λ names.
    Then (BodySays start (names.1) (names.0.1) (length_in (all "content-length" fields)) rest) (λ body. Gives (start, fields, body)))))

-- 1 to 11: what the lines of the bytes tell, in whose head no CR stands without LF, and no LF without CR
abbrev pub BytesTell : List ℕ → Outcome (StartLine × List SaidField × List ℕ) → Type 0
BytesTell bytes =
    Then (Demand (CutSays bytes) (fault_in_head reason.NoHeadEnd)) (λ cut.
    Then (Holds (Many (Lit "\r\n" or One (λ byte. not (byte == 0x0D) && not (byte == 0x0A))) (cut.0)) (fault_in_head reason.BareLineEnd)) (λ _ out.
    (first : List ℕ) × (others : List (List ℕ)) × LinesSay (cut.0) first others × LinesTell (cut.1) first others out))

-- what a message says, its Route fields joined by commas
pub record Said : Type 0 where
  pub start : StartLine
  pub via : SaidVia
  pub others : List SaidVia
  pub from : List ℕ
  pub to : List ℕ
  pub call_id : List ℕ
  pub cseq : ℕ × List ℕ
  pub route : List ℕ

-- what the values of Via say, one after another
abbrev pub ViasTell : List (List ℕ) → List SaidVia → Type 0
ViasTell [] vias = vias ≡ []
ViasTell (value ∷ values) vias = (now : List SaidVia) × (more : List SaidVia) × ViasSay now value × ViasTell values more × (vias ≡ now ++ more)

-- the text is the first of these values
abbrev pub IsFirstOf : List (List ℕ) → List ℕ → Type 0
IsFirstOf values text = (more : List (List ℕ)) × (values ≡ text ∷ more)

-- what a start line and fields say together; the byte 44 is the comma
pub record FieldsTell (start : StartLine) (fields : List SaidField) (said : Said) : Type 0 where
  pub start_is : said.start ≡ start
  pub vias : ViasTell (said_values "via" fields) (said.via ∷ said.others)
  pub from : IsFirstOf (said_values "from" fields) said.from
  pub to : IsFirstOf (said_values "to" fields) said.to
  pub call_id : IsFirstOf (said_values "call-id" fields) said.call_id
  pub cseq : (text : List ℕ) × IsFirstOf (said_values "cseq" fields) text × CSeqSays said.cseq text
  pub route_is : said.route ≡ join_with_byte 44 (said_values "route" fields)

-- what the bytes say, or their first fault
abbrev pub Says : List ℕ → Outcome Said → Type 0
Says bytes = Then (BytesTell bytes) (λ told out. (said : Said) × FieldsTell (told.0) (told.1) said × (out ≡ gives said))
