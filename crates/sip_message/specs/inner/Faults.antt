-- The reading of bytes as a message or a first fault. Each demand stands beside its fault, in the order of the faults, whose
-- numbers are those of `docs/standard/MESSAGE.md`.
use Rattle.std.specs.Prelude.{ℕ, ◌+◌, List, [], ◌∷◌}
use Rattle.sip_message.specs.declared.name.Known.TheVariants as known_name
use Rattle.sip_standard.specs.declared.fault.Reason.TheVariants as reason
use Rattle.sip_standard.specs.Outcome.{Outcome, Gives, Demand, Holds, Then}
use Rattle.sip_standard.specs.Lines.{CutSays, LinesSay}
use Rattle.sip_message.specs.inner.Lines.{HasNoBareEnd}
use Rattle.sip_message.specs.Name.{FieldName}
use Rattle.sip_standard.specs.StartLine.{StartLine, StartSays}
use Rattle.sip_message.specs.Field.{Field}
use Rattle.sip_message.specs.inner.FieldText.{NameText, ValueText, Row}
use Rattle.sip_message.specs.Message.{Message}
use Rattle.sip_message.specs.inner.MessageText.{found, content_length}
use Rattle.sip_standard.specs.Body.{BodySays}
use Rattle.sip_standard.specs.Faults.{fault_in_head, fault_in_line}
use Rattle.sip_standard.specs.Field.{FirstOf, NoSecond, OneOf}

-- the line begins with this name and a colon, and this follows the colon
abbrev pub HasName : List ℕ → FieldName × List ℕ → Type 0
HasName line named = NameText line (named.0) (named.1)

-- the value of what follows the colon is of the row of the name
abbrev pub IsValue : FieldName × List ℕ → List ℕ → Type 0
IsValue named value = ValueText (named.1) value × Row (named.0) value

-- faults 4 and 5: the line is a name and a colon, and after them a value of the row of the name
abbrev pub FieldOf : ℕ → List ℕ → Outcome Field → Type 0
FieldOf n line =
    Then (Demand (HasName line) (fault_in_line n reason.FieldLine)) (λ named.
    Then (Demand (IsValue named) (fault_in_line n reason.Value)) (λ value.
    Gives (record { name = named.0; value = value })))

-- the reading of lines as fields; the lines are numbered from n
abbrev pub FieldsOf : ℕ → List (List ℕ) → Outcome (List Field) → Type 0
FieldsOf n [] = Gives []
FieldsOf n (line ∷ lines) = Then (FieldOf n line) (λ f. Then (FieldsOf (n + 1) lines) (λ fs. Gives (f ∷ fs)))

-- faults 6 and 7: which fields must stand, and which at most once; it gives the first Via and the CSeq
abbrev pub NamesOf : List Field → Outcome ((ℕ × List ℕ) × (ℕ × List ℕ)) → Type 0
NamesOf fields =
    Then (FirstOf (found known_name.Via fields)) (λ via.
    Then (OneOf (found known_name.From fields)) (λ _.
    Then (OneOf (found known_name.To fields)) (λ _.
    Then (OneOf (found known_name.CallId fields)) (λ _.
    Then (OneOf (found known_name.CSeq fields)) (λ cseq.
    Then (NoSecond (found known_name.ContentLength fields)) (λ _. Gives (via, cseq)))))))

-- faults 3 to 11: the reading of the lines of a head, and of what follows it
abbrev pub LinesOf : List ℕ → List ℕ → List (List ℕ) → Outcome Message → Type 0
LinesOf rest first others =
    Then (Demand (StartSays first) (fault_in_line 0 reason.StartLine)) (λ start.
    Then (FieldsOf 1 others) (λ fields.
    Then (NamesOf fields) (λ names.
    Then (BodySays start (names.1) (names.0.1) (content_length fields) rest) (λ body.
    Gives (record { start = start; fields = fields; body = body })))))

-- faults 3 to 11: the reading of a head by its logical lines, and of what follows it
abbrev pub HeadOf : List ℕ → List ℕ → Outcome Message → Type 0
HeadOf head rest out =
    (first : List ℕ) × (others : List (List ℕ)) × LinesSay head first others × LinesOf rest first others out

-- faults 1 to 11: the reading of bytes
abbrev pub ReadOf : List ℕ → Outcome Message → Type 0
ReadOf bytes =
    Then (Demand (CutSays bytes) (fault_in_head reason.NoHeadEnd)) (λ cut.
    Then (Holds (HasNoBareEnd (cut.0)) (fault_in_head reason.BareLineEnd)) (λ _.
    HeadOf (cut.0) (cut.1)))
