-- The fields of a message (RFC 3261, sections 7.3 and 20): each by itself, and which must stand, and which once.
-- "Lenient" marks where this profile takes more than the standard.
-- The numbers before colons, as 4 and 5, are those of the faults (reason_number in Reason.antt).
use Rattle.std.specs.Prelude.{◌≡◌, ℕ, ◌+◌, ◌≤◌, ◌||◌, ◌==◌, cond, Bool, List, [], ◌∷◌, length, map, filter, nat_le, codes, bytes_eq, if◌then◌else◌, ⊤}
use Rattle.std.specs.Int.{is_in_range}
use Rattle.std.specs.Char.{is_ascii_digit}
use Prim.Native.String.{String}
use Rattle.sip_standard.specs.Text.{One, Exactly, ◌then◌, ◌or◌, Many, OneOrMore}
use Rattle.sip_standard.specs.Case.{folded}
use Rattle.sip_standard.specs.Chars.{Lit, ◌is◌}
use Rattle.sip_standard.specs.Profile.{Token, Wsp, Lws, Sws}
use Rattle.sip_standard.specs.declared.fault.Reason.TheVariants as reason
use Rattle.sip_standard.specs.Outcome.{Outcome, Gives, Demand, Holds, Then}
use Rattle.sip_standard.specs.Faults.{fault_in_head, fault_in_line, second_line}
use Rattle.sip_standard.specs.Via.{SaidVia, ViasSay}
use Rattle.sip_standard.specs.Values.{Address, CallId, CSeqSays}

-- the name of a field without case, in full where it is compact (sections 7.3.1 and 7.3.3)
abbrev pub full_name : List ℕ → List ℕ
full_name name =
    let has = λ (compact : String). bytes_eq name (codes compact) in
    if has "v" then codes "via" else if has "f" then codes "from" else if has "t" then codes "to" else if has "i" then codes "call-id"
    else if has "l" then codes "content-length" else name

-- what a field of this name may hold; a value that is not looked into is header-value = *( TEXT-UTF8char / UTF8-CONT / LWS )
-- Lenient: there any byte from %x80 on stands for UTF8-NONASCII.
abbrev pub RowSays : List ℕ → List ℕ → Type 0
RowSays name text =
    let named = λ (wanted : String). bytes_eq name (codes wanted) in
    cond (named "via") ((vias : List SaidVia) × ViasSay vias text)
    (cond (named "from" || named "to") (Address text)
    (cond (named "call-id") (CallId text)
    (cond (named "cseq") ((said : ℕ × List ℕ) × CSeqSays said text)
    (cond (named "content-length") (OneOrMore (One is_ascii_digit) text)
    (Many (Lws or One (λ byte. is_in_range 0x21 0x7E byte || nat_le 0x80 byte)) text)))))

-- a field: the number of its line, its name as it is spelled and in full without case, and its value
pub record SaidField : Type 0 where
  pub line : ℕ
  pub spelled : List ℕ
  pub name : List ℕ
  pub value : List ℕ

-- the lines and the values of the fields of a name, in order
abbrev pub all : String → List SaidField → List (ℕ × List ℕ)
all name fields = map (λ f. (f.line, f.value)) (filter (λ f. bytes_eq f.name (codes name)) fields)

-- the values of the fields of a name, in order
abbrev pub said_values : String → List SaidField → List (List ℕ)
said_values name fields = map (λ found. found.1) (all name fields)

-- a byte of a blank run: SP, HTAB, CR or LF
abbrev pub is_lws_byte : ℕ → Bool
is_lws_byte byte = (byte == 0x20 || byte == 0x09) || (byte == 0x0D || byte == 0x0A)

-- the text neither begins nor ends with a byte of a blank run
abbrev pub IsTrimmed : List ℕ → Type 0
IsTrimmed text = ¬ ((One is_lws_byte then (λ behind. ⊤)) text) × ¬ (((λ before. ⊤) then One is_lws_byte) text)

-- 4 and 5: a line is a field: a token, any SP and HTAB, a colon, and a value of the name without the blanks at its ends (section 7.3)
abbrev pub FieldSays : ℕ → List ℕ → Outcome SaidField → Type 0
FieldSays n line =
    Then (Demand (λ (named : List ℕ × List ℕ). ((Token is named.0) then Many Wsp then Lit ":" then Exactly named.1) line) (fault_in_line n reason.FieldLine)) (λ named.
    Then (Demand (λ value. (IsTrimmed value × (Sws then Exactly value then Sws) named.1) × RowSays (full_name (folded named.0)) value) (fault_in_line n reason.Value)) (λ value.
    Gives (record { line = n; spelled = named.0; name = full_name (folded named.0); value = value })))

-- the lines are fields, the lines being numbered from n
abbrev pub FieldsSay : ℕ → List (List ℕ) → Outcome (List SaidField) → Type 0
FieldsSay n [] = Gives []
FieldsSay n (line ∷ lines) = Then (FieldSays n line) (λ f. Then (FieldsSay (n + 1) lines) (λ fields. Gives (f ∷ fields)))

-- 7: there is a first of these fields, which is given
abbrev pub FirstOf : List (ℕ × List ℕ) → Outcome (ℕ × List ℕ) → Type 0
FirstOf found = Demand (λ first. (more : List (ℕ × List ℕ)) × (found ≡ first ∷ more)) (fault_in_head reason.Missing)

-- 6: there is no second of these fields
abbrev pub NoSecond : List (ℕ × List ℕ) → Outcome ⊤ → Type 0
NoSecond found = Holds (length found ≤ 1) (fault_in_line (second_line found) reason.Repeated)

-- 6 and 7: there is exactly one of these fields, which is given
abbrev pub OneOf : List (ℕ × List ℕ) → Outcome (ℕ × List ℕ) → Type 0
OneOf found = Then (NoSecond found) (λ _. FirstOf found)

-- 6 and 7: the fields that must stand, and those that may stand once; the first Via and the CSeq are given
abbrev pub NamesSay : List SaidField → Outcome ((ℕ × List ℕ) × (ℕ × List ℕ)) → Type 0
NamesSay fields =
    Then (FirstOf (all "via" fields)) (λ via. Then (OneOf (all "from" fields)) (λ _. Then (OneOf (all "to" fields)) (λ _.
    Then (OneOf (all "call-id" fields)) (λ _. Then (OneOf (all "cseq" fields)) (λ cseq. Then (NoSecond (all "content-length" fields)) (λ _.
    Gives (via, cseq)))))))
