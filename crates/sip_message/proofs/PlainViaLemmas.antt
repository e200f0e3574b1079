-- Plain elements of Via.
-- In the lemmas `at`, to and end are places of a text in this order.
-- `BranchText` is the text of parameters, of which this branch counts, and `BranchOf` the branch that one parameter gives.
use Rattle.std.proofs.Common.{◌≡◌, ℕ, List, [], Option, None, Some, refl, sym, ap, ◌∙◌, subst, ◌∷◌}
use Rattle.std.specs.Option.{option_or}
use Rattle.std.proofs.lemmas.List.{append-nil}
use Rattle.sip_standard.specs.Text.{◌then◌}
use Rattle.sip_standard.specs.Chars.{◌is◌, EachSays}
use Rattle.sip_standard.specs.Profile.{Token, Blanks, Host, Port}
use Rattle.sip_standard.specs.Via.{SaidVia, PortSays, ParamSays, ViaSays}
use Rattle.sip_text.specs.Bytes.{colon, semicolon, space, Byte}
use Rattle.sip_message.specs.inner.Marks.{slash, Mark}
use Rattle.sip_message.specs.inner.ElementFronts.{FirstVia}
use Rattle.sip_message.specs.inner.ParamFronts.{Param}
use Rattle.sip_message.specs.inner.ViaFronts.{BranchOf, BranchText}
use Rattle.sip_message.specs.inner.Plain.{segment, LiesWithin, PlainRun, PlainParam}
use Rattle.sip_message.proofs.PlainLemmas.{segment-none, then-stands, stands-as, whole-stands, run-token, mark-alone, segment-cut, param-marked}
use Rattle.sip_message.proofs.lemmas.params.Said.{param-said, first-or}
use Rattle.sip_message.proofs.lemmas.params.Closed.{blanks-space}

-- where a parameter lies before the parameters of a Via, the segment from it on is parameters of a Via, and its branch counts if it has one
pub branch-behind : (p : Param) (found later : Option (List ℕ)) (text : List ℕ) (at end to : ℕ) → LiesWithin (PlainParam p) text at end to → BranchOf p found
    → BranchText (segment to end text) later → BranchText (segment at end text) (option_or found later)
branch-behind p found later text at end to param fact (os, branch, said) = (
  found ∷ os,
  ap (option_or found) branch ∙ first-or found os,
  (segment at to text, segment to end text, param-said p found _ fact (param-marked p text at end to param), said, segment-cut text at to end param.0 param.1),
)

-- the empty segment is parameters of a Via without a branch
pub branch-none : (text : List ℕ) (end : ℕ) → BranchText (segment end end text) None
branch-none text end = subst (λ u. BranchText u None) (sym (segment-none text end)) ([], refl, refl)

-- an option or else nothing is that option
pub or-none : (b : Option (List ℕ)) → option_or b None ≡ b
or-none None = refl
or-none (Some v) = refl

-- a byte without blanks is its mark with the blanks that the grammar allows
marked : (byte : ℕ) (text : List ℕ) (at end to : ℕ) → LiesWithin (Byte byte) text at end to → LiesWithin (Mark byte) text at end to
marked byte text at end to mark = stands-as (Byte byte) (Mark byte) text at end to (λ u fact. subst (Mark byte) (sym fact) (mark-alone byte)) mark

-- where a colon and a port lie one after the other, they say that port
pub port-led : (text : List ℕ) (at end port to : ℕ) → LiesWithin (Byte colon) text at end port → LiesWithin Port text port end to → LiesWithin (PortSays (Some (segment port to text))) text at end to
port-led text at end port to mark fact =
    then-stands (Mark colon) (Port is segment port to text) text at end port to (marked colon text at end port mark) (fact.0, fact.1, (fact.2, refl))

-- a run of plain bytes is a token
token : (text : List ℕ) (at end to : ℕ) → LiesWithin PlainRun text at end to → LiesWithin Token text at end to
token text at end to run = stands-as PlainRun Token text at end to run-token run

-- where the parts of an element of Via lie one after the other, all plain and with one blank before the host, the segment is that element
pub via-plain : (text : List ℕ) (at end name first version second transport sent_by behind params : ℕ) (port branch : Option (List ℕ))
    → LiesWithin PlainRun text at end name → LiesWithin (Byte slash) text name end first → LiesWithin PlainRun text first end version → LiesWithin (Byte slash) text version end second
    → LiesWithin PlainRun text second end transport → LiesWithin (Byte space) text transport end sent_by → LiesWithin Host text sent_by end behind
    → LiesWithin (PortSays port) text behind end params → BranchText (segment params end text) branch
    → ViaSays (record { whole = segment at end text; transport = segment second transport text; host = segment sent_by behind text; port = port; branch = branch }) (segment at end text)
via-plain text at end name first version second transport sent_by behind params port branch protocol_is mark_is version_is mark_too transport_is space_is host_is port_is (said, branch_is, params_say) =
    -- t and h are the texts of the transport and the host, and `said` is the branches that the parameters say
    let t = segment second transport text in
    let h = segment sent_by behind text in
    -- T1 to T8 are the texts of the last part, of the last two, and so on up to all but the first
    let T1 = EachSays (λ o. Mark semicolon then ParamSays o) said in
    let T2 = PortSays port then T1 in
    let T3 = (Host is h) then T2 in
    let T4 = Blanks then T3 in
    let T5 = (Token is t) then T4 in
    let T6 = Mark slash then T5 in
    let T7 = Token then T6 in
    let T8 = Mark slash then T7 in
    -- s1 to s8 say that each of these texts stands from the beginning of its first part to the end
    let s1 : LiesWithin T1 text params end end = whole-stands T1 text params end port_is.1 params_say in
    let s2 : LiesWithin T2 text behind end end = then-stands (PortSays port) T1 text behind end params end port_is s1 in
    let s3 : LiesWithin T3 text sent_by end end = then-stands (Host is h) T2 text sent_by end behind end (host_is.0, host_is.1, (host_is.2, refl)) s2 in
    let s4 : LiesWithin T4 text transport end end = then-stands Blanks T3 text transport end sent_by end (space_is.0, space_is.1, subst Blanks (sym space_is.2) blanks-space) s3 in
    let s5 : LiesWithin T5 text second end end = then-stands (Token is t) T4 text second end transport end (transport_is.0, transport_is.1, (run-token t transport_is.2, refl)) s4 in
    let s6 : LiesWithin T6 text version end end = then-stands (Mark slash) T5 text version end second end (marked slash text version end second mark_too) s5 in
    let s7 : LiesWithin T7 text first end end = then-stands Token T6 text first end version end (token text first end version version_is) s6 in
    let s8 : LiesWithin T8 text name end end = then-stands (Mark slash) T7 text name end first end (marked slash text name end first mark_is) s7 in
    let s9 = then-stands Token T8 text at end name end (token text at end name protocol_is) s8 in
    (said, branch_is, refl, s9.2)

-- a text that is one element of Via is a value of which that element is the first
pub via-first : (text : List ℕ) (v : SaidVia) → ViaSays v text → FirstVia text v
via-first text v fact = ([], (text, [], fact, refl, sym (append-nil text)))
