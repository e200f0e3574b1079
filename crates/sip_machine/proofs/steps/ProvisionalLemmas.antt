-- Which bytes are a response 100: by what they are read as, and by the three digits after the version and a blank.
use Rattle.std.specs.Prelude.{◌≡◌, ◌↔◌, ◌==◌, ◌+◌, IsTrue, ℕ, List, ◌∷◌, ◌++◌, codes, drop, flat_map, length, take}
use Rattle.std.proofs.Common.{sym, ap, ◌∙◌, append_assoc, arith, eq-eqb, subst}
use Rattle.std.specs.Fmt.{digits}
use Rattle.std.proofs.Math.Seq.{drop-append-add}
use Rattle.std.proofs.lemmas.Bool.Decides.{nat_tests}
use Rattle.sip_standard.specs.StartLine.{StartLine, status, StartSays}
use Rattle.sip_message.specs.inner.StartLine.{CodeText}
use Rattle.sip_message.specs.inner.Lines.{with_end}
use Rattle.sip_message.specs.Message.{Message}
use Rattle.sip_message.specs.inner.MessageText.{MessageText}
use Rattle.sip_standard.specs.declared.fault.Fault.{Fault}
use Rattle.sip_message.specs.Reading.{Reading}
use Rattle.sip_message.specs.Reads.{Reads}
use Rattle.sip_message.specs.SaidOf.{said_of}
use Rattle.sip_message.proofs.lemmas.canon.Law.{code-decimal}
use Rattle.sip_message.proofs.lemmas.says.Told.{tells-text}
use Rattle.sip_message.proofs.lemmas.says.Reading.{says-reads, said-is, says-no_fault}
use Rattle.sip_message.proofs.lemmas.start_line.OneWay.{length-version, status_parts}
use Rattle.sip_standard.specs.Provisional.{Is100}
use Rattle.sip_machine.specs.inner.Start.{IsStatus100}
use Rattle.sip_standard.specs.Outcome.{stops}
use Rattle.sip_standard.specs.Says.{Says}

-- a status line is that of a 100 exactly if its code is 100
pub IsStatus100-code : (start : StartLine) (code : ℕ) (reason : List ℕ) → start ≡ status code reason → IsTrue (code == 100) ↔ IsStatus100 start
IsStatus100-code start code reason e = grind (arith, nat_tests, eq-eqb)

-- bytes that are read as a message spell a 100 exactly if it begins as one does
pub Is100-read : (bytes : List ℕ) (r : Reading) → Reads bytes r → IsStatus100 r.message.start ↔ Is100 bytes
Is100-read bytes r reads = (
  λ is. record { said = said_of r; reason = is.0; says = reads.says; start = is.1 },
  λ is. (is.reason, ap (λ s. s.start) (sym (said-is bytes r is.said reads is.says)) ∙ is.start),
)

-- where a text is the code 100 in three digits, it is "100"; the prover looks into `digits`, the digits of a number (`unfolding`)
digits-100 : (text : List ℕ) → CodeText text 100 → text ≡ codes "100"
unfolding digits
digits-100 text is = sym (code-decimal text 100 is)

-- a message that is a 100 has its digits after the version and a blank
code-100 : (bytes : List ℕ) (m : Message) (reason : List ℕ) → MessageText bytes m → m.start ≡ status 100 reason → take 3 (drop 8 bytes) ≡ codes "100"
code-100 bytes m reason text start =
    let first = text.first in
    let crlf = codes "\r\n" in
    let parts = status_parts first 100 reason (subst (StartSays first) start text.is_start) in
    let more = crlf ++ (flat_map with_end text.others ++ (crlf ++ text.rest)) in
    -- the bytes are the first line and what follows it
    let behind_first : bytes ≡ first ++ more =
    text.is_head.whole
    ∙ sym (append_assoc text.is_head.front crlf (crlf ++ text.rest))
    ∙ ap (λ h. h ++ (crlf ++ text.rest)) (sym text.is_head.head_is ∙ text.are_lines.whole)
    ∙ append_assoc (first ++ crlf) (flat_map with_end text.others) (crlf ++ text.rest)
    ∙ append_assoc first crlf (flat_map with_end text.others ++ (crlf ++ text.rest)) in
    let code = parts.digits ++ 0x20 ∷ reason in
    -- the line is the version, a blank and the code
    let behind_version : bytes ≡ parts.version ++ (0x20 ∷ (code ++ more)) =
    behind_first ∙ ap (λ line. line ++ more) parts.whole ∙ append_assoc parts.version (0x20 ∷ code) more in
    let eight : 8 ≡ length parts.version + 1 = omega (arith, length-version parts.version parts.is_version) in
    -- the version and its blank are eight bytes, and the code stands after these
    let dropped : drop 8 bytes ≡ code ++ more =
    ap (drop 8) behind_version ∙ ap (λ n. drop n (parts.version ++ (0x20 ∷ (code ++ more)))) eight
    ∙ drop-append-add parts.version (0x20 ∷ (code ++ more)) 1 in
    ap (take 3) dropped ∙ ap (λ digits. take 3 ((digits ++ 0x20 ∷ reason) ++ more)) (digits-100 parts.digits parts.is_code)

-- bytes that spell a 100 have its digits after the version and a blank
pub Is100-code : (bytes : List ℕ) → Is100 bytes → take 3 (drop 8 bytes) ≡ codes "100"
Is100-code bytes is =
    let read = says-reads bytes is.said is.says in
    code-100 bytes read.0.message is.reason (tells-text bytes read.0.message read.1.tells) (ap (λ s. s.start) (sym read.2) ∙ is.start)

-- bytes that have a fault are no response 100
pub Is100-fault : (bytes : List ℕ) (f : Fault) → Says bytes (stops f) → Is100 bytes → ⊥
Is100-fault bytes f fault is = says-no_fault bytes is.said f is.says fault
