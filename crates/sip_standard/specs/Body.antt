-- The method of a message and its body (RFC 3261, sections 8.1.1.5, 18.3 and 20.14).
-- The numbers before colons, as 8 to 11, are those of the faults (reason_number in Reason.antt).
use Rattle.std.specs.Prelude.{◌≡◌, ℕ, ◌≤◌, true, List, [], ◌∷◌, length, take, Option, None, Some, IfSome, is_some, ⊤}
use Rattle.std.specs.Str.Parse.{digits_value}
use Rattle.sip_standard.specs.Text.{◌or◌}
use Rattle.sip_standard.specs.Chars.{AnyCase}
use Rattle.sip_standard.specs.declared.fault.Reason.TheVariants as reason
use Rattle.sip_standard.specs.Outcome.{Outcome, Gives, Holds, Then}
use Rattle.sip_standard.specs.Faults.{fault_in_line, fault_in_body}
use Rattle.sip_standard.specs.StartLine.{StartLine, request, status}
use Rattle.sip_standard.specs.Via.{SaidVia, ViasSay}
use Rattle.sip_standard.specs.Values.{CSeqSays}

-- the number that the first of these fields says, if there is one
abbrev pub length_in : List (ℕ × List ℕ) → Option ℕ
length_in [] = None
length_in (one ∷ more) = Some (digits_value 10 (one.1))

-- the method of a CSeq is that of the request (section 8.1.1.5)
abbrev pub MethodSays : StartLine → List ℕ → Type 0
MethodSays (request method uri) cseq = (number : ℕ) × CSeqSays (number, method) cseq
MethodSays (status code why) cseq = ⊤

-- the transport of the first element of this Via is a stream, TCP or TLS
abbrev pub StreamSays : List ℕ → Type 0
StreamSays via = (v : SaidVia) × (more : List SaidVia) × ViasSay (v ∷ more) via × (AnyCase "tcp" or AnyCase "tls") v.transport

-- the body: as many bytes as Content-Length says, and all of them without it
abbrev pub cut_body : Option ℕ → List ℕ → List ℕ
cut_body None rest = rest
cut_body (Some n) rest = take n rest

-- 8 to 11: the method; over a stream there is a Content-Length; after the head stand at least as many bytes as it says, over a stream no more (section 18.3)
abbrev pub BodySays : StartLine → ℕ × List ℕ → List ℕ → Option ℕ → List ℕ → Outcome (List ℕ) → Type 0
BodySays start cseq via len rest =
    Then (Holds (MethodSays start (cseq.1)) (fault_in_line (cseq.0) reason.MethodMismatch)) (λ _.
    Then (Holds (StreamSays via → is_some len ≡ true) (fault_in_body reason.NoLength)) (λ _.
    Then (Holds (IfSome len (λ n. n ≤ length rest)) (fault_in_body reason.ShortBody)) (λ _.
    Then (Holds (StreamSays via → IfSome len (λ n. length rest ≤ n)) (fault_in_body reason.LongBody)) (λ _. Gives (cut_body len rest)))))
