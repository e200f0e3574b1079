-- The method and the body: which demand fails, or what the body is.
-- `BodySays` is the demands on the method and the body. A demand is passed (`passes`) where it is met, and else the reading is stopped (`stopped`) at its fault.
use Rattle.std.proofs.Common.{◌≡◌, ℕ, ◌≤◌, ◌<◌, ◌↔◌, Bool, false, List, [], ◌∷◌, length, take, Option, Some, None, refl, sym, ap, ◌∙◌, subst, arith, inl, inr, true}
use Rattle.std.specs.Prelude.{bytes_eq, IsTrue, is_some, IfSome, codes}
use Rattle.std.specs.Borrow.{Bor}
use Rattle.std.specs.Str.Parse.{digits_value}
use Rattle.std.proofs.lemmas.Bool.{both_ways, or_cases, or_left, or_right}
use Rattle.std.proofs.lemmas.Slice.Eq.{bytes_eq-Decides}
use Rattle.std.proofs.Math.Seq.{take-length}
use Rattle.sip_standard.specs.Values.{CSeqSays}
use Rattle.sip_standard.specs.Chars.{AnyCase}
use Rattle.sip_standard.specs.Text.{◌or◌}
use Rattle.sip_standard.specs.Case.{folded}
use Rattle.sip_message.proofs.lemmas.via.Value.{one-first}
use Rattle.sip_message.specs.declared.name.Known.TheVariants as known_name
use Rattle.sip_standard.specs.declared.fault.Reason.TheVariants as reason
use Rattle.sip_message.specs.declared.start_line.StartLine.{StartLine as Code}
use Rattle.sip_message.specs.declared.start_line.StartLine.TheVariants as variant
use Rattle.sip_standard.specs.StartLine.{StartLine, request}
use Rattle.sip_standard.specs.Via.{SaidVia}
use Rattle.sip_message.specs.inner.ElementFronts.{FirstVia}
use Rattle.sip_message.specs.inner.Values.{CSeqValue}
use Rattle.sip_message.specs.Field.{Field}
use Rattle.sip_standard.specs.Body.{length_in, cut_body, MethodSays, StreamSays, BodySays}
use Rattle.sip_message.specs.inner.MessageText.{found, content_length, is_stream, HasLength, IsEnough}
use Rattle.sip_standard.specs.Outcome.{gives, stops, passes, stopped}
use Rattle.sip_standard.specs.Faults.{fault_in_line, fault_in_body}
use Rattle.sip_message.specs.ValueParts.{start_parts}
use Rattle.sip_message.proofs.lemmas.front.Cuts.{ReadAs}

-- the method of a CSeq fits a request exactly if it is equal to the request's method
-- the request has the method m and the URI u, the CSeq has the number n and the method k, and r is the answer
pub method-some : (start : Code) (m u : Bor (List ℕ)) (cseq : List ℕ) (n : ℕ) (k : List ℕ) (r : Bool) → start ≡ variant.Request m u → ReadAs (CSeqValue cseq) (n, k) → r ≡ bytes_eq k m.now → IsTrue r ↔ MethodSays (start_parts start) cseq
-- of a request the two methods are compared
method-some start m u cseq n k r is read r_is = subst (λ s. IsTrue r ↔ MethodSays s cseq) (sym (ap start_parts is)) (to, from)
  where
    -- where the answer is yes, the methods are equal
    to : IsTrue r → MethodSays (request m.now u.now) cseq
    -- the CSeq has the request's method, with its own number
    to so = (n, subst (λ x. CSeqSays (n, x) cseq) ((bytes_eq-Decides k m.now).0 (sym r_is ∙ so)) read.0)

    -- where the method fits, the answer is yes
    from : MethodSays (request m.now u.now) cseq → IsTrue r
    -- the CSeq has one method, so the one that fits is k
    from (number, text) = r_is ∙ (bytes_eq-Decides k m.now).1 (sym (ap (λ x. x.1) (read.1 (number, m.now) text)))

-- a transport that is a stream is TCP or TLS, in any case of its letters
stream-kind : (t : List ℕ) → is_stream t ≡ true → (AnyCase "tcp" or AnyCase "tls") t
stream-kind t is = elim (or_cases (bytes_eq (folded t) (codes "tcp")) (bytes_eq (folded t) (codes "tls")) is) [
  -- the text without case is "tcp", or it is "tls"
  | inl tcp ↦ inl ((bytes_eq-Decides (folded t) (codes "tcp")).0 tcp)
  | inr tls ↦ inr ((bytes_eq-Decides (folded t) (codes "tls")).0 tls)
]

-- TCP and TLS, in letters of any case, are streams
kind-stream : (t : List ℕ) → (AnyCase "tcp" or AnyCase "tls") t → is_stream t ≡ true
kind-stream t (inl tcp) = or_left (bytes_eq (folded t) (codes "tcp")) (bytes_eq (folded t) (codes "tls")) ((bytes_eq-Decides (folded t) (codes "tcp")).1 tcp)
kind-stream t (inr tls) = or_right (bytes_eq (folded t) (codes "tcp")) (bytes_eq (folded t) (codes "tls")) ((bytes_eq-Decides (folded t) (codes "tls")).1 tls)

-- the transport of the top Via is a stream exactly if that of the first element is
pub stream-first : (text : List ℕ) (e : SaidVia) (r : Bool) → FirstVia text e → r ≡ is_stream e.transport → IsTrue r ↔ StreamSays text
stream-first text e r first r_is = (
  λ so. (e, first.0, first.1, stream-kind e.transport (sym r_is ∙ so)),
  -- the first element is the one that is a stream
  λ stream. r_is ∙ kind-stream e.transport (subst (λ (v : SaidVia). (AnyCase "tcp" or AnyCase "tls") v.transport) (one-first text stream.0 e (stream.1, stream.2) first) stream.3),
)

-- fields without Content-Length have no length
pub length-none : (fields : List Field) → found known_name.ContentLength fields ≡ [] → content_length fields ≡ None
length-none fields is = ap length_in is

-- the length is that of the first field of the name
pub length-some : (fields : List Field) (one : ℕ × List ℕ) (more : List (ℕ × List ℕ)) → found known_name.ContentLength fields ≡ one ∷ more → content_length fields ≡ Some (digits_value 10 (one.1))
length-some fields one more is = ap length_in is

-- What follows is of one message: its start line, its CSeq with the number of its line, its first Via, its length, if one is said, and what follows its head.
module _ (start : StartLine) (cseq : ℕ × List ℕ) (via : List ℕ) (len : Option ℕ) (rest : List ℕ) where
  -- where the method does not fit, the reading stops with that fault at the line of CSeq
  pub body-method : (MethodSays start (cseq.1) → ⊥) → BodySays start cseq via len rest (stops (fault_in_line (cseq.0) reason.MethodMismatch))
  -- the method does not fit, so the first demand is not met
  body-method none = stopped _ ((λ _ fits. none fits), refl) refl

  -- where a stream has no Content-Length, the reading stops with that fault
  pub body-no_length : MethodSays start (cseq.1) → len ≡ None → StreamSays via → BodySays start cseq via len rest (stops (fault_in_body reason.NoLength))
  -- the method fits, but there is no length, which a stream asks for
  body-no_length fits none stream = passes tt fits (stopped _ ((λ _ has. both_ways false refl (sym (ap is_some none) ∙ has stream)), refl) refl)

  -- where a datagram has no Content-Length, the body is all that follows the head
  pub body-all : MethodSays start (cseq.1) → len ≡ None → (StreamSays via → ⊥) → BodySays start cseq via len rest (gives rest)
  body-all fits none datagram =
      -- the method fits, nothing is asked of a datagram, and without a length the body is all
      passes tt fits (passes tt (λ stream. absurd (datagram stream)) (passes tt (subst (λ l. IsEnough l rest) (sym none) tt) (passes tt (λ stream. absurd (datagram stream)) (ap (λ l. gives (cut_body l rest)) (sym none)))))

  -- What follows is of a message whose Content-Length says n.
  module _ (n : ℕ) (some : len ≡ Some n) where
    -- the length of the body is said
    has : HasLength via len
    has stream = ap is_some some

    -- where fewer bytes follow the head than Content-Length says, the reading stops with that fault
    pub body-short : MethodSays start (cseq.1) → length rest < n → BodySays start cseq via len rest (stops (fault_in_body reason.ShortBody))
    -- the method fits and a length is said, but the bytes are too few
    body-short fits short = passes tt fits (passes tt has (stopped _ ((λ _ enough. let e : n ≤ length rest = subst (λ l. IsEnough l rest) some enough in absurd (omega (arith, e, short))), refl) refl))

    -- where more bytes follow the head in a stream than Content-Length says, the reading stops with that fault
    pub body-long : MethodSays start (cseq.1) → n ≤ length rest → (n ≡ length rest → ⊥) → StreamSays via → BodySays start cseq via len rest (stops (fault_in_body reason.LongBody))
    body-long fits enough other stream =
        -- the method fits, a length is said and the bytes are enough, but in a stream more follow
        passes tt fits (passes tt has (passes tt (subst (λ l. IsEnough l rest) (sym some) enough)
        (stopped _ ((λ _ no_more. let e : length rest ≤ n = subst (λ l. IfSome l (λ k. length rest ≤ k)) some (no_more stream) in other (omega (arith, e, enough))), refl) refl)))

    -- where more bytes follow the head in a datagram than Content-Length says, the body is as many as it says
    pub body-cut : MethodSays start (cseq.1) → n ≤ length rest → (StreamSays via → ⊥) → BodySays start cseq via len rest (gives (take n rest))
    body-cut fits enough datagram =
        -- the method fits, a length is said, the bytes are enough, and in a datagram more may follow
        passes tt fits (passes tt has (passes tt (subst (λ l. IsEnough l rest) (sym some) enough) (passes tt (λ stream. absurd (datagram stream)) (ap (λ l. gives (cut_body l rest)) (sym some)))))

    -- where as many bytes follow the head as Content-Length says, the body is all of them
    pub body-whole : MethodSays start (cseq.1) → n ≡ length rest → BodySays start cseq via len rest (gives rest)
    body-whole fits same =
        -- the method fits, a length is said, and the bytes are just as many
        passes tt fits (passes tt has (passes tt (subst (λ l. IsEnough l rest) (sym some) (omega (arith, same)))
        (passes tt (λ stream. subst (λ l. IfSome l (λ k. length rest ≤ k)) (sym some) (omega (arith, same))) (ap (λ b. gives b) (sym (ap (λ l. cut_body l rest) some ∙ ap (λ k. take k rest) same ∙ take-length rest))))))
