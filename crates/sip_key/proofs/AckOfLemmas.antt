-- Which ACK belongs to which INVITE.
use Rattle.std.specs.Prelude.{◌≡◌, ◌↔◌, ℕ, Bool, IsTrue, List, [], ◌∷◌, ◌++◌, Option, None, Some, codes, bytes_eq, unwrap_or}
use Rattle.std.specs.Borrow.{Bor}
use Rattle.std.specs.List.{flat_map, join_with_byte}
use Rattle.std.specs.Iterator.{YieldsFirstRef}
use Rattle.std.specs.Cmp.Lexicographic.{bytes_decides}
use Rattle.std.proofs.Common.{sym, ◌∙◌, ap, ap₂, subst, append-nil}
use Rattle.std.proofs.lemmas.List.Elements.{filter-append}
use Rattle.sip_message.specs.inner.Marks.{comma}
use Rattle.sip_standard.specs.StartLine.{StartLine, request}
use Rattle.sip_standard.specs.Solid.{solid}
use Rattle.sip_standard.specs.Outcome.{gives}
use Rattle.sip_standard.specs.Says.{Said, Says}
use Rattle.sip_message.proofs.lemmas.says.Reading.{said-one}
use Rattle.sip_standard.specs.AckOf.{IsAckLine, IsAckOf, AckOf}

-- where a is a request with the method ACK, and i is a request, the test of equal URIs tells whether a is an ACK line of i
pub ack-line : (method uri other target : List ℕ) (a i : StartLine) (r : Bool) → a ≡ request method uri → i ≡ request other target → method ≡ codes "ACK"
    → r ≡ bytes_eq uri target → IsTrue r ↔ IsAckLine a i
ack-line method uri other target a i r a_is i_is ack r_is = (
  λ same. (uri, other, a_is ∙ ap (λ m. request m uri) ack, i_is ∙ ap (λ u. request other u) (sym ((bytes_decides uri target).0 (sym r_is ∙ same)))),
  λ line. r_is ∙ (bytes_decides uri target).1 (same-uri line.0 line.1 (sym a_is ∙ line.2) (sym i_is ∙ line.3)),
)
  where
    -- equal request lines have the same URI
    same-uri : (u m : List ℕ) → request method uri ≡ request (codes "ACK") u → request other target ≡ request m u → uri ≡ target
    same-uri u m e f = cc

-- for each value a comma and the value without its blanks
abbrev each : List (List ℕ) → List ℕ
each values = flat_map (λ value. comma ∷ solid value) values

-- the solid bytes of two texts in a row are those of the first and then those of the second
solid-append : (a b : List ℕ) → solid (a ++ b) ≡ solid a ++ solid b
solid-append a b = filter-append _ a b

-- values joined by commas, without their blanks, are the first value and each further one after a comma
pub solid-joined : (value : List ℕ) (values : List (List ℕ)) → solid (join_with_byte comma (value ∷ values)) ≡ solid value ++ each values
solid-joined value [] = sym (append-nil (solid value))
solid-joined value (next ∷ values) =
    solid-append value (comma ∷ join_with_byte comma (next ∷ values))
    ∙ ap (λ t. solid value ++ comma ∷ t) (solid-joined next values)

-- the first of some values, or no bytes where there is none, and each other one after a comma are the values joined by commas, without their blanks
pub solid-begins : (values more : List (List ℕ)) (first : Option (Bor (List ℕ))) (none : Bor (List ℕ)) → YieldsFirstRef (λ it. it) values first more → none.now ≡ []
    → solid (unwrap_or first none).now ++ each more ≡ solid (join_with_byte comma values)
-- where there is no value, nothing is joined
solid-begins values more None none steps empty =
    ap₂ (λ (t : List ℕ) (vs : List (List ℕ)). solid t ++ each vs) empty steps.1 ∙ ap (λ vs. solid (join_with_byte comma vs)) (sym steps.0)
solid-begins values more (Some x) none steps empty =
    sym (solid-joined x.now more) ∙ ap (λ vs. solid (join_with_byte comma vs)) (sym steps)

-- where the messages a', i' and r' are a, i and r, and a' is an ACK of the INVITE i' and of its response r', a is an ACK of i and r
along : (a a' i i' r r' : Said) → a' ≡ a → i' ≡ i → r' ≡ r → IsAckOf a' i' r' → IsAckOf a i r
along a a' i i' r r' p q s is =
    let P : Said → Type 0 = λ x. IsAckOf x i' r' in
    let Q : Said → Type 0 = λ y. IsAckOf a y r' in
    let R : Said → Type 0 = λ z. IsAckOf a i z in
    subst R s (subst Q q (subst P p is))

-- three texts are an ACK, an INVITE and its response exactly if what they say is
-- a, i and r are what the three texts say
pub ack-of_says : (ack invite response : List ℕ) (a i r : Said) → Says ack (gives a) → Says invite (gives i) → Says response (gives r) → AckOf ack invite response ↔ IsAckOf a i r
ack-of_says ack invite response a i r says_a says_i says_r = (
  λ of. along a of.0 i of.1 r of.2 (said-one ack of.0 a of.3 says_a) (said-one invite of.1 i of.4 says_i) (said-one response of.2 r of.5 says_r) of.6,
  λ is. (a, i, r, says_a, says_i, says_r, is),
)
