-- The steps by which sent-protocol is read find what the grammar has.
use Rattle.std.proofs.Common.{ℕ, List, [], ◌∷◌, ◌++◌, refl, sym, ap, ◌∙◌, subst}
use Rattle.sip_standard.specs.Text.{Exactly, ◌then◌}
use Rattle.sip_standard.specs.Chars.{◌is◌}
use Rattle.sip_standard.specs.Profile.{Token, Blanks}
use Rattle.sip_text.specs.Bytes.{is_token_byte}
use Rattle.sip_message.specs.inner.Marks.{slash, Mark}
use Rattle.sip_message.specs.inner.Fronts.{Stops, StopsBlank, TokenFront, MarkFront, both, ProtocolFront}
use Rattle.sip_message.proofs.lemmas.field.OneWay.{blank-token}
use Rattle.sip_message.proofs.lemmas.text.Solid.{solid-token}
use Rattle.sip_message.proofs.lemmas.text.Closed.{solid_is}
use Rattle.sip_message.proofs.lemmas.via.Transport.{Fails, AllFail, fail-then, fail-blanks, fail-slash}
use Rattle.sip_message.proofs.lemmas.params.Closed.{some-run}
use Rattle.sip_message.proofs.lemmas.front.Cuts.{stops-byte}

-- sent-protocol LWS with this transport, and then a text of Rest
abbrev pub ProtocolText : List ℕ → (List ℕ → Type 0) → List ℕ → Type 0
ProtocolText transport Rest = Token then Mark slash then Token then Mark slash then (Token is transport) then Blanks then Rest

-- a text of a set whose texts begin with no byte of a token begins with none
fail-stops : (P : List ℕ → Type 0) → AllFail is_token_byte P → (u : List ℕ) → P u → Stops is_token_byte u
fail-stops P fail u fact = at u (fail u fact)
  where
    -- a text that fails the test of a byte of a token begins with no such byte
    at : (v : List ℕ) → Fails is_token_byte v → Stops is_token_byte v
    -- a text that fails has a first byte, which is no byte of a token
    at [] fails = absurd fails
    at (b ∷ v) fails = fails

-- a token begins with no blank
pub token-stops : (t rest : List ℕ) → Token t → StopsBlank (t ++ rest)
token-stops t rest token = at t token
  where
    -- a token begins with no blank, whatever follows it
    at : (u : List ℕ) → Token u → StopsBlank (u ++ rest)
    -- a token has a byte at least
    at [] fact = absurd (some-run is_token_byte [] fact refl)
    -- no byte of a token is a blank
    at (b ∷ u) fact = stops-byte b (u ++ rest) (solid_is b (solid-token (b ∷ u) fact).0)

-- sent-protocol LWS of the grammar is read by the steps
pub protocol-steps : (text transport rest : List ℕ) → StopsBlank rest → ProtocolText transport (Exactly rest) text → ProtocolFront text (transport, rest)
protocol-steps text transport rest stops one =
    -- `one` to `five` are the text from the protocol on, from the first slash, the version, the second slash, and the transport on
    let two = one.3 in
    let three = two.3 in
    let four = three.3 in
    let five = four.3 in
    -- each step reads its part, and ends where the next one begins
    both (one.0, one.1) (one.2, fail-stops _ (fail-slash _) one.1 two, (one.0, one.1, refl, refl, one.4))
    (both two.1 (subst StopsBlank (sym three.4) (token-stops three.0 three.1 three.2), (two.0, two.1, two.2, refl, two.4))
    (both (three.0, three.1) (three.2, fail-stops _ (fail-slash _) three.1 four, (three.0, three.1, refl, refl, three.4))
    (both four.1 (subst StopsBlank (sym five.4) (token-stops five.0 five.1 five.2.0), (four.0, four.1, four.2, refl, four.4))
    (both (five.0, five.1) (five.2.0, fail-stops _ (fail-then is_token_byte _ _ (fail-blanks is_token_byte blank-token)) five.1 five.3, (five.0, five.1, refl, refl, five.4))
    (both rest (stops, five.3) (ap (λ t. (t, rest)) five.2.1))))))

-- where a token that is of P is read at the front of a text, and what is left is of Q, the text is of P and then Q
-- x is the text, u the token and y what is left
token-then : (x u y : List ℕ) (P Q : List ℕ → Type 0) → TokenFront x (u, y) → P u → Q y → (P then Q) x
-- the token stands first, and then what is left
token-then x u y P Q fact front rest = (u, y, front, rest, fact.2.4 ∙ ap (λ z. z ++ fact.2.1) fact.2.2 ∙ ap (λ z. u ++ z) fact.2.3)

-- a slash before a text of Q is a slash and then Q
mark-then : (x y : List ℕ) (Q : List ℕ → Type 0) → MarkFront slash x y → Q y → (Mark slash then Q) x
-- the mark with its blanks stands first, and then what is left
mark-then x y Q fact rest = (fact.1.0, y, fact.1.2, rest, fact.1.4 ∙ ap (λ z. fact.1.0 ++ z) fact.1.3)

-- what the steps read is sent-protocol LWS of the grammar
pub steps-protocol : (text : List ℕ) (p : List ℕ × List ℕ) → ProtocolFront text p → ProtocolText (p.0) (Exactly (p.1)) text
-- a, b and d are the protocol, the version and the transport, q, s and w what is left after each, and r and t what is left after the slashes
steps-protocol text p (both (a, q) first (both r slash1 (both (b, s) second (both t slash2 (both (d, w) third (both rest blanks fact)))))) =
    -- the first slash follows the protocol, the version follows it, and so on up to the blanks after the transport
    subst (λ x. ProtocolText (x.0) (Exactly (x.1)) text) (sym fact)
    (token-then text a q Token _ first first.0 (mark-then q r _ slash1 (token-then r b s Token _ second second.0 (mark-then s t _ slash2 (token-then t d w (Token is d) _ third (third.0, refl) blanks.1)))))
