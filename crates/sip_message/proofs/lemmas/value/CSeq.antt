-- A CSeq is read by its digits, its blanks and its method, in one way.
-- In the lemmas n is how many digits a text begins with, b how many bytes of blanks follow, and x a number with a method.
use Rattle.std.proofs.Common.{◌≡◌, ℕ, true, false, List, [], ◌∷◌, ◌++◌, refl, sym, ap, ◌∙◌, subst, inr, ◌<◌, ◌≤◌, length, take, drop, arith}
use Rattle.std.specs.Char.{is_ascii_digit}
use Rattle.std.specs.Str.Parse.{digits_value}
use Rattle.sip_standard.specs.Text.{Exactly, ◌then◌}
use Rattle.sip_standard.specs.Profile.{Blanks, Token}
use Rattle.sip_text.specs.Front.{IsLongestFront}
use Rattle.std.proofs.lemmas.List.{append-nil, take-append-drop, length-take-le}
use Rattle.sip_standard.specs.Field.{is_lws_byte}
use Rattle.sip_standard.specs.Values.{CSeqSays}
use Rattle.sip_message.specs.inner.Values.{Digits}
use Rattle.sip_message.specs.inner.Fronts.{Stops, StopsBlank, Behind, BlanksFront}
use Rattle.sip_message.proofs.lemmas.text.Cuts.{same_front, All}
use Rattle.sip_message.proofs.lemmas.text.Each.{Each, each-one, each-then, each-many, blank_is}
use Rattle.sip_message.proofs.lemmas.via.Transport.{Fails, fail-then, fail-blanks}
use Rattle.sip_message.proofs.lemmas.via.Protocol.{token-stops}
use Rattle.sip_message.proofs.lemmas.front.Cuts.{same-behind, no-blanks, longest-blanks_front}
use Rattle.std.specs.List.{prefix_len}
use Rattle.sip_message.proofs.lemmas.params.Closed.{some-run}
use Rattle.sip_message.proofs.lemmas.front.Prefix.{prefix-at, all-some}

-- a run of digits has only digits
each-digits : Each is_ascii_digit Digits
-- digits are one digit, and then any number
each-digits = each-then is_ascii_digit _ _ (each-one is_ascii_digit is_ascii_digit (λ b is. is)) (each-many is_ascii_digit _ (each-one is_ascii_digit is_ascii_digit (λ b is. is)))

-- a blank is no digit
blank-digit : (b : ℕ) → is_lws_byte b ≡ true → is_ascii_digit b ≡ false
-- SP, HTAB, CR and LF are tried, by computing
blank-digit = blank_is (λ b. is_ascii_digit b ≡ false) refl refl refl refl

-- where the next byte is no digit, digits stop
fails_stops : (u : List ℕ) → Fails is_ascii_digit u → Stops is_ascii_digit u
-- a text that fails has a first byte, which is no digit
fails_stops [] fails = absurd fails
fails_stops (b ∷ u) fails = fails

-- blanks and a method begin with no digit
digits-stop : (method v : List ℕ) → (Blanks then Exactly method) v → Stops is_ascii_digit v
-- a blank run begins with a blank
digits-stop method v is = fails_stops v (fail-then is_ascii_digit Blanks (Exactly method) (fail-blanks is_ascii_digit blank-digit) v is)

-- the method of a CSeq is a token
pub cseq-token : (text : List ℕ) (x : ℕ × List ℕ) → CSeqSays x text → Token (x.1)
cseq-token text x (low, (digits, v, number, (blanks, word, run, (token, same), v_is), whole)) = subst Token (sym same) token

-- after the digits of a CSeq stand blanks and the method
cseq-behind : (text : List ℕ) (x : ℕ × List ℕ) → (c : CSeqSays x text) → (Blanks then Exactly (x.1)) c.1.1
cseq-behind text x (low, (digits, v, number, (blanks, word, run, (token, same), v_is), whole)) = (blanks, word, run, sym same, v_is)

-- the method is what is left after the blanks that follow the digits
method-behind : (text : List ℕ) (x : ℕ × List ℕ) → (c : CSeqSays x text) → Behind c.1.1 (x.1)
-- the method begins with no blank, and stands after the blanks
method-behind text x c =
    let behind = cseq-behind text x c in
    (subst StopsBlank (append-nil (x.1)) (token-stops (x.1) [] (cseq-token text x c)), (behind.0, behind.1, inr behind.2, behind.3, behind.4))

-- the digits of a CSeq are only digits, and none follows them
cseq-cut : (text : List ℕ) (x : ℕ × List ℕ) → (c : CSeqSays x text) → All is_ascii_digit c.1.0 × Stops is_ascii_digit c.1.1
cseq-cut text x c = (each-digits c.1.0 c.1.2.0, digits-stop (x.1) c.1.1 (cseq-behind text x c))

-- a CSeq has one number and one method
pub same-cseq : (text : List ℕ) (a b : ℕ × List ℕ) → CSeqSays a text → CSeqSays b text → a ≡ b
same-cseq text x y a b =
    -- the digits are the longest front of digits, and so the same; the method is what follows the blanks after them
    let split = same_front is_ascii_digit a.1.0 a.1.1 b.1.0 b.1.1 (cseq-cut text x a).0 (cseq-cut text y b).0 (cseq-cut text x a).1 (cseq-cut text y b).1 (sym a.1.4 ∙ b.1.4) in
    let method : x.1 ≡ y.1 = same-behind b.1.1 (x.1) (y.1) (subst (λ v. Behind v (x.1)) split.1 (method-behind text x a)) (method-behind text y b) in
    let number : x.0 ≡ y.0 = a.1.2.1 ∙ ap (digits_value 10) split.0 ∙ sym b.1.2.1 in
    ap (λ n. (n, x.1)) number ∙ ap (λ m. (y.0, m)) method

-- the digits of a CSeq are the longest front of digits, and after its blanks stands the method
-- n is how many digits the text begins with, and x the number and the method that the CSeq c says
cseq-parts : (text rest : List ℕ) (n : ℕ) → n ≡ prefix_len is_ascii_digit text → rest ≡ drop n text → (x : ℕ × List ℕ) (c : CSeqSays x text) → (c.1.0 ≡ take n text) × BlanksFront rest (x.1)
cseq-parts text rest n n_is rest_is x c =
    -- `cut` says that the first n bytes are digits, and that none follows them
    let cut = prefix-at is_ascii_digit text n n_is in
    let same = same_front is_ascii_digit c.1.0 c.1.1 (take n text) (drop n text) (cseq-cut text x c).0 cut.0 (cseq-cut text x c).1 cut.1 (sym c.1.4 ∙ sym (take-append-drop n text)) in
    -- the digits are these n bytes, so what follows them is the blanks and the method
    (same.0, (subst StopsBlank (append-nil (x.1)) (token-stops (x.1) [] (cseq-token text x c)), subst (Blanks then Exactly (x.1)) (same.1 ∙ sym rest_is) (cseq-behind text x c)))

-- digits that write a number above 2147483647 are at the front of no CSeq
pub cseq-large : (text : List ℕ) (n : ℕ) → n ≡ prefix_len is_ascii_digit text → (Digits (take n text) → 2147483647 < digits_value 10 (take n text)) → (x : ℕ × List ℕ) → CSeqSays x text → ⊥
cseq-large text n n_is large x c =
    -- `parts` says that the digits of c are the first n bytes; so their number would be too large
    let parts = cseq-parts text (drop n text) n n_is refl x c in
    let above = large (subst Digits parts.0 c.1.2.0) in
    absurd (omega (arith, above, c.0, c.1.2.1, ap (digits_value 10) parts.0))

-- a text that does not begin with a digit is no CSeq
pub cseq-no_digit : (text : List ℕ) (n : ℕ) → n ≡ prefix_len is_ascii_digit text → n ≡ 0 → (x : ℕ × List ℕ) → CSeqSays x text → ⊥
cseq-no_digit text n n_is none x c =
    -- the digits would be the first 0 bytes, but are one at least
    some-run is_ascii_digit c.1.0 c.1.2.0 ((cseq-parts text (drop n text) n n_is refl x c).0 ∙ ap (λ m. take m text) none)

-- a text without a blank after its digits is no CSeq
-- n is how many digits the text begins with, b how many blanks follow, and x a number and a method
pub cseq-no_blank : (text rest : List ℕ) (n b : ℕ) → n ≡ prefix_len is_ascii_digit text → rest ≡ drop n text → IsLongestFront Blanks rest b → b ≡ 0 → (x : ℕ × List ℕ) → CSeqSays x text → ⊥
cseq-no_blank text rest n b n_is rest_is longest none x c =
    -- after the digits a blank run would be read, but the longest one there is empty
    no-blanks rest (subst (IsLongestFront Blanks rest) none longest) (x.1) (cseq-parts text rest n n_is rest_is x c).1

-- what stands after the digits and the blanks of a CSeq is a token, its method
-- n is how many digits the text begins with, b how many blanks follow, and x the number and the method
pub cseq-method : (text rest method : List ℕ) (n b : ℕ) → n ≡ prefix_len is_ascii_digit text → rest ≡ drop n text → method ≡ drop b rest → IsLongestFront Blanks rest b → (b ≡ 0 → ⊥) → (x : ℕ × List ℕ) → CSeqSays x text → Token method
cseq-method text rest method n b n_is rest_is method_is longest some x c =
    -- after the longest run of blanks the method is all that is left
    subst Token ((longest-blanks_front rest b longest some).1 (x.1) (cseq-parts text rest n n_is rest_is x c).1 ∙ sym method_is) (cseq-token text x c)

-- digits that write a number up to 2147483647, blanks and a token are a CSeq of that number and that method
pub cseq-is : (text rest method : List ℕ) (n b number : ℕ) → n ≡ prefix_len is_ascii_digit text → n ≤ length text → rest ≡ drop n text → method ≡ drop b rest → (n ≡ 0 → ⊥) → IsLongestFront Blanks rest b → (b ≡ 0 → ⊥) → Token method → number ≡ digits_value 10 (take n text) → number ≤ 2147483647 → CSeqSays (number, method) text
cseq-is text rest method n b number n_is within rest_is method_is some longest blanks token number_is small =
    -- `behind`: the blanks and the method stand after the digits
    let behind = subst (λ m. (Blanks then Exactly m) rest) (sym method_is) (longest-blanks_front rest b longest blanks).0.1 in (
      omega (arith, small),
      (
        take n text,
        rest,
        -- the first n bytes are digits, and there is at least one
        (all-some is_ascii_digit (take n text) (prefix-at is_ascii_digit text n n_is).0 (λ none. some (omega (arith, ap length none, length-take-le n text within))), number_is),
        (behind.0, behind.1, behind.2, (subst Token (sym behind.3) token, sym behind.3), behind.4),
        sym (take-append-drop n text) ∙ ap (λ t. take n text ++ t) (sym rest_is),
      ),
    )
