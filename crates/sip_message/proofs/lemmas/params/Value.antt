-- How a parameter's value, and what else stands at the front of a text, is cut off.
-- A value at the front of a text is a quoted string (`QuotedFront`), an IPv6 address in brackets (`ReferenceFront`), or bare (`BareFront`); `BracketFront` is
-- what stands there from "[" to the first "]". `PastRun` says that the rest stands after the longest run of bytes that pass a test.
use Rattle.std.proofs.Common.{◌≡◌, ℕ, zero, suc, ◌-◌, ◌≤◌, Bool, true, false, nat_eq, cond, List, [], ◌∷◌, ◌++◌, Option, Some, None, length, take, drop, refl, sym, ap, ◌∙◌, subst, inl, inr, arith}
use Rattle.std.proofs.lemmas.Bool.{both_ways, or_from}
use Rattle.std.proofs.lemmas.Option.{none-some}
use Rattle.std.proofs.lemmas.List.{append_assoc, append-nil, length-append}
use Rattle.std.proofs.Math.Seq.{take-append_seam}
use Rattle.sip_standard.specs.Text.{◌or◌, ◌then◌}
use Rattle.sip_standard.specs.Profile.{Token, Sws, Quoted, Ipv6, Bracketed, Host}
use Rattle.sip_text.specs.Bytes.{colon, dquote, left_bracket, right_bracket, is_token_byte}
use Rattle.sip_text.specs.Front.{HasFront, IsLongestFront, IsOnlyFront}
use Rattle.sip_text.specs.inner.Cut.{past, before, behind, led}
use Rattle.sip_text.proofs.cuts.CutLemmas.{past-some, cut-whole, lacks-before, behind-led}
use Rattle.sip_text.proofs.texts.ManyLemmas.{front-rest, front-whole}
use Rattle.sip_standard.specs.Field.{is_lws_byte}
use Rattle.sip_message.specs.inner.Fronts.{Stops, TokenFront}
use Rattle.sip_message.specs.inner.ParamFronts.{is_bare_byte, PastRun, BareFront, QuotedFront, BracketFront, ReferenceFront, ValueFront}
use Rattle.sip_message.proofs.lemmas.text.Cuts.{All, all_both, same_front}
use Rattle.sip_message.proofs.lemmas.text.Each.{each-sws}
use Rattle.sip_message.proofs.lemmas.field.OneWay.{each-token}
use Rattle.sip_message.proofs.lemmas.front.Cuts.{ReadAs, NotRead, token-cut}
use Rattle.sip_message.proofs.lemmas.front.OneWay.{read-one, bare-all, each-bare, each-hostname, each-v4, one-bare, one-quoted, one-bracket, one-reference, one-value, reference-bracket}
use Rattle.sip_message.specs.inner.Only.{IsOnlyValue}
use Rattle.sip_message.proofs.lemmas.value.Trimmed.{length-none}

-- where a text is u and r, it is u without its last `length r` bytes
pub front-is : (text u r : List ℕ) → text ≡ u ++ r → take (length text - length r) text ≡ u
front-is text u r whole =
    -- the first bytes of the text, as many as u has, are u
    ap (λ n. take n text) len ∙ ap (take (length u)) whole ∙ take-append_seam u r
  where
    -- the text is longer than r by the length of u
    len : length text - length r ≡ length u
    len = omega (arith, ap length whole, length-append u r)

-- where a text is u and r, r is no longer than the text
pub rest-short : (text u r : List ℕ) → text ≡ u ++ r → length r ≤ length text
rest-short text u r whole = omega (arith, ap length whole, length-append u r)

-- where the longest token at the front of a text is empty, the text begins with no byte of a token
pub no-token-stops : (text : List ℕ) → IsLongestFront Token text 0 → Stops is_token_byte text
-- an empty text begins with no byte
no-token-stops [] longest = tt
no-token-stops (b ∷ text) longest = at (is_token_byte b) refl
  where
    -- the first byte is no byte of a token, since the longest token would else not be empty
    at : (x : Bool) → is_token_byte b ≡ x → is_token_byte b ≡ false
    at false is = is
    -- else the byte alone would be a token
    at true is = absurd (omega (arith, longest.longest 1 (b ∷ [], text, (b ∷ [], [], (b, is, refl), ([], tt, refl), refl), refl, refl)))

-- where n is the length of the longest token at the front of a text, what is left after n bytes is what stands after its bytes of tokens
pub past-token : (text : List ℕ) (n : ℕ) → IsLongestFront Token text n → PastRun is_token_byte text (drop n text)
past-token text n longest = at n refl
  where
    -- the claim holds whether or not the token is empty
    at : (m : ℕ) → n ≡ m → PastRun is_token_byte text (drop n text)
    -- without a token nothing is passed over
    at zero none =
        let empty : IsLongestFront Token text 0 = subst (IsLongestFront Token text) none longest in
        subst (λ k. PastRun is_token_byte text (drop k text)) (sym none) (no-token-stops text empty, ([], tt, refl))
    -- the token is passed over, all of whose bytes are bytes of tokens
    at (suc m) some =
        let front = token-cut text n longest (λ none. absurd (omega (arith, none, some))) in
        (front.1, (take n text, each-token (take n text) front.0, front.2.4 ∙ ap (λ x. x ++ front.2.1) front.2.2 ∙ ap (λ x. take n text ++ x) front.2.3))

-- the rest stands after bytes of tokens and colons, and does not begin with a byte of a token
abbrev pub BareSoFar : List ℕ → List ℕ → Type 0
BareSoFar text rest = Stops is_token_byte rest × ((run : List ℕ) × All is_bare_byte run × (text ≡ run ++ rest))

-- where a colon follows, and then bytes of tokens, what stands after these stands after bytes of tokens and colons
pub bare-more : (text rest more next : List ℕ) → BareSoFar text rest → past colon rest ≡ Some more → PastRun is_token_byte more next → BareSoFar text next
bare-more text rest more next (s, (run, all, whole)) found (stops, (token, token_all, more_is)) = (
  stops,
  (
    run ++ (colon ∷ token),
    -- the colon is a bare byte, as each byte of a token is
    all_both is_bare_byte run (colon ∷ token) all (refl, bare-all token token_all),
    whole ∙ ap (λ x. run ++ x) (past-some colon rest more found ∙ ap (λ x. colon ∷ x) more_is) ∙ sym (append_assoc run (colon ∷ token) next),
  ),
)

-- a text that begins neither with a byte of a token nor with a colon does not begin with a bare byte
stops-bare : (rest : List ℕ) → Stops is_token_byte rest → past colon rest ≡ None → Stops is_bare_byte rest
-- an empty text begins with no byte
stops-bare [] stops none = tt
stops-bare (b ∷ rest) stops none = at (nat_eq b colon) refl
  where
    -- the byte is no colon, so it is not bare
    at : (x : Bool) → nat_eq b colon ≡ x → is_bare_byte b ≡ false
    at false other = or_from (is_token_byte b) (nat_eq b colon) stops other
    at true same = absurd (none-some rest (sym none ∙ ap (λ x. cond x (Some rest) None) same))

-- where no colon follows the token at the front of a text, the text is read as that token as a bare value
pub bare-token_front : (text token rest : List ℕ) → ReadAs (TokenFront text) (token, rest) → past colon rest ≡ None → ReadAs (BareFront text) (token, rest)
bare-token_front text token rest ((is, stops, whole), only) none =
    read-one (BareFront text) (token, rest) (one-bare text)
    -- after the token no bare byte stands: neither a byte of a token nor a colon
    (inl is, stops-bare rest stops none, whole.4 ∙ ap (λ x. x ++ whole.1) whole.2 ∙ ap (λ x. token ++ x) whole.3)

-- where the bare bytes at the front of a text are a token or an IPv6 address, the text is read as that as a bare value
pub bare-found : (text rest value : List ℕ) → PastRun is_bare_byte text rest → value ≡ take (length text - length rest) text → (Token or Ipv6) value → ReadAs (BareFront text) (value, rest)
bare-found text rest value (stops, (run, all, whole)) is kind =
    -- the value is the bare bytes at the front
    let same : value ≡ run = is ∙ front-is text run rest whole in
    read-one (BareFront text) (value, rest) (one-bare text) (kind, stops, whole ∙ ap (λ x. x ++ rest) (sym same))

-- where the bare bytes at the front of a text are neither a token nor an IPv6 address, no bare value is read
pub bare-missing : (text rest value : List ℕ) → PastRun is_bare_byte text rest → value ≡ take (length text - length rest) text → ((Token or Ipv6) value → ⊥) → NotRead (BareFront text)
bare-missing text rest value (stops, (run, all, whole)) is other (v, r) (kind, v_stops, v_whole) =
    -- any value that is read would be the same bare bytes
    let same = same_front is_bare_byte v r run rest (each-bare v kind) all v_stops stops (sym v_whole ∙ whole) in
    other (subst (Token or Ipv6) (same.0 ∙ sym (is ∙ front-is text run rest whole)) kind)

-- a text as long as its longest token is one
pub token-whole : (text : List ℕ) (n : ℕ) → IsLongestFront Token text n → (text ≡ [] → ⊥) → n ≡ length text → Token text
token-whole text n longest some all = elim longest.front [
  -- the longest token is empty, as the text would be; or it is the text
  | inl none ↦ absurd (some (length-none text (omega (arith, none, all))))
  | inr front ↦ front-whole Token text n front all
]

-- the longest token at the front of a token is all of it
pub whole-token : (text : List ℕ) (n : ℕ) → IsLongestFront Token text n → n ≤ length text → Token text → n ≡ length text
whole-token text n longest within token =
    -- the text is a token at its own front, so the longest one is as long
    omega (arith, longest.longest (length text) (text, [], token, sym (append-nil text), refl))

-- what stands in brackets at the front of a text is "[", bytes without "]", "]" and what is left
bracket-whole : (text : List ℕ) (x : List ℕ × List ℕ) → (b : BracketFront text x) → text ≡ left_bracket ∷ (b.0 ++ right_bracket ∷ (x.1))
-- v is what is read and r what is left; i is the bytes within the brackets
bracket-whole text (v, r) (i, lacks, v_is, whole) =
    whole ∙ ap (λ x. x ++ r) v_is ∙ ap (λ x. left_bracket ∷ x) (append_assoc i (right_bracket ∷ []) r)

-- where a text begins with "[", and no "]" follows, nothing in brackets is read
pub no-close : (text inner : List ℕ) → past left_bracket text ≡ Some inner → behind right_bracket inner ≡ None → NotRead (BracketFront text)
no-close text inner found none x bracket =
    -- the text would be "[", bytes without "]", "]" and more; but no "]" stands there
    let both : left_bracket ∷ inner ≡ left_bracket ∷ (bracket.0 ++ right_bracket ∷ (x.1)) = sym (past-some left_bracket text inner found) ∙ bracket-whole text x bracket in
    let inner_is : inner ≡ bracket.0 ++ right_bracket ∷ (x.1) = cc in
    none-some (x.1) (sym none ∙ ap (behind right_bracket) inner_is ∙ behind-led right_bracket bracket.0 (Some (x.1)) bracket.1)

-- where a text begins with "[", and "]" follows, the text is "[", what stands before "]", "]" and the rest
closed : (text inner rest : List ℕ) → past left_bracket text ≡ Some inner → behind right_bracket inner ≡ Some rest → text ≡ (left_bracket ∷ (before right_bracket inner ++ right_bracket ∷ [])) ++ rest
closed text inner rest found ends =
    -- the text is "[" and what follows, which is cut at its first "]"
    past-some left_bracket text inner found
    ∙ ap (λ x. left_bracket ∷ x) (cut-whole right_bracket inner ∙ ap (λ o. before right_bracket inner ++ led right_bracket o) ends ∙ sym (append_assoc (before right_bracket inner) (right_bracket ∷ []) rest))

-- where a text begins with "[", and "]" follows, what stands from the one to the other is read
pub one-closed : (text inner rest : List ℕ) → past left_bracket text ≡ Some inner → behind right_bracket inner ≡ Some rest → ReadAs (BracketFront text) (take (length text - length rest) text, rest)
one-closed text inner rest found ends =
    -- `part` is what stands from "[" to "]"
    let whole = closed text inner rest found ends in
    let part = left_bracket ∷ (before right_bracket inner ++ right_bracket ∷ []) in
    let part_is : take (length text - length rest) text ≡ part = front-is text part rest whole in
    read-one (BracketFront text) (take (length text - length rest) text, rest) (one-bracket text)
    (before right_bracket inner, lacks-before right_bracket inner, part_is, whole ∙ ap (λ x. x ++ rest) (sym part_is))

-- what is left after the brackets is no longer than the text
pub closed-short : (text inner rest : List ℕ) → past left_bracket text ≡ Some inner → behind right_bracket inner ≡ Some rest → length rest ≤ length text
closed-short text inner rest found ends =
    rest-short text (left_bracket ∷ (before right_bracket inner ++ right_bracket ∷ [])) rest (closed text inner rest found ends)

-- what stands in brackets, and is a host, is an IPv6 address in brackets
pub bracket-host : (text part rest : List ℕ) → BracketFront text (part, rest) → Host part → Bracketed part
bracket-host text part rest bracket (inr (inr reference)) = reference
-- a name or an IPv4 address would begin with "[", which is no byte of a token
bracket-host text part rest (i, lacks, part_is, whole) (inl hostname) =
    absurd (both_ways (is_token_byte left_bracket) refl (subst (All is_token_byte) part_is (each-hostname part hostname)).0)
bracket-host text part rest (i, lacks, part_is, whole) (inr (inl address)) =
    absurd (both_ways (is_token_byte left_bracket) refl (subst (All is_token_byte) part_is (each-v4 part address)).0)

-- where what is read in brackets is a host, it is read as an IPv6 address in brackets
pub one-host_reference : (text part rest : List ℕ) → ReadAs (BracketFront text) (part, rest) → Host part → ReadAs (ReferenceFront text) (part, rest)
one-host_reference text part rest bracket host =
    read-one (ReferenceFront text) (part, rest) (one-reference text) (bracket-host text part rest bracket.0 host, bracket.0.3)

-- where what is read in brackets is no host, no IPv6 address in brackets is read
pub no-host_reference : (text part rest : List ℕ) → ReadAs (BracketFront text) (part, rest) → (Host part → ⊥) → NotRead (ReferenceFront text)
no-host_reference text part rest bracket none x reference =
    -- any address in brackets that is read is what was read in brackets, and so would be a host
    let same : x ≡ (part, rest) = bracket.1 x (reference-bracket text x reference) in
    none (inr (inr (subst Bracketed (ap (λ y. y.0) same) reference.0)))

-- a quoted value at the front is blanks and a quoted string there
quoted-string : (text : List ℕ) (x : List ℕ × List ℕ) → QuotedFront text x → HasFront (Sws then Quoted) text (length (x.0))
-- v is what is read and r what is left; q says that v is a quoted string
quoted-string text (v, r) (q, whole) = (v, r, ([], v, inl refl, q, refl), whole, refl)

-- where no quoted string stands at the front of a text, none is read
pub no-quoted : (text : List ℕ) → IsOnlyFront (Sws then Quoted) text None → NotRead (QuotedFront text)
no-quoted text none x quoted = none (length (x.0)) (quoted-string text x quoted)

-- where a quoted string of n bytes alone stands at the front of a text that begins with a quote, it is read
pub one-quoted_string : (text inner : List ℕ) (n : ℕ) → past dquote text ≡ Some inner → IsOnlyFront (Sws then Quoted) text (Some n) → ReadAs (QuotedFront text) (take n text, drop n text)
-- u is the blanks and the string, v what is left, and q the string
one-quoted_string text inner n found ((u, v, (blanks, q, sws, quoted, u_is), whole, len), only) =
    read-one (QuotedFront text) (take n text, drop n text) (one-quoted text)
    (subst Quoted (sym (front_is ∙ u_is ∙ ap (λ x. x ++ q) (none blanks sws flat))) quoted, whole ∙ ap (λ x. x ++ v) (sym front_is) ∙ ap (λ x. take n text ++ x) (sym rest_is))
  where
    -- the first n bytes are the quoted string
    front_is : take n text ≡ u
    front_is = ap (λ m. take m text) len ∙ ap (take (length u)) whole ∙ take-append_seam u v

    -- after n bytes follows what is left
    rest_is : drop n text ≡ v
    rest_is = front-rest (Sws then Quoted) text n (u, v, (blanks, q, sws, quoted, u_is), whole, len)

    -- the text is the blanks, the quoted string and what is left
    flat : dquote ∷ inner ≡ blanks ++ (q ++ v)
    flat = sym (past-some dquote text inner found) ∙ whole ∙ ap (λ x. x ++ v) u_is ∙ append_assoc blanks q v

    -- no blank stands before the quote
    none : (b : List ℕ) → Sws b → dquote ∷ inner ≡ b ++ (q ++ v) → b ≡ []
    -- a blank there would be the first byte, which is the quote
    none [] is same = refl
    none (c ∷ b) is same =
        let first : dquote ≡ c = cc in
        absurd (both_ways (is_lws_byte dquote) refl (subst (λ x. is_lws_byte x ≡ true) (sym first) (each-sws (c ∷ b) is).0))

-- where a quoted string is read, a parameter's value is read as it
pub value-quoted : (text value rest : List ℕ) → ReadAs (QuotedFront text) (value, rest) → ReadAs (ValueFront text) (value, rest)
value-quoted text value rest is = read-one (ValueFront text) (value, rest) (one-value text) (inl is.0)

-- where an IPv6 address in brackets is read, a parameter's value is read as it
pub value-reference : (text value rest : List ℕ) → ReadAs (ReferenceFront text) (value, rest) → ReadAs (ValueFront text) (value, rest)
value-reference text value rest is = read-one (ValueFront text) (value, rest) (one-value text) (inr (inl is.0))

-- where neither a quoted string nor an IPv6 address in brackets is read, a parameter's value is read as a bare one, or not at all
pub value-bare : {A : Type 0} (parts : A → List ℕ × List ℕ) (text : List ℕ) (r : Option A) → NotRead (QuotedFront text) → NotRead (ReferenceFront text) → IsOnlyValue BareFront parts text r → IsOnlyValue ValueFront parts text r
value-bare parts text None quoted reference none = at
  where
    -- no value is read: neither a quoted string, nor an address in brackets, nor a bare value
    at : NotRead (ValueFront text)
    -- it would be quoted, in brackets, or bare
    at x (inl is) = quoted x is
    at x (inr (inl is)) = reference x is
    at x (inr (inr is)) = none x is
value-bare parts text (Some a) quoted reference read =
    read-one (ValueFront text) (parts a) (one-value text) (inr (inr read.0))
