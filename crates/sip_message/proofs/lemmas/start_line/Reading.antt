-- How a start line is read: of a request line a token and its SP from the front, and the version from the end; of a status line the
-- version, the code and the reason from the front.
-- In the lemmas v is a version, t eight bytes that have one, d the digits of a code, and n its number.
-- `CodeFront` is a status code and its SP at the front of a text, with what is left: the reason.
use Rattle.std.proofs.Common.{◌≡◌, ℕ, ◌+◌, ◌≤◌, ◌<◌, Bool, true, false, nat_lt, cond, List, [], ◌∷◌, ◌++◌, length, take, drop, Some, None, refl, sym, ap, ◌∙◌, subst, arith}
use Rattle.std.specs.Prelude.{codes}
use Rattle.std.specs.List.{AllByRecursion, concat, list_all}
use Rattle.std.specs.Char.{to_ascii_lowercase, is_ascii_digit}
use Rattle.std.specs.Str.Parse.{digits_value}
use Rattle.std.proofs.lemmas.Bool.{both_ways, ltb-false}
use Rattle.std.proofs.lemmas.Option.{none-some}
use Rattle.std.proofs.lemmas.List.{append_assoc, length-append, take-append-drop, length-drop, length-take, length-take-le, take-map, drop-map, map-append}
use Rattle.sip_standard.specs.Text.{One, Many, ◌then◌}
use Rattle.sip_standard.specs.Case.{folded}
use Rattle.sip_standard.specs.Profile.{Token, Uri}
use Rattle.sip_text.specs.Bytes.{space, Byte}
use Rattle.sip_text.specs.inner.Case.{SameText}
use Rattle.sip_text.specs.inner.Cut.{past}
use Rattle.sip_text.proofs.texts.ManyLemmas.{many-some, append_cancel_both}
use Rattle.sip_message.specs.inner.Values.{Digits}
use Rattle.sip_text.proofs.cuts.CutLemmas.{past-some}
use Rattle.sip_text.proofs.texts.RunLemmas.{run-list_all, list_all-run}
use Rattle.sip_standard.specs.StartLine.{StartLine, request, status, StartSays}
use Rattle.sip_message.specs.inner.StartLine.{Version, CodeText, is_reason_byte, RequestLine, StatusLine, CodeFront}
use Rattle.sip_message.specs.inner.Fronts.{TokenFront}
use Rattle.sip_message.proofs.lemmas.text.Cuts.{same_by_end}
use Rattle.sip_message.proofs.lemmas.front.Cuts.{ReadAs, NotRead}
use Rattle.sip_message.proofs.lemmas.start_line.OneWay.{length-version, length-digits, length-code, RequestParts, request_parts, status_parts, same_start}

-- a byte whose lower case is below the letters is that lower case itself
kept_is : (b k : ℕ) → k < 65 → to_ascii_lowercase b ≡ k → b ≡ k
kept_is b k small is = at (nat_lt b 65) (nat_lt b 91) refl refl
  where
    -- the claim holds whether b is below the capital letters, is one, or is above them
    at : (low high : Bool) → nat_lt b 65 ≡ low → nat_lt b 91 ≡ high → b ≡ k
    -- below the capital letters the lower case is the byte itself
    at true high low_is high_is = sym (ap (λ x. cond x b (cond (nat_lt b 91) (b + 32) b)) low_is) ∙ is
    -- above them, too
    at false false low_is high_is = sym (ap (λ x. cond x b (cond (nat_lt b 91) (b + 32) b)) low_is ∙ ap (λ x. cond x (b + 32) b) high_is) ∙ is
    -- a capital letter has a lower case above k
    at false true low_is high_is =
        let sum : b + 32 ≡ k = sym (ap (λ x. cond x b (cond (nat_lt b 91) (b + 32) b)) low_is ∙ ap (λ x. cond x (b + 32) b) high_is) ∙ is in
        absurd (omega (arith, sum, ltb-false b 65 low_is))

-- the rest after the first token of a request line is a SP, the URI, a SP and a version
pub record RequestCut (token rest uri : List ℕ) : Type 0 where
  pub version : List ℕ
  pub is_version : Version version
  pub is_uri : Uri uri
  pub whole : rest ≡ space ∷ (uri ++ space ∷ version)

-- the method of a request line is the token that is read at its front
token-first : (line method uri : List ℕ) (p : RequestParts line method uri) → Token method → TokenFront line (method, space ∷ (uri ++ space ∷ p.version))
-- after the method stands a SP, which is no byte of a token
token-first line method uri p token = (token, refl, (method, space ∷ (uri ++ space ∷ p.version), refl, refl, p.whole))

-- where a token is read at the front of a request line, it is the method, and the rest is the URI and the version
request-cut : (line token rest method uri : List ℕ) → ReadAs (TokenFront line) (token, rest) → RequestLine line (method, uri) → (method ≡ token) × RequestCut token rest uri
request-cut line token rest method uri read is =
    -- p is the parts of the line; its method is the token at its front, and what follows is what is left
    let p = request_parts line method uri is in
    let same = read.1 (method, space ∷ (uri ++ space ∷ p.version)) (token-first line method uri p p.is_token) in
    (ap (λ x. x.0) same, record { version = p.version; is_version = p.is_version; is_uri = p.is_uri; whole = sym (ap (λ x. x.1) same) })

-- a line without a token at its front is no request line
pub request-no_token : (line : List ℕ) → NotRead (TokenFront line) → NotRead (RequestLine line)
request-no_token line none (method, uri) is =
    -- the method would be such a token
    let p = request_parts line method uri is in none (method, space ∷ (uri ++ space ∷ p.version)) (token-first line method uri p p.is_token)

-- a line without a SP after its token is no request line
pub request-no_space : (line token rest : List ℕ) → ReadAs (TokenFront line) (token, rest) → past space rest ≡ None → NotRead (RequestLine line)
request-no_space line token rest read none (method, uri) is =
    -- after the token would stand a SP, which `none` excludes
    let r = request-cut line token rest method uri read is in
    none-some (uri ++ space ∷ r.1.version) (sym none ∙ ap (past space) r.1.whole)

-- what follows the token and the SP of a request line is the URI, a SP and a version
behind-space : (line token rest more method uri : List ℕ) → ReadAs (TokenFront line) (token, rest) → past space rest ≡ Some more → (is : RequestLine line (method, uri)) → (v : List ℕ) × Version v × (more ≡ uri ++ space ∷ v)
behind-space line token rest more method uri read found is =
    -- r is what follows the token: SP, the URI, SP and the version
    let r = request-cut line token rest method uri read is in
    let same : ◌≡◌ {A = List ℕ} (space ∷ more) (space ∷ (uri ++ space ∷ r.1.version)) = sym (past-some space rest more found) ∙ r.1.whole in
    let inner : more ≡ uri ++ space ∷ r.1.version = cc in
    (r.1.version, r.1.is_version, inner)

-- a line without room for the version is no request line
pub request-short : (line token rest more : List ℕ) → ReadAs (TokenFront line) (token, rest) → past space rest ≡ Some more → length more < 8 → NotRead (RequestLine line)
request-short line token rest more read found short (method, uri) is =
    -- b is the version and where it stands: SP and version have eight bytes
    let b = behind-space line token rest more method uri read found is in
    absurd (omega (arith, short, ap length b.2, length-append uri (space ∷ b.0), length-version b.0 b.1))

-- where a text is a URI, a SP and a version, its last eight bytes are the SP and the version, and those before them the URI
at-end : (more uri v : List ℕ) (at : ℕ) → at + 8 ≡ length more → Version v → more ≡ uri ++ space ∷ v → (take at more ≡ uri) × (drop at more ≡ space ∷ v)
at-end more uri v at len version is =
    same_by_end (take at more) (drop at more) uri (space ∷ v) (omega (arith, length-drop at more, len, length-version v version)) (take-append-drop at more ∙ is)

-- a line without the version at its end is no request line
pub request-no_version : (line token rest more : List ℕ) (at : ℕ) → ReadAs (TokenFront line) (token, rest) → past space rest ≡ Some more → at + 8 ≡ length more → (SameText (drop at more) (codes " SIP/2.0") → ⊥) → NotRead (RequestLine line)
request-no_version line token rest more at read found len none (method, uri) is =
    let b = behind-space line token rest more method uri read found is in
    -- the last eight bytes are SP and the version, b.0, which without case are those of " SIP/2.0"
    let e = at-end more uri b.0 at len b.1 b.2 in
    none (ap folded e.1 ∙ ap (λ t. space ∷ t) b.1)

-- a line without a URI between token and version is no request line
pub request-no_uri : (line token rest more : List ℕ) (at : ℕ) → ReadAs (TokenFront line) (token, rest) → past space rest ≡ Some more → at + 8 ≡ length more → (Uri (take at more) → ⊥) → NotRead (RequestLine line)
request-no_uri line token rest more at read found len none (method, uri) is =
    let b = behind-space line token rest more method uri read found is in
    -- what stands before the last eight bytes is the URI
    let e = at-end more uri b.0 at len b.1 b.2 in
    none (subst Uri (sym e.0) (request_parts line method uri is).is_uri)

-- eight bytes that are " SIP/2.0" without case are a SP and a version
space-version : (t : List ℕ) → SameText t (codes " SIP/2.0") → (v : List ℕ) × (t ≡ space ∷ v) × Version v
-- an empty text has not eight bytes; of another one the first byte is SP, and the others are the version
space-version [] same = absurd (omega (arith, ap length same))
space-version (b ∷ t) same =
    let both : ◌≡◌ {A = List ℕ} (to_ascii_lowercase b ∷ folded t) (space ∷ folded (codes "SIP/2.0")) = same in
    let head : to_ascii_lowercase b ≡ space = cc in
    let tail : folded t ≡ folded (codes "SIP/2.0") = cc in
    (t, ap (λ x. x ∷ t) (kept_is b space (omega arith) head), tail)

-- a line with a token, a SP, a URI, and a SP and the version at its end is read as a request line of that method and that URI
pub request-read : (line token rest more : List ℕ) (at : ℕ) → ReadAs (TokenFront line) (token, rest) → past space rest ≡ Some more → SameText (drop at more) (codes " SIP/2.0") → Uri (take at more) → ReadAs (RequestLine line) (token, take at more)
request-read line token rest more at read found version uri = (is, only)
  where
    -- at the end of the line stand SP and a version
    v : (v : List ℕ) × (drop at more ≡ space ∷ v) × Version v
    v = space-version (drop at more) version

    -- after the first SP stand the URI, SP and the version
    inner : more ≡ take at more ++ space ∷ v.0
    inner = sym (take-append-drop at more) ∙ ap (λ t. take at more ++ t) v.1

    -- the line is the method, SP, the URI, SP and the version
    is : RequestLine line (token, take at more)
    is = (
      -- the method, SP, the URI, SP and the version stand in a row
      token,
      space ∷ more,
      (read.0.0, refl),
      (space ∷ [], more, refl, (take at more, space ∷ v.0, (uri, refl), (space ∷ [], v.0, refl, v.2, refl), inner), refl),
      read.0.2.4 ∙ ap (λ t. t ++ read.0.2.1) read.0.2.2 ∙ ap (λ t. token ++ t) (read.0.2.3 ∙ past-some space rest more found),
    )

    -- the line is read in one way
    only : (x : List ℕ × List ℕ) → RequestLine line x → ◌≡◌ {A = List ℕ × List ℕ} x (token, take at more)
    only (method, other) o = ap pair (same_start line (request method other) (request token (take at more)) o is)
      where
        -- the method and the URI of a request line
        pair : StartLine → List ℕ × List ℕ
        pair (request m u) = (m, u)
        pair (status c r) = (method, other)

-- three digits, from 100 to 699, are a code
digits-code : (d : List ℕ) (n : ℕ) → Digits d → length d ≡ 3 → n ≡ digits_value 10 d → 100 ≤ n → n ≤ 699 → CodeText d n
digits-code d n digits len value low high =
    -- the three digits are a repetition of exactly three texts of one digit each
    let many = many-some (One is_ascii_digit) d digits in
    let count : length many.0 ≡ 3 = omega (arith, length-digits many.0 many.1, ap length many.2, len) in
    ((many.0, many.1, many.2, omega (arith, count), omega (arith, count)), value, low, omega (arith, high))

-- a status code is three digits
code-digits : (d : List ℕ) (n : ℕ) → CodeText d n → Digits d
code-digits d n is = at is.0.0 is.0.1 is.0.2 is.0.3
  where
    -- three texts of one digit each are three digits
    at : (us : List (List ℕ)) → AllByRecursion (One is_ascii_digit) us → d ≡ concat us → 3 ≤ length us → Digits d
    at [] all whole three = absurd (omega (arith, three))
    at (u ∷ us) all whole three = (u, concat us, all.0, (us, all.1, refl), whole)

-- a status code that is read at the front is the first three bytes, and a SP and the rest follow
code-front : (text : List ℕ) (code : ℕ) (reason : List ℕ) → CodeFront text (code, reason) → CodeText (take 3 text) code × (drop 3 text ≡ space ∷ reason)
-- d is the three digits, s the SP and r the reason
code-front text code reason (d, t, is, (s, r, s_is, r_is, t_is), whole) =
    let flat : text ≡ d ++ space ∷ reason = whole ∙ ap (λ x. d ++ x) (t_is ∙ ap (λ x. x ++ r) s_is ∙ ap (λ x. space ∷ x) r_is) in
    -- the first three bytes are the digits, since a code has three
    let same = append_cancel_both (take 3 text) (drop 3 text) d (space ∷ reason) (omega (arith, length-code d code is, ap length flat, length-append d (space ∷ reason), length-take-le 3 text (omega (arith, length-code d code is, ap length flat, length-append d (space ∷ reason))))) (take-append-drop 3 text ∙ flat) in
    (subst (λ x. CodeText x code) (sym same.0) is, same.1)

-- a text of fewer than three bytes has no status code at its front
pub code-short : (text : List ℕ) → length text < 3 → NotRead (CodeFront text)
code-short text short (code, reason) is =
    -- f says that the first three bytes are a code
    let f = code-front text code reason is in absurd (omega (arith, short, length-code (take 3 text) code f.0, length-take 3 text))

-- a text without a SP after its first three bytes has no status code at its front
pub code-no_space : (text : List ℕ) → past space (drop 3 text) ≡ None → NotRead (CodeFront text)
code-no_space text none (code, reason) is = none-some reason (sym none ∙ ap (past space) (code-front text code reason is).1)

-- a text whose first three bytes are not all digits has no status code at its front
pub code-no_digits : (text : List ℕ) → (Digits (take 3 text) → ⊥) → NotRead (CodeFront text)
code-no_digits text none (code, reason) is = none (code-digits (take 3 text) code (code-front text code reason is).0)

-- where the first three digits write a number above 699, they are no status code
pub code-high : (text : List ℕ) → Digits (take 3 text) → (Digits (take 3 text) → 699 < digits_value 10 (take 3 text)) → NotRead (CodeFront text)
code-high text digits high (code, reason) is =
    let f = code-front text code reason is in absurd (omega (arith, high digits, f.0.3, f.0.1))

-- where the first three digits write a number below 100, they are no status code
pub code-low : (text : List ℕ) (n : ℕ) → n ≡ digits_value 10 (take 3 text) → n < 100 → NotRead (CodeFront text)
code-low text n value low (code, reason) is =
    let f = code-front text code reason is in absurd (omega (arith, value, low, f.0.2, f.0.1))

-- three digits that write a number from 100 to 699, with a SP after them, are read as that status code
pub code-read : (text rest : List ℕ) (n : ℕ) → 3 ≤ length text → past space (drop 3 text) ≡ Some rest → Digits (take 3 text) → n ≡ digits_value 10 (take 3 text) → n ≤ 699 → 100 ≤ n → ReadAs (CodeFront text) (n, rest)
code-read text rest n long found digits value high low = (is, only)
  where
    -- the text is a status code with what follows its SP
    is : CodeFront text (n, rest)
    -- the text is the three digits, SP and the rest
    is = (
      take 3 text,
      drop 3 text,
      digits-code (take 3 text) n digits (length-take-le 3 text long) value low high,
      (space ∷ [], rest, refl, refl, past-some space (drop 3 text) rest found),
      sym (take-append-drop 3 text),
    )

    -- the code is read in one way
    only : (x : ℕ × List ℕ) → CodeFront text x → ◌≡◌ {A = ℕ × List ℕ} x (n, rest)
    only (code, reason) other =
        -- f says that the first three bytes are this code too, and that SP and the reason follow
        let f = code-front text code reason other in
        let both : ◌≡◌ {A = List ℕ} (space ∷ reason) (space ∷ rest) = sym f.1 ∙ past-some space (drop 3 text) rest found in
        let reasons : reason ≡ rest = cc in
        let codes : code ≡ n = f.0.1 ∙ sym value in
        cc

-- eight bytes that are "SIP/2.0 " without case are a version and a SP
version-space : (t : List ℕ) → SameText t (codes "SIP/2.0 ") → (v : List ℕ) × Version v × (t ≡ v ++ space ∷ [])
-- the first seven bytes are the version, and the eighth is SP
version-space t same = (take 7 t, sym (take-map to_ascii_lowercase 7 t) ∙ ap (take 7) same, sym (take-append-drop 7 t) ∙ ap (λ x. take 7 t ++ x) (last (drop 7 t) (sym (drop-map to_ascii_lowercase 7 t) ∙ ap (drop 7) same)))
  where
    -- a text that is SP without case is SP
    last : (u : List ℕ) → folded u ≡ space ∷ [] → u ≡ space ∷ []
    -- the text has one byte, as its lower case has
    last [] is = absurd (omega (arith, ap length is))
    last (b ∷ c ∷ u) is = absurd (omega (arith, ap length is))
    last (b ∷ []) is =
        let head : to_ascii_lowercase b ≡ space = cc in
        ap (λ x. x ∷ []) (kept_is b space (omega arith) head)

-- a status line is "SIP/2.0 " without case, and then a status code with its SP and a reason phrase
status-cut : (line : List ℕ) (code : ℕ) (reason : List ℕ) → StatusLine line (code, reason) → SameText (take 8 line) (codes "SIP/2.0 ") × CodeFront (drop 8 line) (code, reason) × (8 ≤ length line)
status-cut line code reason is =
    -- p is the parts of the line, of which the version and its SP have eight bytes
    let p = status_parts line code reason is in
    let size = length-version p.version p.is_version in
    let whole : line ≡ (p.version ++ space ∷ []) ++ (p.digits ++ space ∷ reason) = p.whole ∙ sym (append_assoc p.version (space ∷ []) (p.digits ++ space ∷ reason)) in
    let len : length (p.version ++ space ∷ []) ≡ 8 = omega (arith, length-append p.version (space ∷ []), size) in
    let long : 8 ≤ length line = omega (arith, ap length whole, length-append (p.version ++ space ∷ []) (p.digits ++ space ∷ reason), len) in
    -- the first eight bytes are the version and SP
    let same = append_cancel_both (take 8 line) (drop 8 line) (p.version ++ space ∷ []) (p.digits ++ space ∷ reason) (omega (arith, len, length-take-le 8 line long)) (take-append-drop 8 line ∙ whole) in (
      subst (λ t. SameText t (codes "SIP/2.0 ")) (sym same.0) (map-append to_ascii_lowercase p.version (space ∷ []) ∙ ap (λ t. t ++ space ∷ []) p.is_version),
      subst (λ t. CodeFront t (code, reason)) (sym same.1) (p.digits, space ∷ reason, p.is_code, (space ∷ [], reason, refl, refl, refl), refl),
      long,
    )

-- a line that does not begin with the version is no status line
pub status-no_version : (line : List ℕ) → (SameText (take 8 line) (codes "SIP/2.0 ") → ⊥) → NotRead (StatusLine line)
status-no_version line none (code, reason) is = none (status-cut line code reason is).0

-- a line without a status code after the version is no status line
pub status-no_code : (line : List ℕ) → NotRead (CodeFront (drop 8 line)) → NotRead (StatusLine line)
status-no_code line none (code, reason) is = none (code, reason) (status-cut line code reason is).1

-- a line whose reason has a byte that no reason phrase has is no status line
pub status-no_reason : (line : List ℕ) (n : ℕ) (rest : List ℕ) → ReadAs (CodeFront (drop 8 line)) (n, rest) → list_all is_reason_byte rest ≡ false → NotRead (StatusLine line)
status-no_reason line n rest read none (code, reason) is =
    -- the reason of the status line is the rest that was read after the code, and all its bytes are of a reason
    let same = read.1 (code, reason) (status-cut line code reason is).1 in
    both_ways (list_all is_reason_byte rest) none (run-list_all is_reason_byte rest (subst (Many (One is_reason_byte)) (ap (λ x. x.1) same) (status_parts line code reason is).are_bytes))

-- a line with the version, a status code and a reason phrase is read as a status line of that code and that reason
pub status-read : (line : List ℕ) (n : ℕ) (rest : List ℕ) → SameText (take 8 line) (codes "SIP/2.0 ") → ReadAs (CodeFront (drop 8 line)) (n, rest) → list_all is_reason_byte rest ≡ true → ReadAs (StatusLine line) (n, rest)
status-read line n rest version read all = (
  (v.0, space ∷ drop 8 line, v.1, (space ∷ [], drop 8 line, refl, code, refl), sym (take-append-drop 8 line) ∙ ap (λ t. t ++ drop 8 line) v.2 ∙ append_assoc v.0 (space ∷ []) (drop 8 line)),
  (λ x other. read.1 x (status-cut line x.0 x.1 other).1),
)
  where
    -- the first eight bytes are a version and SP
    v : (v : List ℕ) × Version v × (take 8 line ≡ v ++ space ∷ [])
    v = version-space (take 8 line) version

    -- after them stand the code, SP and the reason
    code : ((λ t. CodeText t n) then Byte space then (λ t. Many (One is_reason_byte) t × (rest ≡ t))) (drop 8 line)
    code = (read.0.0, read.0.1, read.0.2, (read.0.3.0, read.0.3.1, read.0.3.2, (subst (Many (One is_reason_byte)) (sym read.0.3.3) (list_all-run is_reason_byte rest all), sym read.0.3.3), read.0.3.4), read.0.4)

-- a line that is a request line is a start line, and no other
pub start-request : (line method uri : List ℕ) → ReadAs (RequestLine line) (method, uri) → ReadAs (StartSays line) (request method uri)
start-request line method uri read = (read.0, (λ x is. same_start line x (request method uri) is read.0))

-- a line that is a status line is a start line, and no other
pub start-status : (line : List ℕ) (code : ℕ) (reason : List ℕ) → ReadAs (StatusLine line) (code, reason) → ReadAs (StartSays line) (status code reason)
start-status line code reason read = (read.0, (λ x is. same_start line x (status code reason) is read.0))

-- a line that is neither a request line nor a status line is no start line
pub start-none : (line : List ℕ) → NotRead (RequestLine line) → NotRead (StatusLine line) → NotRead (StartSays line)
start-none line no_request no_status (request method uri) is = no_request (method, uri) is
start-none line no_request no_status (status code reason) is = no_status (code, reason) is
