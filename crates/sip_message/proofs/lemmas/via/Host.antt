-- The host and the port of sent-by, at the front of a text.
-- `HostCut` is what may be a host at the front of a text, in brackets or as a token, and `HostFront` is a host there, each with what is left.
use Rattle.std.proofs.Common.{◌≡◌, ℕ, Bool, true, false, nat_eq, ◌||◌, List, [], ◌∷◌, ◌++◌, Option, Some, None, length, slice_index, refl, sym, ap, ◌∙◌, subst, inl, inr, arith}
use Rattle.std.specs.Char.{is_ascii_digit}
use Rattle.std.proofs.lemmas.Bool.{both_ways, or_cases, or_right, eqb-true}
use Rattle.std.proofs.lemmas.List.{append_assoc}
use Rattle.sip_standard.specs.Text.{One, Many}
use Rattle.sip_standard.specs.Profile.{Token, Hostname, Ipv4, Host, Port}
use Rattle.sip_standard.specs.Via.{PortSays}
use Rattle.sip_text.specs.Bytes.{colon, left_bracket, right_bracket, is_token_byte}
use Rattle.sip_text.specs.inner.HostTests.{is_v4, is_hostname}
use Rattle.sip_text.proofs.hosts.HostnameLemmas.{hostname-is}
use Rattle.sip_text.proofs.hosts.V4Lemmas.{v4-is}
use Rattle.sip_text.proofs.texts.ManyLemmas.{many-nil, many-cons}
use Rattle.sip_text.proofs.uris.UriPortLemmas.{port-length}
use Rattle.sip_message.specs.inner.Fronts.{Stops, StopsBlank, TokenFront, MarkFront}
use Rattle.sip_message.specs.inner.ParamFronts.{BracketFront, LedFront}
use Rattle.sip_message.specs.inner.ViaFronts.{HostCut, HostFront, PortFront}
use Rattle.sip_message.proofs.lemmas.text.Cuts.{All}
use Rattle.sip_message.proofs.lemmas.text.Each.{each-one, each-between}
use Rattle.sip_message.proofs.lemmas.field.OneWay.{blank-token}
use Rattle.sip_message.proofs.lemmas.front.Cuts.{ReadAs, NotRead, stops-byte}
use Rattle.sip_message.proofs.lemmas.via.Protocol.{token-stops}
use Rattle.sip_message.proofs.lemmas.front.OneWay.{AtMostOne, read-one, one-token, one-bracket, token-digit, each-hostname, each-v4, reference-bracket, bracket-first, token-first, first-fails}
use Rattle.sip_message.proofs.lemmas.front.Led.{Next, next-stops, next-other}
use Rattle.sip_message.specs.inner.Only.{IsOnlyValue}
use Rattle.sip_message.proofs.lemmas.params.Reading.{is_separator, separator-token}

-- what may be a host is cut in one way
pub one-host_cut : (text : List ℕ) → AtMostOne (HostCut text)
-- both are in brackets
one-host_cut text x y (inl a) (inl b) = one-bracket text x y a b
-- one is in brackets, and begins with "[", and the other a token, which does not
one-host_cut text x y (inl a) (inr b) = absurd (first-fails is_token_byte (slice_index text 0) left_bracket refl (bracket-first text x a) (token-first text y b))
one-host_cut text x y (inr a) (inl b) = absurd (first-fails is_token_byte (slice_index text 0) left_bracket refl (bracket-first text y b) (token-first text x a))
-- both are tokens
one-host_cut text x y (inr a) (inr b) = one-token text x y a b

-- where something in brackets stands at the front of a text, it is what may be a host there
pub host-bracket : (text part rest : List ℕ) → ReadAs (BracketFront text) (part, rest) → ReadAs (HostCut text) (part, rest)
host-bracket text part rest is = read-one (HostCut text) (part, rest) (one-host_cut text) (inl is.0)

-- where nothing in brackets stands at the front of a text, the token there is what may be a host
pub host-token : {A : Type 0} (parts : A → List ℕ × List ℕ) (text : List ℕ) (r : Option A) → NotRead (BracketFront text) → IsOnlyValue TokenFront parts text r → IsOnlyValue HostCut parts text r
host-token parts text None bracket none = at
  where
    -- what may be a host is not read, neither in brackets nor as a token
    at : NotRead (HostCut text)
    at x (inl is) = bracket x is
    at x (inr is) = none x is
host-token parts text (Some a) bracket read = read-one (HostCut text) (parts a) (one-host_cut text) (inr read.0)

-- a host at the front of a text is read in one way
pub one-host : (text : List ℕ) → AtMostOne (HostFront text)
one-host text x y a b = one-host_cut text x y a.1 b.1

-- where what may be a host at the front of a text is one, it is read as the host
pub host-found : (text host rest : List ℕ) → ReadAs (HostCut text) (host, rest) → Host host → ReadAs (HostFront text) (host, rest)
host-found text host rest cut is = read-one (HostFront text) (host, rest) (one-host text) (is, cut.0)

-- where what may be a host at the front of a text is none, no host is read
pub host-missing : (text host rest : List ℕ) → ReadAs (HostCut text) (host, rest) → (Host host → ⊥) → NotRead (HostFront text)
host-missing text host rest cut none x is = none (subst Host (ap (λ y. y.0) (cut.1 x is.1)) is.0)

-- a port at the front of a text is read in one way
pub one-port : (text : List ℕ) → AtMostOne (PortFront text)
-- a port is a token
one-port text x y a b = one-token text x y a.1 b.1

-- where the token at the front of a text is a port, it is read as the port
pub port-found : (text port rest : List ℕ) → ReadAs (TokenFront text) (port, rest) → Port port → ReadAs (PortFront text) (port, rest)
port-found text port rest token is = read-one (PortFront text) (port, rest) (one-port text) (is, token.0)

-- where the token at the front of a text is no port, no port is read
pub port-missing : (text port rest : List ℕ) → ReadAs (TokenFront text) (port, rest) → (Port port → ⊥) → NotRead (PortFront text)
-- the token would be the port
port-missing text port rest token none x is = none (subst Port (ap (λ y. y.0) (token.1 x is.1)) is.0)

-- bytes of tokens, one or more, are a token
bytes-token : (u : List ℕ) → All is_token_byte u → (u ≡ [] → ⊥) → Token u
-- the text has a byte at least
bytes-token [] all some = absurd (some refl)
bytes-token (b ∷ u) all some = (b ∷ [], u, (b, all.0, refl), many u all.1, refl)
  where
    -- bytes of tokens are any number of them
    many : (t : List ℕ) → All is_token_byte t → Many (One is_token_byte) t
    -- none are left; or one, and others after it
    many [] every = many-nil (One is_token_byte)
    many (c ∷ t) every = many-cons (One is_token_byte) (c ∷ []) t (c, every.0, refl) (many t every.1)

-- a hostname is a token
hostname-token : (u : List ℕ) → Hostname u → Token u
-- all its bytes are bytes of tokens, and the empty text does not pass the test of a hostname
hostname-token u is = bytes-token u (each-hostname u is) (λ none. both_ways (is_hostname u) (ap is_hostname none) (hostname-is u is))

-- an IPv4 address is a token
v4-token : (u : List ℕ) → Ipv4 u → Token u
-- all its bytes are bytes of tokens, and the empty text does not pass the test of an IPv4 address
v4-token u is = bytes-token u (each-v4 u is) (λ none. both_ways (is_v4 u) (ap is_v4 none) (v4-is u is))

-- a port is a token
port-token : (u : List ℕ) → Port u → Token u
port-token u is =
    -- its one to five bytes are digits, which are bytes of tokens
    bytes-token u (each-between is_token_byte 1 5 _ (each-one is_token_byte is_ascii_digit token-digit) u is.0)
    (λ none. omega (arith, ap length none, (port-length u is).0))

-- the byte may follow a host, after blanks: it is a colon, a comma or a semicolon
abbrev pub is_after_host : ℕ → Bool
is_after_host b = nat_eq b colon || is_separator b

-- a byte that may follow a host is no byte of a token
after-token : (b : ℕ) → is_after_host b ≡ true → is_token_byte b ≡ false
after-token b is = elim (or_cases (nat_eq b colon) (is_separator b) is) [
  -- a colon, a comma and a semicolon are no bytes of tokens
  | inl same ↦ subst (λ x. is_token_byte x ≡ false) (sym (eqb-true b colon same)) refl
  | inr more ↦ separator-token b more
]

-- a separator may follow a host
pub next-after_host : (text : List ℕ) → Next is_separator text → Next is_after_host text
-- nothing follows; or a separator, which is one of the bytes that may
next-after_host text (inl none) = inl none
next-after_host text (inr (b, inner, is, behind)) = inr (b, inner, or_right (nat_eq b colon) (is_separator b) is, behind)

-- where no byte of a token follows a token, it is read at the front of it and what follows
token-front : (u rest : List ℕ) → Token u → Stops is_token_byte rest → TokenFront (u ++ rest) (u, rest)
token-front u rest token stops = (token, stops, (u, rest, refl, refl, refl))

-- where nothing follows a host, or after blanks a byte that may, the host is read at the front of it and what follows
pub host-front : (h rest : List ℕ) → Host h → Next is_after_host rest → HostFront (h ++ rest) (h, rest)
-- a name and an IPv4 address are tokens, after which no byte of a token stands
host-front h rest (inl hostname) next = (inl hostname, inr (token-front h rest (hostname-token h hostname) (next-stops is_after_host is_token_byte rest blank-token after-token next)))
host-front h rest (inr (inl address)) next = (inr (inl address), inr (token-front h rest (v4-token h address) (next-stops is_after_host is_token_byte rest blank-token after-token next)))
-- an address in brackets ends with its "]"
host-front h rest (inr (inr reference)) next = (inr (inr reference), inl (reference-bracket (h ++ rest) (h, rest) (reference, refl)))

-- a host does not begin with a blank
pub host-stops : (h rest : List ℕ) → Host h → StopsBlank (h ++ rest)
-- a name and an IPv4 address begin with a byte of a token
host-stops h rest (inl hostname) = token-stops h rest (hostname-token h hostname)
host-stops h rest (inr (inl address)) = token-stops h rest (v4-token h address)
-- an address in brackets begins with "["
host-stops h rest (inr (inr reference)) =
    let bracket = reference-bracket (h ++ rest) (h, rest) (reference, refl) in
    subst (λ t. StopsBlank (t ++ rest)) (sym bracket.2) (stops-byte left_bracket ((bracket.0 ++ right_bracket ∷ []) ++ rest) refl)

-- where a host is read at the front of a text, the text is the host and what is left
pub front-host : (text h rest : List ℕ) → HostFront text (h, rest) → Host h × (text ≡ h ++ rest)
-- in brackets, or as a token
front-host text h rest (is, inl bracket) = (is, bracket.3)
front-host text h rest (is, inr token) = (is, token.2.4 ∙ ap (λ z. z ++ token.2.1) token.2.2 ∙ ap (λ z. h ++ z) token.2.3)

-- where nothing follows an optional port, or after blanks a separator, the port is read at the front of it and what follows
pub port-front : (port : Option (List ℕ)) (p rest : List ℕ) → PortSays port p → Next is_separator rest → LedFront colon PortFront (p ++ rest) (port, rest)
-- without a port nothing is read: what follows begins with no colon
port-front None p rest p_is next =
    let whole : p ++ rest ≡ rest = ap (λ t. t ++ rest) p_is in
    ((λ inner mark. next-other is_separator colon rest refl refl next inner (subst (λ t. MarkFront colon t inner) whole mark)), sym whole)
-- a colon and a port t are read, and the port ends where its bytes end, since no byte of a token follows them
port-front (Some port) p rest (m, t, mark, (fits, port_is), p_is) next = (
  t ++ rest,
  (token-stops t rest (port-token t fits), (m, t ++ rest, mark, refl, ap (λ x. x ++ rest) p_is ∙ append_assoc m t rest)),
  subst (λ x. PortFront (t ++ rest) (x, rest)) (sym port_is)
      (fits, token-front t rest (port-token t fits) (next-stops is_separator is_token_byte rest blank-token separator-token next)),
)

-- where an optional port is read at the front of a text, the text is the port with its colon, and what is left
pub front-port : (port : Option (List ℕ)) (text rest : List ℕ) → LedFront colon PortFront text (port, rest) → (p : List ℕ) × PortSays port p × (text ≡ p ++ rest)
-- without a port nothing is taken off the text
front-port None text rest (none, rest_is) = ([], refl, sym rest_is)
front-port (Some port) text rest (inner, mark, (fits, token)) =
    -- after the colon and its blanks, mark.1.0, the port stands, and then what is left
    let token_whole : inner ≡ port ++ rest = token.2.4 ∙ ap (λ z. z ++ token.2.1) token.2.2 ∙ ap (λ z. port ++ z) token.2.3 in
    (mark.1.0 ++ port, (mark.1.0, port, mark.1.2, (fits, refl), refl), mark.1.4 ∙ ap (λ z. mark.1.0 ++ z) (mark.1.3 ∙ token_whole) ∙ sym (append_assoc mark.1.0 port rest))
