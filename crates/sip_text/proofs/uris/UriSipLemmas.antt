-- What follows the scheme of a SIP URI is cut into its parts in one way.
-- In the lemmas p is the parts of a text, P and Q are sets of texts, and o is an optional part. Of a text i is the userinfo, h the host, o the port, a and b
-- the parameters and the headers; r1 to r3 are what follows the first three of these, and e1 to e4 say so.
use Rattle.std.proofs.Common.{◌≡◌, ℕ, Bool, true, false, nat_eq, List, [], ◌∷◌, ◌++◌, Option, None, Some, IsNone, IfSome, is_some, length, drop, ◌≤◌, inl, inr, arith, refl, sym, ap, ◌∙◌, subst}
use Rattle.std.specs.Bool.{Decides}
use Rattle.std.specs.List.{list_all}
use Rattle.std.proofs.lemmas.Bool.Decides.{Decides-like}
use Rattle.std.proofs.lemmas.Bool.{false≢true, both_ways, and_parts, eq-eqb}
use Rattle.std.proofs.lemmas.List.{append-nil, append_assoc, length-append}
use Rattle.std.specs.Char.{is_ascii_digit}
use Rattle.sip_standard.specs.Text.{One, ◌then◌, Optional}
use Rattle.sip_standard.specs.Profile.{User, Password, Userinfo, Host, Port, UriParameters, Headers}
use Rattle.sip_text.specs.Bytes.{ampersand, equals, colon, semicolon, question, at_sign, Byte}
use Rattle.sip_text.specs.inner.Class.{is_user_unreserved, is_password_unreserved, is_param_unreserved, is_hnv_unreserved}
use Rattle.sip_text.specs.inner.Cut.{led, before, behind, before_last, behind_last}
use Rattle.sip_text.specs.inner.Pieces.{Header}
use Rattle.sip_text.specs.inner.UriCut.{IsInfoCut, IsPortCut, CutParts, IsSipCut, InfoFits, TailFits, SipRest}
use Rattle.sip_text.proofs.texts.LacksLemmas.{Lacks, AllLack, lacks-append, lack-one, lack-byte, lack-then, lack-many, lack-some, lack-between, lack-joined}
use Rattle.sip_text.proofs.texts.ManyLemmas.{drop-front}
use Rattle.sip_text.proofs.cuts.CutLemmas.{cut-whole, before-led, behind-led}
use Rattle.sip_text.proofs.cuts.LastLemmas.{before_last-mark, behind_last-mark}
use Rattle.sip_text.proofs.uris.UriCharLemmas.{is_char_byte, lack-char}
use Rattle.sip_text.proofs.uris.UriPartLemmas.{lack-param, params-led}
use Rattle.sip_text.proofs.uris.UriPortLemmas.{lack-port}
use Rattle.sip_text.proofs.uris.UriHostLemmas.{IsForeign, lack-host, host-no_port}

-- each part is a text of its production, and a password stands after a user
record SipFits (p : CutParts) : Type 0 where
  user : IfSome p.user User
  password : IfSome p.password Password
  owner : IsNone p.user → IsNone p.password
  host : Host p.host
  port : IfSome p.port Port
  params : UriParameters p.params
  headers : IfSome p.headers Headers

-- [ userinfo ], userinfo = user [ ":" password ] "@"
abbrev userinfo_text : Option (List ℕ) → Option (List ℕ) → List ℕ
userinfo_text None password = []
userinfo_text (Some user) password = user ++ led colon password ++ at_sign ∷ []

-- hostport = host [ ":" port ]
abbrev hostport_text : List ℕ → Option (List ℕ) → List ℕ
hostport_text host port = host ++ led colon port

-- [ userinfo ] hostport uri-parameters [ headers ]
abbrev sip_text : CutParts → List ℕ
sip_text p =
    userinfo_text p.user p.password
    ++ (hostport_text p.host p.port ++ p.params ++ led question p.headers)

-- the mark and a part of P, or nothing where there is no part, are an optional part of P after its mark
led-optional : (mark : ℕ) (P : List ℕ → Type 0) (part : Option (List ℕ)) → IfSome part P → Optional (Byte mark then P) (led mark part)
led-optional mark P None fits = inl refl
led-optional mark P (Some part) fits = inr (mark ∷ [], part, refl, fits, refl)

-- a text that may have a part after a mark is the mark and that part, or empty
optional-led : (mark : ℕ) (P : List ℕ → Type 0) (text : List ℕ) → Optional (Byte mark then P) text → (part : Option (List ℕ)) × IfSome part P × (text ≡ led mark part)
optional-led mark P text (inl none) = (None, tt, none)
optional-led mark P text (inr (u, v, u_is, is, whole)) = (Some v, is, whole ∙ ap (λ x. x ++ v) u_is)

-- the text of a user and a password, or of none, is an optional userinfo
userinfo-optional : (user password : Option (List ℕ)) → IfSome user User → IfSome password Password → Optional Userinfo (userinfo_text user password)
userinfo-optional None password user_fits fits = inl refl
userinfo-optional (Some user) password user_fits fits =
    -- before the "@" stand the user and, after a colon, the password if there is one
    inr (
      user,
      led colon password ++ at_sign ∷ [],
      user_fits,
      (led colon password, at_sign ∷ [], led-optional colon Password password fits, refl, refl),
      append_assoc user (led colon password) (at_sign ∷ []),
    )

-- the user and the password that stand before a host, where there are any, and that the text is theirs
record Info (text : List ℕ) : Type 0 where
  user : Option (List ℕ)
  password : Option (List ℕ)
  user_fits : IfSome user User
  fits : IfSome password Password
  owner : IsNone user → IsNone password
  whole : text ≡ userinfo_text user password

-- an optional userinfo is the text of a user and a password, or of none
optional-userinfo : (text : List ℕ) → Optional Userinfo text → Info text
optional-userinfo text (inl none) = record { user = None; password = None; user_fits = tt; fits = tt; owner = λ is. is; whole = none }
-- this clause is of a user, perhaps with a password, and an "@"
-- u is the user and v what follows: w the password with its colon, and x the "@"
optional-userinfo text (inr (u, v, user, (w, x, word, at, v_is), whole)) =
    -- `password` is the password that w has, if w is not empty
    let password = optional-led colon Password w word in
    record {
      user = Some u;
      password = password.0;
      user_fits = user;
      fits = password.1;
      owner = λ none. absurd (both_ways true none refl);
      whole = whole ∙ ap (λ t. u ++ t) (v_is ∙ ap (λ t. t ++ x) password.2 ∙ ap (λ t. led colon password.0 ++ t) at) ∙ sym (append_assoc u (led colon password.0) (at_sign ∷ []));
    }

-- what follows the scheme of a SIP URI is the text of parts that fit
rest-parts : (text : List ℕ) → SipRest text → (p : CutParts) × SipFits p × (text ≡ sip_text p)
rest-parts text (i, r1, info, (h, r2, host, (o, r3, port, (a, b, params, headers, e4), e3), e2), e1) =
    -- what each text is: a user and a password, a port and headers if there are any
    let info_parts = optional-userinfo i info in
    let port_is = optional-led colon Port o port in
    let headers_is = optional-led question Headers b headers in
    -- each part stands where its text is
    let p : CutParts = record { user = info_parts.user; password = info_parts.password; host = h; port = port_is.0; params = a; headers = headers_is.0 } in
    -- what follows the userinfo is the host, the port, the parameters and the headers in a row
    let rest : r1 ≡ hostport_text p.host p.port ++ p.params ++ led question p.headers =
    e2 ∙ ap (λ t. h ++ t) (e3 ∙ ap (λ t. t ++ r3) port_is.2 ∙ ap (λ t. led colon port_is.0 ++ t) (e4 ∙ ap (λ t. a ++ t) headers_is.2))
    ∙ sym (append_assoc (h ++ led colon port_is.0) a (led question headers_is.0) ∙ append_assoc h (led colon port_is.0) (a ++ led question headers_is.0)) in (
      p,
      record { user = info_parts.user_fits; password = info_parts.fits; owner = info_parts.owner; host = host; port = port_is.1; params = params; headers = headers_is.1 },
      e1 ∙ ap (λ t. t ++ r1) info_parts.whole ∙ ap (λ t. userinfo_text info_parts.user info_parts.password ++ t) rest,
    )

-- the text of parts that fit may follow the scheme of a SIP URI
parts-rest : (p : CutParts) → SipFits p → SipRest (sip_text p)
parts-rest p fits =
    -- the user, the host, the port, the parameters and the headers stand in the order of the text
    let tail : List ℕ = p.params ++ led question p.headers in (
      userinfo_text p.user p.password,
      hostport_text p.host p.port ++ p.params ++ led question p.headers,
      userinfo-optional p.user p.password fits.user fits.password,
      (
        p.host,
        led colon p.port ++ tail,
        -- after the host come the port, the parameters and the headers
        fits.host,
        (
          led colon p.port,
          tail,
          led-optional colon Port p.port fits.port,
          (p.params, led question p.headers, fits.params, led-optional question Headers p.headers fits.headers, refl),
          refl,
        ),
        append_assoc (p.host ++ led colon p.port) p.params (led question p.headers) ∙ append_assoc p.host (led colon p.port) tail,
      ),
      refl,
    )

-- an optional part after another mark lacks the mark where the part does
lacks-led : (mark sep : ℕ) (o : Option (List ℕ)) → nat_eq sep mark ≡ false → IfSome o (Lacks mark) → Lacks mark (led sep o)
lacks-led mark sep None apart lacks = tt
lacks-led mark sep (Some v) apart lacks = (apart, lacks)

-- a text that lacks the mark is not cut
uncut : (mark : ℕ) (u : List ℕ) → Lacks mark u → (before mark u ≡ u) × (behind mark u ≡ None)
uncut mark u lacks = (
  ap (before mark) (sym (append-nil u)) ∙ before-led mark u None lacks,
  ap (behind mark) (sym (append-nil u)) ∙ behind-led mark u None lacks,
)

-- where each text of P is of Q, an optional part that is of P is of Q
weaker : (P Q : List ℕ → Type 0) (o : Option (List ℕ)) → ((u : List ℕ) → P u → Q u) → IfSome o P → IfSome o Q
weaker P Q None each fits = tt
weaker P Q (Some u) each fits = each u fits

-- an optional part that is missing is None
none-is : (o : Option (List ℕ)) → IsNone o → o ≡ None
none-is None none = refl
none-is (Some u) none = absurd (false≢true (sym none))

-- where a text is the spelling of a userinfo and a tail, the reader cuts off that userinfo and leaves that tail
info-agrees : (text : List ℕ) (user password : Option (List ℕ)) (rest : List ℕ) (owner key : Option (List ℕ)) (tail : List ℕ) → IsInfoCut text user password rest → text ≡ userinfo_text owner key ++ tail → IfSome owner (Lacks at_sign) → IfSome owner (Lacks colon) → IfSome key (Lacks at_sign) → (IsNone owner → IsNone key) → Lacks at_sign tail → (user ≡ owner) × (password ≡ key) × (rest ≡ tail)
-- neither has a userinfo, so the rest is the whole text, which is the tail
info-agrees text None password rest None key tail (_, password_is, rest_is) whole _ _ _ unowned _ =
    (refl, password_is ∙ sym (none-is key (unowned refl)), rest_is ∙ whole)
-- the text is spelled without a userinfo, so no `@` stands in it at which the reader could have cut
info-agrees text (Some user) password rest None key tail (behind_is, _, _) whole _ _ _ _ lacks =
    let none : behind at_sign text ≡ None = ap (behind at_sign) whole ∙ (uncut at_sign tail lacks).1 in
    cc
-- the text has a userinfo, so an `@` stands in it
info-agrees text None password rest (Some owner) key tail (behind_is, _, _) whole no_at _ key_at _ _ =
    let info = owner ++ led colon key in
    let lacks : Lacks at_sign info = lacks-append at_sign owner (led colon key) no_at (lacks-led at_sign colon key refl key_at) in
    let same : text ≡ info ++ led at_sign (Some tail) = whole ∙ append_assoc info (at_sign ∷ []) tail in
    let some : behind at_sign text ≡ Some tail = ap (behind at_sign) same ∙ behind-led at_sign info (Some tail) lacks in
    cc
-- both have a userinfo: it ends at the first `@`, and the user at the first colon in it
info-agrees text (Some user) password rest (Some owner) key tail (behind_is, user_is, password_is) whole no_at no_colon key_at _ _ =
    let info = owner ++ led colon key in
    let lacks : Lacks at_sign info = lacks-append at_sign owner (led colon key) no_at (lacks-led at_sign colon key refl key_at) in
    let same : text ≡ info ++ led at_sign (Some tail) = whole ∙ append_assoc info (at_sign ∷ []) tail in
    let some : behind at_sign text ≡ Some tail = ap (behind at_sign) same ∙ behind-led at_sign info (Some tail) lacks in
    -- what stands before the first `@` is the same, and what stands after it
    let front : before at_sign text ≡ info = ap (before at_sign) same ∙ before-led at_sign info (Some tail) lacks in
    let user_same : user ≡ owner = user_is ∙ ap (before colon) front ∙ before-led colon owner key no_colon in
    let rest_same : rest ≡ tail = cc in (
      ap Some user_same,
      password_is ∙ ap (behind colon) front ∙ behind-led colon owner key no_colon,
      rest_same,
    )

-- where a text is a host with a port or without one, the reader cuts it into that host and that port
port-agrees : (text host : List ℕ) (port : Option (List ℕ)) (name : List ℕ) (number : Option (List ℕ)) → IsPortCut text host port → Host name → IfSome number Port → text ≡ name ++ led colon number → (host ≡ name) × (port ≡ number)
-- neither has a port, so the text is the host alone
port-agrees text host None name None (host_is, _) fits _ whole =
    (host_is ∙ whole ∙ append-nil name, refl)
-- the text is spelled with a port at its end, which the reader would have cut off
port-agrees text host None name (Some number) (_, none) fits is_port whole = absurd (none name number is_port whole)
-- the reader has cut off a port, but the text is a host alone, and no host ends with ":" and a port
port-agrees text host (Some port) name None (is_port, there) fits _ whole =
    absurd (host-no_port name host port fits is_port (sym (append-nil name) ∙ sym whole ∙ there))
-- both have a port, which stands after the last colon
port-agrees text host (Some port) name (Some number) (is_port, there) fits is_number whole =
    let same : host ++ colon ∷ port ≡ name ++ colon ∷ number = sym there ∙ whole in
    let lacks = lack-port port is_port.0 in
    let number_lacks = lack-port number is_number.0 in
    let hosts : Some host ≡ Some name =
    sym (before_last-mark colon host port lacks) ∙ ap (before_last colon) same
    ∙ before_last-mark colon name number number_lacks in
    -- the ports stand after it
    let ports : port ≡ number =
    sym (behind_last-mark colon host port lacks) ∙ ap (behind_last colon) same
    ∙ behind_last-mark colon name number number_lacks in
    (cc, ap Some ports)

-- "@" is in no host
at_sign-foreign : IsForeign at_sign
at_sign-foreign = record { label = refl; alphanumeric = refl; alphabetic = refl; hexdigit = refl; digit = refl; of_colon = refl; of_dot = refl; of_left = refl; of_right = refl }

-- "?" is in no host
question-foreign : IsForeign question
question-foreign = record { label = refl; alphanumeric = refl; alphabetic = refl; hexdigit = refl; digit = refl; of_colon = refl; of_dot = refl; of_left = refl; of_right = refl }

-- ";" is in no host
semicolon-foreign : IsForeign semicolon
semicolon-foreign = record { label = refl; alphanumeric = refl; alphabetic = refl; hexdigit = refl; digit = refl; of_colon = refl; of_dot = refl; of_left = refl; of_right = refl }

-- a user lacks "@"
user-at_sign : AllLack at_sign User
user-at_sign = lack-some at_sign _ (lack-char at_sign is_user_unreserved refl)

-- no ":" stands in a user
user-colon : AllLack colon User
user-colon = lack-some colon _ (lack-char colon is_user_unreserved refl)

-- a password lacks "@"
password-at_sign : AllLack at_sign Password
password-at_sign = lack-many at_sign _ (lack-char at_sign is_password_unreserved refl)

-- a port lacks what is no digit
port-lacks : (mark : ℕ) → is_ascii_digit mark ≡ false → AllLack mark Port
port-lacks mark no_digit port fits = lack-between mark 1 5 (One is_ascii_digit) (lack-one mark is_ascii_digit no_digit) port fits.0

-- parameters lack each byte that is neither ";" nor "=" nor a byte of a parameter's words
params-lack : (mark : ℕ) → is_char_byte is_param_unreserved mark ≡ false → nat_eq equals mark ≡ false → nat_eq semicolon mark ≡ false → AllLack mark UriParameters
params-lack mark no_char no_equals no_semicolon =
    lack-many mark _ (lack-then mark _ _ (lack-byte mark semicolon no_semicolon) (lack-param mark no_char no_equals))

-- headers lack "@"
headers-at_sign : AllLack at_sign Headers
headers-at_sign =
    let char = lack-char at_sign is_hnv_unreserved refl in
    lack-joined at_sign ampersand Header refl
    (lack-then at_sign _ _ (lack-some at_sign _ char)
    (lack-then at_sign _ _ (lack-byte at_sign equals refl) (lack-many at_sign _ char)))

-- a host with its port lacks each byte that is foreign to hosts
hostport-lacks : (mark : ℕ) (host : List ℕ) (port : Option (List ℕ)) → IsForeign mark → Host host → IfSome port Port → Lacks mark (hostport_text host port)
hostport-lacks mark host port foreign fits is_port =
    lacks-append mark host (led colon port) (lack-host mark foreign host fits)
    (lacks-led mark colon port foreign.of_colon (weaker Port (Lacks mark) port (port-lacks mark foreign.digit) is_port))

-- where a text spells parts that fit, the reader cuts it into these parts
cuts-agree : (text : List ℕ) (cut p : CutParts) → IsSipCut text cut → SipFits p → text ≡ sip_text p → p ≡ cut
cuts-agree text cut p is fits whole =
    let hostport = hostport_text p.host p.port in
    -- no @ stands after the one of the user, so the user is cut off there
    let no_at : Lacks at_sign (hostport ++ p.params) =
    lacks-append at_sign hostport p.params (hostport-lacks at_sign p.host p.port at_sign-foreign fits.host fits.port)
    (params-lack at_sign refl refl refl p.params fits.params) in
    -- `info` says that the user and the password are cut as the text has them
    let info = info-agrees text cut.user cut.password is.rest p.user p.password (hostport ++ p.params ++ led question p.headers)
    is.userinfo whole
    (weaker User (Lacks at_sign) p.user user-at_sign fits.user) (weaker User (Lacks colon) p.user user-colon fits.user)
    (weaker Password (Lacks at_sign) p.password password-at_sign fits.password) fits.owner
    (lacks-append at_sign (hostport ++ p.params) (led question p.headers) no_at
    (lacks-led at_sign question p.headers refl (weaker Headers (Lacks at_sign) p.headers headers-at_sign fits.headers))) in
    -- no ? stands before the headers, so the headers are cut off there
    let no_question : Lacks question (hostport ++ p.params) =
    lacks-append question hostport p.params (hostport-lacks question p.host p.port question-foreign fits.host fits.port)
    (params-lack question refl refl refl p.params fits.params) in
    -- what stands before the headers is the host, the port and the parameters, where `listed` is what follows their first ";"
    let (listed, listed_is) = params-led p.params fits.params in
    let front : before question is.rest ≡ hostport ++ led semicolon listed =
    ap (before question) info.2 ∙ before-led question (hostport ++ p.params) p.headers no_question
    ∙ ap (λ t. hostport ++ t) listed_is in
    -- no ; stands in the host and the port, so the parameters are cut off there
    let no_semicolon = hostport-lacks semicolon p.host p.port semicolon-foreign fits.host fits.port in
    let port = port-agrees (before semicolon (before question is.rest)) cut.host cut.port p.host p.port
    is.port fits.host fits.port (ap (before semicolon) front ∙ before-led semicolon hostport listed no_semicolon) in
    -- the parameters stand after the first semicolon, and the headers after the first question mark
    let params : cut.params ≡ p.params = is.params ∙ ap (λ t. led semicolon (behind semicolon t)) front ∙ ap (led semicolon) (behind-led semicolon hostport listed no_semicolon) ∙ sym listed_is in
    let headers : cut.headers ≡ p.headers = is.headers ∙ ap (behind question) info.2 ∙ behind-led question (hostport ++ p.params) p.headers no_question in
    λ i. record { user = sym info.0 i; password = sym info.1 i; host = sym port.0 i; port = sym port.1 i; params = sym params i; headers = sym headers i }

-- what stands before a mark is no longer than the text
pub before-within : (mark : ℕ) (text front : List ℕ) → front ≡ before mark text → length front ≤ length text
before-within mark text front is =
    omega (arith, ap length is, ap length (cut-whole mark text), length-append (before mark text) (led mark (behind mark text)))

-- where all bytes of a text are of a class without the mark, the text lacks it
lacks-all : (mark : ℕ) (test : ℕ → Bool) (u : List ℕ) → test mark ≡ false → list_all test u ≡ true → Lacks mark u
lacks-all mark test [] fails all = tt
lacks-all mark test (b ∷ u) fails all =
    let both = and_parts (test b) (list_all test u) all in
    ((lack-one mark test fails (b ∷ []) (b, both.0, refl)).0, lacks-all mark test u fails both.1)

-- u, the mark and v do not lack the mark
not-lacks : (mark : ℕ) (u v : List ℕ) → Lacks mark (u ++ mark ∷ v) → ⊥
not-lacks mark [] v lacks = both_ways (nat_eq mark mark) lacks.0 (eq-eqb mark mark refl)
not-lacks mark (b ∷ u) v lacks = not-lacks mark u v lacks.1

-- where all bytes after the userinfo are of a class without "?", ";" and ":", they are the host, and no other part follows
pub host-cut : (test : ℕ → Bool) (text : List ℕ) (user password : Option (List ℕ)) (rest : List ℕ) → test question ≡ false → test semicolon ≡ false → test colon ≡ false → IsInfoCut text user password rest → list_all test rest ≡ true → IsSipCut text (record { user = user; password = password; host = rest; port = None; params = []; headers = None })
host-cut test text user password rest no_question no_semicolon no_colon info all =
    -- the rest has no "?" and no ";", so nothing is cut off it there
    let headers = uncut question rest (lacks-all question test rest no_question all) in
    let params = uncut semicolon rest (lacks-all semicolon test rest no_semicolon all) in
    let whole : before semicolon (before question rest) ≡ rest = ap (before semicolon) (headers.0) ∙ params.0 in
    -- the headers and parameters are none, and the rest is the host
    record {
      rest = rest;
      userinfo = info;
      headers = sym (headers.1);
      params = sym (ap (λ t. led semicolon (behind semicolon t)) (headers.0) ∙ ap (led semicolon) (params.1));
      port = (
        sym whole,
        λ u v is_port split. not-lacks colon u v (subst (Lacks colon) (sym whole ∙ split) (lacks-all colon test rest no_colon all)),
      );
    }

-- the reader's cuts, one after the other, are those of a SIP URI
pub sip-cut : (text : List ℕ) (cut : CutParts) (rest front hostport : List ℕ) → IsInfoCut text cut.user cut.password rest → front ≡ before question rest → cut.headers ≡ behind question rest → hostport ≡ before semicolon front → IsPortCut hostport cut.host cut.port → cut.params ≡ drop (length hostport) front → IsSipCut text cut
sip-cut text cut rest front hostport info front_is headers_is hostport_is port params_is =
    -- the host and the port stand before the first ";" of what stands before the first "?"
    let hostport_cut : hostport ≡ before semicolon (before question rest) = hostport_is ∙ ap (before semicolon) front_is in
    let whole : front ≡ hostport ++ led semicolon (behind semicolon front) =
    cut-whole semicolon front ∙ ap (λ t. t ++ led semicolon (behind semicolon front)) (sym hostport_is) in
    -- each cut is made in what the cut before it left
    record {
      rest = rest;
      userinfo = info;
      headers = headers_is;
      params = params_is ∙ ap (drop (length hostport)) whole
          ∙ drop-front hostport (led semicolon (behind semicolon front))
          ∙ ap (λ t. led semicolon (behind semicolon t)) front_is;
      port = subst (λ t. IsPortCut t cut.host cut.port) hostport_cut port;
    }

-- a text is its userinfo and the rest
info-whole : (text : List ℕ) (user password : Option (List ℕ)) (rest : List ℕ) → IsInfoCut text user password rest → text ≡ userinfo_text user password ++ rest
-- without a user the rest is the whole text
info-whole text None password rest (_, _, rest_is) = sym rest_is
info-whole text (Some user) password rest (behind_is, user_is, password_is) =
    -- the userinfo stands before the first "@", and is cut at its first ":"
    let info : before at_sign text ≡ user ++ led colon password =
    cut-whole colon (before at_sign text) ∙ ap (λ t. t ++ led colon (behind colon (before at_sign text))) (sym user_is)
    ∙ ap (λ o. user ++ led colon o) (sym password_is) in
    -- the text is the userinfo, the "@" and the rest
    cut-whole at_sign text ∙ ap (λ o. before at_sign text ++ led at_sign o) behind_is
    ∙ ap (λ t. t ++ at_sign ∷ rest) info ∙ sym (append_assoc (user ++ led colon password) (at_sign ∷ []) rest)

-- a password stands only after a user
info-owner : (text : List ℕ) (user password : Option (List ℕ)) (rest : List ℕ) → IsInfoCut text user password rest → IsNone user → IsNone password
info-owner text None password rest (_, password_is, _) none = ap is_some password_is
info-owner text (Some user) password rest cut none = absurd (false≢true (sym none))

-- a text is its host and its port
port-whole : (text host : List ℕ) (port : Option (List ℕ)) → IsPortCut text host port → text ≡ host ++ led colon port
port-whole text host None (host_is, _) = sym host_is ∙ sym (append-nil host)
port-whole text host (Some port) (_, whole) = whole

-- the port that is cut off a host, where there is one, is a port
port-fits : (text host : List ℕ) (port : Option (List ℕ)) → IsPortCut text host port → IfSome port Port
port-fits text host None cut = tt
port-fits text host (Some port) (fits, _) = fits

-- where the parts that were cut fit, the text may follow the scheme of a SIP URI
parts-fit : (text : List ℕ) (cut : CutParts) → IsSipCut text cut → (Host cut.host × InfoFits cut) × TailFits cut → SipRest text
parts-fit text cut is ((host, info), tail) =
    let hostport = before semicolon (before question is.rest) in
    -- the rest is the host, the port, the parameters and the headers in a row
    let rest : is.rest ≡ cut.host ++ led colon cut.port ++ cut.params ++ led question cut.headers =
    cut-whole question is.rest ∙ ap (λ o. before question is.rest ++ led question o) (sym is.headers)
    ∙ ap (λ t. t ++ led question cut.headers) (
    cut-whole semicolon (before question is.rest) ∙ ap (λ t. hostport ++ t) (sym is.params)
    ∙ ap (λ t. t ++ cut.params) (port-whole hostport cut.host cut.port is.port)) in
    let whole : text ≡ sip_text cut = info-whole text cut.user cut.password is.rest is.userinfo ∙ ap (λ t. userinfo_text cut.user cut.password ++ t) rest in
    subst SipRest (sym whole) (parts-rest cut (record {
      user = info.0;
      password = info.1;
      owner = info-owner text cut.user cut.password is.rest is.userinfo;
      host = host;
      -- the port is one, and so are the parameters and the headers
      port = port-fits hostport cut.host cut.port is.port;
      params = tail.0;
      headers = tail.1;
    }))

-- where a text may follow the scheme of a SIP URI, the parts that are cut off it fit
fit-parts : (text : List ℕ) (cut : CutParts) → IsSipCut text cut → SipRest text → (Host cut.host × InfoFits cut) × TailFits cut
fit-parts text cut is rest =
    -- p are the parts that the text spells, and so those that are cut
    let (p, fits, whole) = rest-parts text rest in
    subst (λ q. (Host q.host × InfoFits q) × TailFits q) (cuts-agree text cut p is fits whole) ((fits.host, (fits.user, fits.password)), (fits.params, fits.headers))

-- what decides that the parts that were cut fit decides whether the text may follow the scheme of a SIP URI
pub decides-rest : (text : List ℕ) (cut : CutParts) (r : Bool) → IsSipCut text cut → Decides r ((Host cut.host × InfoFits cut) × TailFits cut) → Decides r (SipRest text)
decides-rest text cut r is fits = Decides-like r (parts-fit text cut is) (fit-parts text cut is) fits
