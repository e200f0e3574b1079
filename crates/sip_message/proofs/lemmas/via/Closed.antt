-- A value of Via stays one, and keeps the transport of its first element, when a run of blanks in it becomes one SP.
-- Of an element of Via a, b and c are its protocol, version and transport, s and r the slashes, sp the blanks, h the host, p the port and q the parameters,
-- and w1 to w7 what follows each; v is an element, and vs are further ones.
use Rattle.std.proofs.Common.{◌≡◌, ℕ, ◌≤◌, List, [], length, Option, Some, None, refl, sym, ap, ◌∙◌, subst, inl, inr, arith}
use Rattle.std.proofs.lemmas.List.{length-append}
use Rattle.std.specs.Char.{is_ascii_alphabetic}
use Rattle.sip_standard.specs.Text.{Exactly, ◌then◌, ◌or◌, Optional, Many}
use Rattle.sip_standard.specs.Chars.{AnyCase}
use Rattle.sip_standard.specs.Profile.{Token, Blanks, Label, Host, Port}
use Rattle.sip_standard.specs.Via.{SaidVia, ParamSays, PortSays, first_some, ViaSays}
use Rattle.sip_standard.specs.Canonical.{unfolded}
use Rattle.sip_text.specs.Bytes.{colon, semicolon, equals, Byte, is_token_byte}
use Rattle.sip_text.specs.inner.Pieces.{DecimalGroup}
use Rattle.sip_message.proofs.lemmas.via.Value.{TopTransport}
use Rattle.sip_message.specs.inner.FieldText.{EndsSolid, OpensSolid}
use Rattle.sip_message.specs.inner.Marks.{slash, comma, Mark}
use Rattle.sip_message.proofs.lemmas.text.Cuts.{All}
use Rattle.sip_message.proofs.lemmas.text.Each.{Each, is_solid}
use Rattle.sip_message.proofs.lemmas.text.Says.{says-many, many-says}
use Rattle.sip_message.proofs.lemmas.text.Solid.{solid-token, solid-host, solid-port}
use Rattle.sip_message.proofs.lemmas.text.Closed.{Closed, closed-solid, closed-or, closed-then, closed-unfolded}
use Rattle.sip_message.proofs.lemmas.text.Ends.{AllFirm, AllEnd, firm-then_right, firm-then_left, end-then, end-firm, end-each, opens-solid, seam-left, seam-right, opens-then}
use Rattle.sip_message.proofs.lemmas.params.Closed.{LedValue, closed-nil, closed-blanks, closed-mark, closed-named, firm-named, closed-list, end-list, firm-token, firm-solid, open-solid, open-token, some-between, some-left, some-run}

-- the name of a parameter that says a branch
abbrev BranchName : List ℕ → Type 0
BranchName name = Token name × AnyCase "branch" name

-- the name of any other parameter
abbrev OtherName : List ℕ → Type 0
OtherName name = Token name × ¬ (AnyCase "branch" name)

-- the text is a parameter of a Via
abbrev ViaParam : List ℕ → Type 0
ViaParam = (BranchName then Mark equals then Token) or (OtherName then LedValue)

-- a parameter that says a branch, or none, is one of a Via
param-set : (o : Option (List ℕ)) (x : List ℕ) → (Mark semicolon then ParamSays o) x → (Mark semicolon then ViaParam) x
param-set (Some b) x (m, t, mark, (u, w, name, (e, d, equal, (token, b_is), w_is), t_is), whole) = (m, t, mark, inl (u, w, name, (e, d, equal, token, w_is), t_is), whole)
param-set None x (m, t, mark, other, whole) = (m, t, mark, inr other, whole)

-- a parameter of a Via says a branch, or none
set-param : (x : List ℕ) → (Mark semicolon then ViaParam) x → (o : Option (List ℕ)) × (Mark semicolon then ParamSays o) x
set-param x (m, t, mark, inl (u, w, name, (e, d, equal, token, w_is), t_is), whole) = (Some d, (m, t, mark, (u, w, name, (e, d, equal, (token, refl), w_is), t_is), whole))
set-param x (m, t, mark, inr other, whole) = (None, (m, t, mark, other, whole))

-- the name of a parameter has no blanks, whichever it is
solid-branch : Each is_solid BranchName
solid-branch u is = solid-token u is.0

-- the set of parameters of a Via is closed under making one SP of a blank run
closed-param : Closed ViaParam
closed-param =
    -- the name ends with no blank, and a branch begins with none
    closed-or (BranchName then Mark equals then Token) (OtherName then LedValue)
    (closed-then BranchName (Mark equals then Token) (seam-left BranchName (Mark equals then Token) (end-each BranchName solid-branch)) (closed-solid BranchName solid-branch)
    (closed-then (Mark equals) Token (seam-right (Mark equals) Token (λ u is. opens-solid u (solid-token u is))) (closed-mark equals refl) (closed-solid Token solid-token)))
    (closed-named OtherName (λ u is. is.0))

-- a parameter of a Via is not empty, and does not end with a blank
firm-param : AllFirm ViaParam
firm-param u (inl is) = firm-then_right BranchName (Mark equals then Token) (firm-then_right (Mark equals) Token firm-token) u is
firm-param u (inr is) = firm-named OtherName (λ t name. name.0) u is

-- a parameter of a Via does not begin with a blank
open-param : (u : List ℕ) → ViaParam u → OpensSolid u
open-param u (inl is) = opens-then BranchName (Mark equals then Token) (λ t v name. open-token t v name.0) u is
open-param u (inr is) = opens-then OtherName LedValue (λ t v name. open-token t v name.0) u is

-- *( SEMI via-params )
abbrev ParamsSet : List ℕ → Type 0
ParamsSet = Many (Mark semicolon then ViaParam)

-- a host is not empty
some-host : (t : List ℕ) → Host t → t ≡ [] → ⊥
-- a name has a label, an IPv4 address a group of digits, and an IPv6 address its "["
some-host t (inl is) none = absurd (omega (arith, ap length none, ap length is.4, length-append is.0 is.1, ap length is.3.4, length-append is.3.0 is.3.1, label is.3.0 is.3.2))
  where
    -- a label has at least one byte
    label : (u : List ℕ) → Label is_ascii_alphabetic u → 1 ≤ length u
    label u (inl one) = omega (arith, ap length one.2)
    label u (inr both) = omega (arith, ap length both.4, length-append both.0 both.1, ap length both.2.2)
some-host t (inr (inl is)) none = some-left DecimalGroup _ (λ u group. some-between _ 1 3 u (omega arith) group) t is none
some-host t (inr (inr is)) none = some-left (Byte 91) _ (λ u byte empty. absurd (omega (arith, ap length byte, ap length empty))) t is none

-- [ COLON port ]
abbrev PortSet : List ℕ → Type 0
PortSet = Optional (Mark colon then Port)

-- an optional port says a port, or none
port-set : (port : Option (List ℕ)) (text : List ℕ) → PortSays port text → PortSet text
port-set None text none = inl none
port-set (Some port) text (m, t, mark, (fits, port_is), whole) = inr (m, t, mark, fits, whole)

-- a port, or none, is said
set-port : (text : List ℕ) → PortSet text → (port : Option (List ℕ)) × PortSays port text
set-port text (inl none) = (None, none)
set-port text (inr (m, t, mark, fits, whole)) = (Some t, (m, t, mark, (fits, refl), whole))

-- what follows the transport of a Via: blanks, a host, an optional port and parameters
abbrev AfterTransport : List ℕ → Type 0
AfterTransport = Blanks then (Host then (PortSet then ParamsSet))

-- the text is an element of Via whose transport is of the set T
abbrev ViaSet : (List ℕ → Type 0) → List ℕ → Type 0
ViaSet T = Token then (Mark slash then (Token then (Mark slash then (T then AfterTransport))))

-- an optional port with its colon does not end with a blank
end-port : AllEnd PortSet
-- without a port nothing stands there; else the port is last, which has one digit or more
end-port u (inl none) = subst EndsSolid (sym none) tt
end-port u (inr both) = end-firm (Mark colon then Port) (firm-then_right (Mark colon) Port (firm-solid Port solid-port (λ y p. some-between _ 1 5 y (omega arith) p.0))) u both

-- the set of optional ports with their colon is closed under making one SP of a blank run
closed-port : Closed PortSet
closed-port =
    -- a colon with its blanks and the port: the port begins with no blank
    closed-or (Exactly []) (Mark colon then Port) closed-nil
    (closed-then (Mark colon) Port (seam-right (Mark colon) Port (λ u is. opens-solid u (solid-port u is))) (closed-mark colon refl) (closed-solid Port solid-port))

-- the set of texts after the transport of an element is closed under making one SP of a blank run
closed-after : Closed AfterTransport
closed-after =
    -- blanks, a host, a port and parameters: no run of blanks crosses a seam, since a host has none, and no port ends with one
    closed-then Blanks (Host then (PortSet then ParamsSet)) (seam-right Blanks (Host then (PortSet then ParamsSet)) (opens-then Host (PortSet then ParamsSet) (open-solid Host solid-host some-host)))
    closed-blanks
    (closed-then Host (PortSet then ParamsSet) (seam-left Host (PortSet then ParamsSet) (end-each Host solid-host)) (closed-solid Host solid-host)
    (closed-then PortSet ParamsSet (seam-left PortSet ParamsSet end-port) closed-port (closed-list semicolon ViaParam refl open-param firm-param closed-param)))

-- what stands after the transport of an element is not empty, and does not end with a blank
firm-after : AllFirm AfterTransport
firm-after =
    -- the host is not empty, and neither the port nor the parameters end with a blank
    firm-then_right Blanks (Host then (PortSet then ParamsSet))
    (firm-then_left Host (PortSet then ParamsSet) (firm-solid Host solid-host some-host)
    (end-then PortSet ParamsSet end-port (end-list semicolon ViaParam firm-param)))

-- a token, SLASH and a text of Q are a closed set where Q is, and no text of Q begins with a blank
closed-slash : (Q : List ℕ → Type 0) → ((u : List ℕ) → Q u → OpensSolid u) → Closed Q → Closed (Token then (Mark slash then Q))
closed-slash Q opens closed =
    -- a token, a slash with its blanks, and a text of Q: no token ends with a blank, and no text of Q begins with one
    closed-then Token (Mark slash then Q) (seam-left Token (Mark slash then Q) (end-each Token solid-token)) (closed-solid Token solid-token)
    (closed-then (Mark slash) Q (seam-right (Mark slash) Q opens) (closed-mark slash refl) closed)

-- the set of elements whose transport is of T is closed where no text of T is empty or has blanks
closed-via_set : (T : List ℕ → Type 0) → Each is_solid T → ((u : List ℕ) → T u → u ≡ [] → ⊥) → Closed (ViaSet T)
closed-via_set T solid some =
    -- the protocol and a slash, the version and a slash, the transport, and what follows it
    closed-slash (Token then (Mark slash then (T then AfterTransport))) (opens-then Token (Mark slash then (T then AfterTransport)) open-token)
    (closed-slash (T then AfterTransport) (opens-then T AfterTransport (open-solid T solid some))
    (closed-then T AfterTransport (seam-left T AfterTransport (end-each T solid)) (closed-solid T solid) closed-after))

-- an element whose transport is of T is not empty, and does not end with a blank
firm-via_set : (T : List ℕ → Type 0) → AllFirm (ViaSet T)
firm-via_set T =
    -- what stands after the transport is firm, and so is all of it
    firm-then_right Token _ (firm-then_right (Mark slash) _ (firm-then_right Token _ (firm-then_right (Mark slash) _ (firm-then_right T AfterTransport firm-after))))

-- an element of Via with a transport of T is of the set of such elements
via-set : (T : List ℕ → Type 0) (v : SaidVia) (text : List ℕ) → T v.transport → ViaSays v text → ViaSet T text
via-set T v text t (os, branch_is, own, (a, w1, a_is, (s, w2, slash1, (b, w3, b_is, (r, w4, slash2, (c, w5, (c_is, t_is), (sp, w6, blanks, (h, w7, (host, h_is), (p, q, port, params, w7_is), w6_is), w5_is), w4_is), w3_is), w2_is), w1_is), whole)) =
    -- the parameters are of the set of parameters, and the port of that of ports
    let qs = says-many (λ o. Mark semicolon then ParamSays o) _ param-set os q params in
    (a, w1, a_is, (s, w2, slash1, (b, w3, b_is, (r, w4, slash2, (c, w5, subst T t_is t, (sp, w6, blanks, (h, w7, host, (p, q, port-set v.port p port, qs, w7_is), w6_is), w5_is), w4_is), w3_is), w2_is), w1_is), whole)

-- an element whose transport is of T says something, with a transport of T
set-via : (T : List ℕ → Type 0) (text : List ℕ) → ((u : List ℕ) → T u → Token u) → ViaSet T text → (v : SaidVia) × ViaSays v text × T v.transport
set-via T text token (a, w1, a_is, (s, w2, slash1, (b, w3, b_is, (r, w4, slash2, (c, w5, c_is, (sp, w6, blanks, (h, w7, host, (p, q, port, params, w7_is), w6_is), w5_is), w4_is), w3_is), w2_is), w1_is), whole) =
    -- `said` is the branches that the parameters say, and `found` the port
    let said = many-says (λ o. Mark semicolon then ParamSays o) _ set-param q params in
    let found = set-port p port in (
      record { whole = text; transport = c; host = h; port = found.0; branch = first_some said.0 },
      (said.0, refl, refl, (a, w1, a_is, (s, w2, slash1, (b, w3, b_is, (r, w4, slash2, (c, w5, (token c c_is, refl), (sp, w6, blanks, (h, w7, (host, refl), (p, q, found.1, said.1, w7_is), w6_is), w5_is), w4_is), w3_is), w2_is), w1_is), whole)),
      c_is,
    )

-- an element after its comma is of the set of elements after a comma
more-set : (v : SaidVia) (x : List ℕ) → (Mark comma then ViaSays v) x → (Mark comma then ViaSet Token) x
more-set v x (m, t, mark, via, whole) = (m, t, mark, via-set Token v t (transport via) via, whole)
  where
    -- the transport is a token
    transport : ViaSays v t → Token v.transport
    transport (os, branch_is, own, says) = let five = says.3.3.3.3 in subst Token (sym five.2.1) five.2.0

-- the text is elements of Via, of which the first has a transport of the set T
abbrev ViasSet : (List ℕ → Type 0) → List ℕ → Type 0
ViasSet T = ViaSet T then Many (Mark comma then ViaSet Token)

-- the set of values of Via whose first element has a transport of T is closed where no text of T is empty or has blanks
closed-vias_set : (T : List ℕ → Type 0) → Each is_solid T → ((u : List ℕ) → T u → u ≡ [] → ⊥) → Closed (ViasSet T)
closed-vias_set T solid some =
    -- the first element and the others, each after its comma: no element ends with a blank, and none begins with one
    closed-then (ViaSet T) (Many (Mark comma then ViaSet Token)) (seam-left (ViaSet T) (Many (Mark comma then ViaSet Token)) (end-firm (ViaSet T) (firm-via_set T))) (closed-via_set T solid some)
    (closed-list comma (ViaSet Token) refl (opens-then Token _ open-token) (firm-via_set Token) (closed-via_set Token solid-token (some-run is_token_byte)))

-- a value of Via that is unfolded is a value of Via, and its first element has the same transport
pub unfolded-via : (text transport : List ℕ) → TopTransport text transport → TopTransport (unfolded text) transport
unfolded-via text transport (v, vs, (x, y, via, more, whole), is) =
    let five = via.3.3.3.3.3 in
    let token : Token transport = subst Token (sym (is ∙ five.2.1)) five.2.0 in
    -- `set`: the value is elements of which the first has this transport; this stays so when its folds are taken out (`after`)
    let set : ViasSet (Exactly transport) text = (x, y, via-set (Exactly transport) v x (sym is) via, says-many _ _ more-set vs y more, whole) in
    let after = closed-unfolded (ViasSet (Exactly transport)) (closed-vias_set (Exactly transport)
    (λ u same. subst (All is_solid) (sym same) (solid-token transport token))
    (λ u same none. some-run is_token_byte transport token (sym same ∙ none))) text set in
    -- `first` is the first element, with this transport, and `others` are the others
    let first = set-via (Exactly transport) after.0 (λ u same. subst Token (sym same) token) after.2 in
    let others = many-says (λ (e : SaidVia). Mark comma then ViaSays e) _ set-more after.1 after.3 in
    (first.0, others.0, (after.0, after.1, first.1, others.1, after.4), sym first.2)
  where
    -- an element of the set after its comma says something
    set-more : (u : List ℕ) → (Mark comma then ViaSet Token) u → (e : SaidVia) × (Mark comma then ViaSays e) u
    set-more u (m, t, mark, set, u_is) = let e = set-via Token t (λ z word. word) set in (e.0, (m, t, mark, e.1, u_is))
