-- The steps by which an element of Via is read find what the grammar has, and in one way.
-- Of an element of Via a, b and c are its protocol, version and transport, s and r the slashes, sp the blanks, h the host, p the port and q the parameters,
-- and w1 to w7 what follows each; r0 to r3 are what is left after the blanks, the host, the port and the parameters, and os the branches that these say.
-- `ViaSteps` is an element read step by step: sent-protocol (`ProtocolFront`), the host, the port after ":", and the parameters (`BranchFront`), each with
-- what is left. `ViaFront` is an element of the grammar at the front of a text.
use Rattle.std.proofs.Common.{◌≡◌, ℕ, ◌-◌, ◌≤◌, nat_eq, List, ◌++◌, Option, Some, None, length, take, refl, sym, ap, ◌∙◌, subst}
use Rattle.std.proofs.lemmas.List.{append_assoc}
use Rattle.sip_standard.specs.Text.{Exactly, ◌then◌}
use Rattle.sip_standard.specs.Chars.{EachSays}
use Rattle.sip_standard.specs.Profile.{Host}
use Rattle.sip_standard.specs.Via.{SaidVia, PortSays, ParamSays, first_some, ViaSays}
use Rattle.sip_text.specs.Bytes.{colon, semicolon}
use Rattle.sip_message.specs.inner.Marks.{slash, comma, Mark}
use Rattle.sip_message.specs.inner.Fronts.{StopsBlank, TokenFront, MarkFront, BlanksFront, ProtocolFront, both}
use Rattle.sip_message.specs.inner.ElementFronts.{EndsElement, ViaFront}
use Rattle.sip_message.specs.inner.ParamFronts.{LedFront, ParamsText}
use Rattle.sip_message.specs.inner.ViaFronts.{HostFront, PortFront, BranchFront, IsBranch, ViaSteps}
use Rattle.sip_message.proofs.lemmas.text.Cuts.{same_by_end}
use Rattle.sip_message.proofs.lemmas.front.Cuts.{ReadAs, NotRead}
use Rattle.sip_message.proofs.lemmas.via.Protocol.{ProtocolText, protocol-steps, steps-protocol}
use Rattle.sip_message.proofs.lemmas.front.OneWay.{AtMostOne, read-one, one-seq, one-last, one-token, one-mark, one-blanks, one-led}
use Rattle.sip_message.proofs.lemmas.params.Value.{front-is, rest-short}
use Rattle.sip_message.proofs.lemmas.front.Led.{Next, ends-next, mark-next}
use Rattle.sip_message.proofs.lemmas.params.Reading.{is_separator, params-front, params-next, front-params, no-param}
use Rattle.sip_message.proofs.lemmas.params.Branch.{one-branch}
use Rattle.sip_message.proofs.lemmas.params.Said.{params-said, said-params}
use Rattle.sip_message.proofs.lemmas.via.Host.{one-host, one-port, host-front, host-stops, front-host, port-front, front-port, is_after_host, next-after_host}

-- sent-protocol is read in one way
pub one-protocol : (text : List ℕ) → AtMostOne (ProtocolFront text)
one-protocol text =
    -- the protocol, a slash, the version, a slash, the transport and blanks are each read in one way
    one-seq (TokenFront text) _ (one-token text) (λ name.
    one-seq (MarkFront slash (name.1)) _ (one-mark slash (name.1) refl) (λ behind_name.
    one-seq (TokenFront behind_name) _ (one-token behind_name) (λ version.
    one-seq (MarkFront slash (version.1)) _ (one-mark slash (version.1) refl) (λ behind_version.
    one-seq (TokenFront behind_version) _ (one-token behind_version) (λ transport.
    one-seq (BlanksFront (transport.1)) _ (one-blanks (transport.1)) (λ rest.
    one-last (transport.0, rest)))))))

-- where an element and what is left are a text, and the element is made of its own text and of other parts, it is made in one way
one-made : (text end : List ℕ) (make : List ℕ → SaidVia) → AtMostOne (λ (v : SaidVia × List ℕ). EndsElement end × (text ≡ v.0.whole ++ v.1) × (v ≡ (make v.0.whole, end)))
one-made text end make x y (_, x_text, x_is) (_, y_text, y_is) =
    -- what is left is the same, and so is the text before it
    let rests : x.1 ≡ y.1 = ap (λ z. z.1) x_is ∙ sym (ap (λ z. z.1) y_is) in
    let wholes : x.0.whole ≡ y.0.whole = (same_by_end x.0.whole x.1 y.0.whole y.1 (ap length rests) (sym x_text ∙ y_text)).0 in
    x_is ∙ ap (λ w. (make w, end)) wholes ∙ sym y_is

-- the parts of an element are read in at most one way
one-via_steps : (text : List ℕ) → AtMostOne (ViaSteps text)
one-via_steps text =
    -- sent-protocol, the host, the port after ":", if there is one, and the parameters are each read in one way; then the element ends
    one-seq (ProtocolFront text) _ (one-protocol text) (λ sent.
    one-seq (HostFront (sent.1)) _ (one-host (sent.1)) (λ host.
    one-seq (LedFront colon PortFront (host.1)) _ (one-led colon PortFront (host.1) refl one-port) (λ port.
    one-seq (BranchFront (port.1)) _ (one-branch (port.1)) (λ tail.
    one-made text (tail.1) (λ w. record { whole = w; transport = sent.0; host = host.0; port = port.0; branch = tail.0 })))))

-- where x is u and v, x and a rest are u, and then v and the rest
onto : (x u v rest : List ℕ) → x ≡ u ++ v → x ++ rest ≡ u ++ (v ++ rest)
onto x u v rest fact = ap (λ t. t ++ rest) fact ∙ append_assoc u v rest

-- where x is u and y, and y is z and a rest, x is u and z, and then the rest
under : (x u y z rest : List ℕ) → x ≡ u ++ y → y ≡ z ++ rest → x ≡ (u ++ z) ++ rest
under x u y z rest fact y_is = fact ∙ ap (λ t. u ++ t) y_is ∙ sym (append_assoc u z rest)

-- where a separator or nothing follows an optional port, a byte that may follow a host, or nothing, stands at the front of it and what follows
port-next : (port : Option (List ℕ)) (p rest : List ℕ) → PortSays port p → Next is_separator rest → Next is_after_host (p ++ rest)
-- without a port, what follows it stands there; with one, its colon
port-next None p rest p_is next = subst (λ t. Next is_after_host (t ++ rest)) (sym p_is) (next-after_host rest next)
port-next (Some port) p rest (m, t, mark, fits, p_is) next =
    subst (Next is_after_host) (sym (onto p m t rest p_is)) (mark-next is_after_host colon m (t ++ rest) refl refl mark)

-- an element of Via of the grammar is read by the steps
pub via-steps : (text : List ℕ) (v : SaidVia) (rest : List ℕ) → ViaFront text (v, rest) → ViaSteps text (v, rest)
via-steps text v rest ((os, branch_is, own, (a, w1, a_is, (s, w2, slash1, (b, w3, b_is, (r, w4, slash2, (c, w5, c_is, (sp, w6, blanks, (h, w7, (host, h_is), (p, q, port, params, w7_is), w6_is), w5_is), w4_is), w3_is), w2_is), w1_is), whole_is)), text_is, ends) =
    subst (λ t. ViaSteps t (v, rest)) (sym text_is)
    (both (v.transport, w6 ++ rest) (protocol-steps (v.whole ++ rest) v.transport (w6 ++ rest) stops spelled)
    -- after the transport the host, the port and the parameters are read
    (both (v.host, w7 ++ rest) hosted
    (both (v.port, q ++ rest) (subst (λ t. LedFront colon PortFront t (v.port, q ++ rest)) (sym ported) (port-front v.port p (q ++ rest) port next))
    (both (v.branch, rest) (ps.0, (params-front ps.0 q rest ps.1 separated, no-param (λ x. nat_eq x comma) rest refl (ends-next (λ x. nat_eq x comma) rest refl ends)), subst (IsBranch ps.0) (sym branch_is) ps.2)
    (ends, refl, refl)))))
  where
    -- the parameters with their names and values, and the branch that counts in them
    ps : (ps : List (List ℕ × Option (List ℕ))) × ParamsText ps q × IsBranch ps (first_some os)
    ps = said-params os q params

    -- the front of the text is sent-protocol
    spelled : ProtocolText v.transport (Exactly (w6 ++ rest)) (v.whole ++ rest)
    spelled = (a, w1 ++ rest, a_is, (s, w2 ++ rest, slash1, (b, w3 ++ rest, b_is, (r, w4 ++ rest, slash2, (c, w5 ++ rest, c_is, (sp, w6 ++ rest, blanks, refl, onto w5 sp w6 rest w5_is), onto w4 c w5 rest w4_is), onto w3 r w4 rest w3_is), onto w2 b w3 rest w2_is), onto w1 s w2 rest w1_is), onto v.whole a w1 rest whole_is)

    -- what follows the host is the port, if there is one, and the parameters
    ported : w7 ++ rest ≡ p ++ (q ++ rest)
    ported = onto w7 p q rest w7_is

    -- the host begins with no blank
    stops : StopsBlank (w6 ++ rest)
    stops = subst StopsBlank (sym (onto w6 h w7 rest w6_is)) (host-stops h (w7 ++ rest) host)

    -- what follows the element begins with a separator
    separated : Next is_separator rest
    separated = ends-next is_separator rest refl ends

    -- the parameters, or what follows them, begin with a separator
    next : Next is_separator (q ++ rest)
    next = params-next ps.0 q rest ps.1 separated

    -- the host is read, since what follows it begins with a byte that may stand there
    hosted : HostFront (w6 ++ rest) (v.host, w7 ++ rest)
    hosted =
        subst (λ x. HostFront (w6 ++ rest) (x, w7 ++ rest)) (sym h_is) (subst (λ t. HostFront t (h, w7 ++ rest)) (sym (onto w6 h w7 rest w6_is))
        (host-front h (w7 ++ rest) host (subst (Next is_after_host) (sym ported) (port-next v.port p (q ++ rest) port next))))

-- where what follows sent-protocol LWS is w and r, the text is a front and r, and the front is sent-protocol LWS and w
-- t is the transport; the front ends in a text of Q, as w is
protocol-before : (t text rest w r : List ℕ) → rest ≡ w ++ r → ProtocolText t (Exactly rest) text → (whole : List ℕ) × (text ≡ whole ++ r) × ((Q : List ℕ → Type 0) → Q w → ProtocolText t Q whole)
-- each part and mark is put in front again, with w in place of what followed
protocol-before t text rest w r rest_is (a0, w1, a_is, (s, w2, slash1, (b0, w3, b_is, (r0, w4, slash2, (c0, w5, c_is, (sp, w6, blanks, w6_is, w5_is), w4_is), w3_is), w2_is), w1_is), whole_is) = (
  a0 ++ (s ++ (b0 ++ (r0 ++ (c0 ++ (sp ++ w))))),
  -- r is carried through all parts, from the last to the first
  under text a0 w1 _ r whole_is (under w1 s w2 _ r w1_is (under w2 b0 w3 _ r w2_is (under w3 r0 w4 _ r w3_is (under w4 c0 w5 _ r w4_is (under w5 sp w6 w r w5_is (w6_is ∙ rest_is)))))),
  -- of each Q that w is of, the front is the same parts with a text of Q at their end
  (λ Q fact. (a0, s ++ (b0 ++ (r0 ++ (c0 ++ (sp ++ w)))), a_is, (s, b0 ++ (r0 ++ (c0 ++ (sp ++ w))), slash1, (b0, r0 ++ (c0 ++ (sp ++ w)), b_is, (r0, c0 ++ (sp ++ w), slash2, (c0, sp ++ w, c_is, (sp, w, blanks, fact, refl), refl), refl), refl), refl), refl)),
)

-- the text begins with an element of these parts, before what is left
record Begins (text transport host : List ℕ) (port branch : Option (List ℕ)) (rest : List ℕ) : Type 0 where
  whole : List ℕ
  fact : text ≡ whole ++ rest
  says : ViaSays (record { whole = whole; transport = transport; host = host; port = port; branch = branch }) whole

-- the parts that are read one after another are those of an element of Via at the front of the text
begins : (text transport r0 h r1 : List ℕ) (port : Option (List ℕ)) (r2 : List ℕ) (branch : Option (List ℕ)) (r3 : List ℕ) → ProtocolFront text (transport, r0) → HostFront r0 (h, r1) → LedFront colon PortFront r1 (port, r2) → BranchFront r2 (branch, r3)
    → Begins text transport h port branch r3
begins text transport r0 h r1 port r2 branch r3 protocol host led (ps, all, branch_is) = record {
  -- the text of the element stands before what is left
  whole = begun.0;
  fact = begun.1;
  says = (said.0, said.1, refl, begun.2 _ (h, ported.0 ++ texts.0, (hosted.0, refl), (ported.0, texts.0, ported.1, said.2, refl), refl));
}
  where
    -- the host is read at the front of what follows the transport
    hosted : Host h × (r0 ≡ h ++ r1)
    hosted = front-host r0 h r1 host

    -- the port, if there is one, is read after the host
    ported : (p : List ℕ) × PortSays port p × (r1 ≡ p ++ r2)
    ported = front-port port r1 r2 led

    -- the parameters are read after the port
    texts : (u : List ℕ) × ParamsText ps u × (r2 ≡ u ++ r3)
    texts = front-params ps r2 r3 all.0

    -- the parameters say branches, of which the first is the branch
    said : (os : List (Option (List ℕ))) × (branch ≡ first_some os) × EachSays (λ o. Mark semicolon then ParamSays o) os texts.0
    said = params-said ps branch texts.0 texts.1 branch_is

    -- what follows the transport is the host, the port, the parameters and what is left
    tail_is : r0 ≡ (h ++ (ported.0 ++ texts.0)) ++ r3
    tail_is = under r0 h r1 (ported.0 ++ texts.0) r3 hosted.1 (under r1 ported.0 r2 texts.0 r3 ported.2 texts.2)

    -- the text begins with sent-protocol, before a host and what follows it
    begun : (whole : List ℕ) × (text ≡ whole ++ r3) × ((Q : List ℕ → Type 0) → Q (h ++ (ported.0 ++ texts.0)) → ProtocolText transport Q whole)
    begun = protocol-before transport text r0 (h ++ (ported.0 ++ texts.0)) r3 tail_is (steps-protocol text (transport, r0) protocol)

-- an element of Via at the front of a text is read in one way
pub one-via : (text : List ℕ) → AtMostOne (ViaFront text)
-- the parts and the rest are what the steps read, so they are the same by both readings
one-via text (v, r) (w, s) a b = one-via_steps text (v, r) (w, s) (via-steps text v r a) (via-steps text w s b)

-- where the steps read nothing, no element of Via stands at the front
pub via-missing : (text : List ℕ) → NotRead (ViaSteps text) → NotRead (ViaFront text)
via-missing text none (v, rest) fact = none (v, rest) (via-steps text v rest fact)

-- what is left after an element is no longer than the text
pub via-short : (text transport r0 h r1 : List ℕ) (port : Option (List ℕ)) (r2 : List ℕ) (branch : Option (List ℕ)) (r3 : List ℕ) → ProtocolFront text (transport, r0) → HostFront r0 (h, r1) → LedFront colon PortFront r1 (port, r2) → BranchFront r2 (branch, r3)
    → length r3 ≤ length text
via-short text transport r0 h r1 port r2 branch r3 protocol host led tail =
    let begun = begins text transport r0 h r1 port r2 branch r3 protocol host led tail in rest-short text begun.whole r3 begun.fact

-- what is read step by step is the one element of Via at the front, where it ends there
pub via-found : (text transport r0 h r1 : List ℕ) (port : Option (List ℕ)) (r2 : List ℕ) (branch : Option (List ℕ)) (r3 : List ℕ) → ProtocolFront text (transport, r0) → HostFront r0 (h, r1) → LedFront colon PortFront r1 (port, r2) → BranchFront r2 (branch, r3)
    → EndsElement r3 → ReadAs (ViaFront text) (record { whole = take (length text - length r3) text; transport = transport; host = h; port = port; branch = branch }, r3)
via-found text transport r0 h r1 port r2 branch r3 protocol host led tail ends =
    -- `begun` is the text of the element, with what it says
    let begun = begins text transport r0 h r1 port r2 branch r3 protocol host led tail in
    let whole_is : begun.whole ≡ take (length text - length r3) text = sym (front-is text begun.whole r3 begun.fact) in
    read-one (ViaFront text) _ (one-via text)
    (subst (λ w. ViaSays (record { whole = w; transport = transport; host = h; port = port; branch = branch }) w) whole_is begun.says, begun.fact ∙ ap (λ w. w ++ r3) whole_is, ends)
