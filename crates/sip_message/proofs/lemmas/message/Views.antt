-- What the code keeps of a message is what its contracts see of it.
-- In the lemmas m is a message with the parts p, and v, f, t, i and c are the values of its first Via, From, To, Call-ID and CSeq.
-- `Keeps` says that some bytes are the text of a message, that these are its parts, and that these are the first values of its named fields; `KeepsRead` says
-- so of what was read of its first Via and its CSeq.
use Rattle.std.proofs.Common.{◌≡◌, ℕ, List, [], ◌∷◌, ◌++◌, sym, ap, ◌∙◌, subst}
use Rattle.sip_message.specs.inner.Parts.{HasParts}
use Rattle.sip_message.specs.declared.name.Known.{Known}
use Rattle.sip_message.specs.declared.name.Known.TheVariants as known_name
use Rattle.sip_message.specs.Field.{Field, values}
use Rattle.sip_standard.specs.Outcome.{Outcome, gives}
use Rattle.sip_standard.specs.Values.{CSeqSays}
use Rattle.sip_standard.specs.Via.{SaidVia, ViasSay}
use Rattle.sip_standard.specs.Says.{ViasTell, IsFirstOf}
use Rattle.sip_message.specs.Message.{Message}
use Rattle.sip_message.specs.inner.MessageText.{MessageText}
use Rattle.sip_message.specs.inner.Only.{ExactlyOne, the, IsOnly}
use Rattle.sip_message.specs.inner.ElementFronts.{FirstVia}
use Rattle.sip_message.specs.Reading.{Parts}
use Rattle.sip_message.specs.inner.Values.{CSeqValue}
use Rattle.sip_message.specs.inner.Kept.{Keeps, KeepsRead}
use Rattle.sip_message.specs.inner.Codes.{parts_code}
use Rattle.sip_message.proofs.lemmas.message.Faults.{text-read, one-read}
use Rattle.sip_message.proofs.lemmas.via.Elements.{One-is}

-- a name has one first value in some fields
pub same-value : (known : Known) (fields : List Field) {a b : List ℕ} → IsFirstOf (values known fields) a → IsFirstOf (values known fields) b → a ≡ b
same-value known fields {a = a} {b = b} one other =
    -- both are the first of one list
    let same : ◌≡◌ {A = List (List ℕ)} (a ∷ one.0) (b ∷ other.0) = sym one.1 ∙ other.1 in
    cc

-- the value of the first From is that of the message
-- in what follows v, f, t, i and c are the values of the first Via, From, To, Call-ID and CSeq, as `Keeps` has them
pub keeps-from : {m : Message} {p : Parts} {v f t i c : List ℕ} → Keeps m p v f t i c → f ≡ p.from
keeps-from {m = m} k = same-value known_name.From m.fields k.from k.parts.is.from

-- the value of the first To is that of the message
pub keeps-to : {m : Message} {p : Parts} {v f t i c : List ℕ} → Keeps m p v f t i c → t ≡ p.to
keeps-to {m = m} k = same-value known_name.To m.fields k.to k.parts.is.to

-- the value of the first CSeq is a CSeq, with the number and the method that the message has
pub keeps-cseq : {m : Message} {p : Parts} {v f t i c : List ℕ} → Keeps m p v f t i c → CSeqValue c p.cseq
-- the first CSeq of the parts is that value
keeps-cseq {m = m} {p = p} {c = c} k = subst (λ x. CSeqSays p.cseq x) (same-value known_name.CSeq m.fields k.parts.is.cseq.1 k.cseq) k.parts.is.cseq.2

-- the first element of some values of Via is the first of the first value
first-told : (text : List ℕ) (more : List (List ℕ)) (e : SaidVia) (es : List SaidVia) → ViasTell (text ∷ more) (e ∷ es) → FirstVia text e
-- a value has one element at least
first-told text more e es ([], later, none, are, es_is) = absurd none
first-told text more e es (f ∷ now, later, is, are, es_is) =
    let whole : ◌≡◌ {A = List SaidVia} (e ∷ es) (f ∷ (now ++ later)) = es_is in
    let same : f ≡ e = cc in
    (now, subst (λ g. ViasSay (g ∷ now) text) same is)

-- the top Via of the message is the first element of the value of the first Via
pub keeps-via : {m : Message} {p : Parts} {v f t i c : List ℕ} → Keeps m p v f t i c → FirstVia v p.via
keeps-via {p = p} {v = v} k = first-told v k.via.0 p.via p.others (subst (λ x. ViasTell x (p.via ∷ p.others)) k.via.1 k.parts.is.vias)

-- the values of Via are read as elements in one way only: as the first Via and the others
pub only-elements : {m : Message} {p : Parts} {v f t i c : List ℕ} → Keeps m p v f t i c → (es : List SaidVia) × IsOnly (ViasTell (values known_name.Via m.fields)) es
only-elements {m = m} {p = p} {v = v} k = (p.via ∷ p.others, record { is = k.parts.is.vias; only = same })
  where
    -- each list of elements that the values are read as is the top Via and the others
    same : (es : List SaidVia) → ViasTell (values known_name.Via m.fields) es → es ≡ p.via ∷ p.others
    same es are = at es (subst (λ x. ViasTell x es) k.via.1 are) are
      where
        -- the list of elements is not empty
        at : (es : List SaidVia) → ViasTell (v ∷ k.via.0) es → ViasTell (values known_name.Via m.fields) es → es ≡ p.via ∷ p.others
        -- there is at least one element
        at [] ([], more, now_text, later, is) are = absurd now_text
        -- the empty list would have the first element of the first value
        at [] (e ∷ now, more, now_text, later, is) are =
            let wrong : ◌≡◌ {A = List SaidVia} [] (e ∷ (now ++ more)) = is in
            cc
        -- with these elements the fields would have other parts, but they have only these
        at (e ∷ es) some are =
            let other : HasParts m.fields (record { via = e; others = es; from = p.from; to = p.to; call_id = p.call_id; cseq = p.cseq }) = record { vias = are; from = k.parts.is.from; to = k.parts.is.to; call_id = k.parts.is.call_id; cseq = k.parts.is.cseq } in
            let one = k.parts.only _ other in
            let first : e ≡ p.via = ap (λ q. q.via) one in
            let others : es ≡ p.others = ap (λ q. q.others) one in
            cc

-- where es are the only elements of these values, and the values are those of the message's Via fields, es are the elements of the message
pub same-elements : {m : Message} {p : Parts} {v f t i c : List ℕ} → Keeps m p v f t i c → (vals : List (List ℕ)) (es : List SaidVia) → vals ≡ values known_name.Via m.fields → IsOnly (ViasTell vals) es → es ≡ p.via ∷ p.others
-- the top Via and the others are the elements of the values, and so they are es
same-elements {p = p} k vals es same only = sym (only.only (p.via ∷ p.others) (subst (λ x. ViasTell x (p.via ∷ p.others)) (sym same) k.parts.is.vias))

-- bytes are the text of one message, as it is spelled
pub same_text : (bytes : List ℕ) (m n : Message) → MessageText bytes m → MessageText bytes n → m ≡ n
same_text bytes m n one other =
    -- the bytes have one outcome
    let same : ◌≡◌ {A = Outcome Message} (gives m) (gives n) = one-read bytes (gives m) (gives n) (text-read bytes m one) (text-read bytes n other) in
    cc

-- the parts of a message's fields, which are the only ones, keep what was read, whatever proves that they are
pub kept-one : {m : Message} {p : Parts} {e : SaidVia} {f t i : List ℕ} {s : ℕ × List ℕ} → KeepsRead m p e f t i s → (one : ExactlyOne (HasParts m.fields)) → KeepsRead m (the one) e f t i s
kept-one {m = m} {p = p} {e = e} {f = f} {t = t} {i = i} {s = s} k one =
    -- p is the parts that `one` has, so what holds of p holds of them
    subst (λ q. KeepsRead m q e f t i s) (sym (One-is parts_code (HasParts m.fields) one p k.keeps.parts.is)) k
