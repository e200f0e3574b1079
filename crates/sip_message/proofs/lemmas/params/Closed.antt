-- Marks and parameters stay marks and parameters when a run of blanks in them becomes one SP.
use Rattle.std.proofs.Common.{◌≡◌, ℕ, ◌≤◌, Bool, true, List, [], ◌∷◌, ◌++◌, length, refl, sym, ap, ◌∙◌, subst, inl, inr, arith}
use Rattle.std.proofs.lemmas.List.{length-append}
use Rattle.sip_standard.specs.Text.{One, Exactly, ◌then◌, ◌or◌, Optional, Many, OneOrMore, Between}
use Rattle.sip_standard.specs.Profile.{Token, Lws, Blanks, Sws, Hexseq, Ipv6, Bracketed, Quoted}
use Rattle.sip_text.specs.Bytes.{space, semicolon, equals, dquote, colon, Byte, is_token_byte}
use Rattle.sip_text.specs.inner.Pieces.{Qdtext, QuotedPair, Hex4, Hexpart}
use Rattle.sip_text.proofs.texts.ManyLemmas.{many-nil}
use Rattle.sip_message.specs.inner.FieldText.{EndsSolid, OpensSolid}
use Rattle.sip_standard.specs.Via.{GenValue}
use Rattle.sip_message.specs.inner.Marks.{Mark}
use Rattle.sip_message.proofs.lemmas.text.Cuts.{All}
use Rattle.sip_message.proofs.lemmas.text.Each.{Each, each-sws, each-blanks, is_solid}
use Rattle.sip_message.proofs.lemmas.text.Solid.{solid-token, solid-v6, solid-v6_reference}
use Rattle.sip_message.proofs.lemmas.text.Closed.{Closed, closed-solid, closed-blank, closed-or, closed-then, closed-many, solid_is}
use Rattle.sip_message.proofs.lemmas.text.Items.{lws-space, closed-contents}
use Rattle.sip_message.proofs.lemmas.text.Ends.{Firm, AllFirm, AllEnd, AllOpen, firm-then_right, firm-then_left, end-firm, end-each, end-many, ends-solid, opens-solid, seam-left, seam-right, opens-then}
use Rattle.sip_message.specs.inner.ParamFronts.{GenericParams}
use Rattle.sip_text.proofs.texts.GroupLemmas.{length-ones}

-- one SP is a blank run
pub blanks-space : Blanks (space ∷ [])
-- SP is one piece of a blank run, and no further piece follows
blanks-space = (space ∷ [], [], lws-space, many-nil Lws, refl)

-- the set of blank runs is closed under making one SP of a blank run
pub closed-blanks : Closed Blanks
closed-blanks = closed-blank Blanks each-blanks blanks-space

-- the set of optional blank runs is closed under making one SP of a blank run
pub closed-sws : Closed Sws
closed-sws = closed-blank Sws each-sws (inr blanks-space)

-- the set of the empty text is closed under making one SP of a blank run
pub closed-nil : Closed (Exactly [])
closed-nil = closed-solid (Exactly []) (λ u is. subst (All is_solid) (sym is) tt)

-- the set of one byte that is no blank has no blanks
each-byte : (b : ℕ) → is_solid b ≡ true → Each is_solid (Byte b)
each-byte b is u text = subst (All is_solid) (sym text) (is, tt)

-- the set of one byte that is no blank is closed under making one SP of a blank run
pub closed-byte : (b : ℕ) → is_solid b ≡ true → Closed (Byte b)
closed-byte b is = closed-solid (Byte b) (each-byte b is)

-- the text of one byte that is no blank does not begin with a blank
pub open-byte : (b : ℕ) → is_solid b ≡ true → AllOpen (Byte b)
open-byte b is u v text = subst (λ t. OpensSolid (t ++ v)) (sym text) (solid_is b is)

-- the text of one byte that is no blank is not empty, and does not end with a blank
pub firm-byte : (b : ℕ) → is_solid b ≡ true → AllFirm (Byte b)
firm-byte b is u text = subst Firm (sym text) (solid_is b is)

-- the set of marks is closed under making one SP of a blank run
pub closed-mark : (b : ℕ) → is_solid b ≡ true → Closed (Mark b)
closed-mark b is =
    -- blanks, the byte, and blanks: no run of blanks crosses a seam between them, since the byte is no blank
    closed-then Sws (Byte b then Sws) (seam-right Sws (Byte b then Sws) (opens-then (Byte b) Sws (open-byte b is))) closed-sws
    (closed-then (Byte b) Sws (seam-left (Byte b) Sws (end-firm (Byte b) (firm-byte b is))) (closed-byte b is) closed-sws)

-- a text without blanks that is not empty does not end with a blank
pub firm-solid : (P : List ℕ → Type 0) → Each is_solid P → ((u : List ℕ) → P u → u ≡ [] → ⊥) → AllFirm P
firm-solid P each some u is = at u (some u is) (ends-solid u (each u is))
  where
    -- a text that ends with no blank, and is not empty, is firm
    at : (t : List ℕ) → (t ≡ [] → ⊥) → EndsSolid t → Firm t
    at [] none ends = none refl
    at (b ∷ t) none ends = ends

-- a text without blanks that is not empty does not begin with a blank
pub open-solid : (P : List ℕ → Type 0) → Each is_solid P → ((u : List ℕ) → P u → u ≡ [] → ⊥) → AllOpen P
open-solid P each some u v is = at u (some u is) (each u is)
  where
    -- a text without blanks, and not empty, begins with no blank
    at : (t : List ℕ) → (t ≡ [] → ⊥) → All is_solid t → OpensSolid (t ++ v)
    at [] none all = absurd (none refl)
    at (b ∷ t) none all = solid_is b all.0

-- one byte of a class or more are not empty
pub some-run : (class : ℕ → Bool) (u : List ℕ) → OneOrMore (One class) u → u ≡ [] → ⊥
some-run class u run none = absurd (omega (arith, ap length none, ap length run.4, length-append run.0 run.1, ap length run.2.2))

-- a token is not empty, and does not end with a blank
pub firm-token : AllFirm Token
firm-token = firm-solid Token solid-token (some-run is_token_byte)

-- a token begins without a blank
pub open-token : AllOpen Token
open-token = open-solid Token solid-token (some-run is_token_byte)

-- a repetition of one or more is not empty
pub some-between : (class : ℕ → Bool) (low high : ℕ) (u : List ℕ) → 1 ≤ low → Between low high (One class) u → u ≡ [] → ⊥
some-between class low high u least run none =
    absurd (omega (arith, least, run.3, ap length none, ap length run.2, length-ones class run.0 run.1))

-- a text of P and then Q is not empty where no text of P is
pub some-left : (P Q : List ℕ → Type 0) → ((u : List ℕ) → P u → u ≡ [] → ⊥) → (u : List ℕ) → (P then Q) u → u ≡ [] → ⊥
some-left P Q some u both none = some both.0 both.2 (nil both.0 both.1 (sym both.4 ∙ none))
  where
    -- the front of an empty text is empty
    nil : (p q : List ℕ) → p ++ q ≡ [] → p ≡ []
    nil [] q is = refl
    nil (b ∷ p) q is = absurd (omega (arith, ap length is))

-- the text of one byte is not empty
some-byte : (b : ℕ) (u : List ℕ) → Byte b u → u ≡ [] → ⊥
some-byte b u is none = absurd (omega (arith, ap length is, ap length none))

-- a sequence of hex groups is not empty
some-hexseq : (u : List ℕ) → Hexseq u → u ≡ [] → ⊥
some-hexseq u = some-left Hex4 (Many (Byte colon then Hex4)) (λ t is. some-between _ 1 4 t (omega arith) is) u

-- "::" is not empty
some-double : (u : List ℕ) → Exactly (colon ∷ colon ∷ []) u → u ≡ [] → ⊥
some-double u is none = absurd (omega (arith, ap length is, ap length none))

-- a hexpart is not empty
some-hexpart : (u : List ℕ) → Hexpart u → u ≡ [] → ⊥
-- it is a hexseq; one, "::" and perhaps another one; or "::" and perhaps a hexseq
some-hexpart u (inl seq) = some-hexseq u seq
some-hexpart u (inr (inl both)) = some-left Hexseq _ some-hexseq u both
some-hexpart u (inr (inr both)) = some-left (Exactly (colon ∷ colon ∷ [])) _ some-double u both

-- an IPv6 address is not empty
some-v6 : (u : List ℕ) → Ipv6 u → u ≡ [] → ⊥
-- an address begins with a hexpart, or ends with an IPv4 address after "::"
some-v6 u (inl both) = some-left Hexpart _ some-hexpart u both
some-v6 u (inr both) = some-left _ _ begins u both
  where
    -- neither text of the two forms is empty
    begins : (t : List ℕ) → ((Hexseq then Exactly (colon ∷ colon ∷ [])) or Exactly (colon ∷ colon ∷ [])) t → t ≡ [] → ⊥
    begins t (inl seq) = some-left Hexseq _ some-hexseq t seq
    begins t (inr double) = some-double t double

-- an IPv6 reference is not empty
pub some-v6_reference : (u : List ℕ) → Bracketed u → u ≡ [] → ⊥
some-v6_reference u = some-left (Byte 91) _ (some-byte 91) u

-- the set of quoted strings is closed under making one SP of a blank run
pub closed-quoted : Closed Quoted
closed-quoted =
    -- a quote, the contents, and a quote: no run of blanks crosses a seam, since a quote is no blank
    closed-then (Byte dquote) (Many (Qdtext or QuotedPair) then Byte dquote) (seam-left (Byte dquote) (Many (Qdtext or QuotedPair) then Byte dquote) (end-firm (Byte dquote) (firm-byte dquote refl)))
    (closed-byte dquote refl)
    (closed-then (Many (Qdtext or QuotedPair)) (Byte dquote) (seam-right (Many (Qdtext or QuotedPair)) (Byte dquote) (λ u is. subst OpensSolid (sym is) refl)) closed-contents (closed-byte dquote refl))

-- a quoted string is not empty, and does not end with a blank
pub firm-quoted : AllFirm Quoted
firm-quoted =
    -- a quoted string ends with its quote
    firm-then_right (Byte dquote) (Many (Qdtext or QuotedPair) then Byte dquote)
    (firm-then_right (Many (Qdtext or QuotedPair)) (Byte dquote) (firm-byte dquote refl))

-- a quoted string begins without a blank
pub open-quoted : (u : List ℕ) → Quoted u → OpensSolid u
open-quoted u = opens-then (Byte dquote) (Many (Qdtext or QuotedPair) then Byte dquote) (open-byte dquote refl) u

-- a parameter's value is not empty, and does not end with a blank
firm-value : AllFirm GenValue
-- a token, a quoted string, an IPv6 address, or one in brackets
firm-value u (inl token) = firm-token u token
firm-value u (inr (inl quoted)) = firm-quoted u quoted
firm-value u (inr (inr (inl v6))) = firm-solid Ipv6 solid-v6 some-v6 u v6
firm-value u (inr (inr (inr reference))) = firm-solid Bracketed solid-v6_reference some-v6_reference u reference

-- a parameter's value begins without a blank
open-value : (u : List ℕ) → GenValue u → OpensSolid u
-- a token, a quoted string, an IPv6 address, or one in brackets
open-value u (inl token) = opens-solid u (solid-token u token)
open-value u (inr (inl quoted)) = open-quoted u quoted
open-value u (inr (inr (inl v6))) = opens-solid u (solid-v6 u v6)
open-value u (inr (inr (inr reference))) = opens-solid u (solid-v6_reference u reference)

-- the set of parameters' values is closed under making one SP of a blank run
closed-value : Closed GenValue
closed-value =
    closed-or Token (Quoted or Ipv6 or Bracketed) (closed-solid Token solid-token)
    (closed-or Quoted (Ipv6 or Bracketed) closed-quoted (closed-or Ipv6 Bracketed (closed-solid Ipv6 solid-v6) (closed-solid Bracketed solid-v6_reference)))

-- [ EQUAL gen-value ]
abbrev pub LedValue : List ℕ → Type 0
LedValue = Optional (Mark equals then GenValue)

-- the set of optional values with their "=" is closed under making one SP of a blank run
closed-led_value : Closed LedValue
closed-led_value =
    closed-or (Exactly []) (Mark equals then GenValue) closed-nil
    (closed-then (Mark equals) GenValue (seam-right (Mark equals) GenValue open-value) (closed-mark equals refl) closed-value)

-- an optional value with its "=" does not end with a blank
end-led_value : AllEnd LedValue
end-led_value u (inl none) = subst EndsSolid (sym none) tt
end-led_value u (inr both) = end-firm (Mark equals then GenValue) (firm-then_right (Mark equals) GenValue firm-value) u both

-- a name of N, and perhaps "=" and a value, stay so when a run of blanks becomes one SP, where each name of N is a token
pub closed-named : (N : List ℕ → Type 0) → ((u : List ℕ) → N u → Token u) → Closed (N then LedValue)
closed-named N token =
    closed-then N LedValue (seam-left N LedValue (end-each N (λ u is. solid-token u (token u is)))) (closed-solid N (λ u is. solid-token u (token u is))) closed-led_value

-- a name, and perhaps "=" and a value, are not empty, and do not end with a blank
pub firm-named : (N : List ℕ → Type 0) → ((u : List ℕ) → N u → Token u) → AllFirm (N then LedValue)
firm-named N token = firm-then_left N LedValue (λ u is. firm-token u (token u is)) end-led_value

-- texts of P, each after its mark, stay so when a run of blanks becomes one SP, where no text of P is empty, or begins or ends with a blank
pub closed-list : (mark : ℕ) (P : List ℕ → Type 0) → is_solid mark ≡ true → ((u : List ℕ) → P u → OpensSolid u) → AllFirm P → Closed P → Closed (Many (Mark mark then P))
closed-list mark P solid opens firm closed =
    -- each mark and its text end with no blank, so no run of blanks crosses from one to the next
    closed-many (Mark mark then P) (end-firm _ (firm-then_right (Mark mark) P firm))
    (closed-then (Mark mark) P (seam-right (Mark mark) P opens) (closed-mark mark solid) closed)

-- texts of P, each after its mark, do not end with a blank
pub end-list : (mark : ℕ) (P : List ℕ → Type 0) → AllFirm P → AllEnd (Many (Mark mark then P))
end-list mark P firm = end-many _ (end-firm _ (firm-then_right (Mark mark) P firm))

-- the set of generic parameters is closed under making one SP of a blank run
pub closed-params : Closed GenericParams
closed-params =
    closed-list semicolon (Token then LedValue) refl (opens-then Token LedValue open-token) (firm-named Token (λ u is. is)) (closed-named Token (λ u is. is))
