-- What is read from the front of a text is read in one way: a law for each step of the readers.
-- In a pair of what is read and what is left, v and w, or t and u, are what two readings have read, and r and s what they have left.
-- A bare byte is one of a value that is neither quoted nor in brackets: a byte of a token or a colon (B is its test, T that of a token's byte). Hexadecimal
-- digits are among them, since such a value may be an IPv6 address. `Each T P` says that each byte of each text of P passes T.
use Rattle.std.proofs.Common.{◌≡◌, ℕ, ◌≤◌, Bool, true, false, ◌||◌, nat_eq, nat_le, List, [], ◌∷◌, ◌++◌, Some, None, length, slice_index, refl, sym, ap, ◌∙◌, subst, inl, inr, arith}
use Rattle.std.specs.Int.{is_in_range}
use Rattle.std.specs.Char.{is_ascii_alphabetic, is_ascii_alphanumeric, is_ascii_digit, is_ascii_hexdigit}
use Rattle.std.proofs.lemmas.Bool.{both_ways, eqb-true, or_left, or_right, or_cases, and_parts, and_from, leb-true, le-leb}
use Rattle.std.proofs.lemmas.List.{append_assoc}
use Rattle.sip_standard.specs.Text.{One, Exactly, ◌or◌, Many}
use Rattle.sip_standard.specs.Profile.{Token, Hostname, Ipv4, Hexseq, Ipv6, Quoted}
use Rattle.sip_text.specs.Bytes.{colon, dot, hyphen, dquote, left_bracket, right_bracket, Byte, is_token_byte}
use Rattle.sip_standard.specs.Chars.{is_among}
use Rattle.sip_text.specs.inner.Class.{is_label_byte}
use Rattle.sip_text.specs.inner.Cut.{behind}
use Rattle.sip_text.specs.inner.Blanks.{Blank}
use Rattle.sip_text.specs.inner.Pieces.{Qdtext, QuotedPair, DecimalGroup, Hex4, Hexpart}
use Rattle.sip_text.specs.inner.Quoted.{QuotedItem, item_len}
use Rattle.sip_text.specs.inner.HostTests.{is_v6}
use Rattle.sip_text.proofs.texts.LacksLemmas.{Lacks}
use Rattle.sip_text.proofs.hosts.LabelLemmas.{other_byte, alphanumeric-alphabetic}
use Rattle.sip_text.proofs.cuts.CutLemmas.{behind-led}
use Rattle.sip_text.proofs.texts.ManyLemmas.{many-one, many-map, many-flat, same_many}
use Rattle.sip_text.proofs.strings.BlanksLemmas.{blanks-lws}
use Rattle.sip_text.proofs.strings.QuotedLemmas.{item-step}
use Rattle.sip_text.proofs.hosts.V6Lemmas.{v6-is}
use Rattle.sip_standard.specs.Field.{is_lws_byte}
use Rattle.sip_message.specs.inner.Fronts.{Behind, TokenFront, MarkFront, BlanksFront, Seq, both}
use Rattle.sip_message.specs.inner.ParamFronts.{is_bare_byte, BareFront, QuotedFront, BracketFront, ReferenceFront, ValueFront, LedFront}
use Rattle.sip_message.proofs.lemmas.text.Cuts.{All, same_front, same_by_end}
use Rattle.sip_message.proofs.lemmas.text.Each.{Each, each-one, each-exactly, each-then, each-or, each-optional, each-many, each-between}
use Rattle.sip_message.proofs.lemmas.field.OneWay.{each-token}
use Rattle.sip_message.proofs.lemmas.params.Closed.{some-run}
use Rattle.sip_message.proofs.lemmas.front.Cuts.{ReadAs, mark-parts, same-token, same-behind, same-blanks}

-- R gives one value at most
abbrev pub AtMostOne : {X : Type 0} → (X → Type 0) → Type 0
AtMostOne {X = X} R = (a b : X) → R a → R b → a ≡ b

-- where R holds of a value, and of one value at most, it holds of that value and of no other
pub read-one : {X : Type 0} (R : X → Type 0) (a : X) → AtMostOne R → R a → ReadAs R a
read-one R a one is = (is, (λ x r. one x a r is))

-- where each of two steps gives one value at most, both together do
-- R is what the first step gives, x, and S what the second one gives after x
pub one-seq : {X Y : Type 0} (R : X → Type 0) (S : X → Y → Type 0) → AtMostOne R → ((x : X) → AtMostOne (S x)) → AtMostOne (Seq R S)
one-seq R S one two a b (both x r s) (both y t u) = two y a b (subst (λ z. S z a) (one x y r t) s) u

-- the last step, which makes a value of the others, gives one value
pub one-last : {X : Type 0} (c : X) → AtMostOne (λ x. x ≡ c)
one-last c a b a_is b_is = a_is ∙ sym b_is

-- a token at the front of a text is read in one way
pub one-token : (text : List ℕ) → AtMostOne (TokenFront text)
-- both tokens are the longest run of bytes of tokens at the front
one-token text (t, r) (u, s) one other =
    let same = same-token text t r u s one other in
    ap (λ x. (x, r)) same.0 ∙ ap (λ x. (u, x)) same.1

-- a mark at the front of a text is read in one way
pub one-mark : (mark : ℕ) (text : List ℕ) → is_lws_byte mark ≡ false → AtMostOne (MarkFront mark text)
one-mark mark text solid r s one other =
    -- by both readings the mark is the first byte after the blanks at the front, and what is left is what follows the blanks after it
    let a = mark-parts mark text r solid one in
    let b = mark-parts mark text s solid other in
    let marks : ◌≡◌ {A = List ℕ} (mark ∷ a.0) (mark ∷ b.0) = same-behind text (mark ∷ a.0) (mark ∷ b.0) a.1 b.1 in
    let inner : a.0 ≡ b.0 = cc in
    same-behind b.0 r s (subst (λ t. Behind t r) inner a.2) b.2

-- a blank run at the front of a text is read in one way
pub one-blanks : (text : List ℕ) → AtMostOne (BlanksFront text)
one-blanks text r s one other = same-blanks text r s one other

-- [ mark part ] at the front of a text is read in one way where the part is
pub one-led : (mark : ℕ) (Part : List ℕ → List ℕ × List ℕ → Type 0) (text : List ℕ) → is_lws_byte mark ≡ false → ((t : List ℕ) → AtMostOne (Part t)) → AtMostOne (LedFront mark Part text)
-- the mark stands at the front for both readings, or for none
-- the mark stands there by neither reading: all of the text is left
one-led mark Part text solid one (None, r) (None, s) a b = ap (λ x. (None, x)) (a.1 ∙ sym b.1)
-- the mark stands there by one reading, and does not by the other
one-led mark Part text solid one (None, r) (Some w, s) a b = absurd (a.0 b.0 b.1)
one-led mark Part text solid one (Some v, r) (None, s) a b = absurd (b.0 a.0 a.1)
-- v and w are the parts after the mark, which is the same
one-led mark Part text solid one (Some v, r) (Some w, s) a b =
    let inner = one-mark mark text solid a.0 b.0 a.1 b.1 in
    let same : ◌≡◌ {A = List ℕ × List ℕ} (v, r) (w, s) = one b.0 (v, r) (w, s) (subst (λ t. Part t (v, r)) inner a.2) b.2 in
    ap (λ x. (Some (x.0), x.1)) same

-- the test of a byte of a value that is neither quoted nor in brackets, which is called bare
abbrev B : ℕ → Bool
B = is_bare_byte

-- a byte of a token is a bare byte
pub bare-token : (b : ℕ) → is_token_byte b ≡ true → is_bare_byte b ≡ true
-- it passes the first of the two tests
bare-token b is = or_left (is_token_byte b) (nat_eq b colon) is

-- a text of one bare byte is bare
pub bare-byte : (b : ℕ) → is_bare_byte b ≡ true → Each B (Byte b)
-- the text is the byte alone
bare-byte b is u text = subst (All B) (sym text) (is, tt)

-- a byte in a range is in each wider range
wider : (low high lower higher b : ℕ) → lower ≤ low → high ≤ higher → is_in_range low high b ≡ true → is_in_range lower higher b ≡ true
wider low high lower higher b l h is =
    -- the byte is between the inner bounds, and so between the outer ones
    let both = and_parts (nat_le low b) (nat_le b high) is in
    let least = leb-true low b both.0 in
    let most = leb-true b high both.1 in
    and_from (nat_le lower b) (nat_le b higher) (le-leb lower b (omega arith)) (le-leb b higher (omega arith))

-- letters and digits are bytes of tokens
token-alnum : (b : ℕ) → is_ascii_alphanumeric b ≡ true → is_token_byte b ≡ true
token-alnum b is = or_left (is_ascii_alphanumeric b) (is_among "-.!%*_+`'~" b) is

-- a digit is a byte of a token
pub token-digit : (b : ℕ) → is_ascii_digit b ≡ true → is_token_byte b ≡ true
token-digit b is = token-alnum b (or_left (is_in_range 48 57 b || is_in_range 65 90 b) (is_in_range 97 122 b) (or_left (is_in_range 48 57 b) (is_in_range 65 90 b) is))

-- a letter is a byte of a token
token-alpha : (b : ℕ) → is_ascii_alphabetic b ≡ true → is_token_byte b ≡ true
token-alpha b is = token-alnum b (alphanumeric-alphabetic b is)

-- a byte of a label is a byte of a token
token-label : (b : ℕ) → is_label_byte b ≡ true → is_token_byte b ≡ true
token-label b is = elim (or_cases (is_ascii_alphanumeric b) (nat_eq b hyphen) is) [
  -- letters and digits are bytes of tokens, and so is the hyphen
  | inl alnum ↦ token-alnum b alnum
  | inr same ↦ subst (λ x. is_token_byte x ≡ true) (sym (eqb-true b hyphen same)) refl
]

-- a hexadecimal digit is a bare byte
bare-hex : (b : ℕ) → is_ascii_hexdigit b ≡ true → is_bare_byte b ≡ true
bare-hex b is = bare-token b (elim (or_cases (is_in_range 48 57 b || is_in_range 65 70 b) (is_in_range 97 102 b) is) [
  -- a digit, a great letter, or a small one
  | inl more ↦ elim (or_cases (is_in_range 48 57 b) (is_in_range 65 70 b) more) [
    | inl digit ↦ token-digit b digit
    | inr upper ↦ token-alnum b (or_left (is_in_range 48 57 b || is_in_range 65 90 b) (is_in_range 97 122 b) (or_right (is_in_range 48 57 b) (is_in_range 65 90 b) (wider 65 70 65 90 b (omega arith) (omega arith) upper)))
  ]
  | inr lower ↦ token-alnum b (or_right (is_in_range 48 57 b || is_in_range 65 90 b) (is_in_range 97 122 b) (wider 97 102 97 122 b (omega arith) (omega arith) lower))
])

-- the test of a byte of a token
abbrev T : ℕ → Bool
T = is_token_byte

-- a byte of a token, alone, has only bytes of tokens
token-byte : (b : ℕ) → is_token_byte b ≡ true → Each T (Byte b)
token-byte b is u text = subst (All T) (sym text) (is, tt)

-- all bytes of a hostname are bytes of tokens
pub each-hostname : Each T Hostname
each-hostname =
    -- the labels, each with its dot, and the last label, with a dot after it or none
    each-then T _ _ (each-many T _ (each-then T _ _ (each-or T _ _ alnum (each-then T _ _ alnum (each-then T _ _ labels alnum))) (token-byte dot refl)))
    (each-then T _ _ (each-or T _ _ alpha (each-then T _ _ alpha (each-then T _ _ labels alnum))) (each-optional T _ (token-byte dot refl)))
  where
    -- the byte of a letter or digit is a byte of a token
    alnum : Each T (One is_ascii_alphanumeric)
    alnum = each-one T is_ascii_alphanumeric token-alnum

    -- the byte of a letter is a byte of a token
    alpha : Each T (One is_ascii_alphabetic)
    alpha = each-one T is_ascii_alphabetic token-alpha

    -- the inner bytes of a label are bytes of tokens
    labels : Each T (Many (One is_label_byte))
    labels = each-many T _ (each-one T is_label_byte token-label)

-- all bytes of an IPv4 address are bytes of tokens
pub each-v4 : Each T Ipv4
each-v4 =
    -- four groups of digits, with a dot between each two
    each-then T _ _ group (each-then T _ _ (token-byte dot refl) (each-then T _ _ group (each-then T _ _ (token-byte dot refl)
    (each-then T _ _ group (each-then T _ _ (token-byte dot refl) group)))))
  where
    -- all bytes of a group of digits are bytes of tokens
    group : Each T DecimalGroup
    group = each-between T 1 3 _ (each-one T is_ascii_digit token-digit)

-- bytes of tokens are bare bytes
pub bare-all : (u : List ℕ) → All T u → All B u
-- of no bytes nothing is asked
bare-all [] all = tt
bare-all (b ∷ u) all = (bare-token b all.0, bare-all u all.1)

-- all bytes of an IPv6 address are bare: bytes of tokens, or colons
pub each-v6 : Each B Ipv6
each-v6 =
    -- a hexpart, with ":" and an IPv4 address after it or not; or hexseq "::" or "::" alone, and then an IPv4 address
    each-or B _ _ (each-then B _ _ hexpart (each-optional B _ (each-then B _ _ (bare-byte colon refl) v4_bare)))
    (each-then B _ _ (each-or B _ _ (each-then B _ _ hexseq double) double) v4_bare)
  where
    -- all bytes of an IPv4 address are bare
    v4_bare : Each B Ipv4
    v4_bare u is = bare-all u (each-v4 u is)

    -- all bytes of a hex4 are bare
    hex : Each B Hex4
    hex = each-between B 1 4 _ (each-one B is_ascii_hexdigit bare-hex)

    -- all bytes of a hexseq are bare
    hexseq : Each B Hexseq
    hexseq = each-then B _ _ hex (each-many B _ (each-then B _ _ (bare-byte colon refl) hex))

    -- both bytes of "::" are bare
    double : Each B (Exactly (colon ∷ colon ∷ []))
    double = each-exactly B _ (refl, (refl, tt))

    -- all bytes of a hexpart are bare
    hexpart : Each B Hexpart
    -- a hexseq; or one, "::" and perhaps another one; or "::" and perhaps a hexseq
    hexpart = each-or B _ _ hexseq (each-or B _ _ (each-then B _ _ hexseq (each-then B _ _ double (each-optional B _ hexseq))) (each-then B _ _ double (each-optional B _ hexseq)))

-- all bytes of a token or of an IPv6 address are bare
pub each-bare : Each B (Token or Ipv6)
each-bare = each-or B _ _ (λ u is. bare-all u (each-token u is)) each-v6

-- a token or an IPv6 address is not empty
pub some-bare : (u : List ℕ) → (Token or Ipv6) u → u ≡ [] → ⊥
-- a token is not empty, and the empty text does not pass the test of an IPv6 address
some-bare u (inl token) none = some-run is_token_byte u token none
some-bare u (inr address) none = both_ways (is_v6 u) (ap is_v6 none) (v6-is u address)

-- where all bytes of a text are of a class without the mark, the text lacks the mark
pub all-lacks : (test : ℕ → Bool) (mark : ℕ) (u : List ℕ) → test mark ≡ false → All test u → Lacks mark u
all-lacks test mark [] fails all = tt
all-lacks test mark (b ∷ u) fails all = (other_byte test mark b fails all.0, all-lacks test mark u fails all.1)

-- a bare value at the front of a text is read in one way
pub one-bare : (text : List ℕ) → AtMostOne (BareFront text)
one-bare text (v, r) (w, s) a b =
    -- both are the longest run of bare bytes at the front
    let same = same_front B v r w s (each-bare v a.0) (each-bare w b.0) a.1 b.1 (sym a.2 ∙ b.2) in
    ap (λ x. (x, r)) same.0 ∙ ap (λ x. (w, x)) same.1

-- where a text is v and r, and also w and s, and r is s, both cuts of the text are the same
same_pair : (v r w s text : List ℕ) → text ≡ v ++ r → text ≡ w ++ s → r ≡ s → ◌≡◌ {A = List ℕ × List ℕ} (v, r) (w, s)
same_pair v r w s text v_is w_is rest =
    -- what is left is of one length, and so is what stands before it
    ap (λ x. (x, r)) (same_by_end v r w s (ap length rest) (sym v_is ∙ w_is)).0 ∙ ap (λ x. (w, x)) rest

-- the contents of a quoted string are pieces of it
pub items-contents : (text : List ℕ) → Many (Qdtext or QuotedPair) text → Many QuotedItem text
items-contents text many = many-flat (Qdtext or QuotedPair) QuotedItem text each many
  where
    -- blanks are pieces, and so is each other content
    each : (u : List ℕ) → (Qdtext or QuotedPair) u → Many QuotedItem u
    -- the contents are a blank run, which may have several pieces, a byte of text, or a backslash with its byte
    each u (inl (inl lws)) = many-map Blank QuotedItem u (λ w blank. inr (inr blank)) (blanks-lws u lws)
    each u (inl (inr byte)) = many-one QuotedItem u (inl byte)
    each u (inr pair) = many-one QuotedItem u (inr (inl pair))

-- a quoted string and what follows it are a quote, the contents, a quote and what follows
pub quoted-whole : (value rest : List ℕ) → (q : Quoted value) → value ++ rest ≡ dquote ∷ (q.3.0 ++ dquote ∷ rest)
-- the quote, the contents and the second quote stand in a row
quoted-whole value rest q =
    ap (λ x. x ++ rest) (q.4 ∙ ap (λ x. x ++ q.1) q.2 ∙ ap (λ x. dquote ∷ x) (q.3.4 ∙ ap (λ x. q.3.0 ++ x) q.3.3))
    ∙ ap (λ x. dquote ∷ x) (append_assoc q.3.0 (dquote ∷ []) rest)

-- a quoted string at the front of a text is read in one way
pub one-quoted : (text : List ℕ) → AtMostOne (QuotedFront text)
-- q and p are the quoted strings of v and w
one-quoted text (v, r) (w, s) (q, v_is) (p, w_is) = same_pair v r w s text v_is w_is (rests q.3.0 p.3.0 q.3.2 p.3.2 wholes)
  where
    -- both readings are of the same text
    wholes : dquote ∷ (q.3.0 ++ dquote ∷ r) ≡ dquote ∷ (p.3.0 ++ dquote ∷ s)
    wholes = sym (quoted-whole v r q) ∙ sym v_is ∙ w_is ∙ quoted-whole w s p

    -- two contents before the closing quote leave the same rest
    rests : (i j : List ℕ) → Many (Qdtext or QuotedPair) i → Many (Qdtext or QuotedPair) j → dquote ∷ (i ++ dquote ∷ r) ≡ dquote ∷ (j ++ dquote ∷ s) → r ≡ s
    -- pieces of a quoted string are cut off one after another, and none begins with a quote, so both contents end at the same quote
    rests i j is js both_whole =
        let inners : i ++ dquote ∷ r ≡ j ++ dquote ∷ s = cc in
        let tails : dquote ∷ r ≡ dquote ∷ s = (same_many QuotedItem item_len i (dquote ∷ r) j (dquote ∷ s) item-step (items-contents i is) (items-contents j js) inners refl refl).1 in
        cc

-- what stands at the front of a text from "[" to the first "]" is read in one way
pub one-bracket : (text : List ℕ) → AtMostOne (BracketFront text)
-- i and j are the bytes within the brackets
one-bracket text (v, r) (w, s) (i, i_lacks, v_is, v_whole) (j, j_lacks, w_is, w_whole) = same_pair v r w s text v_whole w_whole (rests both_whole)
  where
    -- a text in brackets, with z after it, is "[", the text, "]" and z
    flat : (u t z : List ℕ) → u ≡ left_bracket ∷ (t ++ right_bracket ∷ []) → u ++ z ≡ left_bracket ∷ (t ++ right_bracket ∷ z)
    flat u t z is = ap (λ x. x ++ z) is ∙ ap (λ x. left_bracket ∷ x) (append_assoc t (right_bracket ∷ []) z)

    -- both readings are of the same text
    both_whole : left_bracket ∷ (i ++ right_bracket ∷ r) ≡ left_bracket ∷ (j ++ right_bracket ∷ s)
    -- both are "[", the inner bytes, "]" and what is left
    both_whole = sym (flat v i r v_is) ∙ sym v_whole ∙ w_whole ∙ flat w j s w_is

    -- what follows the first "]" is one rest
    rests : left_bracket ∷ (i ++ right_bracket ∷ r) ≡ left_bracket ∷ (j ++ right_bracket ∷ s) → r ≡ s
    rests same =
        -- the rest is what follows the first "]", since none stands within the brackets
        let inners : i ++ right_bracket ∷ r ≡ j ++ right_bracket ∷ s = cc in
        let found : Some r ≡ Some s = sym (behind-led right_bracket i (Some r) i_lacks) ∙ ap (behind right_bracket) inners ∙ behind-led right_bracket j (Some s) j_lacks in
        cc

-- an IPv6 address in brackets at the front of a text is what stands there from "[" to the first "]"
pub reference-bracket : (text : List ℕ) (x : List ℕ × List ℕ) → ReferenceFront text x → BracketFront text x
-- o is the "[", `inner` the address, and c the "]"
reference-bracket text (v, r) ((o, t, o_is, (inner, c, address, c_is, t_is), v_is), whole) =
    -- what stands in the brackets is an IPv6 address, whose bytes are bare: none is "]"
    (inner, all-lacks B right_bracket inner refl (each-v6 inner address), v_is ∙ ap (λ x. x ++ t) o_is ∙ ap (λ x. left_bracket ∷ x) (t_is ∙ ap (λ x. inner ++ x) c_is), whole)

-- an IPv6 address in brackets at the front of a text is read in one way
pub one-reference : (text : List ℕ) → AtMostOne (ReferenceFront text)
one-reference text a b is other = one-bracket text a b (reference-bracket text a is) (reference-bracket text b other)

-- a text that begins with a quoted string has a quote as its first byte
pub quoted-first : (text : List ℕ) (x : List ℕ × List ℕ) → QuotedFront text x → slice_index text 0 ≡ dquote
quoted-first text (v, r) (q, whole) = ap (λ t. slice_index t 0) (whole ∙ quoted-whole v r q)

-- a text that begins with something in brackets has "[" as its first byte
pub bracket-first : (text : List ℕ) (x : List ℕ × List ℕ) → BracketFront text x → slice_index text 0 ≡ left_bracket
bracket-first text (v, r) (i, lacks, v_is, whole) = ap (λ t. slice_index t 0) (whole ∙ ap (λ t. t ++ r) v_is)

-- the first byte of a text that is not empty, all bytes of which pass, passes, whatever follows the text
pub first-all : (test : ℕ → Bool) (u v : List ℕ) → All test u → (u ≡ [] → ⊥) → test (slice_index (u ++ v) 0) ≡ true
-- the text is not empty, so its first byte is one of its own
first-all test [] v all some = absurd (some refl)
first-all test (b ∷ u) v all some = all.0

-- a bare value begins with a bare byte
pub bare-first : (text : List ℕ) (x : List ℕ × List ℕ) → BareFront text x → is_bare_byte (slice_index text 0) ≡ true
bare-first text (v, r) (kind, stops, whole) =
    ap (λ t. is_bare_byte (slice_index t 0)) whole ∙ first-all B v r (each-bare v kind) (some-bare v kind)

-- a text that begins with a token has a byte of a token as its first byte
pub token-first : (text : List ℕ) (x : List ℕ × List ℕ) → TokenFront text x → is_token_byte (slice_index text 0) ≡ true
token-first text (t, r) (token, stops, (u, v, u_is, v_is, whole)) =
    ap (λ x. is_token_byte (slice_index x 0)) (whole ∙ ap (λ x. x ++ v) u_is) ∙ first-all T t v (each-token t token) (some-run is_token_byte t token)

-- a byte that passes is not one that does not pass
pub first-fails : (test : ℕ → Bool) (b c : ℕ) → test c ≡ false → b ≡ c → test b ≡ true → ⊥
first-fails test b c fails same pass = both_ways (test b) (ap test same ∙ fails) pass

-- a parameter's value at the front of a text is read in one way
pub one-value : (text : List ℕ) → AtMostOne (ValueFront text)
-- a value is quoted, an IPv6 reference or bare: values of one kind are the same, and those of two kinds begin with different bytes
one-value text x y (inl a) (inl b) = one-quoted text x y a b
one-value text x y (inl a) (inr (inl b)) = absurd (omega (arith, quoted-first text x a, bracket-first text y (reference-bracket text y b)))
one-value text x y (inl a) (inr (inr b)) = absurd (first-fails B (slice_index text 0) dquote refl (quoted-first text x a) (bare-first text y b))
-- the first value x is an IPv6 reference
one-value text x y (inr (inl a)) (inl b) = absurd (omega (arith, quoted-first text y b, bracket-first text x (reference-bracket text x a)))
one-value text x y (inr (inl a)) (inr (inl b)) = one-reference text x y a b
one-value text x y (inr (inl a)) (inr (inr b)) = absurd (first-fails B (slice_index text 0) left_bracket refl (bracket-first text x (reference-bracket text x a)) (bare-first text y b))
-- the first value x is bare
one-value text x y (inr (inr a)) (inl b) = absurd (first-fails B (slice_index text 0) dquote refl (quoted-first text y b) (bare-first text x a))
one-value text x y (inr (inr a)) (inr (inl b)) = absurd (first-fails B (slice_index text 0) left_bracket refl (bracket-first text y (reference-bracket text y b)) (bare-first text x a))
one-value text x y (inr (inr a)) (inr (inr b)) = one-bare text x y a b
