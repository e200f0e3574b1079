-- Where a host ends in a URI: it lacks the marks of what follows, and does not end like a port.
use Rattle.std.proofs.Common.{◌≡◌, ℕ, false, nat_eq, List, [], ◌∷◌, ◌++◌, length, refl, sym, ap, ◌∙◌, subst, inl, inr, arith}
use Rattle.std.specs.Char.{is_ascii_alphabetic, is_ascii_alphanumeric, is_ascii_digit, is_ascii_hexdigit}
use Rattle.std.proofs.lemmas.Bool.{both_ways, eq-eqb}
use Rattle.std.proofs.lemmas.List.{append_assoc, length-append}
use Rattle.sip_standard.specs.Text.{One, Exactly, ◌then◌}
use Rattle.sip_standard.specs.Profile.{Hexseq, Ipv6, Bracketed, Host, Port}
use Rattle.sip_text.specs.Bytes.{colon, dot, left_bracket, right_bracket, Byte}
use Rattle.sip_text.specs.inner.Class.{is_label_byte}
use Rattle.sip_text.specs.inner.Pieces.{double_colon, Hex4, Hexpart, OpenHexpart}
use Rattle.sip_text.proofs.texts.LacksLemmas.{Lacks, AllLack, lack-one, lack-byte, lack-exactly, lack-then, lack-or, lack-optional, lack-between, lack-joined}
use Rattle.sip_text.proofs.hosts.HostnameLemmas.{lack-hostname}
use Rattle.sip_text.proofs.hosts.V4Lemmas.{lack-v4}

-- an IPv6 reference lacks what is no hexadecimal digit, colon, dot or bracket
lack-v6 : (mark : ℕ) → is_ascii_hexdigit mark ≡ false → is_ascii_digit mark ≡ false → nat_eq colon mark ≡ false → nat_eq dot mark ≡ false → nat_eq left_bracket mark ≡ false → nat_eq right_bracket mark ≡ false → AllLack mark Bracketed
lack-v6 mark no_hex no_digit no_colon no_dot no_left no_right =
    lack-then mark (Byte left_bracket) (Ipv6 then Byte right_bracket) (lack-byte mark left_bracket no_left)
    (lack-then mark Ipv6 (Byte right_bracket) address (lack-byte mark right_bracket no_right))
  where
    -- groups of hexadecimal digits lack the mark
    seq : AllLack mark Hexseq
    seq = lack-joined mark colon Hex4 no_colon (lack-between mark 1 4 (One is_ascii_hexdigit) (lack-one mark is_ascii_hexdigit no_hex))

    -- "::" lacks the mark
    double : AllLack mark (Exactly double_colon)
    double = lack-exactly mark double_colon (no_colon, (no_colon, tt))

    -- each form of a hexpart lacks the mark
    part : AllLack mark Hexpart
    part =
        lack-or mark _ _ seq
        (lack-or mark _ _ (lack-then mark _ _ seq (lack-then mark _ _ double (lack-optional mark _ seq)))
        (lack-then mark _ _ double (lack-optional mark _ seq)))

    -- a hexpart that ends with "::" lacks the mark
    opened : AllLack mark OpenHexpart
    opened = lack-or mark _ _ (lack-then mark _ _ seq double) double

    -- an IPv6 address lacks the mark
    address : AllLack mark Ipv6
    address =
        lack-or mark _ _
        (lack-then mark _ _ part
        (lack-optional mark _ (lack-then mark _ _ (lack-byte mark colon no_colon) (lack-v4 mark no_digit no_dot))))
        (lack-then mark _ _ opened (lack-v4 mark no_digit no_dot))

-- the byte stands in no host: it is no byte of a label, no hexadecimal digit, and no dot, colon or bracket
pub record IsForeign (mark : ℕ) : Type 0 where
  pub label : is_label_byte mark ≡ false
  pub alphanumeric : is_ascii_alphanumeric mark ≡ false
  pub alphabetic : is_ascii_alphabetic mark ≡ false
  pub hexdigit : is_ascii_hexdigit mark ≡ false
  pub digit : is_ascii_digit mark ≡ false
  pub of_colon : nat_eq colon mark ≡ false
  pub of_dot : nat_eq dot mark ≡ false
  pub of_left : nat_eq left_bracket mark ≡ false
  pub of_right : nat_eq right_bracket mark ≡ false

-- a host lacks each byte that is foreign to hosts
pub lack-host : (mark : ℕ) → IsForeign mark → AllLack mark Host
lack-host mark foreign =
    lack-or mark _ _ (lack-hostname mark foreign.of_dot foreign.alphabetic foreign.label foreign.alphanumeric)
    (lack-or mark _ _ (lack-v4 mark foreign.digit foreign.of_dot)
    (lack-v6 mark foreign.hexdigit foreign.digit foreign.of_colon foreign.of_dot foreign.of_left foreign.of_right))

-- u, the mark and v do not lack the mark
has-mark : (mark : ℕ) (u v : List ℕ) → Lacks mark (u ++ mark ∷ v) → ⊥
has-mark mark [] v lacks = both_ways (nat_eq mark mark) lacks.0 (eq-eqb mark mark refl)
has-mark mark (b ∷ u) v lacks = has-mark mark u v lacks.1

-- where a text ends with the mark, no end of the text that is not empty lacks the mark
-- the text is x and the mark, and also u and its end, which is b and v
last-in : (mark b : ℕ) (x u v : List ℕ) → x ++ mark ∷ [] ≡ u ++ b ∷ v → Lacks mark (b ∷ v) → ⊥
-- the mark is the last byte, so it stands in the end, which lacks it; and u is shorter than x and the mark
last-in mark b x [] v same lacks = has-mark mark x [] (subst (Lacks mark) (sym same) lacks)
-- the text is the mark alone, and so is too short for u and an end
last-in mark b [] (c ∷ u) v same lacks =
    let tail : [] ≡ u ++ b ∷ v = cc in
    omega (arith, ap length tail, length-append u (b ∷ v))
last-in mark b (a ∷ x) (c ∷ u) v same lacks =
    let tail : x ++ mark ∷ [] ≡ u ++ b ∷ v = cc in
    last-in mark b x u v tail lacks

-- no host ends with ":" and a port
pub host-no_port : (text u port : List ℕ) → Host text → Port port → text ≡ u ++ colon ∷ port → ⊥
-- neither a name nor an IPv4 address has a colon
host-no_port text u port (inl name) is_port whole =
    has-mark colon u port (subst (Lacks colon) whole (lack-hostname colon refl refl refl refl text name))
host-no_port text u port (inr (inl v4)) is_port whole =
    has-mark colon u port (subst (Lacks colon) whole (lack-v4 colon refl refl text v4))
-- an IPv6 address in brackets ends with "]", which no port has
host-no_port text u port (inr (inr (a, b, _, (inner, end, _, is_end, b_is), text_is))) is_port whole =
    let ends : text ≡ (a ++ inner) ++ right_bracket ∷ [] =
    text_is ∙ ap (λ t. a ++ t) (b_is ∙ ap (λ t. inner ++ t) is_end) ∙ sym (append_assoc a inner (right_bracket ∷ [])) in
    let digits : Lacks right_bracket port =
    lack-between right_bracket 1 5 (One is_ascii_digit) (lack-one right_bracket is_ascii_digit refl) port is_port.0 in
    last-in right_bracket colon (a ++ inner) u port (sym ends ∙ whole) (refl, digits)
