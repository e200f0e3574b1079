-- A branch that stands plainly in the first Via of a message is that of its top Via.
-- `opens_other` is yes where another branch may begin after a semicolon: the next byte is a blank, b or B.
-- In the lemmas b is the branch that is found, and u, v, x and y are texts; a Bool is what a test says, as `comma` and `cr`.
-- Of bytes 32 is SP, 9 HTAB, 13 CR, 10 LF, 44 the comma, 58 the colon, 59 the semicolon, 61 "=", 91 and 93 the brackets, 98 b and 66 B.
use Rattle.std.proofs.Common.{◌≡◌, ◌∙◌, ◌⊎◌, inl, inr, ◌+◌, ◌||◌, ℕ, List, [], ◌∷◌, ◌++◌, Bool, Option, Some, None, take, drop, length, if◌then◌else◌, cond, nat_eq, true, false, refl, sym, ap, subst, append_assoc, arith}
use Rattle.std.proofs.lemmas.Bool.{eqb-true}
use Rattle.std.specs.Prelude.{codes, nat_lt}
use Rattle.std.specs.List.{prefix_len, starts_with}
use Rattle.std.specs.Char.{to_ascii_lowercase, is_ascii_digit}
use Rattle.sip_standard.specs.Text.{Exactly, ◌then◌, Optional, Many}
use Rattle.sip_standard.specs.Case.{folded}
use Rattle.sip_standard.specs.Chars.{AnyCase, is_among, EachSays}
use Rattle.sip_standard.specs.Profile.{Token, Wsp, Lws, Blanks, Sws, Mark, Quoted, Ipv6, Host}
use Rattle.sip_text.specs.Bytes.{semicolon, is_token_byte}
use Rattle.sip_text.specs.inner.Blanks.{is_wsp, Blank}
use Prim.Native.String.{String}
use Rattle.std.proofs.lemmas.List.{take-append-drop}
use Rattle.std.specs.Cmp.Lexicographic.{same_text}
use Rattle.sip_text.proofs.strings.BlanksLemmas.{units-blanks}
use Rattle.sip_text.proofs.texts.LacksLemmas.{Lacks, AllLack, lacks-append, lack-one, lack-exactly, lack-then, lack-optional, lack-many, lack-some, lack-between}
use Rattle.sip_text.proofs.uris.UriHostLemmas.{IsForeign, lack-host}
use Rattle.sip_standard.specs.Via.{SaidVia, GenValue, PortSays, ParamSays, ViaSays, ViasSay, first_some}
use Rattle.sip_part.specs.Led.{branch_in, from_stop, is_end, opens_other, token_at}
use Rattle.sip_part.proofs.Stops.{no_stop}
use Rattle.sip_part.proofs.Tokens.{token_none, token_run, token_whole, same_run}

-- What follows is of blanks.

-- the byte may begin blanks: SP, HTAB or CR
abbrev pub Opens : ℕ → Type 0
Opens x = (x ≡ 32) ⊎ ((x ≡ 9) ⊎ (x ≡ 13))

-- the text begins with a byte that may begin blanks
pub record Open (u : List ℕ) : Type 0 where
  pub first : ℕ
  pub rest : List ℕ
  pub is : u ≡ first ∷ rest
  pub opens : Opens first

-- a blank may begin blanks
pub wsp_opens : (b : ℕ) → is_wsp b ≡ true → Opens b
wsp_opens b is = by (nat_eq b 32) (nat_eq b 9) refl refl is
  where
    -- a blank may begin blanks, whether it is SP or HTAB
    by : (x y : Bool) → nat_eq b 32 ≡ x → nat_eq b 9 ≡ y → (x || y) ≡ true → Opens b
    by true y one two is = inl (eqb-true b 32 one)
    by false true one two is = inr (inl (eqb-true b 9 two))
    -- the byte is one of the two, since it is a blank
    by false false one two is = absurd (cc)

-- blanks of one or more begin with a byte that may begin blanks
blank_open : (u rest : List ℕ) → Blank u → Open (u ++ rest)
blank_open u rest (front, b, inl none, one, whole) =
    record { first = one.0; rest = rest; is = ap (λ t. t ++ rest) (whole ∙ ap (λ t. t ++ b) none ∙ one.2); opens = wsp_opens one.0 one.1 }
blank_open u rest (front, b, inr fold, one, whole) =
    record { first = 13; rest = 10 ∷ (b ++ rest); is = ap (λ t. t ++ rest) (whole ∙ ap (λ t. t ++ b) fold); opens = inr (inr refl) }

-- blanks are none, or begin with a byte that may begin blanks
sws_open : (u : List ℕ) → Sws u → (u ≡ []) ⊎ Open u
sws_open u (inl none) = inl none
sws_open u (inr blanks) = by (units-blanks u blanks)
  where
    -- the claim holds whether there are no blanks or some
    by : Many Blank u → (u ≡ []) ⊎ Open u
    by ([], all, whole) = inl whole
    by (v ∷ vs, all, whole) = let o = blank_open v _ all.0 in inr (record { first = o.first; rest = o.rest; is = whole ∙ o.is; opens = o.opens })

-- no token stands at the front of the text
abbrev pub NoToken : List ℕ → Type 0
NoToken text = prefix_len is_token_byte text ≡ 0

-- where blanks stand at the front, no token does
pub open_no_token : (u rest : List ℕ) → Open u → NoToken (u ++ rest)
open_no_token u rest o = by o.opens
  where
    -- no token stands at the front, whether the first byte is SP, HTAB or CR, since none of these is a byte of a token
    by : Opens o.first → NoToken (u ++ rest)
    by (inl is) = ap (λ t. prefix_len is_token_byte (t ++ rest)) (o.is ∙ ap (λ x. x ∷ o.rest) is)
    by (inr (inl is)) = ap (λ t. prefix_len is_token_byte (t ++ rest)) (o.is ∙ ap (λ x. x ∷ o.rest) is)
    by (inr (inr is)) = ap (λ t. prefix_len is_token_byte (t ++ rest)) (o.is ∙ ap (λ x. x ∷ o.rest) is)

-- no token stands at the front of blanks before a text at whose front none stands
sws_no_token : (u rest : List ℕ) → Sws u → NoToken rest → NoToken (u ++ rest)
sws_no_token u rest sws ends = by (sws_open u sws)
  where
    -- no token stands at the front, whether or not there are blanks
    by : (u ≡ []) ⊎ Open u → NoToken (u ++ rest)
    by (inl none) = subst (λ t. NoToken (t ++ rest)) (sym none) ends
    by (inr o) = open_no_token u rest o

-- a blank is no semicolon
lack-wsp : AllLack semicolon Wsp
lack-wsp = lack-one semicolon _ refl

-- no LWS has a semicolon: it is blanks, perhaps with a CRLF before the last ones
lack-lws : AllLack semicolon Lws
lack-lws = lack-then semicolon _ _ (lack-optional semicolon _ (lack-then semicolon _ _ (lack-many semicolon _ lack-wsp) (lack-exactly semicolon _ (refl, (refl, tt))))) (lack-some semicolon _ lack-wsp)

-- no blanks have a semicolon
lack-blanks : AllLack semicolon Blanks
lack-blanks = lack-some semicolon _ lack-lws

-- no SWS has a semicolon
lack-sws : AllLack semicolon Sws
lack-sws = lack-optional semicolon _ lack-blanks

-- no token has a semicolon
lack-token : AllLack semicolon Token
lack-token = lack-some semicolon _ (lack-one semicolon _ refl)

-- no slash with its blanks has a semicolon, since none of its three parts has
lack-slash : AllLack semicolon (Mark "/")
lack-slash = lack-then semicolon _ _ lack-sws (lack-then semicolon _ _ (lack-exactly semicolon _ (refl, tt)) lack-sws)

-- no colon with its blanks has a semicolon, since none of its three parts has
lack-colon : AllLack semicolon (Mark ":")
lack-colon = lack-then semicolon _ _ lack-sws (lack-then semicolon _ _ (lack-exactly semicolon _ (refl, tt)) lack-sws)

-- no "=" with its blanks has a semicolon, since none of its three parts has
lack-equal : AllLack semicolon (Mark "=")
lack-equal = lack-then semicolon _ _ lack-sws (lack-then semicolon _ _ (lack-exactly semicolon _ (refl, tt)) lack-sws)

-- a semicolon is no byte of a host
foreign : IsForeign semicolon
foreign = record { label = refl; alphanumeric = refl; alphabetic = refl; hexdigit = refl; digit = refl; of_colon = refl; of_dot = refl; of_left = refl; of_right = refl }

-- the front of a text without a semicolon has none
lacks-front : (u v : List ℕ) → Lacks semicolon (u ++ v) → Lacks semicolon u
lacks-front [] v lacks = tt
lacks-front (b ∷ u) v (other, lacks) = (other, lacks-front u v lacks)

-- no host has a semicolon
lack-a-host : AllLack semicolon Host
lack-a-host = lack-host semicolon foreign

-- What follows shows that the search passes over a text without a semicolon, or ends in it.

-- where a byte is no semicolon, and the search finds a branch from it on, the search finds that branch from the byte after it on
on_without : (ends semi : Bool) (here on : Option (List ℕ)) (b : List ℕ) → semi ≡ false → (if ends then None else if semi then here else on) ≡ Some b → on ≡ Some b
-- a search that ends at the byte finds nothing
on_without true semi here on b is found = absurd (cc)
-- the byte is no semicolon
on_without false true here on b is found = absurd (cc)
-- so the search goes on after it
on_without false false here on b is found = found

-- a branch that is found from a text without a semicolon on is found after that text
passed : (u rest : List ℕ) (b : List ℕ) → Lacks semicolon u → branch_in (u ++ rest) ≡ Some b → branch_in rest ≡ Some b
passed [] rest b lacks found = found
passed (x ∷ u) rest b (other, lacks) found = passed u rest b lacks (on_without (is_end x) (nat_eq x semicolon) _ (branch_in (u ++ rest)) b other found)

-- where u has no semicolon, a branch that is found from u and v on is found from v on
step : (u v text tail : List ℕ) (b : List ℕ) → Lacks semicolon u → text ≡ u ++ v → branch_in (text ++ tail) ≡ Some b → branch_in (v ++ tail) ≡ Some b
step u v text tail b lacks whole found = passed u (v ++ tail) b lacks (subst (λ t. branch_in t ≡ Some b) (ap (λ t. t ++ tail) whole ∙ append_assoc u v tail) found)

-- the search `find` is one for the branch b: it passes over a text without a semicolon, or ends in it, and it ends at a comma and at a CR
record Search (find : List ℕ → Option (List ℕ)) (b : List ℕ) : Type 0 where
  pass : (u rest : List ℕ) → Lacks semicolon u → find (u ++ rest) ≡ Some b → find rest ≡ Some b
  at_semicolon : (t : List ℕ) → find (59 ∷ t) ≡ branch_in (59 ∷ t)
  at_comma : (t : List ℕ) → find (44 ∷ t) ≡ None
  at_cr : (t : List ℕ) → find (13 ∷ t) ≡ None

-- `branch_in` passes over what has no semicolon, and finds nothing at a comma or a CR
among : (b : List ℕ) → Search branch_in b
among b = record { pass = λ u rest. passed u rest b; at_semicolon = λ t. refl; at_comma = λ t. refl; at_cr = λ t. refl }

-- the branch that is found from the first comma, semicolon or CR on
abbrev branch_from : List ℕ → Option (List ℕ)
branch_from text = branch_in (from_stop text)

-- the search from the first comma, semicolon or CR on passes over a text without a semicolon
passed_from : (u rest : List ℕ) (b : List ℕ) → Lacks semicolon u → branch_from (u ++ rest) ≡ Some b → branch_from rest ≡ Some b
passed_from [] rest b lacks found = found
passed_from (x ∷ u) rest b (other, lacks) found = passed_from u rest b lacks (by (nat_eq x 44) (nat_eq x 13) refl refl)
  where
    -- b is found after x, since the search would find nothing at a comma or a CR
    by : (comma cr : Bool) → nat_eq x 44 ≡ comma → nat_eq x 13 ≡ cr → branch_from (u ++ rest) ≡ Some b
    by true cr one two = let e : None ≡ Some b = ap (λ y. branch_from (y ∷ (u ++ rest))) (sym (eqb-true x 44 one)) ∙ found in absurd (cc)
    by false true one two = let e : None ≡ Some b = ap (λ y. branch_from (y ∷ (u ++ rest))) (sym (eqb-true x 13 two)) ∙ found in absurd (cc)
    by false false one two = sym (ap (λ here. branch_in (if here then x ∷ (u ++ rest) else from_stop (u ++ rest))) (no_stop x one other two)) ∙ found

-- `branch_from` passes over what has no semicolon, and finds nothing at a comma or a CR
from_first : (b : List ℕ) → Search branch_from b
from_first b = record { pass = λ u rest. passed_from u rest b; at_semicolon = λ t. refl; at_comma = λ t. refl; at_cr = λ t. refl }

-- What follows is of a mark, as "=" is one, with blanks at its sides.

-- the text m is the byte c with blanks before it and after it
record Led (c : ℕ) (m : List ℕ) : Type 0 where
  before : List ℕ
  after : List ℕ
  is : m ≡ before ++ (c ∷ after)
  blanks : Sws before
  more : Sws after

-- a mark of this byte begins with it, but for blanks
mark_led : (char : String) (c : ℕ) (m : List ℕ) → codes char ≡ c ∷ [] → Mark char m → Led c m
-- s1 is the blanks before the byte e and s2 those after it; r is e and s2
mark_led char c m one (s1, r, sws1, (e, s2, e_is, sws2, r_is), m_is) =
    record { before = s1; after = s2; is = m_is ∙ ap (λ t. s1 ++ t) (r_is ∙ ap (λ t. t ++ s2) (e_is ∙ one)); blanks = sws1; more = sws2 }

-- a mark with blanks and the text after it is the blanks, the byte, and all that comes after it
-- m is the mark c with blanks around it, as l tells
led_rest : (c : ℕ) (m rest : List ℕ) (l : Led c m) → m ++ rest ≡ l.before ++ (c ∷ (l.after ++ rest))
led_rest c m rest l = ap (λ t. t ++ rest) l.is ∙ append_assoc l.before (c ∷ l.after) rest

-- a mark with blanks, of a byte that is in no token, and what follows it begin with no token
led_no_token : (c : ℕ) (m rest : List ℕ) → is_token_byte c ≡ false → Led c m → NoToken (m ++ rest)
led_no_token c m rest other l =
    subst NoToken (sym (led_rest c m rest l)) (sws_no_token l.before (c ∷ (l.after ++ rest)) l.blanks (ap (λ b. cond b (1 + prefix_len is_token_byte (l.after ++ rest)) 0) other))

-- where a text with blanks before the byte c begins with c, there are no blanks before it
pub at_front : (c : ℕ) (before x y : List ℕ) → Sws before → (Opens c → ⊥) → before ++ (c ∷ x) ≡ c ∷ y → x ≡ y
at_front c before x y sws not_blank same = by (sws_open before sws)
  where
    -- there are no blanks before c, since both texts would else begin with different bytes, and so x is y
    by : (before ≡ []) ⊎ Open before → x ≡ y
    by (inl none) = let e : c ∷ x ≡ c ∷ y = ap (λ t. t ++ (c ∷ x)) (sym none) ∙ same in cc
    by (inr o) =
        let e : o.first ∷ (o.rest ++ (c ∷ x)) ≡ c ∷ y = ap (λ t. t ++ (c ∷ x)) (sym o.is) ∙ same in
        let first : o.first ≡ c = cc in absurd (not_blank (subst Opens first o.opens))

-- an equal sign may not begin blanks
not_equal : Opens 61 → ⊥
not_equal (inl is) = omega (arith, is)
not_equal (inr (inl is)) = omega (arith, is)
not_equal (inr (inr is)) = omega (arith, is)

-- a colon may not begin blanks
pub not_colon : Opens 58 → ⊥
not_colon (inl is) = omega (arith, is)
not_colon (inr (inl is)) = omega (arith, is)
not_colon (inr (inr is)) = omega (arith, is)

-- What follows is of what the search makes of a parameter.

-- a text that starts with a needle is the needle and what comes after it
pub starts_is : (t needle : List ℕ) → starts_with nat_eq t needle ≡ true → t ≡ needle ++ drop (length needle) t
starts_is t needle is = sym (take-append-drop (length needle) t) ∙ ap (λ u. u ++ drop (length needle) t) (sym (same_text needle (take (length needle) t) (sym is)))

-- the search finds b from the front of a parameter on: after "branch=", or further on where the parameter does not open as a branch may
abbrev Seen : List ℕ → List ℕ → Type 0
Seen b t = ((t ≡ codes "branch" ++ (61 ∷ drop 7 t)) × (token_at (drop 7 t) ≡ Some b)) ⊎ ((opens_other t ≡ false) × (branch_in t ≡ Some b))

-- where b is found from a semicolon on, it is found from the parameter after it on
param_seen : (t b : List ℕ) → branch_in (semicolon ∷ t) ≡ Some b → Seen b t
param_seen t b found = by (starts_with nat_eq t (codes "branch=")) (opens_other t) refl refl found
  where
    -- the claim holds whether "branch=" follows the semicolon, or what a branch that is spelled otherwise may begin with, or neither
    by : (s o : Bool) → starts_with nat_eq t (codes "branch=") ≡ s → opens_other t ≡ o → (if s then token_at (drop 7 t) else if o then None else branch_in t) ≡ Some b → Seen b t
    by true o is other f = inl (starts_is t (codes "branch=") is, f)
    -- the search ends, and finds nothing, where the parameter opens as a branch that is spelled otherwise may
    by false true is other f = absurd (cc)
    by false false is other f = inr (other, f)

-- a byte whose lower case is b is among SP, HTAB, b and B, since it is b or B
lower_b : (x : ℕ) → to_ascii_lowercase x ≡ 98 → is_among " \tbB" x ≡ true
lower_b x is = by (nat_lt x 65) (nat_lt x 91) is
  where
    -- the claim holds whether the byte is below the capital letters, is one, or is above them
    -- the capital letters are 65 to 90, and each has its small one 32 above it
    by : (low high : Bool) → cond low x (cond high (x + 32) x) ≡ 98 → is_among " \tbB" x ≡ true
    by true high e = ap (is_among " \tbB") e
    by false true e = let up : x ≡ 66 = omega (arith, e) in ap (is_among " \tbB") up
    by false false e = ap (is_among " \tbB") e

-- a parameter with the name branch, in any case, opens as a branch may
named_opens : (name rest : List ℕ) → AnyCase "branch" name → opens_other (name ++ rest) ≡ true
-- the name is not empty, and its first byte in lower case is b
named_opens [] rest any = absurd (cc)
named_opens (x ∷ name) rest any = let e : to_ascii_lowercase x ∷ folded name ≡ codes "branch" = any in let first : to_ascii_lowercase x ≡ 98 = cc in lower_b x first

-- where the token at the front of blanks, a value and a text without a token is b, the value is b
token_after : (after value rest b : List ℕ) → Sws after → Token value → NoToken rest → token_at (after ++ (value ++ rest)) ≡ Some b → value ≡ b
token_after after value rest b sws token ends found = by (sws_open after sws)
  where
    -- the value is b: there are no blanks before it, since no token would else stand at the front
    by : (after ≡ []) ⊎ Open after → value ≡ b
    by (inl none) =
        let e : Some value ≡ Some b = sym (token_whole value rest token ends) ∙ sym (ap (λ t. token_at (t ++ (value ++ rest))) none) ∙ found in cc
    by (inr o) = let e : None ≡ Some b = sym (token_none (after ++ (value ++ rest)) (open_no_token after (value ++ rest) o)) ∙ found in absurd (cc)

-- where b is found from a parameter with the name branch on, its value is b
branch_seen : (name m value rest b : List ℕ) → Token name → AnyCase "branch" name → Mark "=" m → Token value → NoToken rest → Seen b (name ++ (m ++ (value ++ rest))) → value ≡ b
branch_seen name m value rest b token any mark is_token ends (inl (is, found)) =
    -- t is the text from the name on, and l the "=" with blanks around it; the name is `branch`, since both are runs of bytes of a token
    let t = name ++ (m ++ (value ++ rest)) in
    let l = mark_led "=" 61 m refl mark in
    let same = same_run name (codes "branch") (m ++ (value ++ rest)) (61 ∷ drop 7 t) (token_run name token) refl (led_no_token 61 m (value ++ rest) refl l) refl is in
    -- what follows "=" in the text is what the search looks at, so that b is the value
    let after : l.after ++ (value ++ rest) ≡ drop 7 t = at_front 61 l.before (l.after ++ (value ++ rest)) (drop 7 t) l.blanks not_equal (sym (led_rest 61 m (value ++ rest) l) ∙ same.1) in
    token_after l.after value rest b l.more is_token ends (ap token_at after ∙ found)
-- the parameter has another name, which is not so
branch_seen name m value rest b token any mark is_token ends (inr (other, found)) =
    let e : true ≡ false = sym (named_opens name (m ++ (value ++ rest)) any) ∙ other in absurd (cc)

-- no branch is found where a quoted string stands: the search stops at its quote
quote_ends : (v rest b : List ℕ) → Quoted v → branch_in (v ++ rest) ≡ Some b → ⊥
quote_ends v rest b (q, r, q_is, more, whole) found =
    let e : None ≡ Some b = ap (λ t. branch_in (t ++ rest)) (sym (whole ∙ ap (λ t. t ++ r) q_is)) ∙ found in absurd (cc)

-- an IPv6 address has no semicolon
lack-ipv6 : AllLack semicolon Ipv6
lack-ipv6 u is =
    let r : Host (91 ∷ (u ++ 93 ∷ [])) = inr (inr (91 ∷ [], u ++ 93 ∷ [], refl, (u, 93 ∷ [], is, refl, refl), refl)) in
    lacks-front u (93 ∷ []) (lack-a-host (91 ∷ (u ++ 93 ∷ [])) r).1

-- a branch that is found from a parameter's value on is found after the value
-- the value is a token, a quoted string, an IPv6 address, or one in brackets
value_passed : (v rest b : List ℕ) → GenValue v → branch_in (v ++ rest) ≡ Some b → branch_in rest ≡ Some b
value_passed v rest b (inl is) found = passed v rest b (lack-token v is) found
value_passed v rest b (inr (inl is)) found = absurd (quote_ends v rest b is found)
value_passed v rest b (inr (inr (inl is))) found = passed v rest b (lack-ipv6 v is) found
value_passed v rest b (inr (inr (inr is))) found = passed v rest b (lack-a-host v (inr (inr is))) found

-- what a parameter of another name has after it: nothing, or an equal sign and a value
abbrev Valued : List ℕ → Type 0
Valued = Optional (Mark "=" then GenValue)

-- no token stands where a parameter's name ends
valued_no_token : (tail rest : List ℕ) → Valued tail → NoToken rest → NoToken (tail ++ rest)
valued_no_token tail rest (inl none) ends = subst (λ t. NoToken (t ++ rest)) (sym none) ends
valued_no_token tail rest (inr (m, v, mark, is, whole)) ends =
    subst NoToken (sym (ap (λ t. t ++ rest) whole ∙ append_assoc m v rest)) (led_no_token 61 m (v ++ rest) refl (mark_led "=" 61 m refl mark))

-- the search passes over the value of a parameter
valued_passed : (tail rest b : List ℕ) → Valued tail → branch_in (tail ++ rest) ≡ Some b → branch_in rest ≡ Some b
valued_passed tail rest b (inl none) found = subst (λ t. branch_in (t ++ rest) ≡ Some b) none found
valued_passed tail rest b (inr (m, v, mark, is, whole)) found = value_passed v rest b is (step m v tail rest b (lack-equal m mark) whole found)

-- a branch that is found from a parameter of another name on is found after the parameter
other_seen : (name tail rest b : List ℕ) → Token name → ¬ (AnyCase "branch" name) → Valued tail → NoToken rest → Seen b (name ++ (tail ++ rest)) → branch_in rest ≡ Some b
-- the text begins with "branch=", and so the name would be `branch`
other_seen name tail rest b token other valued ends (inl (is, found)) =
    let same = same_run name (codes "branch") (tail ++ rest) (61 ∷ drop 7 (name ++ (tail ++ rest))) (token_run name token) refl (valued_no_token tail rest valued ends) refl is in
    absurd (other (ap folded same.0))
-- the search goes on in the parameter, and passes over its name and its value
other_seen name tail rest b token other valued ends (inr (opens, found)) = valued_passed tail rest b valued (passed name (tail ++ rest) b (lack-token name token) found)

-- where b is found from a parameter on, the parameter has the branch b, or it has none and b is found after it
param_step : (p : Option (List ℕ)) (param rest b : List ℕ) → ParamSays p param → NoToken rest → Seen b (param ++ rest) → (p ≡ Some b) ⊎ ((p ≡ None) × (branch_in rest ≡ Some b))
-- the parameter is its name, and then "=" with its blanks, m, and the value; or its name and what else may follow, `tail`
param_step (Some branch) param rest b (name, r, (token, any), (m, value, mark, (is_token, is), r_is), whole) ends seen =
    let flat : param ++ rest ≡ name ++ (m ++ (value ++ rest)) =
    ap (λ t. t ++ rest) (whole ∙ ap (λ t. name ++ t) r_is) ∙ append_assoc name (m ++ value) rest ∙ ap (λ t. name ++ t) (append_assoc m value rest) in
    inl (ap Some (is ∙ branch_seen name m value rest b token any mark is_token ends (subst (Seen b) flat seen)))
param_step None param rest b (name, tail, (token, other), valued, whole) ends seen =
    let flat : param ++ rest ≡ name ++ (tail ++ rest) = ap (λ t. t ++ rest) whole ∙ append_assoc name tail rest in
    inr (refl, other_seen name tail rest b token other valued ends (subst (Seen b) flat seen))

-- from blanks after a semicolon on nothing is found
seen_open : (after x b : List ℕ) → Open after → Seen b (after ++ x) → ⊥
seen_open after x b o seen = by o.opens
  where
    -- b is found from the first blank on
    at : Seen b (o.first ∷ (o.rest ++ x))
    at = subst (λ t. Seen b (t ++ x)) o.is seen

    -- b is found from any byte on that is equal to this blank
    here : (c : ℕ) → o.first ≡ c → Seen b (c ∷ (o.rest ++ x))
    here c is = subst (λ f. Seen b (f ∷ (o.rest ++ x))) is at

    -- nothing is found from a SP on: it is not the b of "branch=", and it opens a branch that is spelled otherwise
    blank : Seen b (32 ∷ (o.rest ++ x)) → ⊥
    blank (inl (is, found)) = let e : ◌≡◌ {A = ℕ} 32 98 = cc in omega (arith, e)
    blank (inr (other, found)) = absurd (cc)

    -- nothing is found from a HTAB on: it is not the b of "branch=", and it opens a branch that is spelled otherwise
    tab : Seen b (9 ∷ (o.rest ++ x)) → ⊥
    tab (inl (is, found)) = let e : ◌≡◌ {A = ℕ} 9 98 = cc in omega (arith, e)
    tab (inr (other, found)) = absurd (cc)

    -- nothing is found from a CR on: it is not the b of "branch=", and the search ends at it
    line : Seen b (13 ∷ (o.rest ++ x)) → ⊥
    line (inl (is, found)) = let e : ◌≡◌ {A = ℕ} 13 98 = cc in omega (arith, e)
    line (inr (other, found)) = absurd (cc)

    -- none of SP, HTAB and CR, with which blanks begin, can stand first
    by : Opens o.first → ⊥
    by (inl is) = blank (here 32 is)
    by (inr (inl is)) = tab (here 9 is)
    by (inr (inr is)) = line (here 13 is)

-- where b is found from blanks and a parameter on, there are no blanks, and b is found from the parameter on
seen_after : (after x b : List ℕ) → Sws after → Seen b (after ++ x) → Seen b x
seen_after after x b sws seen = by (sws_open after sws)
  where
    -- b is found from x on: there are no blanks, since b would else not be found
    by : (after ≡ []) ⊎ Open after → Seen b x
    by (inl none) = subst (λ t. Seen b (t ++ x)) none seen
    by (inr o) = absurd (seen_open after x b o seen)

-- What follows is of parameters, one after another.

-- the text is parameters, each of which says one of these
abbrev Params : List (Option (List ℕ)) → List ℕ → Type 0
Params params = EachSays (λ param. Mark ";" then ParamSays param) params

-- no token stands at the front of parameters before a text at whose front none stands
params_no_token : (params : List (Option (List ℕ))) (text tail : List ℕ) → Params params text → NoToken tail → NoToken (text ++ tail)
params_no_token [] text tail is ends = subst (λ t. NoToken (t ++ tail)) (sym is) ends
-- u is the first ";" (m, with its blanks) and its parameter, and v the others
params_no_token (p ∷ ps) text tail (u, v, (m, param, mark, says, u_is), more, whole) ends =
    let flat : text ++ tail ≡ m ++ (param ++ (v ++ tail)) = ap (λ t. t ++ tail) (whole ∙ ap (λ t. t ++ v) u_is) ∙ append_assoc (m ++ param) v tail ∙ append_assoc m param (v ++ tail) in
    subst NoToken (sym flat) (led_no_token 59 m (param ++ (v ++ tail)) refl (mark_led ";" 59 m refl mark))

-- where the first parameter says the branch, or says none and the others say it, the first of all says it
first_more : (p : Option (List ℕ)) (ps : List (Option (List ℕ))) (b : List ℕ) (X : Type 0) → (p ≡ Some b) ⊎ ((p ≡ None) × X) → (X → first_some ps ≡ Some b) → first_some (p ∷ ps) ≡ Some b
first_more p ps b X (inl is) on = ap (λ q. first_some (q ∷ ps)) is
first_more p ps b X (inr (is, x)) on = ap (λ q. first_some (q ∷ ps)) is ∙ on x

-- where a search finds b from parameters on, and nothing after them, b is the first branch among the parameters
params_found : (find : List ℕ → Option (List ℕ)) (params : List (Option (List ℕ))) (text tail b : List ℕ) → Search find b → NoToken tail → (find tail ≡ Some b → ⊥) → (branch_in tail ≡ Some b → ⊥) → Params params text
    → find (text ++ tail) ≡ Some b → first_some params ≡ Some b
-- without parameters the branch would be found in what follows, where none is
params_found find [] text tail b search ends none never is found = absurd (none (subst (λ t. find (t ++ tail) ≡ Some b) is found))
-- u is the first ";" (m, with its blanks) and its parameter, and v the others
params_found find (p ∷ ps) text tail b search ends none never (u, v, (m, param, mark, says, u_is), more, whole) found =
    let l = mark_led ";" 59 m refl mark in
    let rest = v ++ tail in
    -- the text begins with a semicolon, blanks and the first parameter
    let flat : text ++ tail ≡ l.before ++ (59 ∷ (l.after ++ (param ++ rest))) =
    ap (λ t. t ++ tail) (whole ∙ ap (λ t. t ++ v) u_is) ∙ append_assoc (m ++ param) v tail ∙ append_assoc m param rest ∙ led_rest 59 m (param ++ rest) l in
    -- the search passes over the blanks and comes to this parameter
    let at = search.pass l.before (59 ∷ (l.after ++ (param ++ rest))) (lack-sws l.before l.blanks) (subst (λ t. find t ≡ Some b) flat found) in
    let seen = seen_after l.after (param ++ rest) b l.more (param_seen (l.after ++ (param ++ rest)) b (sym (search.at_semicolon (l.after ++ (param ++ rest))) ∙ at)) in
    first_more p ps b (branch_in rest ≡ Some b) (param_step p param rest b says (params_no_token ps v tail more ends) seen) (λ f. params_found branch_in ps v tail b (among b) ends never never more f)

-- What follows is of an element of Via, and of the elements after it.

-- a port has no semicolon
lack-port-says : (port : Option (List ℕ)) → AllLack semicolon (PortSays port)
lack-port-says None u is = subst (Lacks semicolon) (sym is) tt
lack-port-says (Some port) u (m, v, mark, (fits, same), whole) =
    subst (Lacks semicolon) (sym whole) (lacks-append semicolon m v (lack-colon m mark) (lack-between semicolon 1 5 _ (lack-one semicolon is_ascii_digit refl) v fits.0))

-- where u has no semicolon, a branch that is found from the first stop of u and v on is found from that of v on
step_from : (u v text tail : List ℕ) (b : List ℕ) → Lacks semicolon u → text ≡ u ++ v → branch_from (text ++ tail) ≡ Some b → branch_from (v ++ tail) ≡ Some b
step_from u v text tail b lacks whole found = passed_from u (v ++ tail) b lacks (subst (λ t. branch_from t ≡ Some b) (ap (λ t. t ++ tail) whole ∙ append_assoc u v tail) found)

-- where b is found in an element of Via, and nothing after it, b is the element's branch
via_found : (via : SaidVia) (text tail b : List ℕ) → NoToken tail → (branch_from tail ≡ Some b → ⊥) → (branch_in tail ≡ Some b → ⊥) → ViaSays via text → branch_from (text ++ tail) ≡ Some b → via.branch ≡ Some b
-- t1 to t8 are the parts before the parameters (protocol, slash, version, slash, transport, blanks, host and port), r1 to r8 what follows each, and e1 to e8
-- say so
via_found via text tail b ends none never
    (params, is, same, (t1, r1, one, (t2, r2, two, (t3, r3, three, (t4, r4, four, (t5, r5, five, (t6, r6, six, (t7, r7, seven, (t8, r8, eight, each, e8), e7), e6), e5), e4), e3), e2), e1)) found =
    is ∙ params_found branch_from params r8 tail b (from_first b) ends none never each
    -- from the parameters back to the protocol, the search passes over each part
    (step_from t8 r8 r7 tail b (lack-port-says via.port t8 eight) e8
    (step_from t7 r7 r6 tail b (lack-a-host t7 seven.0) e7
    (step_from t6 r6 r5 tail b (lack-blanks t6 six) e6
    (step_from t5 r5 r4 tail b (lack-token t5 five.0) e5
    (step_from t4 r4 r3 tail b (lack-slash t4 four) e4
    (step_from t3 r3 r2 tail b (lack-token t3 three) e3
    (step_from t2 r2 r1 tail b (lack-slash t2 two) e2
    (step_from t1 r1 text tail b (lack-token t1 one) e1 found))))))))

-- further elements of Via, each after its COMMA
abbrev More : List SaidVia → List ℕ → Type 0
More vias = EachSays (λ v. Mark "," then ViaSays v) vias

-- no token stands at the front of further elements before a text at whose front none stands
more_no_token : (vias : List SaidVia) (text tail : List ℕ) → More vias text → NoToken tail → NoToken (text ++ tail)
more_no_token [] text tail is ends = subst (λ t. NoToken (t ++ tail)) (sym is) ends
-- u is the first comma (m, with its blanks) and its element x, and v the others
more_no_token (via ∷ vias) text tail (u, v, (m, x, mark, says, u_is), more, whole) ends =
    let flat : text ++ tail ≡ m ++ (x ++ (v ++ tail)) = ap (λ t. t ++ tail) (whole ∙ ap (λ t. t ++ v) u_is) ∙ append_assoc (m ++ x) v tail ∙ append_assoc m x (v ++ tail) in
    subst NoToken (sym flat) (led_no_token 44 m (x ++ (v ++ tail)) refl (mark_led "," 44 m refl mark))

-- a search that finds nothing after further elements of Via finds nothing from their comma on
more_ends : (find : List ℕ → Option (List ℕ)) (vias : List SaidVia) (text tail b : List ℕ) → Search find b → More vias text → (find tail ≡ Some b → ⊥) → find (text ++ tail) ≡ Some b → ⊥
-- without further elements only the tail is left
more_ends find [] text tail b search is none found = none (subst (λ t. find (t ++ tail) ≡ Some b) is found)
-- u is the first comma with its element
more_ends find (via ∷ vias) text tail b search (u, v, (m, x, mark, says, u_is), more, whole) none found =
    -- m is the comma with blanks around it, x the next element, and v the elements after it; the search passes over blanks and ends at the comma
    let l = mark_led "," 44 m refl mark in
    let flat : text ++ tail ≡ l.before ++ (44 ∷ (l.after ++ (x ++ (v ++ tail)))) =
    ap (λ t. t ++ tail) (whole ∙ ap (λ t. t ++ v) u_is) ∙ append_assoc (m ++ x) v tail ∙ append_assoc m x (v ++ tail) ∙ led_rest 44 m (x ++ (v ++ tail)) l in
    let at = search.pass l.before (44 ∷ (l.after ++ (x ++ (v ++ tail)))) (lack-sws l.before l.blanks) (subst (λ t. find t ≡ Some b) flat found) in
    let e : None ≡ Some b = sym (search.at_comma (l.after ++ (x ++ (v ++ tail)))) ∙ at in absurd (cc)

-- where b is found in the elements of a Via, and nothing after them, b is the branch of the first element
vias_found : (via : SaidVia) (vias : List SaidVia) (text tail b : List ℕ) → NoToken tail → (branch_from tail ≡ Some b → ⊥) → (branch_in tail ≡ Some b → ⊥) → ViasSay (via ∷ vias) text
    → branch_from (text ++ tail) ≡ Some b → via.branch ≡ Some b
vias_found via vias text tail b ends none never (u, v, says, more, whole) found =
    via_found via u (v ++ tail) b (more_no_token vias v tail more ends) (more_ends branch_from vias v tail b (from_first b) more none) (more_ends branch_in vias v tail b (among b) more never) says
    (subst (λ t. branch_from t ≡ Some b) (ap (λ t. t ++ tail) whole ∙ append_assoc u v tail) found)

-- a search finds nothing from the blanks at the end of a line on
line_ends : (find : List ℕ → Option (List ℕ)) (s rest b : List ℕ) → Search find b → Sws s → find (s ++ (13 ∷ rest)) ≡ Some b → ⊥
line_ends find s rest b search sws found = let e : None ≡ Some b = sym (search.at_cr rest) ∙ search.pass s (13 ∷ rest) (lack-sws s sws) found in absurd (cc)

-- The branch that is found in the rest of a field's line is that of the first element of its value.
pub value_found : (text value rest b : List ℕ) → (Sws then Exactly value then Sws) text → branch_in (from_stop (text ++ (13 ∷ rest))) ≡ Some b → (via : SaidVia) (vias : List SaidVia) → ViasSay (via ∷ vias) value
    → via.branch ≡ Some b
-- s1 is the blanks before the value and r what follows them: the value and the blanks s2 after it
value_found text value rest b (s1, r, sws1, (val, s2, val_is, sws2, r_is), whole) found via vias says =
    let at = step_from s1 r text (13 ∷ rest) b (lack-sws s1 sws1) whole found in
    let flat : r ++ (13 ∷ rest) ≡ value ++ (s2 ++ (13 ∷ rest)) = ap (λ t. t ++ (13 ∷ rest)) (r_is ∙ ap (λ t. t ++ s2) val_is) ∙ append_assoc value s2 (13 ∷ rest) in
    vias_found via vias value (s2 ++ (13 ∷ rest)) b (sws_no_token s2 (13 ∷ rest) sws2 refl)
    (line_ends branch_from s2 rest b (from_first b) sws2) (line_ends branch_in s2 rest b (among b) sws2) says (subst (λ t. branch_from t ≡ Some b) flat at)
