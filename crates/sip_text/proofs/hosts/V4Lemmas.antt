-- IPv4 addresses, and their test.
use Rattle.std.proofs.Common.{◌≡◌, ℕ, Bool, true, false, nat_eq, cond, List, [], ◌∷◌, ◌++◌, Option, None, Some, refl, ap, ◌∙◌}
use Rattle.std.specs.Option.{option_map_or}
use Rattle.std.specs.Char.{is_ascii_digit}
use Rattle.sip_text.specs.declared.class.Class.TheVariants as variant
use Rattle.sip_standard.specs.Text.{One, ◌then◌}
use Rattle.sip_standard.specs.Profile.{Ipv4}
use Rattle.sip_text.specs.Bytes.{dot, Byte}
use Rattle.sip_text.specs.inner.Cut.{led, before, behind}
use Rattle.sip_text.specs.inner.Pieces.{DecimalGroup}
use Rattle.sip_text.specs.inner.HostTests.{is_decimal, is_decimal_dot, is_v4}
use Rattle.sip_text.proofs.texts.LacksLemmas.{AllLack, lack-one, lack-byte, lack-then, lack-between}
use Rattle.sip_text.proofs.cuts.CutLemmas.{cut-whole, before-led, behind-led}
use Rattle.sip_text.proofs.texts.GroupLemmas.{group-between, between-group}

-- a group of digits lacks a byte that is no digit
pub lack-decimal : (mark : ℕ) → is_ascii_digit mark ≡ false → AllLack mark DecimalGroup
lack-decimal mark other = lack-between mark 1 3 (One is_ascii_digit) (lack-one mark is_ascii_digit other)

-- where each text that passes `later` is of Q, a text that passes the test of digits, a dot and `later` is digits, a dot and a text of Q
decimal_dot-yes : (later : List ℕ → Bool) (Q : List ℕ → Type 0) (text : List ℕ) → ((t : List ℕ) → later t ≡ true → Q t) → is_decimal_dot later text ≡ true → (DecimalGroup then Byte dot then Q) text
decimal_dot-yes later Q text each pass = at (is_decimal (before dot text)) (behind dot text) refl refl pass
  where
    -- the text is digits, a dot and a text of Q, since the test passes only where digits stand before a dot
    at : (digits : Bool) (o : Option (List ℕ)) → is_decimal (before dot text) ≡ digits → behind dot text ≡ o → option_map_or later (cond digits o None) false ≡ true → (DecimalGroup then Byte dot then Q) text
    -- where no 1*3DIGIT stands before the first dot, or there is no dot, the test fails
    at false o none is passes = cc
    at true None some is passes = cc
    -- the digits, the dot and what follows it are the text
    at true (Some rest) some is passes = (
      before dot text,
      dot ∷ rest,
      between-group variant.Digit 3 (before dot text) some,
      (dot ∷ [], rest, refl, each rest passes, refl),
      cut-whole dot text ∙ ap (λ o. before dot text ++ led dot o) is,
    )

-- where each text of Q passes `later`, digits, a dot and a text of Q pass the test of digits, a dot and `later`
decimal_dot-is : (later : List ℕ → Bool) (Q : List ℕ → Type 0) (text : List ℕ) → ((t : List ℕ) → Q t → later t ≡ true) → (DecimalGroup then Byte dot then Q) text → is_decimal_dot later text ≡ true
-- u is the digits, v the text of Q, and t the dot and v
decimal_dot-is later Q text each (u, t, group, (mark, v, is_mark, one, t_is), whole) =
    -- the text is cut at its first dot, since digits have none
    let split : text ≡ u ++ led dot (Some v) = whole ∙ ap (λ x. u ++ x) (t_is ∙ ap (λ x. x ++ v) is_mark) in
    let lacks = lack-decimal dot refl u group in
    -- the digits before the dot pass their test, and then what stands after it is tested by `later`
    let digits : is_decimal (before dot text) ≡ true =
    ap (λ x. is_decimal (before dot x)) split ∙ ap is_decimal (before-led dot u (Some v) lacks) ∙ group-between variant.Digit 3 u group in
    ap (λ pass. option_map_or later (cond pass (behind dot text) None) false) digits
    ∙ ap (λ o. option_map_or later o false) (ap (behind dot) split ∙ behind-led dot u (Some v) lacks)
    ∙ each v one

-- the last two groups of an IPv4 address
abbrev LastTwo : List ℕ → Type 0
LastTwo = DecimalGroup then Byte dot then DecimalGroup

-- the last three groups of an IPv4 address
abbrev LastThree : List ℕ → Type 0
LastThree = DecimalGroup then Byte dot then LastTwo

-- a text that passes the test of an IPv4 address is one
pub v4-yes : (text : List ℕ) → is_v4 text ≡ true → Ipv4 text
v4-yes text pass = decimal_dot-yes (is_decimal_dot (is_decimal_dot is_decimal)) LastThree text three pass
  where
    -- what passes the test of the last two numbers is two numbers
    two : (t : List ℕ) → is_decimal_dot is_decimal t ≡ true → LastTwo t
    two t = decimal_dot-yes is_decimal DecimalGroup t (between-group variant.Digit 3)

    -- what passes the test of the last three numbers is three numbers
    three : (t : List ℕ) → is_decimal_dot (is_decimal_dot is_decimal) t ≡ true → LastThree t
    three t = decimal_dot-yes (is_decimal_dot is_decimal) LastTwo t two

-- an IPv4 address passes its test
pub v4-is : (text : List ℕ) → Ipv4 text → is_v4 text ≡ true
v4-is text v4 = decimal_dot-is (is_decimal_dot (is_decimal_dot is_decimal)) LastThree text three v4
  where
    -- two numbers pass the test of the last two
    two : (t : List ℕ) → LastTwo t → is_decimal_dot is_decimal t ≡ true
    two t = decimal_dot-is is_decimal DecimalGroup t (group-between variant.Digit 3)

    -- three numbers pass the test of the last three
    three : (t : List ℕ) → LastThree t → is_decimal_dot (is_decimal_dot is_decimal) t ≡ true
    three t = decimal_dot-is (is_decimal_dot is_decimal) LastTwo t two

-- an IPv4 address lacks what is neither a digit nor a dot
pub lack-v4 : (mark : ℕ) → is_ascii_digit mark ≡ false → nat_eq dot mark ≡ false → AllLack mark Ipv4
lack-v4 mark no_digit other = before_dot LastThree (before_dot LastTwo (before_dot DecimalGroup (lack-decimal mark no_digit)))
  where
    -- digits and a dot before a text of Q lack the mark where Q does
    before_dot : (Q : List ℕ → Type 0) → AllLack mark Q → AllLack mark (DecimalGroup then Byte dot then Q)
    before_dot Q lack =
        lack-then mark DecimalGroup (Byte dot then Q) (lack-decimal mark no_digit) (lack-then mark (Byte dot) Q (lack-byte mark dot other) lack)
