-- The port of a URI, and how it is cut off a host.
use Rattle.std.proofs.Common.{◌≡◌, ℕ, ◌+◌, ◌*◌, ◌-◌, ◌<◌, ◌≤◌, true, false, List, ◌∷◌, ◌++◌, None, Some, length, take, get_or, nat_le, refl, sym, ap, ◌∙◌, subst, arith}
use Rattle.std.specs.Char.{is_ascii_digit, digit_value}
use Rattle.std.specs.List.{list_all}
use Rattle.std.specs.Str.Parse.{digits_value}
use Rattle.std.proofs.lemmas.Bool.{both_ways, and_parts, and_from, leb-true}
use Rattle.std.proofs.lemmas.Int.Digits.{digits_value_more}
use Rattle.std.proofs.lemmas.List.{take_all}
use Rattle.std.proofs.lemmas.List.Folds.{list_all_at, list_all_more}
use Rattle.std.proofs.lemmas.Str.{digit_value_digit}
use Rattle.std.proofs.lemmas.Str.Parse.{digits_value-take-le}
use Rattle.sip_standard.specs.Text.{One, Between}
use Rattle.sip_standard.specs.Profile.{Port}
use Rattle.sip_text.specs.Bytes.{colon}
use Rattle.sip_text.specs.inner.Cut.{before_last, behind_last}
use Rattle.sip_text.specs.inner.UriCut.{IsPortCut}
use Rattle.sip_text.proofs.texts.LacksLemmas.{AllLack, lack-one, lack-between}
use Rattle.sip_text.proofs.texts.RunLemmas.{run-list_all, list_all-run}
use Rattle.sip_text.proofs.texts.GroupLemmas.{length-ones}
use Rattle.sip_text.proofs.cuts.LastLemmas.{before_last-mark, behind_last-mark, last-whole}

-- a port has one to five bytes
pub port-length : (text : List ℕ) → Port text → (1 ≤ length text) × (length text ≤ 5)
port-length text port =
    let ones = length-ones is_ascii_digit port.0.0 port.0.1 in
    let len = ap length port.0.2 in
    (omega (arith, ones, len, port.0.3), omega (arith, ones, len, port.0.4))

-- no byte of a port is other than a digit
pub port-digit : (text : List ℕ) (k : ℕ) → Port text → k < length text → is_ascii_digit (get_or text k 0) ≡ false → ⊥
port-digit text k port within other =
    both_ways (list_all is_ascii_digit text) (list_all_at is_ascii_digit text k 0 within other)
    (run-list_all is_ascii_digit text (port.0.0, port.0.1, port.0.2))

-- one to five digits of a number up to 65535 are a port
pub digits-port : (text : List ℕ) → 1 ≤ length text → length text ≤ 5 → list_all is_ascii_digit text ≡ true → digits_value 10 text ≤ 65535 → Port text
digits-port text low high all small =
    let many = list_all-run is_ascii_digit text all in
    let ones = length-ones is_ascii_digit many.0 many.1 in
    let len = ap length many.2 in
    ((many.0, many.1, many.2, omega (arith, ones, len), omega (arith, ones, len)), small)

-- what the loop knows of the bytes before its index: all are digits, and they write the number
pub record ReadsDigits (text : List ℕ) (at number : ℕ) : Type 0 where
  pub all : list_all is_ascii_digit (take at text) ≡ true
  pub value : number ≡ digits_value 10 (take at text)
  pub small : number ≤ 65535

-- a digit is its value above '0'
pub digit-above : (c : ℕ) → is_ascii_digit c ≡ true → (48 ≤ c) × (c ≤ 57) × (digit_value c + 48 ≡ c)
digit-above c is =
    let both = and_parts (nat_le 48 c) (nat_le c 57) is in
    let low = leb-true 48 c both.0 in
    let high = leb-true c 57 both.1 in
    (low, high, digit_value_digit c (low, high))

-- where the byte at the index is a digit, the bytes up to it are digits, and write ten times the number and that digit
pub digit-more : (text : List ℕ) (at number : ℕ) → at < length text → ReadsDigits text at number → is_ascii_digit (get_or text at 0) ≡ true → (list_all is_ascii_digit (take (at + 1) text) ≡ true) × (number * 10 + (get_or text at 0 - 48) ≡ digits_value 10 (take (at + 1) text))
digit-more text at number within reads is =
    let digit = digit-above (get_or text at 0) is in (
      list_all_more is_ascii_digit text at 0 within
          ∙ and_from (list_all is_ascii_digit (take at text)) (is_ascii_digit (get_or text at 0)) reads.all is,
      omega (arith, digits_value_more 10 text at within, reads.value, digit.2),
    )

-- a number above 65535 is no port's, however many digits follow
pub port-large : (text : List ℕ) (at number : ℕ) → number ≡ digits_value 10 (take at text) → 65535 < number → Port text → ⊥
port-large text at number is large port =
    omega (arith, is, large, port.1, digits_value-take-le 10 text at (omega arith))

-- where the loop is at the end of one to five bytes, they are a port
pub port-end : (text : List ℕ) (at number : ℕ) → 1 ≤ length text → length text ≤ 5 → length text ≤ at → ReadsDigits text at number → Port text
port-end text at number low high end reads =
    let whole = take_all at text end in
    digits-port text low high
    (ap (list_all is_ascii_digit) (sym whole) ∙ reads.all)
    (omega (arith, ap (digits_value 10) whole, reads.value, reads.small))

-- a port has no ":"
pub lack-port : AllLack colon (Between 1 5 (One is_ascii_digit))
lack-port = lack-between colon 1 5 (One is_ascii_digit) (lack-one colon is_ascii_digit refl)

-- where no port stands after the last ":", the text does not end with ":" and a port
pub no-port : (text : List ℕ) → ((u : List ℕ) → before_last colon text ≡ Some u → Port (behind_last colon text) → ⊥) → IsPortCut text text None
no-port text none = (
  -- the whole text is what is cut off as the host; and if it were u, ":" and a port v, that ":" would be its last one, since a port has none
  refl,
  λ u v port whole.
      let lacks = lack-port v port.0 in
      none u (ap (before_last colon) whole ∙ before_last-mark colon u v lacks)
      (subst Port (sym (ap (behind_last colon) whole ∙ behind_last-mark colon u v lacks)) port),
)

-- where a port stands after the last ":", it is cut off there
pub port-there : (text host port : List ℕ) → before_last colon text ≡ Some host → port ≡ behind_last colon text → Port port → IsPortCut text host (Some port)
port-there text host port host_is port_is fits =
    (fits, last-whole colon text host host_is ∙ ap (λ t. host ++ colon ∷ t) (sym port_is))
