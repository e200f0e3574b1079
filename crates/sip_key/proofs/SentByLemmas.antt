-- The number of a port.
use Rattle.std.proofs.Common.{◌≡◌, ℕ, ◌+◌, ◌*◌, ◌-◌, ◌<◌, ◌≤◌, true, false, Bool, List, length, get_or, refl, arith}
use Rattle.std.specs.Char.{is_ascii_digit}
use Rattle.std.proofs.lemmas.Str.Parse.{digits_value-take-le}
use Rattle.sip_standard.specs.Profile.{Port}
use Rattle.sip_text.proofs.uris.UriPortLemmas.{ReadsDigits, port-digit, digit-above, digit-more}

-- each byte of a port is a digit
port-is_digit : (text : List ℕ) (k : ℕ) (b : Bool) → is_ascii_digit (get_or text k 0) ≡ b → Port text → k < length text → b ≡ true
port-is_digit text k true is port within = refl
port-is_digit text k false is port within = absurd (port-digit text k port within is)

-- what the loop knows after one digit more of a port: the digit is at least '0', the number is at most 65535, and the digits up to it write it
pub record ReadsMore (text : List ℕ) (at number : ℕ) : Type 0 where
  pub low : 48 ≤ get_or text at 0
  pub value : number * 10 + (get_or text at 0 - 48) ≤ 65535
  pub more : ReadsDigits text (at + 1) (number * 10 + (get_or text at 0 - 48))

-- where the digits of a port before the index write a number, those up to the index write ten times the number and the digit there
pub reads-more : (text : List ℕ) (at number : ℕ) → Port text → at < length text → ReadsDigits text at number → ReadsMore text at number
reads-more text at number port within reads =
    let digit = port-is_digit text at (is_ascii_digit (get_or text at 0)) refl port within in
    let more = digit-more text at number within reads digit in
    let small : number * 10 + (get_or text at 0 - 48) ≤ 65535 = omega (arith, more.1, port.1, digits_value-take-le 10 text (at + 1) (omega arith)) in
    record { low = (digit-above (get_or text at 0) digit).0; value = small; more = record { all = more.0; value = more.1; small = small } }
