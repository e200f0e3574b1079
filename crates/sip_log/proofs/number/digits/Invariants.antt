use Rattle.std.proofs.Common.{◌≡◌, take}
use Rattle.std.specs.Str.Parse.{AllDigits, digits_value}
use Rattle.sip_log.specs.inner.Number.{cut}
use Rattle.sip_log.proofs.number.digits.Given as goal

-- the bytes so far are digits, and the value is their number
abbrev pub invariant-loop-at : goal.invariant-loop-at
invariant-loop-at l = record {
  digits : AllDigits 10 (take l.at l.text);
  value : l.value ≡ cut (digits_value 10 (take l.at l.text));
}
