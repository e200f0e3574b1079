use Rattle.std.proofs.Common.{take, sym, ap, arith}
use Rattle.std.proofs.lemmas.List.{length-take-le}
use Rattle.sip_message.proofs.quick.front.Goals as goal

-- where there are more bytes than are looked at, the place at which the look ends lies within them
pub slice_bounds-result-end : goal.slice_bounds-result-end
slice_bounds-result-end c = sym (length-take-le 2047 c.args.bytes.now (omega (arith, c.if-bytes-gt-LONGEST.true)))

-- no more bytes are looked at than the most that may be
pub returns-then-bytes-gt-LONGEST-clause-within : goal.returns-then-bytes-gt-LONGEST-clause-within
returns-then-bytes-gt-LONGEST-clause-within c = omega (arith, length-take-le 2047 c.args.bytes.now (omega (arith, c.if-bytes-gt-LONGEST.true)))

-- what is looked at is the front of the bytes
pub returns-then-bytes-gt-LONGEST-clause-front : goal.returns-then-bytes-gt-LONGEST-clause-front
returns-then-bytes-gt-LONGEST-clause-front c = sym (ap (λ n. take n c.args.bytes.now) (length-take-le 2047 c.args.bytes.now (omega (arith, c.if-bytes-gt-LONGEST.true))))
