-- `c.NAME.branch` says which of several tests led to this place: `via-then-A` that A passed, `via-else-A+then-B` that A failed and B passed.
use Rattle.std.proofs.Common.{refl, sym, ap, ◌≢◌, ◌+◌, ◌*◌, ◌∙◌, arith, length}
use Rattle.std.proofs.lemmas.Bool.{eqb-true, eqb-false}
use Rattle.sip_text.proofs.uris.UriPartLemmas.{decides-not}
use Rattle.sip_text.proofs.uris.UriPortLemmas.{port-length, port-digit, port-large, digit-more, port-end}
use Rattle.sip_text.proofs.uri.is_port.Goals as goal
use Rattle.sip_text.proofs.uri.is_port.Goals.{then-is_empty-via-then-is_empty, then-is_empty-via-else-is_empty+then-text-gt-PORT_DIGITS}

-- a text without a byte, or with more than five, is no port
pub returns-then-is_empty : goal.returns-then-is_empty
returns-then-is_empty c = decides-not (λ port.
    -- a port has one to five bytes; the branch is taken where the text is empty, or else where it is longer
    let (some, few) = port-length c.args.text.now port in
    elim c.then-is_empty.branch [
      | then-is_empty-via-then-is_empty w ↦
          absurd (omega (arith, some, eqb-true (length c.args.text.now) 0 (sym c.is_empty.ensures ∙ w.if-is_empty.true)))
      | then-is_empty-via-else-is_empty+then-text-gt-PORT_DIGITS w ↦ absurd (omega (arith, few, w.if-text-gt-PORT_DIGITS.true))
    ])

-- where a byte is no digit, the text is no port
pub returns-then-not-has : goal.returns-then-not-has
returns-then-not-has c = decides-not (λ port.
    port-digit c.args.text.now c.loop-byte.byte-index port c.loop-byte-test.true (sym c.has.ensures ∙ c.if-not-has.true))

-- where the digits so far write a number that is too great for a port, the text is no port
pub returns-then-number-gt-LAST_PORT : goal.returns-then-number-gt-LAST_PORT
returns-then-number-gt-LAST_PORT c = decides-not (λ port.
    -- `more` says which number the digits write with this one; the test has found it above 65535
    let more = digit-more c.args.text.now c.loop-byte.byte-index c.loop-byte.number c.loop-byte-test.true
    c.loop-byte.invariant (sym c.has.ensures ∙ c.if-not-has.false) in
    port-large c.args.text.now (c.loop-byte.byte-index + 1) (c.loop-byte.number * 10 + c.from.result)
    (ap (λ d. c.loop-byte.number * 10 + d) c.from.ensures ∙ more.1) c.if-number-gt-LAST_PORT.true port)

-- after one digit more, the number is that of the digits up to it, and not above 65535
pub loop-byte-preserved : goal.loop-byte-preserved
loop-byte-preserved c =
    -- `more` says that the bytes up to this one are digits, and which number they write
    let more = digit-more c.args.text.now c.loop-byte.byte-index c.loop-byte.number c.loop-byte-test.true
    c.loop-byte.invariant (sym c.has.ensures ∙ c.if-not-has.false) in
    record {
      all = more.0;
      value = ap (λ d. c.loop-byte.number * 10 + d) c.from.ensures ∙ more.1;
      small = c.if-number-gt-LAST_PORT.false;
    }

-- one to five digits up to 65535 are a port
pub returns : goal.returns
returns c = (
  λ _. port-end c.args.text.now c.loop-byte.byte-index c.loop-byte.number
      (let full : length c.args.text.now ≢ 0 = eqb-false (length c.args.text.now) 0 (sym c.is_empty.ensures ∙ c.if-is_empty.false) in omega (arith, full))
      c.if-text-gt-PORT_DIGITS.false c.loop-byte-test.false c.loop-byte.invariant,
  λ _. refl,
)
