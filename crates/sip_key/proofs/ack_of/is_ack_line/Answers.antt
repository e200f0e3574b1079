use Rattle.std.proofs.Common.{sym, ◌∙◌, ap}
use Rattle.std.specs.Cmp.Lexicographic.{bytes_decides}
use Rattle.sip_message.specs.ValueParts.{start_parts}
use Rattle.sip_key.proofs.AckOfLemmas.{ack-line}
use Rattle.sip_key.proofs.ack_of.is_ack_line.Goals as goal

-- the first line is of an ACK, so the two Request-URIs decide
pub returns-then-eq : goal.returns-then-eq
returns-then-eq c =
    -- `ack-line`: where the first line is a request with the method ACK, and the second a request, the test of equal URIs tells whether the first is an ACK
    -- line of the second
    ack-line _ _ _ _ _ _ c.eq-then-eq.result (ap start_parts c.in-Request-Request.is-0) (ap start_parts c.in-Request-Request.is-1)
    ((bytes_decides _ _).0 (sym c.eq.ensures ∙ c.if-eq.true) ∙ c.as_slice.ensures) c.eq-then-eq.ensures
