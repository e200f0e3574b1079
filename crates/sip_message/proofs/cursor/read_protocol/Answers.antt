use Rattle.std.proofs.Common.{sym, subst}
use Rattle.std.proofs.lemmas.List.{take_rest}
use Rattle.sip_standard.specs.Profile.{Blanks}
use Rattle.sip_text.specs.Front.{IsLongestFront}
use Rattle.sip_message.specs.inner.Fronts.{ProtocolFront, pair_parts, BlanksFront}
use Rattle.sip_message.proofs.lemmas.front.Cuts.{ReadAs, stop, go-stop, go, last, no-blanks, longest-blanks_front}
use Rattle.sip_message.specs.inner.Only.{IsOnlyValue}
use Rattle.sip_message.proofs.cursor.read_protocol.Goals as goal

-- without a name the text is no protocol
pub returns-in_err-rest : goal.returns-in_err-rest
returns-in_err-rest c =
    subst (IsOnlyValue ProtocolFront pair_parts c.args.text.now) (sym c.from_residual.ensures) (stop c.in_err-rest.ensures)

-- without a slash after the name the text is no protocol
pub returns-in_err-past_mark : goal.returns-in_err-past_mark
returns-in_err-past_mark c =
    -- the name is read, and then nothing (`go-stop`)
    subst (IsOnlyValue ProtocolFront pair_parts c.args.text.now) (sym c.from_residual-in_err-past_mark.ensures)
    (go-stop c.in_ok-rest.ensures (stop c.in_err-past_mark.ensures))

-- without a version the text is no protocol
pub returns-in_err-rest-2 : goal.returns-in_err-rest-2
returns-in_err-rest-2 c =
    -- the name and the first slash are read, and then nothing
    subst (IsOnlyValue ProtocolFront pair_parts c.args.text.now) (sym c.from_residual-in_err-rest-2.ensures)
    (go-stop c.in_ok-rest.ensures (go-stop c.in_ok-past_mark.ensures (stop c.in_err-rest-2.ensures)))

-- without a slash after the version the text is no protocol
pub returns-in_err-past_mark-2 : goal.returns-in_err-past_mark-2
returns-in_err-past_mark-2 c =
    -- the name, the first slash and the version are read, and then nothing
    subst (IsOnlyValue ProtocolFront pair_parts c.args.text.now) (sym c.from_residual-in_err-past_mark-2.ensures)
    (go-stop c.in_ok-rest.ensures (go-stop c.in_ok-past_mark.ensures (go-stop c.in_ok-rest-2.ensures (stop c.in_err-past_mark-2.ensures))))

-- without a transport the text is no protocol
pub returns-in_err-transport : goal.returns-in_err-transport
returns-in_err-transport c =
    -- all before the transport is read, and then nothing
    subst (IsOnlyValue ProtocolFront pair_parts c.args.text.now) (sym c.from_residual-in_err-transport.ensures)
    (go-stop c.in_ok-rest.ensures (go-stop c.in_ok-past_mark.ensures (go-stop c.in_ok-rest-2.ensures (go-stop c.in_ok-past_mark-2.ensures (stop c.in_err-transport.ensures)))))

-- without a blank after the transport the text is no protocol
pub returns-then-blanks-eq0 : goal.returns-then-blanks-eq0
returns-then-blanks-eq0 c =
    -- each part before the blanks was read, and the longest run of blanks is empty
    go-stop c.in_ok-rest.ensures (go-stop c.in_ok-past_mark.ensures (go-stop c.in_ok-rest-2.ensures (go-stop c.in_ok-past_mark-2.ensures (go-stop c.in_ok-transport.ensures
    (stop (no-blanks c.in_ok-transport.rest.now (subst (IsLongestFront Blanks c.in_ok-transport.rest.now) c.if-blanks-eq0.true c.skip_lws-blanks.ensures.reads)))))))

-- a name, a slash, a version, a slash, a transport and blanks are a protocol
pub returns : goal.returns
returns c =
    -- each step reads: `go` for each of them, and `last` for the parts that are made of what they read
    let rest = c.in_ok-transport.rest.now in
    go c.in_ok-rest.ensures (go c.in_ok-past_mark.ensures (go c.in_ok-rest-2.ensures (go c.in_ok-past_mark-2.ensures (go c.in_ok-transport.ensures
    (go (subst (ReadAs (BlanksFront rest)) (sym (take_rest rest c.skip_lws-blanks.result)) (longest-blanks_front rest c.skip_lws-blanks.result c.skip_lws-blanks.ensures.reads c.if-blanks-eq0.false)) (last _))))))
