use Rattle.std.proofs.Common.{sym, subst, option_copied}
use Rattle.std.proofs.lemmas.Bool.{both_ways}
use Rattle.sip_message.specs.inner.Only.{IsOnlyValue}
use Rattle.sip_message.specs.inner.ElementFronts.{ViaFront, front_parts}
use Rattle.sip_message.proofs.lemmas.front.Cuts.{stop, go-stop}
use Rattle.sip_message.proofs.lemmas.via.Steps.{via-missing, via-found, via-short}
use Rattle.sip_message.proofs.via.read_via.Goals as goal

-- where no protocol can be read, the text is no element of Via
pub returns-in_err-transport : goal.returns-in_err-transport
returns-in_err-transport c =
    -- `stop`: the first step reads nothing, and so the steps read nothing together
    subst (IsOnlyValue ViaFront front_parts c.args.text.now) (sym c.from_residual.ensures)
    (via-missing c.args.text.now (stop c.in_err-transport.ensures))

-- where no host can be read after the protocol, the text is no element of Via
pub returns-in_err-host : goal.returns-in_err-host
returns-in_err-host c =
    -- the protocol is read, and then nothing (`go-stop`)
    subst (IsOnlyValue ViaFront front_parts c.args.text.now) (sym c.from_residual-in_err-host.ensures)
    (via-missing c.args.text.now (go-stop c.in_ok-transport.ensures (stop c.in_err-host.ensures)))

-- where no port can be read after the host, the text is no element of Via
pub returns-in_err-port : goal.returns-in_err-port
returns-in_err-port c =
    -- the protocol and the host are read, and then nothing
    subst (IsOnlyValue ViaFront front_parts c.args.text.now) (sym c.from_residual-in_err-port.ensures)
    (via-missing c.args.text.now (go-stop c.in_ok-transport.ensures (go-stop c.in_ok-host.ensures (stop c.in_err-port.ensures))))

-- where a parameter named branch has no token for value, the text is no element of Via
pub returns-in_err-branch : goal.returns-in_err-branch
returns-in_err-branch c =
    -- the protocol, the host and the port are read, and then nothing
    subst (IsOnlyValue ViaFront front_parts c.args.text.now) (sym c.from_residual-in_err-branch.ensures)
    (via-missing c.args.text.now (go-stop c.in_ok-transport.ensures (go-stop c.in_ok-host.ensures (go-stop c.in_ok-port.ensures (stop c.in_err-branch.ensures)))))

-- where neither the end nor a comma follows, the text is no element of Via
pub returns-then-not-ends_element : goal.returns-then-not-ends_element
returns-then-not-ends_element c =
    -- all parts are read, but the element does not end after them
    via-missing c.args.text.now (go-stop c.in_ok-transport.ensures (go-stop c.in_ok-host.ensures (go-stop c.in_ok-port.ensures (go-stop c.in_ok-branch.ensures
    (λ y is. both_ways c.ends_element.result c.if-not-ends_element.true (c.ends_element.ensures.1 is.0))))))

-- what is left is not longer than the text
pub slice_bounds-result-count : goal.slice_bounds-result-count
slice_bounds-result-count c =
    via-short c.args.text.now _ _ _ _ _ _ _ _ c.in_ok-transport.ensures.0 c.in_ok-host.ensures.0 c.in_ok-port.ensures.0 c.in_ok-branch.ensures.0

-- the protocol, the host, the port and the parameters are an element, which ends after them
pub returns : goal.returns
returns c =
    via-found c.args.text.now _ _ _ _ (option_copied c.in_ok-port.port) _ (option_copied c.in_ok-branch.branch) _
    c.in_ok-transport.ensures.0 c.in_ok-host.ensures.0 c.in_ok-port.ensures.0 c.in_ok-branch.ensures.0
    (c.ends_element.ensures.0 c.if-not-ends_element.false)
