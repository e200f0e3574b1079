use Rattle.std.proofs.Common.{option_copied, sym, subst}
use Rattle.sip_message.specs.inner.ElementFronts.{FirstVia}
use Rattle.sip_message.specs.inner.Plain.{segment}
use Rattle.sip_message.proofs.PlainViaLemmas.{via-plain, via-first}
use Rattle.sip_message.proofs.plain_via.plain_via.Goals as goal

-- where each part was found by the masks, the text from `at` to `end` is a Via of these parts
pub returns : goal.returns
returns c =
    let m = c.args.masks.now in
    let at = c.args.at in
    let end = c.args.end in
    let second = c.in_ok-second.second in
    -- these are the places at which the parts begin
    let transport = c.in_ok-transport.transport in
    let sent_by = c.in_ok-sent_by.sent_by in
    let behind = c.in_ok-behind.behind in
    -- the port and the branch as the definitions have them
    let port = option_copied c.in_ok-port.port in
    let branch = option_copied c.in_ok-branch.branch in
    -- the parts lie one after the other
    let via = via-plain m at end c.in_ok-name.name c.in_ok-first.first c.in_ok-version.version second transport sent_by behind c.in_ok-port.params port branch c.in_ok-name.ensures c.in_ok-first.ensures c.in_ok-version.ensures
    c.in_ok-second.ensures c.in_ok-transport.ensures c.in_ok-sent_by.ensures c.in_ok-behind.ensures c.in_ok-port.ensures c.in_ok-branch.ensures in
    -- the code holds the parts as segments of its own text, which is m
    subst (λ t. FirstVia (segment at end m) (record { whole = segment at end t; transport = segment second transport t; host = segment sent_by behind t; port = port; branch = branch })) (sym c.text-text.ensures)
    (via-first (segment at end m) _ via)
