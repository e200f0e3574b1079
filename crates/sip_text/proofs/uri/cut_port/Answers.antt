-- `c.in_default.branch` is one of the two ways to the last case: what follows the last colon is no port (`via-in-Some+else-is_port`), or no colon stands in
-- the text (`via-in_default`).
use Rattle.std.proofs.Common.{sym, ap, ◌∙◌, option_copied, subst}
use Rattle.std.proofs.lemmas.Bool.{both_ways}
use Rattle.sip_standard.specs.Profile.{Port}
use Rattle.sip_text.proofs.uris.UriPortLemmas.{port-there, no-port}
use Rattle.sip_text.proofs.uri.cut_port.Goals as goal
use Rattle.sip_text.proofs.uri.cut_port.Goals.{in_default-via-in-Some+else-is_port, in_default-via-in_default}

-- what follows the last colon is a port
pub returns-in-Some : goal.returns-in-Some
returns-in-Some c =
    port-there c.args.text.now c.in-Some.host.now c.cut_last.result.1.now
    (sym c.cut_last.ensures.front ∙ ap option_copied c.in-Some.is) c.cut_last.ensures.rest
    (c.is_port.ensures.0 c.if-is_port.true)

-- where what follows the last colon is no port, or no colon is there, the text has no port
pub returns-in_default : goal.returns-in_default
returns-in_default c =
    no-port c.args.text.now (λ u there port.
    elim c.in_default.branch [
      -- what follows the last colon is no port
      | in_default-via-in-Some+else-is_port w ↦
          both_ways w.is_port.result w.if-is_port.false
          (w.is_port.ensures.1 (subst Port (sym c.cut_last.ensures.rest) port))
      -- no colon stands in the text, though u would be what stands before its last one
      | in_default-via-in_default w ↦
          let none = ap option_copied (sym w.in_default.is) ∙ c.cut_last.ensures.front ∙ there in
          cc
    ])
