-- `decides-host`: the three tests together decide a host. `c.NAME.branch` says which of two tests led to this place: `then-A` that A passed, `else-A`
-- that it failed.
use Rattle.std.proofs.Common.{◌≡◌, ◌||◌, true, false, sym, ap, ◌∙◌}
use Rattle.std.proofs.lemmas.Bool.{both_ways}
use Rattle.sip_text.specs.inner.HostTests.{is_v4, is_v6_reference, is_hostname}
use Rattle.sip_text.proofs.hosts.HostLemmas.{decides-host}
use Rattle.sip_text.proofs.host.is_host.Goals as goal
use Rattle.sip_text.proofs.host.is_host.Goals.{then-is_v6_reference, else-is_v6_reference}

-- the text is an IPv6 address in brackets or an IPv4 address
pub returns-then-is_v4 : goal.returns-then-is_v4
returns-then-is_v4 c =
    let text = c.args.text.now in
    let passed : (is_v6_reference text || is_v4 text) ≡ true =
    elim c.if-is_v6_reference.branch [
      -- the first test passed, or it failed and the second passed
      | then-is_v6_reference w ↦ ap (λ x. x || is_v4 text) (sym c.is_v6_reference.ensures ∙ w.if-is_v6_reference.true)
      | else-is_v6_reference w ↦
          ap (λ x. x || is_v4 text) (sym c.is_v6_reference.ensures ∙ w.if-is_v6_reference.false)
          ∙ sym w.is_v4.ensures ∙ sym w.value-is ∙ c.if-is_v4.true
    ] in
    decides-host text c.if-is_v6_reference.value (c.if-is_v4.true ∙ sym (ap (λ x. x || is_hostname text) passed))

-- the text is no address, so the answer is whether it is a hostname
pub returns-else-is_v4 : goal.returns-else-is_v4
returns-else-is_v4 c =
    let text = c.args.text.now in
    let failed : (is_v6_reference text || is_v4 text) ≡ false =
    elim c.if-is_v6_reference.branch [
      -- the first test did not pass, and so the second failed
      | then-is_v6_reference w ↦ absurd (both_ways c.if-is_v6_reference.value c.if-is_v4.false (w.value-is ∙ w.if-is_v6_reference.true))
      | else-is_v6_reference w ↦
          ap (λ x. x || is_v4 text) (sym c.is_v6_reference.ensures ∙ w.if-is_v6_reference.false)
          ∙ sym w.is_v4.ensures ∙ sym w.value-is ∙ c.if-is_v4.false
    ] in
    decides-host text c.is_hostname.result (c.is_hostname.ensures ∙ sym (ap (λ x. x || is_hostname text) failed))
