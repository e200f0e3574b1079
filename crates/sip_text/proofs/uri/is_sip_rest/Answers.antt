-- `decides-rest`: what decides that the parts which were cut fit decides the rest. `front`: the test that decides the host and the userinfo.
use Rattle.std.specs.Bool.{Decides}
use Rattle.std.proofs.lemmas.Bool.Decides.{Decides-at}
use Rattle.sip_standard.specs.Profile.{Host}
use Rattle.sip_text.specs.inner.UriCut.{cut_parts, InfoFits}
use Rattle.sip_text.proofs.uris.UriPartLemmas.{both-when, both-unless}
use Rattle.sip_text.proofs.uris.UriSipLemmas.{decides-rest}
use Rattle.sip_text.proofs.uri.is_sip_rest.Goals as goal
use Rattle.sip_text.proofs.uri.is_sip_rest.Goals.{then-is_host, else-is_host}

-- the host and the userinfo fit, so the answer is whether the tail does
pub returns-then-userinfo_fits : goal.returns-then-userinfo_fits
returns-then-userinfo_fits c =
    let cut = cut_parts c.cut_sip-cuts.result in
    let front : Decides c.if-is_host.value (Host cut.host × InfoFits cut) =
    elim c.if-is_host.branch [
      | then-is_host w ↦ Decides-at c.if-is_host.value w.userinfo_fits.result w.value-is (both-when c.is_host.result w.userinfo_fits.result w.if-is_host.true c.is_host.ensures w.userinfo_fits.ensures)
      | else-is_host w ↦ Decides-at c.if-is_host.value c.is_host.result w.value-is (both-unless c.is_host.result w.if-is_host.false c.is_host.ensures)
    ] in
    decides-rest c.args.text.now cut c.tail_fits.result c.cut_sip-cuts.ensures
    (both-when c.if-is_host.value c.tail_fits.result c.if-userinfo_fits.true front c.tail_fits.ensures)

-- where the host or the userinfo does not fit, the answer is no
pub returns-else-userinfo_fits : goal.returns-else-userinfo_fits
returns-else-userinfo_fits c =
    let cut = cut_parts c.cut_sip-cuts.result in
    let front : Decides c.if-is_host.value (Host cut.host × InfoFits cut) =
    elim c.if-is_host.branch [
      | then-is_host w ↦ Decides-at c.if-is_host.value w.userinfo_fits.result w.value-is (both-when c.is_host.result w.userinfo_fits.result w.if-is_host.true c.is_host.ensures w.userinfo_fits.ensures)
      | else-is_host w ↦ Decides-at c.if-is_host.value c.is_host.result w.value-is (both-unless c.is_host.result w.if-is_host.false c.is_host.ensures)
    ] in
    decides-rest c.args.text.now cut c.if-is_host.value c.cut_sip-cuts.ensures
    (both-unless c.if-is_host.value c.if-userinfo_fits.false front)
