use Rattle.sip_standard.specs.KeyMachine.{OfPlain}
use Rattle.sip_standard.specs.declared.role.Role.TheVariants.{Server}
use Rattle.sip_states.proofs.runs.StandsLemmas.{what_stands_lasts}
use Rattle.consequences.proofs.lemmas.server.PlainServers.{answered-again}
use Rattle.consequences.proofs.plain_server.a_request_that_comes_again_gets_the_final_response.Goals as goal

-- the lemma of requests that come again, by the law that what stands is not past its last moment
pub returns : goal.returns
returns c = λ p rules before between after final again m y unreliable first one_kind is_final unbroken asks early stands late.
    answered-again p before final is_final one_kind again (what_stands_lasts (OfPlain Server) p) between after m y unreliable first unbroken asks early stands late
