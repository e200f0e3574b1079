use Rattle.consequences.proofs.lemmas.client.Repeating.{requests-are-spaced}
use Rattle.consequences.proofs.plain_client.a_request_is_repeated_in_intervals_up_to_t2.Goals as goal

-- by either of the rules the requests of a run are as far apart as the law says
pub returns : goal.returns
returns c = λ p rules events m y stands. requests-are-spaced p events m y stands
