use Rattle.std.proofs.Common.{refl}
use Rattle.sip_log.proofs.logs.Logs.{rules-of-one, restarts-of-one}
use Rattle.sip_log.proofs.laws.a_log_of_format_1_is_as_it_was.Goals as goal

-- both tolerances are the one of the header
pub returns-clause-tolerance : goal.returns-clause-tolerance
returns-clause-tolerance c = λ input p behind is. is.one refl

-- the rules are those of RFC 6026
pub returns-clause-rules : goal.returns-clause-rules
returns-clause-rules c = rules-of-one

-- no entry is a restart
pub returns-clause-restarts : goal.returns-clause-restarts
returns-clause-restarts c = restarts-of-one
