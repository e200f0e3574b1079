use Rattle.sip_log.proofs.logs.Logs.{log_has_header, log_is_one}
use Rattle.sip_log.proofs.laws.an_input_has_one_log.Goals as goal

-- an input that has a log has a header
pub returns-clause-either : goal.returns-clause-either
returns-clause-either c = log_has_header

-- what is read of an input is read in one way
pub returns-clause-one : goal.returns-clause-one
returns-clause-one c = log_is_one
