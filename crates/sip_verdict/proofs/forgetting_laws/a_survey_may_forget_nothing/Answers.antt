use Rattle.sip_verdict.proofs.surveys.forgetting.Never.{never_part, never_whole}
use Rattle.sip_verdict.proofs.forgetting_laws.a_survey_may_forget_nothing.Goals as goal

-- what a survey of the whole log finds and writes, one that may forget may find and write too
pub returns-clause-whole : goal.returns-clause-whole
returns-clause-whole c = never_whole

-- so is a survey of a part of the log
pub returns-clause-part : goal.returns-clause-part
returns-clause-part c = never_part
