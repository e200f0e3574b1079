use Rattle.sip_verdict.proofs.surveys.parts.CutLogs.{cut_keeps}
use Rattle.sip_verdict.proofs.survey_laws.a_log_may_be_cut.Goals as goal

-- the law, that a log which is cut by chosen transactions has them in their order and with the same trouble, is the lemma of what a cut log keeps
pub returns : goal.returns
returns c p chosen items es cuts seen cut = cut_keeps chosen p items es cuts seen cut
