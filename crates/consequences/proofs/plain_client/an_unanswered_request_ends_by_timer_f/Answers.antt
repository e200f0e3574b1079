use Rattle.sip_standard.specs.KeyMachine.{OfPlain}
use Rattle.sip_standard.specs.declared.role.Role.TheVariants.{Client}
use Rattle.sip_states.proofs.runs.StandsLemmas.{what_stands_lasts}
use Rattle.consequences.proofs.lemmas.client.TimerF.{over-by-timer-f, silent-after-timer-f}
use Rattle.consequences.proofs.plain_client.an_unanswered_request_ends_by_timer_f.Goals as goal

-- the transaction is over by the last moment at which timer F may fire
pub returns-clause-over : goal.returns-clause-over
returns-clause-over c = λ p rules before after request m y sends unanswered stands late.
    over-by-timer-f p (what_stands_lasts (OfPlain Client) p) before after request sends m y unanswered stands late

-- nothing is sent after that moment
pub returns-clause-silent : goal.returns-clause-silent
returns-clause-silent c = λ p rules before after request e y sends sent stands. silent-after-timer-f p (what_stands_lasts (OfPlain Client) p) before after request sends e y sent stands
