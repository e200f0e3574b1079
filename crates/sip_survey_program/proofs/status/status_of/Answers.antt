use Rattle.std.proofs.Common.{◌≡◌, ◌∙◌, subst, sym, rules}
use Rattle.sip_survey_program.specs.Status.{status_of}
use Rattle.sip_survey_program.proofs.StatusLemmas.{undecided-alone, more-than-undecided}
use Rattle.sip_survey_program.proofs.status.status_of.Goals as goal

-- In both answers the log was read to its end (`c.in-Clean`), and `sums` says that the summary counts what was found.

-- all that is found is of transactions that are followed no further, so the status is 3
pub returns-then-summary : goal.returns-then-summary
returns-then-summary c = λ found sums.
    subst (λ end. 3 ≡ status_of found end) (sym c.in-Clean.is)
    (undecided-alone found c.in-Clean.entries c.in-Clean.transactions (λ none. search rules) (sym sums.undecided ∙ search rules ∙ sums.findings))

-- something is found besides transactions that are followed no further
pub returns-else-summary : goal.returns-else-summary
returns-else-summary c = λ found sums.
    subst (λ end. 1 ≡ status_of found end) (sym c.in-Clean.is)
    (more-than-undecided found c.in-Clean.entries c.in-Clean.transactions (λ none. search rules) (λ same. search rules))
