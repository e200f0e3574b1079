use Rattle.sip_machine.proofs.Words.{sym, rules, Equal, ranked, answers_always}
use Rattle.sip_machine.proofs.tos.place_of.Goals as goal

-- what the search finds has the number, since the two compare as `Equal` (`ranked`)
pub returns-in-Ok-clause-number : goal.returns-in-Ok-clause-number
returns-in-Ok-clause-number c =
    -- each call of the closure gives the number of the To that it is asked of (`answers_always`)
    let at = c.in-Ok.ensures.position (λ to. to.number) (answers_always _ _ _ (λ f a r g called. search rules)) in
    λ d. ranked _ c.args.number Equal (sym (at d))
