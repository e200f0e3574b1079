use Rattle.sip_verdict.proofs.surveys.forgetting.Waited.{waited_may, waited_over, waited_recorded, waited_survey}
use Rattle.sip_verdict.proofs.standing.Standing.wait.Goals as goal

-- after the wait the tables may still pass the moment
pub returns-clause-may : goal.returns-clause-may
returns-clause-may g c =
    let s = c.args.self.now in
    waited_may s.book c.known.ensures s.tables c.wait_all.new.self c.args.moment c.in_ok-wait_all.ensures.ok c.requires.may

-- after the wait the agenda still has each last moment
pub returns-clause-recorded : goal.returns-clause-recorded
returns-clause-recorded g c =
    let s = c.args.self.now in
    waited_recorded s.book c.known.ensures s.tables c.wait_all.new.self c.args.moment c.in_ok-wait_all.ensures.ok c.requires.may c.requires.recorded

-- after all sets have waited, the tables track the same entries, and each transaction that is over has a quiet set
pub returns-clause-surveyed : goal.returns-clause-surveyed
returns-clause-surveyed g c =
    -- s is what stood before, and u are the tables after the wait
    let s = c.args.self.now in
    let u = c.wait_all.new.self in
    let waited = c.in_ok-wait_all.ensures.ok in
    λ es deaf tracks newest long. (
      waited_survey s.book c.known.ensures s.tables u c.args.moment waited c.requires.may es deaf tracks newest long,
      waited_over s.book c.known.ensures s.tables u c.args.moment waited c.requires.may es deaf tracks newest long,
    )
