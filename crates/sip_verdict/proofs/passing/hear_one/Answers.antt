use Rattle.std.proofs.Common.{◌≤◌, ◌-◌, sym, ◌∙◌, subst}
use Rattle.std.proofs.lemmas.List.{length-set}
use Rattle.std.proofs.lemmas.List.Elements.{All-set}
use Rattle.sip_states.specs.AnySet.{moment_of, IsKnownSet}
use Rattle.sip_verdict.specs.inner.TablesTracking.{MayPass, Leaves}
use Rattle.sip_verdict.proofs.tables.TablesPassing.{settles_leaves, trouble_leaves}
use Rattle.sip_verdict.proofs.passing.hear_one.Goals as goal

-- after one set has heard the event and its record is new, the tables may still pass the moment
pub returns-in_ok-settle-clause-may : goal.returns-in_ok-settle-clause-may
returns-in_ok-settle-clause-may g c =
    -- the set at the index is the one that has heard the event, and the others are as before
    let sets = c.args.tables.now.sets in
    let index = c.args.number - 1 in
    subst (λ t. MayPass c.args.book.now t c.args.event.now.moment) (sym c.in_ok-settle.ensures.ok.recorded) (record {
      -- the new set is not later than the event, the book has what it names, and there are as many sets as before
      order = All-set (λ set. moment_of set ≤ c.args.event.now.moment) sets index c.hear.new.set c.in_ok-outcome.ensures.order c.requires.may.order;
      known = All-set (IsKnownSet c.args.book.now) sets index c.hear.new.set c.in_ok-outcome.ensures.known c.requires.may.known;
      long = length-set sets index c.hear.new.set ∙ c.requires.may.long;
    })

-- where the set has states left, the transaction has heard the event, and its record is new
pub returns-in_ok-settle-clause-heard : goal.returns-in_ok-settle-clause-heard
returns-in_ok-settle-clause-heard g c = record {
  -- `before` and `after` are the set before and after the event
  before = c.set_mut.result.now;
  after = c.hear.new.set;
  was = c.set_mut.ensures.value;
  numbered = c.in_ok-outcome.ensures.numbered;
  -- the set stands with its last moment on record; `stepped` says what the event has left of the runs
  leaves = subst (λ o. Leaves c.args.number c.hear.new.set o c.args.tables.now c.settle.new.self) (sym c.in-Fine.is)
      (settles_leaves c.args.number c.hear.new.set c.args.tables.now c.settle.new.self c.in_ok-settle.ensures.ok);
  stepped = c.in_ok-outcome.ensures.stepped;
}

-- where the set has no state left or too many, the transaction has heard the event and is in trouble
pub returns-in_default-clause-heard : goal.returns-in_default-clause-heard
returns-in_default-clause-heard g c = record {
  -- `before` and `after` are the set before and after the event; only the set was written, and no record
  before = c.set_mut.result.now;
  after = c.hear.new.set;
  was = c.set_mut.ensures.value;
  numbered = c.in_ok-outcome.ensures.numbered;
  leaves = trouble_leaves c.args.number c.hear.new.set c.in_ok-outcome.outcome c.args.tables.now c.in_default.not-Fine;
  stepped = c.in_ok-outcome.ensures.stepped;
}
