use Rattle.std.proofs.lemmas.Result.{on_ok_weaker}
use Rattle.indexmap.specs.IndexMap.{keys, values}
use Rattle.sip_states.proofs.tables.Tables.settle.Goals as goal

-- the record of the set is the last moment to which it can wait
pub returns-clause-ok : goal.returns-clause-ok
returns-clause-ok g c = rw (← c.self.view_is) (on_ok_weaker c.set.result (λ h. record {
  set = c.index.result.now;
  at = c.index.ensures;
  limit = c.last_moment-limit.result;
  agenda = c.last_moment-limit.ensures;
  recorded = λ i. record { times = c.self.inside.params; keys = keys c.self.inside.sets; sets = values c.self.inside.sets; records = h i };
}) c.set.ensures.ok)
