use Rattle.std.specs.Prelude.{◌≡◌, ◌<◌, get_or, length}
use Rattle.std.proofs.Common.{◌∙◌, ap, sym, arith}
use Rattle.std.proofs.lemmas.List.{get_or_default}
use Rattle.std.proofs.lemmas.List.Elements.{All-get_or, All-set}
use Rattle.std.proofs.lemmas.List.Filters.{FiltersInPlace-all, FiltersInPlace-more_set, FiltersInPlace-more_no}
use Rattle.sip_states.specs.inner.Ways.{is_within}
use Rattle.sip_states.proofs.ends.keep_waiting.Goals as goal
use Rattle.sip_states.proofs.ends.keep_waiting.Goals.{then-is_within, else-is_within}

-- the place that is looked at is one of the states
pub until-requires-clause-at : goal.until-requires-clause-at
until-requires-clause-at g c = let long = c.loop-at.invariant.filters.long in omega (arith, long)

-- the moments of the state are in range
pub until-requires-clause-in_range : goal.until-requires-clause-in_range
until-requires-clause-in_range g c = λ d.
    let long = c.loop-at.invariant.filters.long in
    All-get_or g.M.Machine.in_range c.loop-at.pool c.loop-at.at d (omega (arith, long)) c.loop-at.invariant.in_range

-- the place that is looked at is one of the states
pub copy-requires-clause-from : goal.copy-requires-clause-from
copy-requires-clause-from g c = let long = c.loop-at.invariant.filters.long in omega (arith, long)

-- the place to which a state is copied is not past the one that is looked at
pub copy-requires-clause-to : goal.copy-requires-clause-to
copy-requires-clause-to g c =
    let long = c.loop-at.invariant.filters.long in
    let behind = c.loop-at.invariant.filters.behind in
    omega (arith, long, behind)

-- at most as many states are kept as were looked at
pub overflow_add-kept : goal.overflow_add-kept
overflow_add-kept g c = let behind = c.loop-at.invariant.filters.behind in omega (arith, behind)

-- of the states up to here, those that can wait until the moment stand at the front, in their order
pub loop-at-preserved : goal.loop-at-preserved
loop-at-preserved g c =
    let m = c.args.machine.now in
    let ys = c.loop-at.pool in
    let at = c.loop-at.at in
    let filters = c.loop-at.invariant.filters in
    let in_range = c.loop-at.invariant.in_range in
    let long = filters.long in
    -- x is the state that is looked at
    let low : at < length ys = omega (arith, long) in
    let d = g.M.Machine.ended m in
    let x = get_or ys at d in
    let is : x ≡ get_or ys at x = get_or_default ys at d x low in
    -- the call tells whether the state can wait until the moment
    let test : is_within c.args.moment (g.M.Machine.until m x) ≡ c.is_within.result = sym (ap (is_within c.args.moment) (c.until.ensures d)) ∙ sym c.is_within.ensures in
    elim c.if-is_within.branch [
      | then-is_within w ↦
          rw (w.pool-is, w.kept-is, w.copy.ensures d)
          (record {
            filters = FiltersInPlace-more_set filters low (test ∙ w.if-is_within.true) is;
            in_range = All-set g.M.Machine.in_range ys c.loop-at.kept x (All-get_or g.M.Machine.in_range ys at d low in_range) in_range;
          })
      -- a state that cannot wait until the moment is passed over
      | else-is_within w ↦ rw (w.pool-is, w.kept-is) (record { filters = FiltersInPlace-more_no filters low (test ∙ w.if-is_within.false) is; in_range = in_range })
    ]

-- at the end of the loop the states are those that can wait until the moment
pub returns : goal.returns
returns g c = c.truncate.ensures ∙ FiltersInPlace-all c.loop-at.invariant.filters (omega arith)
