use Rattle.std.proofs.Common.{◌<◌, ◌∙◌, length, take, get_or, arith}
use Rattle.std.proofs.lemmas.List.{take_more}
use Rattle.indexmap.specs.IndexMap.{values}
use Rattle.indexmap.proofs.CallerLemmas.{keys-with_value_at, index_map_len-with_value_at}
use Rattle.sip_states.proofs.keyed.TablesLemmas.{values_of-set_value_at}
use Rattle.sip_states.proofs.due.AdvanceLemmas.{advances_more, advances_failed, still_early, fresh_next, take_among, always_err}
use Rattle.sip_states.proofs.tables.advance_each.Goals as goal

-- the set at the index has not waited yet, and is not later than the moment
pub advance-requires : goal.advance-requires
advance-requires g c =
    let indices = c.args.indices.now in
    let i = c.loop-index.index-index in
    let fresh = fresh_next indices i 0 c.requires.once (omega arith) in
    still_early c.args.moment (take i indices) (values c.args.sets.now) (values c.loop-index.sets) (get_or indices i 0) c.index_mut.result.now c.loop-index.invariant.up fresh c.requires.early c.index_mut.ensures.value

-- the keys are as they were
pub returns-in_err-advance-clause-keys : goal.returns-in_err-advance-clause-keys
returns-in_err-advance-clause-keys g c =
    keys-with_value_at c.loop-index.sets (get_or c.args.indices.now c.loop-index.index-index 0) c.advance.new.self ∙ c.loop-index.invariant.keys_are

-- the map is as big as it was
pub returns-in_err-advance-clause-size : goal.returns-in_err-advance-clause-size
returns-in_err-advance-clause-size g c =
    index_map_len-with_value_at c.loop-index.sets (get_or c.args.indices.now c.loop-index.index-index 0) c.advance.new.self ∙ c.loop-index.invariant.size

-- where memory is refused at a set, those before it have waited, and the others are as they were
pub returns-in_err-advance-clause-err : goal.returns-in_err-advance-clause-err
returns-in_err-advance-clause-err g c =
    let indices = c.args.indices.now in
    let i = c.loop-index.index-index in
    let sets = c.loop-index.sets in
    let at = get_or indices i 0 in
    let w = c.advance.new.self in
    -- the sets of the indices before this one have waited
    always_err c.from_residual.result _ (
      take i indices,
      take_among i indices,
      rw (values_of-set_value_at sets.entries at w)
          (advances_failed c.args.moment (take i indices) (values c.args.sets.now) (values sets) at c.index_mut.result.now w c.loop-index.invariant.up c.index_mut.ensures.value c.in_err-advance.ensures.err),
    )

-- after one set more has waited, all sets of the indices up to it have
pub loop-index-preserved : goal.loop-index-preserved
loop-index-preserved g c =
    let indices = c.args.indices.now in
    let i = c.loop-index.index-index in
    let sets = c.loop-index.sets in
    let at = get_or indices i 0 in
    let w = c.advance.new.self in
    -- this set has waited now, and the map has the same keys
    let low : i < length indices = omega arith in
    let inv = c.loop-index.invariant in
    record {
      keys_are = keys-with_value_at sets at w ∙ inv.keys_are;
      size = index_map_len-with_value_at sets at w ∙ inv.size;
      up = rw (take_more indices i 0 low, values_of-set_value_at sets.entries at w)
          (advances_more c.args.moment (take i indices) (values c.args.sets.now) (values sets) at c.index_mut.result.now w inv.up (fresh_next indices i 0 c.requires.once low) c.index_mut.ensures.value c.in_ok-advance.ensures.ok);
    }
