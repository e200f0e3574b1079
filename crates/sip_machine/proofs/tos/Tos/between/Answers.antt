-- Of the invariant of Tos (`c.self.invariant`) part 0 says that the numbers of the messages rise, and 1 that each stands under its To, if sets are kept.
use Rattle.sip_machine.proofs.Words.{◌∙◌, nat_le, nat_lt, rules, always_returns_same, IsPartitionedBy-leb, IsPartitionedBy-ltb}
use Rattle.sip_machine.proofs.texts.BesideLemmas.{rises_weakly, count_between-parted}
use Rattle.sip_machine.proofs.tos.Tos.between.Goals as goal

-- the two searches bound the Tos with numbers from `low` to `high`, so their distance is the count
pub returns-clause-count : goal.returns-clause-count
returns-clause-count c =
    let tos = c.self.inside.list.items in
    let up = rises_weakly (λ to. to.number) tos c.self.invariant.0 in
    let from = rw c.deref.ensures.value at c.partition_point-from.ensures in
    let to = rw c.deref-2.ensures.value at c.partition_point-to.ensures in
    -- the first search finds where the numbers reach `low`, and the second where they pass `high`; each call of its closure makes its test of a
    -- number, and changes nothing (`always_returns_same`)
    rw (← c.self.view_is) (c.saturating_sub.ensures ∙ count_between-parted (λ to. to.number) tos c.args.low c.args.high _ _ from.bound to.bound
    (from.partitioned (λ to. nat_lt to.number c.args.low) (always_returns_same _ _ _ (λ a r g called. search rules)) (IsPartitionedBy-ltb (λ to. to.number) tos c.args.low up))
    (to.partitioned (λ to. nat_le to.number c.args.high) (always_returns_same _ _ _ (λ a r g called. search rules)) (IsPartitionedBy-leb (λ to. to.number) tos c.args.high up)))
