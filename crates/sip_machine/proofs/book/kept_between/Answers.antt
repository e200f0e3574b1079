use Rattle.std.proofs.Common.{◌∙◌, ap, sym, nat_le, nat_lt, rules}
use Rattle.std.proofs.lemmas.Fn.{always_returns_same}
use Rattle.std.proofs.lemmas.List.Sorted.{IsPartitionedBy-leb, IsPartitionedBy-ltb}
use Rattle.sip_machine.specs.inner.Tos.{count_between}
use Rattle.sip_machine.proofs.texts.BesideLemmas.{AllPairs-of_map, map-map, rises_weakly, count_between-parted}
use Rattle.sip_machine.proofs.book.kept_between.Goals as goal

-- the two searches bound the messages with numbers from `low` to `high`, so their distance is the count
pub returns : goal.returns
returns c =
    let kept = c.args.kept.now in
    let low = c.args.low in
    let high = c.args.high in
    let up = rises_weakly (λ k. k.number) kept (AllPairs-of_map (λ k. (k.number, k.bytes.items)) (λ t. t.0) kept c.requires) in
    -- the first search finds where the numbers reach `low`, and the second where they pass `high`; each call of its closure makes its test of a
    -- number, and changes nothing (`always_returns_same`)
    let parts = c.partition_point-from.ensures.partitioned (λ k. nat_lt k.number low) (always_returns_same _ _ _ (λ a r g called. search rules))
    (IsPartitionedBy-ltb (λ k. k.number) kept low up) in
    let parts' = c.partition_point-to.ensures.partitioned (λ k. nat_le k.number high) (always_returns_same _ _ _ (λ a r g called. search rules))
    (IsPartitionedBy-leb (λ k. k.number) kept high up) in
    c.saturating_sub.ensures
    ∙ count_between-parted (λ k. k.number) kept low high c.partition_point-from.result c.partition_point-to.result
    c.partition_point-from.ensures.bound c.partition_point-to.ensures.bound parts parts'
    ∙ ap (count_between low high) (sym (map-map (λ k. (k.number, k.bytes.items)) (λ t. t.0) kept))
