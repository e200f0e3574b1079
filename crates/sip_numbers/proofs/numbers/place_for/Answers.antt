use Rattle.std.proofs.Common.{◌≡◌, ◌<◌, rules, subst}
use Rattle.std.proofs.lemmas.List.Sorted.{answers_always}
use Rattle.sip_numbers.proofs.PlaceLemmas.{left-out, place-of, searched}
use Rattle.sip_numbers.proofs.numbers.place_for.Goals as goal

-- the word that the first one tells is of the block
pub returns-in-Some : goal.returns-in-Some
returns-in-Some c =
    let item = c.in-Some.ensures.lookup.3 in
    place-of c.args.block c.requires item.0 (λ d. subst (λ word. word.block ≡ c.args.block) (item.1 d) c.if-word-block.true)

-- the word that the first one tells is of a greater block, and those before it are of lesser ones
pub returns-in-Some-2 : goal.returns-in-Some-2
returns-in-Some-2 c =
    let item = c.in-Some.ensures.lookup.3 in
    left-out c.args.block c.requires c.if-is_after.ensures item.0 (λ d. subst (λ word. c.args.block < word.block) (item.1 d) c.if-block-word.true)

-- the search finds it: each call of the closure answers the block of a word
pub returns-in_default : goal.returns-in_default
returns-in_default c =
    let found = c.binary_search_by_key.ensures in
    searched c.args.block c.requires _ found.bound (found.position (λ word. word.block) (answers_always _ _ _ (λ f a r g called. search rules)))
