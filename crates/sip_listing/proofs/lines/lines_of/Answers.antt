use Rattle.std.specs.Cmp.Lexicographic.{slice_cmp}
use Rattle.std.specs.Ordering.{is_lt, nat_cmp}
use Rattle.std.proofs.Common.{◌≡◌, ◌≤◌, ◌∙◌, ap, subst, length, map, string_bytes, IsPermutation}
use Rattle.std.proofs.lemmas.List.{take_all}
use Rattle.std.proofs.lemmas.List.Sorted.{IsPermutation-map}
use Rattle.sip_listing.specs.inner.StateLine.{state_line}
use Rattle.sip_listing.proofs.LinesLemmas.{IsSortedBy-map}
use Rattle.sip_listing.proofs.lines.lines_of.Goals as goal

-- the lines are those of the states, sorted by their bytes
pub returns : goal.returns
returns c =
    let states = c.args.states.now in
    let unsorted = c.loop-state.lines.items in
    let sorted = c.sort.new.self.items in
    -- all states were pushed, and sorting keeps which lines there are
    let all_passed : length states ≤ c.loop-state.state-index = c.loop-state-test.false in
    let pushed : map string_bytes unsorted ≡ map state_line states = c.loop-state.invariant ∙ ap (λ xs. map state_line xs) (take_all c.loop-state.state-index states all_passed) in
    -- `same`: the sorted lines are those of the states, in some order; `ascending`: they ascend by their bytes
    record {
      same = subst (λ ys. IsPermutation ys (map string_bytes sorted)) pushed (IsPermutation-map string_bytes unsorted sorted c.in_ok-sort.ensures.permutation);
      ascending = IsSortedBy-map string_bytes (λ x y. is_lt (slice_cmp nat_cmp x y)) sorted c.in_ok-sort.ensures.sorted;
    }
