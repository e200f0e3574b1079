use Rattle.std.proofs.Common.{◌≢◌, ◌∙◌, sym, ap, inl, inr, arith}
use Rattle.std.proofs.lemmas.Bool.{cases_lt}
use Rattle.std.proofs.lemmas.List.Elements.{All-from_get_or}
use Rattle.std.proofs.lemmas.List.Sorted.{searched}
use Rattle.std.specs.Option.{option_map}
use Rattle.sip_machine.specs.inner.Retain.{place_among}
use Rattle.sip_machine.proofs.texts.RetainLemmas.{place_at, place_none, never_falls}
use Rattle.sip_machine.proofs.book.retain.moved.Goals as goal

-- the binary search found the number, so its place among those that are kept is the new one
pub returns-in-Ok : goal.returns-in-Ok
returns-in-Ok c = grind (arith, searched, never_falls, place_at)

-- where the binary search finds nothing, the number of this place is not among those that are kept
pub returns-in-Err : goal.returns-in-Err
returns-in-Err c =
    -- n is the number of the place; the numbers before where the search ended are less than n, and those from there on are greater
    let numbers = c.args.numbers.now in
    let n = c.number_at-number.result in
    let found = rw c.in-Err.is at (searched numbers n c.binary_search.result c.binary_search.ensures.position (never_falls numbers c.requires)) in
    sym (ap (option_map (λ k. record { hash = c.args.place.hash; position = k })) (ap (place_among numbers) (sym c.number_at-number.ensures)
    ∙ place_none numbers n (All-from_get_or (λ m. m ≢ n) numbers 0 (λ k low same. elim (cases_lt k c.in-Err.field-0) [
      | inl below ↦ (let less = found.1 k below in omega arith)
      | inr from ↦ (let more = found.2 k from low in omega arith)
    ]))))
