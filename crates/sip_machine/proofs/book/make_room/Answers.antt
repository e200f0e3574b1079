use Rattle.std.proofs.Common.{◌≡◌, ◌∙◌, ap, length, get_or, take, drop, arith}
use Rattle.std.proofs.lemmas.List.{get_or_default}
use Rattle.sip_machine.specs.declared.book.PlaceRun.{PlaceRun}
use Rattle.sip_machine.proofs.texts.RunLaws.{places-halved, led_halved}
use Rattle.sip_machine.proofs.book.make_room.Goals as goal

-- the full run is halved, and the places are the same, where the gap lies in the first half
pub returns-then-gap-clause-places : goal.returns-then-gap-clause-places
returns-then-gap-clause-places c =
    let runs = c.args.runs.now.items in
    let run = c.index_mut.result.now in
    let is : run ≡ get_or runs c.args.gap.run run = rw c.in_ok-reserve.ensures.items at c.index_mut.ensures.value in
    -- `head` has the first 64 places of the run, half of `most_places`, and `tail` the others
    let head : PlaceRun = record { first = run.first; places = c.split_off.new.self } in
    let tail : PlaceRun = record { first = c.index-first.result.now; places = c.in_ok-places.places } in
    rw (c.in_ok-insert.ensures.items, c.in_ok-reserve.ensures.items)
    (places-halved runs c.args.gap.run 64 run head tail c.requires.inside.run
    (c.in_ok-places.ensures.items ∙ ap (λ (r : PlaceRun). take 64 r.places.items) is) (c.in_ok-places.ensures.tail ∙ ap (λ (r : PlaceRun). drop 64 r.places.items) is))

-- after a full run was cut in two, each run tells its first place, where the gap lies in the first half
pub returns-then-gap-clause-led : goal.returns-then-gap-clause-led
returns-then-gap-clause-led c =
    let runs = c.args.runs.now.items in
    let run = c.index_mut.result.now in
    let is : run ≡ get_or runs c.args.gap.run run = rw c.in_ok-reserve.ensures.items at c.index_mut.ensures.value in
    -- the run becomes a first half of 64 places, half of `most_places`, and a second half, each with its first place told
    let head : PlaceRun = record { first = run.first; places = c.split_off.new.self } in
    let tail : PlaceRun = record { first = c.index-first.result.now; places = c.in_ok-places.places } in
    let same : c.index.result.now ≡ get_or runs c.args.gap.run run = c.index.ensures ∙ get_or_default runs c.args.gap.run c.index.result.now run c.requires.inside.run in
    rw (c.in_ok-insert.ensures.items, c.in_ok-reserve.ensures.items)
    (led_halved runs c.args.gap.run 64 run head tail c.requires.inside.run c.requires.led (omega arith) (omega (arith, ap (λ (r : PlaceRun). length r.places.items) same, c.len.ensures, c.if-len-lt-MOST.false)) (ap (λ (r : PlaceRun). r.first) is)
    (c.in_ok-places.ensures.items ∙ ap (λ (r : PlaceRun). take 64 r.places.items) is) (c.in_ok-places.ensures.tail ∙ ap (λ (r : PlaceRun). drop 64 r.places.items) is)
    c.index-first.ensures)

-- the full run is halved, and the places are the same, where the gap lies in the second half
pub returns-clause-places : goal.returns-clause-places
returns-clause-places c =
    let runs = c.args.runs.now.items in
    let run = c.index_mut.result.now in
    let is : run ≡ get_or runs c.args.gap.run run = rw c.in_ok-reserve.ensures.items at c.index_mut.ensures.value in
    -- `head` has the first 64 places of the run, half of `most_places`, and `tail` the others
    let head : PlaceRun = record { first = run.first; places = c.split_off.new.self } in
    let tail : PlaceRun = record { first = c.index-first.result.now; places = c.in_ok-places.places } in
    rw (c.in_ok-insert.ensures.items, c.in_ok-reserve.ensures.items)
    (places-halved runs c.args.gap.run 64 run head tail c.requires.inside.run
    (c.in_ok-places.ensures.items ∙ ap (λ (r : PlaceRun). take 64 r.places.items) is) (c.in_ok-places.ensures.tail ∙ ap (λ (r : PlaceRun). drop 64 r.places.items) is))

-- after a full run was cut in two, each run tells its first place, where the gap lies in the second half
pub returns-clause-led : goal.returns-clause-led
returns-clause-led c =
    let runs = c.args.runs.now.items in
    let run = c.index_mut.result.now in
    let is : run ≡ get_or runs c.args.gap.run run = rw c.in_ok-reserve.ensures.items at c.index_mut.ensures.value in
    -- the run becomes a first half of 64 places, half of `most_places`, and a second half, each with its first place told
    let head : PlaceRun = record { first = run.first; places = c.split_off.new.self } in
    let tail : PlaceRun = record { first = c.index-first.result.now; places = c.in_ok-places.places } in
    let same : c.index.result.now ≡ get_or runs c.args.gap.run run = c.index.ensures ∙ get_or_default runs c.args.gap.run c.index.result.now run c.requires.inside.run in
    rw (c.in_ok-insert.ensures.items, c.in_ok-reserve.ensures.items)
    (led_halved runs c.args.gap.run 64 run head tail c.requires.inside.run c.requires.led (omega arith) (omega (arith, ap (λ (r : PlaceRun). length r.places.items) same, c.len.ensures, c.if-len-lt-MOST.false)) (ap (λ (r : PlaceRun). r.first) is)
    (c.in_ok-places.ensures.items ∙ ap (λ (r : PlaceRun). take 64 r.places.items) is) (c.in_ok-places.ensures.tail ∙ ap (λ (r : PlaceRun). drop 64 r.places.items) is)
    c.index-first.ensures)
