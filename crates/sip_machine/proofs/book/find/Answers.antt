use Rattle.std.proofs.Common.{◌≡◌, ◌<◌, ◌≤◌, ◌⊎◌, ◌+◌, ℕ, List, length, inl, inr, rules}
use Rattle.std.proofs.lemmas.Bool.{cases_lt}
use Rattle.std.proofs.lemmas.Fn.{always_returns_same}
use Rattle.std.proofs.lemmas.List.{length-map}
use Rattle.sip_machine.specs.inner.Order.{texts_of, begins_by}
use Rattle.sip_machine.proofs.texts.RunLaws.{partitioned, found_in_run, gap_in_runs, run_rises}
use Rattle.sip_machine.proofs.book.find.Goals as goal

-- the search within the run finds the message
pub returns-in-Ok-clause-found : goal.returns-in-Ok-clause-found
returns-in-Ok-clause-found c =
    let r = c.saturating_sub-run.result in
    -- r is the last run that begins by the key, and the place that is equal to the key within it is that of the message
    let low : r < length c.args.runs.now = search rules in
    let within = rw c.deref.ensures.value at c.in-Ok.ensures.within in
    let equal = rw c.deref.ensures.value at (c.in-Ok.ensures.found c.index.result.now) in
    let here = found_in_run (texts_of c.args.kept.now) c.args.runs.now (c.args.hash, c.args.bytes.now) c.requires r c.in-Ok.at c.index-runs-run.result c.index.result.now low within equal in
    rw (← c.index.ensures, length-map) at here

-- where the book lacks the message, its gap lies after all lesser messages and before all greater ones
pub returns-in-Err-clause-gap : goal.returns-in-Err-clause-gap
returns-in-Err-clause-gap c =
    let texts = texts_of c.args.kept.now in
    let runs = c.args.runs.now in
    let key : ℕ × List ℕ = (c.args.hash, c.args.bytes.now) in
    let r = c.saturating_sub-run.result in
    let begun = c.partition_point-begun.result in
    let low : r < length runs = search rules in
    -- the run that is searched is the last one that begins by the message, or the first
    let chosen : (r ≡ 0) ⊎ (r < begun) = elim (cases_lt 0 begun) [ inl some ↦ inr (search rules) | inr none ↦ inl (search rules) ] in
    let next : begun ≤ r + 1 = search rules in
    -- each call of the closure tells whether a run begins by the key, and changes nothing (`always_returns_same`)
    let parts = c.partition_point-begun.ensures.partitioned (begins_by texts key)
    (always_returns_same _ _ _ (λ a r g called. search rules)) (partitioned texts runs key c.requires) in
    -- within the run the search parts the lesser messages from the greater ones
    let within = rw c.deref.ensures.value at c.in-Err.ensures.within in
    let parted = (rw c.deref.ensures.value at c.in-Err.ensures.found) (run_rises texts runs key c.requires r c.index-runs-run.result low) in
    gap_in_runs texts runs key c.requires begun r c.in-Err.place c.index-runs-run.result low chosen next parts within parted
