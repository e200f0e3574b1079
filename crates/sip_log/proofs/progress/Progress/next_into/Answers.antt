-- `c.self.invariant`: .0 says that no more entries were counted than a log may have, and .1 what the stage implies of times, count and last moment.
use Rattle.std.proofs.Common.{◌≡◌, Err, subst, sym, ap, ◌∙◌, refl}
use Rattle.sip_log.specs.declared.progress.Stage.TheVariants as code
use Rattle.sip_log.specs.Reading.{ProgressState, beside_source, Nexts}
use Rattle.sip_log.specs.inner.Place.{stage_of, held_at, FitsStage}
use Rattle.sip_log.proofs.answers.ReadingLemmas.{entries-step, fresh-step, fault-step}
use Rattle.sip_log.proofs.progress.Progress.next_into.Goals as goal

-- where the header was to be read, and it was read, the first entry comes after it
pub returns-in-Ok : goal.returns-in-Ok
returns-in-Ok g c =
    let inside = c.self.inside in
    -- left is what the source had left before the call, and left2 after it; failed and failed2 say whether it had failed
    let left = g.R.Source.left c.args.source.now in
    let failed = g.R.Source.has_failed c.args.source.now in
    let left2 = g.R.Source.left c.entry.new.source in
    let failed2 = g.R.Source.has_failed c.entry.new.source in
    -- the place had read nothing yet, so its fields are those of a place at the start
    let stage : inside.stage ≡ code.Fresh = sym c.replace.ensures.value ∙ c.in-Fresh.is in
    let fits = subst (λ s. FitsStage s inside.params inside.count inside.last) stage c.self.invariant.1 in
    -- `old` is the reader before the call, which had read nothing
    let old : ProgressState = record { stage = stage_of inside.stage; held = held_at inside.stage; format = inside.format; times = inside.params; count = inside.count; last = inside.last } in
    -- `fresh-step`: where nothing was read, a header and then an answer of the next entry are one of `next`; `old` is what contracts see of the reader
    subst (λ (p : ProgressState). Nexts (beside_source p left failed) (beside_source c.entry.new.self left2 failed2) c.entry.result) c.self.view_is
    (fresh-step old c.entry.new.self left left2 failed failed2 c.in_ok-window-in-Fresh.window (ap held_at stage ∙ sym c.in_ok-window-in-Fresh.ensures) _ _ c.in-Ok.header.0 c.in-Ok.header.1 c.entry.result
    (ap stage_of stage) fits.0 fits.1 fits.2 c.entry.ensures.moves c.entry.ensures.format c.entry.ensures.times c.in-Ok.ensures c.entry.ensures.says)

-- where the header was to be read, and it has a fault, this fault is what comes
pub returns-in-Err : goal.returns-in-Err
returns-in-Err g c =
    let inside = c.self.inside in
    -- left is what the source had left before the call, and left2 after it; failed and failed2 say whether it had failed
    let left = g.R.Source.left c.args.source.now in
    let failed = g.R.Source.has_failed c.args.source.now in
    let left2 = g.R.Source.left c.read_header.new.source in
    let failed2 = g.R.Source.has_failed c.read_header.new.source in
    -- the place had read nothing yet, so its fields are those of a place at the start
    let stage : inside.stage ≡ code.Fresh = sym c.replace.ensures.value ∙ c.in-Fresh.is in
    let fits = subst (λ s. FitsStage s inside.params inside.count inside.last) stage c.self.invariant.1 in
    -- `old` is the reader before the call, which had read nothing, and `new` the one after it
    let old : ProgressState = record { stage = stage_of inside.stage; held = held_at inside.stage; format = inside.format; times = inside.params; count = inside.count; last = inside.last } in
    let new : ProgressState = record { stage = stage_of c.replace.new.dest; held = held_at c.replace.new.dest; format = inside.format; times = inside.params; count = inside.count; last = inside.last } in
    -- `fault-step`: where nothing was read, a header that cannot be read makes `next` answer its fault; `old` is what contracts see of the reader
    subst (λ (p : ProgressState). Nexts (beside_source p left failed) (beside_source new left2 failed2) (Err c.in-Err.error)) c.self.view_is
    (fault-step old new left left2 failed failed2 c.in_ok-window-in-Fresh.window (ap held_at stage ∙ sym c.in_ok-window-in-Fresh.ensures) c.in-Err.error
    (ap stage_of stage) fits.0 (ap stage_of c.replace.ensures.after) refl refl fits.0 c.in-Err.ensures)

-- where the header was read before, the next entry comes
pub returns-in-Entries : goal.returns-in-Entries
returns-in-Entries g c =
    let inside = c.self.inside in
    let left = g.R.Source.left c.args.source.now in
    let failed = g.R.Source.has_failed c.args.source.now in
    let left2 = g.R.Source.left c.entry-in-Entries.new.source in
    let failed2 = g.R.Source.has_failed c.entry-in-Entries.new.source in
    -- before the call the reader held a window on the entries
    let window = c.in-Entries.window in
    let stage : inside.stage ≡ code.Entries window = sym c.replace.ensures.value ∙ c.in-Entries.is in
    let fits = subst (λ s. FitsStage s inside.params inside.count inside.last) stage c.self.invariant.1 in
    -- `old` is the reader before the call
    let old : ProgressState = record { stage = stage_of inside.stage; held = held_at inside.stage; format = inside.format; times = inside.params; count = inside.count; last = inside.last } in
    -- `entries-step`: where entries are read, an answer of the entry that comes next is an answer of `next`; `old` is what contracts see of the reader
    subst (λ (p : ProgressState). Nexts (beside_source p left failed) (beside_source c.entry-in-Entries.new.self left2 failed2) c.entry-in-Entries.result) c.self.view_is
    (entries-step old c.entry-in-Entries.new.self left left2 failed failed2 window (ap held_at stage) c.entry-in-Entries.result
    (ap stage_of stage) fits c.entry-in-Entries.ensures.moves c.entry-in-Entries.ensures.format c.entry-in-Entries.ensures.times c.entry-in-Entries.ensures.says)
