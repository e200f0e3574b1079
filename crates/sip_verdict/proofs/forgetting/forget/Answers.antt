-- `old` is what stands before, s after all sets have waited, `mid` without what the flags drop, and `new` after the sweep.
-- `long` says that there is a flag for each transaction, and `apart` that the keys all differ.
use Rattle.std.proofs.Common.{◌≡◌, ◌≤◌, ◌+◌, ◌∙◌, Bool, List, All, Contains, length, slice_get, sym, ap, subst, refl, arith, []}
use Rattle.sip_states.specs.Kept.{kept_of, kept_tables}
use Rattle.sip_states.specs.Tables.{Tabled}
use Rattle.sip_verdict.specs.Forgetting.{ForgetsUpTo, remembered}
use Rattle.sip_verdict.specs.Named.{AreMany}
use Rattle.sip_verdict.specs.Surveys.{IsStillNamed}
use Rattle.sip_verdict.specs.inner.Forgetting.{AreFlags}
use Rattle.sip_verdict.specs.inner.Surveying.{AreWatched, TablesSurvey}
use Rattle.sip_verdict.specs.inner.TablesTracking.{AllAreOnRecord, MayPass, MayTake}
use Rattle.sip_verdict.proofs.surveys.forgetting.Forgotten.{kept_by, forgets_kept, histories_kept, newest_kept, pass_kept, recorded_kept, survey_kept, take_kept, take_waited, watched_kept, watched_waited}
use Rattle.sip_verdict.proofs.surveys.kept.Kept.{surveyed_swept}
use Rattle.sip_verdict.proofs.sweeps.FollowedLemmas.{swept_take}
use Rattle.sip_verdict.proofs.sweeps.SweptBook.{within_keeps}
use Rattle.sip_verdict.proofs.forgetting.forget.Goals as goal

-- there is a flag for each transaction
pub keep-requires : goal.keep-requires
keep-requires g c = ap length c.as_slice-flags.ensures.value ∙ c.in_ok-flags.ensures.long

-- there is a flag for each history
pub keep-requires-2 : goal.keep-requires-2
keep-requires-2 g c = ap length c.as_slice-flags.ensures.value ∙ c.in_ok-flags.ensures.long ∙ ap length c.in_ok-wait.ensures.keys ∙ sym c.requires.watched.long

-- the tables of what is kept may pass the moment
pub sweep-requires-clause-may : goal.sweep-requires-clause-may
sweep-requires-clause-may g c =
    let s = c.wait.new.self in
    let flags = c.as_slice-flags.result.now in
    let long = ap length c.as_slice-flags.ensures.value ∙ c.in_ok-flags.ensures.long in
    subst (λ t. MayPass s.book t c.args.newest.moment) (sym c.in_ok-keep.ensures.ok) (pass_kept flags s.tables long c.known.ensures.unique s.book c.args.newest.moment c.in_ok-wait.ensures.may)

-- the last moment of each set that is kept is on record
pub sweep-requires-clause-recorded : goal.sweep-requires-clause-recorded
sweep-requires-clause-recorded g c =
    let s = c.wait.new.self in
    let flags = c.as_slice-flags.result.now in
    let long = ap length c.as_slice-flags.ensures.value ∙ c.in_ok-flags.ensures.long in
    subst AllAreOnRecord (sym c.in_ok-keep.ensures.ok) (recorded_kept flags s.tables long c.known.ensures.unique c.in_ok-wait.ensures.recorded)

-- after all sets have waited, some were forgotten and the book was swept, the next entry may be taken
pub returns-clause-may : goal.returns-clause-may
returns-clause-may g c =
    -- `old` is what stands at first, s after the waiting, `mid` without what the flags drop, and `new` after the sweep
    let old = c.args.standing.now in
    let s = c.wait.new.self in
    let flags = c.as_slice-flags.result.now in
    let long = ap length c.as_slice-flags.ensures.value ∙ c.in_ok-flags.ensures.long in
    let newest = c.args.newest in
    let new = c.sweep.new.self in
    let mid = c.keep.new.self in
    let swept = c.in_ok-sweep.ensures in
    -- the next entry may be taken after the wait, after the others were kept, and after the sweep
    let waited = take_waited old.book s.book old.tables s.tables (newest.number + 1) newest.moment c.in_ok-wait.ensures.book c.in_ok-wait.ensures.keys c.in_ok-wait.ensures.may c.in_ok-wait.ensures.recorded c.requires.may in
    let may = subst (λ t. MayTake s.book t (newest.number + 1) newest.moment) (sym c.in_ok-keep.ensures.ok) (take_kept flags s.tables long c.known.ensures.unique s.book (newest.number + 1) newest.moment waited) in
    swept_take s.book new.book mid new.tables (newest.number + 1) newest.moment may swept.may swept.recorded (within_keeps s.book new.book swept.fewer) swept.keys

-- what is kept is watched: the last moment of each set is on record, and a transaction in trouble has none
pub returns-clause-watched : goal.returns-clause-watched
returns-clause-watched g c =
    let s = c.wait.new.self in
    -- the flags are as many as the tables' sets; b is the list of transactions in trouble, of which some were dropped
    let flags = c.as_slice-flags.result.now in
    let long = ap length c.as_slice-flags.ensures.value ∙ c.in_ok-flags.ensures.long in
    let b = c.keep-2.new.self in
    -- what was watched before is watched after the waiting (`waited`), after the dropping (`h`) and after the sweep
    let waited = watched_waited c.args.standing.now.tables s.tables c.args.troubled.now c.in_ok-wait.ensures.keys c.in_ok-wait.ensures.records c.in_ok-wait.ensures.recorded c.requires.watched in
    let h = subst (λ t. AreWatched [] t b) (sym c.in_ok-keep.ensures.ok) (watched_kept flags s.tables long c.known.ensures.unique c.args.troubled.now b c.keep-2.ensures.deaf waited) in
    let swept = c.in_ok-sweep.ensures in
    record { long = h.long ∙ ap length (sym swept.keys); recorded = swept.recorded; silent = λ n is. ap (λ rs. slice_get rs n) swept.records ∙ h.silent n is }

-- no transaction has come into trouble by this
pub returns-clause-fresh : goal.returns-clause-fresh
returns-clause-fresh g c = record { broken = c.keep-2.ensures.broken ∙ c.requires.fresh.broken; wide = c.keep-2.ensures.wide ∙ c.requires.fresh.wide }

-- the book keeps at most as many messages as there were entries
pub returns-clause-left : goal.returns-clause-left
returns-clause-left g c =
    let old = c.args.standing.now in
    let s = c.wait.new.self in
    let fewer = subst (λ b. All (Contains b) c.sweep.new.self.book) c.in_ok-wait.ensures.book c.in_ok-sweep.ensures.fewer in
    -- each number that the book keeps is at most that of the newest entry
    let high = c.kept.ensures.few (c.args.newest.number + 1) (λ n keeps. c.requires.may.numbered n (within_keeps old.book c.sweep.new.self.book fewer n keeps)) in
    omega (arith, high, c.requires.count)

-- the book has no message that is new
pub returns-clause-fewer : goal.returns-clause-fewer
returns-clause-fewer g c = subst (λ b. All (Contains b) c.sweep.new.self.book) c.in_ok-wait.ensures.book c.in_ok-sweep.ensures.fewer

-- exactly what is over was forgotten, and what is left tracks the entries as they are remembered
pub returns-clause-forgets : goal.returns-clause-forgets
returns-clause-forgets g c = λ es surveyed told newest.
    let old = c.args.standing.now in
    let s = c.wait.new.self in
    let t = s.tables in
    let flags = c.as_slice-flags.result.now in
    let long = ap length c.as_slice-flags.ensures.value ∙ c.in_ok-flags.ensures.long in
    let apart = c.known.ensures.unique in
    -- each flag says whether its transaction is over
    let says = subst (AreFlags c.args.until t c.args.histories.now) (sym c.as_slice-flags.ensures.value) c.in_ok-flags.ensures in
    let troubled = c.args.troubled.now in
    let deaf = troubled.deaf.items in
    -- after the wait the tables track the same entries, and what is over has a quiet set
    let (tracks_on, quiet) = c.in_ok-wait.ensures.surveyed es deaf surveyed.tracks newest c.requires.watched.long in
    let waited = watched_waited old.tables t troubled c.in_ok-wait.ensures.keys c.in_ok-wait.ensures.records c.in_ok-wait.ensures.recorded c.requires.watched in
    let kept = kept_by flags t.keys in
    let left = remembered kept es in
    -- what is left tracks what is remembered, and so it does after the sweep
    let mid = c.keep.new.self in
    let new = c.sweep.new.self in
    let swept = c.in_ok-sweep.ensures in
    let now = c.keep-2.new.self.deaf.items in
    let tracks = subst (TablesSurvey s.book left mid) (sym c.keep-2.ensures.deaf) (subst (λ u. TablesSurvey s.book left u (kept_of flags deaf)) (sym c.in_ok-keep.ensures.ok) (survey_kept flags t long apart s.book es deaf tracks_on)) in
    let watched = subst (λ u. AreWatched [] u c.keep-2.new.self) (sym c.in_ok-keep.ensures.ok) (watched_kept flags t long apart troubled c.keep-2.new.self c.keep-2.ensures.deaf waited) in
    -- after the sweep the tables follow what is remembered, and the book has as many messages as are still named
    let both = swept.surveyed left now tracks (newest_kept kept es ∙ newest) watched.long in
    -- the times are the same, and what was forgotten is over
    let times = ap (λ (u : Tabled). u.times) c.in_ok-keep.ensures.ok ∙ c.in_ok-wait.ensures.times in (
      kept,
      subst (λ p. ForgetsUpTo c.args.until p es kept) c.in_ok-wait.ensures.times
          (forgets_kept flags t long apart s.book es deaf c.args.histories.now c.args.until c.args.newest.moment says tracks_on waited.long c.in_ok-wait.ensures.may newest told quiet),
      surveyed_swept new.book mid new.tables now c.kept.result left swept.times c.kept.ensures.kept both,
      histories_kept flags t long apart es c.args.histories.now (record { each = c.keep_each.new.items; restart = c.args.histories.now.restart }) tracks_on.keys c.keep_each.ensures refl told,
      subst (λ p. AreMany (IsStillNamed p left) (length new.book)) times both.1,
    )
