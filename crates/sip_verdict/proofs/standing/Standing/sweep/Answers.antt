-- s is what stands before the sweep, u are the tables after all sets have waited, as `advances` says, `numbers` are those of the messages that the sets of
-- u name, as `named` says, and `kept` says that the book has these messages.
use Rattle.std.proofs.Common.{All, Contains, length, refl, sym, subst}
use Rattle.sip_verdict.specs.Named.{IsNamed, AreMany}
use Rattle.sip_verdict.specs.inner.TablesTracking.{MayPass, TablesTrack}
use Rattle.sip_verdict.proofs.tables.NamedTables.{many_named}
use Rattle.sip_verdict.specs.Surveys.{IsStillNamed}
use Rattle.sip_verdict.specs.inner.Surveying.{TablesSurvey}
use Rattle.sip_verdict.proofs.sweeps.SweptBook.{only_within}
use Rattle.sip_verdict.proofs.sweeps.SweptTables.{named_is, swept_may, swept_track, swept_recorded, swept_kept}
use Rattle.sip_verdict.proofs.surveys.kept.Swept.{swept_survey, swept_many}
use Rattle.sip_verdict.proofs.standing.Standing.sweep.Goals as goal

-- the numbers that the sets name stand in ascending order
pub retain_only-requires-clause-rising : goal.retain_only-requires-clause-rising
retain_only-requires-clause-rising g c =
    let s = c.args.self.now in
    let u = c.advance_all.new.self in
    let numbers = c.deref.result.now in
    let named = named_is u c.new-named.result.items c.named.new.out.items c.new-named.ensures.items c.in_ok-named.ensures.ok numbers c.deref.ensures.value in
    let advances = c.in_ok-advance_all.ensures.ok in
    named.0

-- the book has a message under each number that the sets name
pub retain_only-requires-clause-kept : goal.retain_only-requires-clause-kept
retain_only-requires-clause-kept g c =
    -- s is what stands before the sweep, u are the tables after all sets have waited, and numbers those of the messages that the sets name
    let s = c.args.self.now in
    let u = c.advance_all.new.self in
    let numbers = c.deref.result.now in
    let named = named_is u c.new-named.result.items c.named.new.out.items c.new-named.ensures.items c.in_ok-named.ensures.ok numbers c.deref.ensures.value in
    let advances = c.in_ok-advance_all.ensures.ok in
    swept_kept s.book c.known.ensures s.tables u c.args.moment advances c.requires.may numbers named.0 named.1

-- after the sweep the tables may still pass the moment
pub returns-clause-may : goal.returns-clause-may
returns-clause-may g c =
    -- s is what stands before the sweep, and u the tables after all sets have waited until the moment
    let s = c.args.self.now in
    let u = c.advance_all.new.self in
    -- `numbers` are those of the messages that the sets of u name, and that the book keeps
    let numbers = c.deref.result.now in
    let named = named_is u c.new-named.result.items c.named.new.out.items c.new-named.ensures.items c.in_ok-named.ensures.ok numbers c.deref.ensures.value in
    let advances = c.in_ok-advance_all.ensures.ok in
    let kept = swept_kept s.book c.known.ensures s.tables u c.args.moment advances c.requires.may numbers named.0 named.1 in
    subst (λ b. MayPass b u c.args.moment) (sym c.retain_only.ensures) (swept_may s.book c.known.ensures s.tables u c.args.moment advances c.requires.may numbers named.0 named.1 kept)

-- after the sweep the records still tell until when each set can wait
pub returns-clause-recorded : goal.returns-clause-recorded
returns-clause-recorded g c =
    -- s is what stands before the sweep, u are the tables after all sets have waited, and numbers those of the messages that the sets name
    let s = c.args.self.now in
    let u = c.advance_all.new.self in
    let numbers = c.deref.result.now in
    let named = named_is u c.new-named.result.items c.named.new.out.items c.new-named.ensures.items c.in_ok-named.ensures.ok numbers c.deref.ensures.value in
    let advances = c.in_ok-advance_all.ensures.ok in
    swept_recorded s.book c.known.ensures s.tables u c.args.moment advances c.requires.may numbers named.0 named.1 c.requires.recorded

-- after the sweep the book has no message that is new
pub returns-clause-fewer : goal.returns-clause-fewer
returns-clause-fewer g c =
    -- s is what stands before the sweep, and u the tables after all sets have waited until the moment
    let s = c.args.self.now in
    let u = c.advance_all.new.self in
    -- `numbers` are those of the messages that the sets of u name, and that the book keeps
    let numbers = c.deref.result.now in
    let named = named_is u c.new-named.result.items c.named.new.out.items c.new-named.ensures.items c.in_ok-named.ensures.ok numbers c.deref.ensures.value in
    let advances = c.in_ok-advance_all.ensures.ok in
    let kept = swept_kept s.book c.known.ensures s.tables u c.args.moment advances c.requires.may numbers named.0 named.1 in
    subst (λ b. All (Contains s.book) b) (sym c.retain_only.ensures) (only_within s.book c.known.ensures numbers kept)

-- after the sweep the tables track the same entries
pub returns-clause-tracks : goal.returns-clause-tracks
returns-clause-tracks g c =
    -- s is what stands before the sweep, and u the tables after all sets have waited until the moment
    let s = c.args.self.now in
    let u = c.advance_all.new.self in
    -- `numbers` are those of the messages that the sets of u name, and that the book keeps
    let numbers = c.deref.result.now in
    let named = named_is u c.new-named.result.items c.named.new.out.items c.new-named.ensures.items c.in_ok-named.ensures.ok numbers c.deref.ensures.value in
    let advances = c.in_ok-advance_all.ensures.ok in
    let kept = swept_kept s.book c.known.ensures s.tables u c.args.moment advances c.requires.may numbers named.0 named.1 in
    λ es tracks. subst (λ b. TablesTrack b es u) (sym c.retain_only.ensures) (swept_track s.book c.known.ensures s.tables u c.args.moment advances c.requires.may numbers named.0 named.1 kept es tracks)

-- each message that is left is named by some set
pub returns-clause-named : goal.returns-clause-named
returns-clause-named g c =
    -- s is what stands before the sweep, and u the tables after all sets have waited until the moment
    let s = c.args.self.now in
    let u = c.advance_all.new.self in
    let numbers = c.deref.result.now in
    -- `numbers` are those of the messages that the sets of u name
    let named = named_is u c.new-named.result.items c.named.new.out.items c.new-named.ensures.items c.in_ok-named.ensures.ok numbers c.deref.ensures.value in
    let advances = c.in_ok-advance_all.ensures.ok in
    let kept = swept_kept s.book c.known.ensures s.tables u c.args.moment advances c.requires.may numbers named.0 named.1 in
    -- the book then keeps these messages alone, of which each is named by a set
    λ es tracks newest. subst (λ b. AreMany (IsNamed s.tables.times es) (length b)) (sym c.retain_only.ensures)
    (many_named s.book c.known.ensures s.tables.times c.args.moment es s.tables u refl tracks c.requires.may.long newest c.requires.may.order advances.long advances.each numbers named.0 named.1 kept)

-- after the sweep the tables track the same entries, and the book has as many messages as states still name
pub returns-clause-surveyed : goal.returns-clause-surveyed
returns-clause-surveyed g c =
    let s = c.args.self.now in
    let u = c.advance_all.new.self in
    let numbers = c.deref.result.now in
    let named = named_is u c.new-named.result.items c.named.new.out.items c.new-named.ensures.items c.in_ok-named.ensures.ok numbers c.deref.ensures.value in
    -- the book keeps just what the sets name after the wait
    let advances = c.in_ok-advance_all.ensures.ok in
    let kept = swept_kept s.book c.known.ensures s.tables u c.args.moment advances c.requires.may numbers named.0 named.1 in
    λ es deaf tracks newest long. subst (λ b. TablesSurvey b es u deaf × AreMany (IsStillNamed s.tables.times es) (length b)) (sym c.retain_only.ensures) (
      swept_survey s.book c.known.ensures s.tables u c.args.moment advances c.requires.may numbers named.0 named.1 kept es deaf tracks newest long,
      swept_many s.book c.known.ensures s.tables u c.args.moment advances c.requires.may numbers named.0 named.1 kept es deaf tracks newest long,
    )
