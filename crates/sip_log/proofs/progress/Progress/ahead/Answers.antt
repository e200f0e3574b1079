use Rattle.std.proofs.Common.{◌≡◌, ◌≤◌, ◌+◌, ◌++◌, length, drop, subst, sym, ap}
use Rattle.sip_log.specs.Ahead.{IsAhead, LacksAhead, item_ahead}
use Rattle.sip_log.specs.Next.{gives, ComesNext}
use Rattle.sip_log.specs.Reading.{ProgressState}
use Rattle.sip_log.specs.inner.Ahead.{ComesAhead, ComesWithout}
use Rattle.sip_log.specs.inner.Entry.{EntryComes}
use Rattle.sip_log.specs.inner.Place.{stage_of, held_at}
use Rattle.sip_log.specs.inner.Window.{items}
use Rattle.sip_log.proofs.answers.NextLemmas.{next-told}
use Rattle.sip_log.proofs.answers.PassLemmas.{Without-lacks}
use Rattle.sip_log.proofs.answers.ReadingLemmas.{MatchOption-map}
use Rattle.sip_log.proofs.progress.Progress.ahead.Goals as goal

-- where entries are read, the entry that stands whole in the window comes next, and there is none where the window has none
pub returns-in-Entries : goal.returns-in-Entries
returns-in-Entries c =
    let inside = c.self.inside in
    let window = c.in-Entries.window in
    let held = ap held_at c.in-Entries.is in
    -- `MatchOption-map` leads from what `entry_ahead` says of its answer to what is asked: by the first function where it is none, else by the second
    MatchOption-map c.entry_ahead.result (ComesWithout (EntryComes inside.format inside.count inside.last (items window))) (LacksAhead c.args.self.now)
    (λ a. (a.number ≡ inside.count + 1) × ComesAhead inside.format inside.count inside.last (items window) a) (IsAhead c.args.self.now)
    -- where none is answered, no entry with a message comes by the code, and so none comes next by the spelling
    (λ without. subst (λ (p : ProgressState). LacksAhead p) c.self.view_is
    (λ on e after some comes. Without-lacks inside.format inside.count inside.last (items window) without e after some
    (subst (λ h. ComesNext inside.format inside.count inside.last h (gives e after)) held comes)))
    -- where an entry a is answered, it is one that stands whole in the window
    (λ a is. subst (λ (p : ProgressState). IsAhead p a) c.self.view_is (record {
      on = ap stage_of c.in-Entries.is;
      number_is = is.0;
      some = is.1.some;
      within = subst (λ h. a.size ≤ length h) (sym held) is.1.within;
      -- what comes by the code comes next by the spelling
      comes = λ more. subst (λ h. ComesNext inside.format inside.count inside.last (h ++ more) (gives (item_ahead a.action a.moment a.message.now) (drop a.size h ++ more))) (sym held)
          (next-told inside.format inside.count inside.last _ _ (is.1.comes more));
    })) c.entry_ahead.ensures
