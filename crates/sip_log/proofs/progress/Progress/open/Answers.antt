use Rattle.std.proofs.Common.{Ok, Err, refl, subst}
use Rattle.std.specs.Io.KnownBytes.{prepend_known}
use Rattle.sip_standard.specs.Times.{Times}
use Rattle.sip_standard.specs.declared.format.Format.TheVariants.{One}
use Rattle.sip_log.specs.Next.{gives}
use Rattle.sip_log.specs.Told.{TellsWhatComes}
use Rattle.sip_log.specs.Reading.{Heads}
use Rattle.sip_log.specs.inner.Window.{items, unread}
use Rattle.sip_log.proofs.answers.ReadingLemmas.{headed, unheaded}
use Rattle.sip_log.proofs.answers.ToldLemmas.{unread-fresh}
use Rattle.sip_log.proofs.progress.Progress.open.Goals as goal

-- where the header was read, its format and its times are those of what came
pub returns-in-Ok : goal.returns-in-Ok
returns-in-Ok g c =
    let window = c.in_ok-window.window in
    -- `left` and `left2` are what is unread before and after the header, and `before` and `after` whether the source had failed
    let left = g.R.Source.left c.args.source.now in
    let left2 = prepend_known (items c.read_header.new.window) (g.R.Source.left c.read_header.new.source) in
    let before = g.R.Source.has_failed c.args.source.now in
    let after = g.R.Source.has_failed c.read_header.new.source in
    -- what comes in the unread input is the header with this format and these times
    let format = c.in-Ok.header.0 in
    let p = c.in-Ok.header.1 in (
      refl,
      -- `headed`: where a header was read, the answer with its times tells what stands first in the input
      subst (λ o. TellsWhatComes {A = Times} o left2 before after (Heads format) gives (Ok p)) (unread-fresh window left c.in_ok-window.ensures)
          (headed (unread window left) left2 before after format p c.in-Ok.ensures),
    )

-- where the header has a fault, this fault is what came
pub returns-in-Err : goal.returns-in-Err
returns-in-Err g c =
    -- `left` and `left2` are what the source has left before and after the header, and `before` and `after` whether it had failed
    let window = c.in_ok-window.window in
    let left = g.R.Source.left c.args.source.now in
    let left2 = g.R.Source.left c.read_header.new.source in
    let before = g.R.Source.has_failed c.args.source.now in
    let after = g.R.Source.has_failed c.read_header.new.source in
    -- `unheaded`: where the header is at fault, the answer with the error tells what stands first in the input
    subst (λ o. TellsWhatComes {A = Times} o left2 before after (Heads One) gives (Err c.in-Err.error)) (unread-fresh window left c.in_ok-window.ensures)
    (unheaded (unread window left) left2 before after One c.in-Err.error c.in-Err.ensures)
