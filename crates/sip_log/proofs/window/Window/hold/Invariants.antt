use Rattle.std.proofs.Common.{◌-◌, length}
use Rattle.sip_log.specs.inner.Reads.{Reads}
use Rattle.sip_log.specs.inner.Window.{items}
use Rattle.sip_log.proofs.window.Window.hold.Given as goal

-- what the window holds and what is left of the source are together the bytes that there were
abbrev pub invariant-loop-self : goal.invariant-loop-self
invariant-loop-self g l =
    Reads (items l.fn.self) (items l.self) (g.R.Source.left l.fn.source) (g.R.Source.left l.source) (g.R.Source.has_failed l.fn.source) (g.R.Source.has_failed l.source)

-- each turn of the loop brings bytes, until there are `count`
abbrev pub decreases-loop-self : goal.decreases-loop-self
decreases-loop-self g l = l.count - length (items l.self)
