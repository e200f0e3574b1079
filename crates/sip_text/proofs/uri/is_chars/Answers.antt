-- `c.chars.invariant`: .0, where the rest is characters, the whole text is; .1, where the text is, the rest is.
use Rattle.std.proofs.Common.{sym, ◌∙◌}
use Rattle.sip_text.specs.inner.Class.{is_in}
use Rattle.sip_text.proofs.uris.UriCharLemmas.{run-slice, chars-past, chars-stop}
use Rattle.sip_text.proofs.uri.is_chars.Goals as goal

-- an escape has bytes, so less is left
pub chars-smaller : goal.chars-smaller
chars-smaller c =
    let run = run-slice (is_in c.args.class) c.chars.rest.now c.run_len.result c.run_len.ensures.run in
    (chars-past c.args.class c.chars.rest.now _ c.in-Some.behind.now c.requires run (sym c.in-Some.ensures)).1

-- after one run more, the text passes exactly if what is left does
pub chars-preserved : goal.chars-preserved
chars-preserved c =
    let run = run-slice (is_in c.args.class) c.chars.rest.now c.run_len.result c.run_len.ensures.run in
    let past = chars-past c.args.class c.chars.rest.now _ c.in-Some.behind.now c.requires run (sym c.in-Some.ensures) in
    (λ many. c.chars.invariant.0 (past.0.0 many), λ many. past.0.1 (c.chars.invariant.1 many))

-- where no escaped byte follows the run, the text passes exactly if it ends there
pub returns-in-None : goal.returns-in-None
returns-in-None c =
    -- `run` says that the longest run of bytes of the class was passed, and `stop` that with no escape after it the rest passes exactly if it ends there
    let run = run-slice (is_in c.args.class) c.chars.rest.now c.run_len.result c.run_len.ensures.run in
    let stop = chars-stop c.args.class c.chars.rest.now _ c.requires run (sym c.in-None.ensures) in (
      λ empty. c.chars.invariant.0 (stop.0 (sym c.is_empty.ensures ∙ empty)),
      λ many. c.is_empty.ensures ∙ stop.1 (c.chars.invariant.1 many),
    )
