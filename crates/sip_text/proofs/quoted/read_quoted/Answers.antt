use Rattle.std.proofs.Common.{sym, ap, ◌∙◌, subst}
use Rattle.std.proofs.lemmas.List.{take_rest}
use Rattle.sip_standard.specs.Text.{◌then◌}
use Rattle.sip_standard.specs.Profile.{Sws, Quoted}
use Rattle.sip_text.specs.Bytes.{dquote}
use Rattle.sip_text.specs.Front.{IsOnlyFront}
use Rattle.sip_text.specs.inner.Cut.{past}
use Rattle.sip_text.proofs.strings.BlanksLemmas.{blanks-longest}
use Rattle.sip_text.proofs.strings.QuotedLemmas.{none-opens, none-closes, only-quoted}
use Rattle.sip_text.proofs.quoted.read_quoted.Goals as goal

-- where no quote follows the blanks, no quoted string stands at the front
pub returns-in_err-inner-clause-reads : goal.returns-in_err-inner-clause-reads
returns-in_err-inner-clause-reads c =
    let text = c.args.text.now in
    let n = c.skip_lws-open.result in
    let blanks = blanks-longest text n c.skip_lws-open.ensures.reads in
    subst (IsOnlyFront (Sws then Quoted) text) (sym c.from_residual.ensures)
    (none-opens text n blanks.0 blanks.1 (ap (past dquote) (sym (take_rest text n)) ∙ sym c.in_err-inner.ensures))

-- where no quote ends the string, no quoted string stands at the front
pub returns-in_err-past-clause-reads : goal.returns-in_err-past-clause-reads
returns-in_err-past-clause-reads c =
    let text = c.args.text.now in
    let inner = c.in_ok-inner.inner.now in
    let n = c.skip_lws-open.result in
    let k = c.contents_len-close.result in
    -- the blanks are the longest run, and no quote follows the contents
    let blanks = blanks-longest text n c.skip_lws-open.ensures.reads in
    subst (IsOnlyFront (Sws then Quoted) text) (sym c.from_residual-in_err-past.ensures)
    (none-closes text inner n k blanks.0 c.contents_len-close.ensures.front blanks.1
    (ap (past dquote) (sym (take_rest text n)) ∙ sym c.in_ok-inner.ensures)
    c.contents_len-close.ensures.stops
    (ap (past dquote) (sym (take_rest inner k)) ∙ sym c.in_err-past.ensures))

-- blanks, a quote, contents and a quote are the one quoted string at the front
pub returns-clause-reads : goal.returns-clause-reads
returns-clause-reads c =
    let text = c.args.text.now in
    let inner = c.in_ok-inner.inner.now in
    let n = c.skip_lws-open.result in
    let k = c.contents_len-close.result in
    -- the blanks are the longest run, and a quote follows the contents
    let blanks = blanks-longest text n c.skip_lws-open.ensures.reads in
    only-quoted text inner c.in_ok-past.field-0.now n k blanks.0 c.contents_len-close.ensures.front blanks.1
    (ap (past dquote) (sym (take_rest text n)) ∙ sym c.in_ok-inner.ensures)
    c.contents_len-close.ensures.stops
    (ap (past dquote) (sym (take_rest inner k)) ∙ sym c.in_ok-past.ensures)
