-- s is what stands before the entry e, and `new` what stands after it.
use Rattle.std.proofs.Common.{[], ◌∷◌, ◌++◌, ◌+◌, sym, ◌∙◌, ap, length, string_bytes}
use Rattle.sip_log.specs.Told.{item}
use Rattle.sip_standard.specs.ListingOf.{first_entry}
use Rattle.sip_verdict.specs.inner.Concerned.{listed}
use Rattle.sip_verdict.proofs.listings.NumberingLemmas.{stay_numbered}
use Rattle.sip_verdict.proofs.listings.EntryText.{observed_ascii, entry_text}
use Rattle.sip_verdict.proofs.standing.Standing.list.Goals as goal

-- where no transaction is in trouble, what is listed is the text of the entry's transactions
pub returns-in_ok-text-in-None : goal.returns-in_ok-text-in-None
returns-in_ok-text-in-None g c = record {
  listed = λ es items more tracks numbered observed long counts order.
      let s = c.args.self.now in
      let new = c.take.new.self in
      let e = c.args.entry.now in
      -- the entry was taken, and no transaction is in trouble
      let taken = c.in_ok-taken in
      let seen = taken.ensures.judged es tracks counts order in
      let may = rw c.in-None.is at taken.ensures.may in
      let grown = (rw c.in-None.is at taken.ensures.numbered) items numbered (counts ∙ ap (λ n. n + 1) (sym long)) in
      let judged = rw c.in-None.is at seen.2 in (
        seen.0,
        seen.1,
        -- the text is that of the keys that the entry concerns
        (
          judged.0.good,
          entry_text (first_entry ((items ++ item e ∷ []) ++ more)) new.book (stay_numbered (items ++ item e ∷ []) more new.book grown) s.tables.times es seen.0 new.tables may.passes.known may.passes.long c.in_ok-text-in-None.ensures.apart judged
              (listed (length new.tables.keys) taken.taken.concerned) (string_bytes c.in_ok-text-in-None.field-0) (observed_ascii items es (item e) seen.0 observed seen.1) seen.3 c.in_ok-text-in-None.ensures.text,
        ),
      );
}
