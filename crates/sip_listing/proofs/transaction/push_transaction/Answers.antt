use Rattle.std.proofs.Common.{rules, map, string_bytes, append_assoc}
use Rattle.std.proofs.lemmas.List.{length-map}
use Rattle.sip_listing.proofs.StateLemmas.{listed}
use Rattle.sip_listing.proofs.transaction.push_transaction.Goals as goal

-- the text is the transaction's line and then the line of each of its states
pub returns : goal.returns
returns c = (
  -- the lines are those that were made of the told states; they list the set, and the text is the first line and these
  map string_bytes c.in_ok-lines.lines.items,
  listed c.args.set.now c.in_ok-told.told.items (map string_bytes c.in_ok-lines.lines.items) c.in_ok-told.ensures (rw c.deref.ensures.value at c.in_ok-lines.ensures),
  λ ascii.
      let said = c.in_ok-push_line.ensures ascii in
      search (rules, append_assoc, length-map),
)
