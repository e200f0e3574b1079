use Rattle.sip_listing.proofs.LinesLemmas.{five_appended}
use Rattle.sip_listing.proofs.transaction.push_line.Goals as goal

-- the line is its five pieces, one after another
pub returns : goal.returns
returns c = λ ascii.
    -- each call appends one piece: the word with the number, a blank, the key in words, the word with the count, and the line end
    let h1 = rw c.into.ensures at c.in_ok-push_with_number.ensures in
    let h2 = c.in_ok-push_str.ensures.bytes in
    let h3 = c.in_ok-push_key.ensures ascii in
    let h4 = c.in_ok-push_with_number-2.ensures in
    let h5 = c.in_ok-push_str-2.ensures.bytes in
    five_appended _ _ _ _ _ _ _ _ _ _ _ h1 h2 h3 h4 h5
