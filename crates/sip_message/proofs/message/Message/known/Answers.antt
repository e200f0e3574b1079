-- `c.self.invariant`: .0, some bytes are read as the message, and what is kept of its named fields is what these say; .1, where `may_fold` is no, no value
-- is folded.
use Rattle.std.proofs.Common.{ℕ, List, subst}
use Rattle.sip_message.specs.Reads.{Reads}
use Rattle.sip_message.proofs.lemmas.says.Reading.{keeps-reads}
use Rattle.sip_message.proofs.message.Message.known.Goals as goal

-- a message keeps what it was read from
pub returns : goal.returns
returns c = subst (λ r. (bytes : List ℕ) × Reads bytes r) c.self.view_is (keeps-reads c.self.invariant.0.keeps)
