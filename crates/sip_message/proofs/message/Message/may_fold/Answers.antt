-- `c.self.invariant`: .0, some bytes are read as the message, and what is kept of its named fields is what these say; .1, where `may_fold` is no, no value
-- is folded.
use Rattle.std.proofs.Common.{subst}
use Rattle.sip_message.specs.inner.MessageText.{AreUnfolded}
use Rattle.sip_message.proofs.message.Message.may_fold.Goals as goal

-- a message keeps whether its values may be folded
pub returns : goal.returns
returns c = λ is. subst (λ r. AreUnfolded r.message.fields) c.self.view_is (c.self.invariant.1 is)
