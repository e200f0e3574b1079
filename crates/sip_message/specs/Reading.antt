-- A message that was read: as it is spelled, with the parts of its named fields.
use Rattle.std.specs.Prelude.{ℕ, List}
use Rattle.sip_standard.specs.Via.{SaidVia}
use Rattle.sip_message.specs.Message.{Message}

-- the parts of the named fields: the elements of Via, the values of From, To and Call-ID, and the number and the method of CSeq
pub record Parts : Type 0 where
  pub via : SaidVia
  pub others : List SaidVia
  pub from : List ℕ
  pub to : List ℕ
  pub call_id : List ℕ
  pub cseq : ℕ × List ℕ

-- what contracts see of a message: its start line, its fields and its body as they are spelled, and
-- the parts of its named fields
pub record Reading : Type 0 where
  pub message : Message
  pub parts : Parts
