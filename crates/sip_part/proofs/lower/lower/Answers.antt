use Rattle.std.proofs.Common.{arith}
use Rattle.sip_part.proofs.Table.{table-is_lower}
use Rattle.sip_part.proofs.lower.lower.Goals as goal

-- the entry of the table for each byte is that byte in lower case
pub returns : goal.returns
returns c = table-is_lower c.args.byte (omega arith)
