-- What the code's start lines, elements of Via and CSeqs say.
use Rattle.std.specs.Prelude.{ℕ, List, option_copied}
use Rattle.sip_standard.specs.StartLine.{StartLine, request, status}
use Rattle.sip_standard.specs.Via.{SaidVia}
use Rattle.sip_message.specs.declared.via.Via.{Via}
use Rattle.sip_message.specs.declared.values.CSeq.{CSeq}
use Rattle.sip_message.specs.declared.start_line.StartLine.{StartLine as Code}
use Rattle.sip_message.specs.declared.start_line.StartLine.TheVariants as variant

-- the start line that a start line of the code means
abbrev pub start_parts : Code → StartLine
start_parts (variant.Request method uri) = request method.now uri.now
start_parts (variant.Status code reason) = status code reason.now

-- the element of Via that the code's Via means
abbrev pub element : Via → SaidVia
element v = record { whole = v.whole.now; transport = v.transport.now; host = v.host.now; port = option_copied v.port; branch = option_copied v.branch }

-- the number and the method that the code's CSeq means
abbrev pub cseq_parts : CSeq → ℕ × List ℕ
cseq_parts c = (c.number, c.method.now)
