use Rattle.sip_standard.specs.Outcome.{gives, stops}
use Rattle.sip_message.specs.SaidOf.{said_of}
use Rattle.sip_message.proofs.lemmas.message.Total.{reading-or-fault}
use Rattle.sip_message.proofs.laws.bytes_have_a_reading_or_a_fault.Goals as goal

-- reading comes to a message or to a fault, and the bytes say the one that it comes to
pub returns : goal.returns
returns c bytes never = reading-or-fault bytes (λ r reads. never (gives (said_of r)) reads.says) (λ fault says. never (stops fault) says)
