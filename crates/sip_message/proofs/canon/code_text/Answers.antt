use Rattle.sip_message.proofs.lemmas.canon.Unfolding.{three-digits}
use Rattle.sip_message.proofs.canon.code_text.Goals as goal

-- a number from 100 to 999 has three digits
pub returns : goal.returns
returns c = three-digits c.args.code c.requires.0 c.requires.1
