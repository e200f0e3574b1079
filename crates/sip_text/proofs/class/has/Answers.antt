use Rattle.std.proofs.Common.{not, nat_eq, bit_and, get_or, ap, ◌∙◌, arith}
use Rattle.sip_text.specs.declared.class.TheConstants.{CLASSES}
use Rattle.sip_text.proofs.texts.ClassLemmas.{table-is_in}
use Rattle.sip_text.proofs.class.has.Goals as goal

-- the bit of the class in the table tells whether it has the byte
pub returns : goal.returns
returns c =
    ap (λ mask. not (nat_eq (bit_and (get_or CLASSES c.args.byte 0) mask) 0)) c.bit.ensures
    ∙ table-is_in c.args.class c.args.byte (omega arith)
