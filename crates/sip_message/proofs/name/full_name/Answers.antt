use Rattle.std.proofs.Common.{false, refl}
use Rattle.std.proofs.lemmas.Bool.{both_ways}
use Rattle.sip_message.proofs.lemmas.field.FullName.{unknown}
use Rattle.sip_message.proofs.name.full_name.Goals as goal

-- no known name of 2 bytes has this spelling
pub returns-in_default : goal.returns-in_default
returns-in_default c = unknown c.args.text.now 2 c.in-2.is ((λ is. both_ways false refl (c.if-same_text.ensures.1 is)), tt)

-- no known name of 3 bytes has this spelling
pub returns-in_default-2 : goal.returns-in_default-2
returns-in_default-2 c = unknown c.args.text.now 3 c.in-3.is ((λ is. both_ways false refl (c.if-same_text-2.ensures.1 is)), tt)

-- no known name of 4 bytes has this spelling
pub returns-in_default-3 : goal.returns-in_default-3
returns-in_default-3 c = unknown c.args.text.now 4 c.in-4.is ((λ is. both_ways false refl (c.if-same_text-3.ensures.1 is)), ((λ is. both_ways false refl (c.if-same_text-4.ensures.1 is)), tt))

-- no known name of 5 bytes has this spelling
pub returns-in_default-4 : goal.returns-in_default-4
returns-in_default-4 c = unknown c.args.text.now 5 c.in-5.is ((λ is. both_ways false refl (c.if-same_text-5.ensures.1 is)), tt)

-- no known name of 7 bytes has this spelling
pub returns-in_default-5 : goal.returns-in_default-5
returns-in_default-5 c = unknown c.args.text.now 7 c.in-7.is ((λ is. both_ways false refl (c.if-same_text-6.ensures.1 is)), ((λ is. both_ways false refl (c.if-same_text-7.ensures.1 is)), ((λ is. both_ways false refl (c.if-same_text-8.ensures.1 is)), tt)))

-- no known name of 9 bytes has this spelling
pub returns-in_default-6 : goal.returns-in_default-6
returns-in_default-6 c = unknown c.args.text.now 9 c.in-9.is ((λ is. both_ways false refl (c.if-same_text-9.ensures.1 is)), tt)

-- no known name of 12 bytes has this spelling
pub returns-in_default-7 : goal.returns-in_default-7
returns-in_default-7 c = unknown c.args.text.now 12 c.in-12.is ((λ is. both_ways false refl (c.if-same_text-10.ensures.1 is)), tt)

-- no known name of 14 bytes has this spelling
pub returns-in_default-8 : goal.returns-in_default-8
returns-in_default-8 c = unknown c.args.text.now 14 c.in-14.is ((λ is. both_ways false refl (c.if-same_text-11.ensures.1 is)), tt)

-- no known name of 16 bytes has this spelling
pub returns-in_default-9 : goal.returns-in_default-9
returns-in_default-9 c = unknown c.args.text.now 16 c.in-16.is ((λ is. both_ways false refl (c.if-same_text-12.ensures.1 is)), tt)
