use Rattle.std.proofs.Common.{refl, sym, ◌∙◌}
use Rattle.sip_message.specs.declared.name.Known.TheVariants as known_name
use Rattle.sip_message.specs.declared.name.TheConstants.{VIA, FROM, TO, CALL_ID, CSEQ, CONTACT, SUBJECT, ROUTE}
use Rattle.sip_message.proofs.QuickLemmas.{short-known, short-other}
use Rattle.sip_message.proofs.name.short_name.Goals as goal

-- the number is that of Via, so the name is Via
pub returns-then-number-eq-VIA : goal.returns-then-number-eq-VIA
returns-then-number-eq-VIA c = short-known c.args.text.now VIA known_name.Via c.type_inv.text c.requires.token c.requires.length.1 (sym c.if-number-eq-VIA.true ∙ c.requires.number) refl refl

-- the number is that of From, so the name is From
pub returns-then-number-eq-FROM : goal.returns-then-number-eq-FROM
returns-then-number-eq-FROM c = short-known c.args.text.now FROM known_name.From c.type_inv.text c.requires.token c.requires.length.1 (sym c.if-number-eq-FROM.true ∙ c.requires.number) refl refl

-- the number is that of To, so the name is To
pub returns-then-number-eq-TO : goal.returns-then-number-eq-TO
returns-then-number-eq-TO c = short-known c.args.text.now TO known_name.To c.type_inv.text c.requires.token c.requires.length.1 (sym c.if-number-eq-TO.true ∙ c.requires.number) refl refl

-- the number is that of Call-ID, so the name is Call-ID
pub returns-then-number-eq-CALL_ID : goal.returns-then-number-eq-CALL_ID
returns-then-number-eq-CALL_ID c = short-known c.args.text.now CALL_ID known_name.CallId c.type_inv.text c.requires.token c.requires.length.1 (sym c.if-number-eq-CALL_ID.true ∙ c.requires.number) refl refl

-- the number is that of CSeq, so the name is CSeq
pub returns-then-number-eq-CSEQ : goal.returns-then-number-eq-CSEQ
returns-then-number-eq-CSEQ c = short-known c.args.text.now CSEQ known_name.CSeq c.type_inv.text c.requires.token c.requires.length.1 (sym c.if-number-eq-CSEQ.true ∙ c.requires.number) refl refl

-- the number is that of Contact, so the name is Contact
pub returns-then-number-eq-CONTACT : goal.returns-then-number-eq-CONTACT
returns-then-number-eq-CONTACT c = short-known c.args.text.now CONTACT known_name.Contact c.type_inv.text c.requires.token c.requires.length.1 (sym c.if-number-eq-CONTACT.true ∙ c.requires.number) refl refl

-- the number is that of Subject, so the name is Subject
pub returns-then-number-eq-SUBJECT : goal.returns-then-number-eq-SUBJECT
returns-then-number-eq-SUBJECT c = short-known c.args.text.now SUBJECT known_name.Subject c.type_inv.text c.requires.token c.requires.length.1 (sym c.if-number-eq-SUBJECT.true ∙ c.requires.number) refl refl

-- the number is that of Route, so the name is Route
pub returns-then-number-eq-ROUTE : goal.returns-then-number-eq-ROUTE
returns-then-number-eq-ROUTE c = short-known c.args.text.now ROUTE known_name.Route c.type_inv.text c.requires.token c.requires.length.1 (sym c.if-number-eq-ROUTE.true ∙ c.requires.number) refl refl

-- the number is that of no known name, so the name is another one
pub returns-else-number-eq-ROUTE : goal.returns-else-number-eq-ROUTE
returns-else-number-eq-ROUTE c =
    -- the number differs from that of each of the eight names of 2 to 8 bytes
    short-other c.args.text.now c.type_inv.text c.requires.length.0 c.requires.length.1
    ((λ is. c.if-number-eq-VIA.false (c.requires.number ∙ is)), ((λ is. c.if-number-eq-FROM.false (c.requires.number ∙ is)), ((λ is. c.if-number-eq-TO.false (c.requires.number ∙ is)), ((λ is. c.if-number-eq-CALL_ID.false (c.requires.number ∙ is)), ((λ is. c.if-number-eq-CSEQ.false (c.requires.number ∙ is)), ((λ is. c.if-number-eq-CONTACT.false (c.requires.number ∙ is)), ((λ is. c.if-number-eq-SUBJECT.false (c.requires.number ∙ is)), ((λ is. c.if-number-eq-ROUTE.false (c.requires.number ∙ is)), tt))))))))
