use Rattle.sip_message.specs.ValueParts.{start_parts}
use Rattle.sip_message.specs.inner.Views.{slice_fields}
use Rattle.sip_message.proofs.lemmas.canon.Fields.{form-appended}
use Rattle.sip_message.proofs.canon.append_all.Goals as goal

-- the start line, the fields, the line ends and the body are the canonical form
pub returns : goal.returns
returns c =
    -- what each call appended, one after another, is the form of the message with these parts
    form-appended c.append-2.result c.args.out.now.items c.append_start.new.out.items c.append_fields.new.out.items c.append.new.out.items c.append-2.new.out.items
    (record { start = start_parts c.args.start; fields = slice_fields c.args.fields; body = c.args.body.now }) c.args.may_fold c.requires.no_folds
    c.in_ok-append_start.ensures c.in_ok-append_fields.ensures c.in_ok-append.ensures c.append-2.ensures
