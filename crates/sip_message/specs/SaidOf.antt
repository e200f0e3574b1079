-- What a reading says: its parts, as `Says` has them.
use Rattle.std.specs.List.{join_with_byte}
use Rattle.sip_standard.specs.Says.{Said}
use Rattle.sip_message.specs.declared.name.Known.TheVariants as known_name
use Rattle.sip_message.specs.Field.{values}
use Rattle.sip_message.specs.Reading.{Reading}

-- what a message that was read says: its start line, its body and the parts of its named fields
abbrev pub said_of : Reading → Said
said_of r = record {
  start = r.message.start;
  via = r.parts.via;
  others = r.parts.others;
  from = r.parts.from;
  to = r.parts.to;
  call_id = r.parts.call_id;
  cseq = r.parts.cseq;
  route = join_with_byte 44 (values known_name.Route r.message.fields);
}
