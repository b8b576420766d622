use Rattle.std.specs.Int.{w16, to_be_bytes}
use Rattle.delta_codec.specs.Parts.{dot_bytes, fields_bytes, text_bytes}
use Rattle.delta_codec.proofs.Appending.{four_written}
use Rattle.delta_codec.proofs.writing.put_cell.Goals as goal

pub returns-clause-written : goal.returns-clause-written
returns-clause-written c =
    let text = rw c.text.ensures.value at c.in_ok-put_text.ensures.written in
    four_written c.args.out.now.items c.put_dot.new.out.items c.put_number2.new.out.items c.put_text.new.out.items c.put_fields.new.out.items (dot_bytes c.args.dot) (to_be_bytes w16 c.args.member.now.queue) (text_bytes c.args.member.now.interface) (fields_bytes c.args.fields.now) c.in_ok-put_dot.ensures.written c.in_ok-put_number2.ensures text c.in_ok-put_fields.ensures.written
