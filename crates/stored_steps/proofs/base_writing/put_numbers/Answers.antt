use Rattle.stored_steps.proofs.Writing.{numbers_written}
use Rattle.stored_steps.proofs.base_writing.put_numbers.Goals as goal

pub returns : goal.returns
returns c = numbers_written
    c.args.out.now.items
    c.extend_from_slice.new.self.items
    c.extend_from_slice-2.new.self.items
    c.extend_from_slice-3.new.self.items
    c.extend_from_slice-4.new.self.items
    c.args.starts
    c.args.last.0
    c.args.last.1
    c.args.last.2
    (cc (c.in_ok-extend_from_slice.ensures.items, c.to_be_bytes.ensures))
    (cc (c.in_ok-extend_from_slice-2.ensures.items, c.to_be_bytes-2.ensures))
    (cc (c.in_ok-extend_from_slice-3.ensures.items, c.to_be_bytes-3.ensures))
    (cc (c.in_ok-extend_from_slice-4.ensures.items, c.to_be_bytes-4.ensures))
