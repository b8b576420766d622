use Rattle.std.proofs.Common.{ℕ, List, ap, ◌∙◌, ◌++◌}
use Rattle.stored_steps.specs.Bases.{last_of}
use Rattle.stored_steps.proofs.Writing.{head_written, same_numbers_bytes}
use Rattle.stored_steps.proofs.base_writing.put_head.Goals as goal

pub returns : goal.returns
returns c = head_written
    (record { replica = c.args.replica.now; name = c.args.name.now; starts = c.args.starts })
    c.args.out.now.items
    c.push.new.self.items
    c.push-2.new.self.items
    c.put_list.new.out.items
    c.extend_from_slice.new.self.items
    c.put_numbers.new.out.items
    (cc (c.in_ok-push.ensures.items))
    (cc (c.in_ok-push-2.ensures.items, c.site.ensures, c.number.ensures.value))
    (cc (c.in_ok-put_list.ensures.written, c.list.ensures.value))
    (cc (c.in_ok-extend_from_slice.ensures.items, c.as_slice.ensures))
    (c.in_ok-put_numbers.ensures ∙ ap (λ (l : List ℕ). c.extend_from_slice.new.self.items ++ l) (same_numbers_bytes c.args.starts c.last.result (last_of c.args.replica.now) c.last.ensures.count c.last.ensures.time c.last.ensures.frames))
