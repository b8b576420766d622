use Rattle.std.proofs.Common.{inr, Err}
use Rattle.replica.proofs.TakingIn.{unchanged_joined, unchanged_ids, copy_joined, copy_room, copy_full, both_refused}
use Rattle.replica.proofs.joining.join_both.Goals as goal

-- src/joining.rt:65:9
pub returns-in-Err-make_room-clause-both : goal.returns-in-Err-make_room-clause-both
returns-in-Err-make_room-clause-both c =
    let q = c.in-Err-make_room.ensures in
    both_refused c.args.state.now c.args.pending.now c.args.change c.make_room.new.delta c.make_room-2.new.delta (Err c.in-Err-make_room.refusal)
    q.only c.in_default-make_room.ensures.kept q.kept (λ e. inr (copy_full c.args.pending.now c.args.change c.in-Ok.copy c.in-Ok.ensures.same (q.full e)))

-- src/joining.rt:40:1
pub returns-clause-both : goal.returns-clause-both
returns-clause-both c =
    let first = c.in_default-make_room.ensures in let second = c.in_default-make_room-2.ensures in (
      record {
        joined = unchanged_joined c.args.state.now c.make_room.new.delta c.args.change c.absorb.new.self first.kept c.absorb.ensures.joined;
        ids = unchanged_ids c.args.state.now c.make_room.new.delta c.absorb.new.self first.kept c.absorb.ensures.ids;
        room = first.room;
      },
      record {
        joined = copy_joined c.args.pending.now c.args.change c.in-Ok.copy c.absorb-2.new.self c.in-Ok.ensures.same
            (unchanged_joined c.args.pending.now c.make_room-2.new.delta c.in-Ok.copy c.absorb-2.new.self second.kept c.absorb-2.ensures.joined);
        ids = unchanged_ids c.args.pending.now c.make_room-2.new.delta c.absorb-2.new.self second.kept c.absorb-2.ensures.ids;
        room = copy_room c.args.pending.now c.args.change c.in-Ok.copy c.in-Ok.ensures.same second.room;
      },
    )
