use Rattle.std.proofs.Common.{◌≡◌, length, vec_len, rules, arith, ap}
use Rattle.std.proofs.lemmas.Grind.{common_steps}
use Rattle.dots.specs.DotSets.{run_count, set_of}
use Rattle.causal_context.proofs.Views.{counted}
use Rattle.causal_context.proofs.run_list.RunList.replace.Goals as goal

pub returns-then-is_err-clause-with_room : goal.returns-then-is_err-clause-with_room
returns-then-is_err-clause-with_room c h =
    let own = counted c.self.inside.runs.items c.self.invariant.apart in
    let seen = ap (λ l. run_count (set_of l.items)) c.self.view_is in
    let room = ap (λ l. l.room) c.self.view_is in
    let len : vec_len c.self.inside.runs ≡ length c.self.inside.runs.items = search rules in
    let ok = c.insert.ensures.succeeds (omega (arith, h, own, seen, room, len)) in
    grind (arith, common_steps, ok)
