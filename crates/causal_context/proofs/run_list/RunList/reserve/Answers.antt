use Rattle.std.proofs.Common.{◌≡◌, ◌+◌, ◌≤◌, length, vec_len, rules, arith, ap}
use Rattle.std.specs.Vec.{vec_capacity}
use Rattle.std.proofs.lemmas.Grind.{common_steps}
use Rattle.dots.specs.DotSets.{run_count, set_of}
use Rattle.causal_context.proofs.Views.{counted}
use Rattle.causal_context.proofs.run_list.RunList.reserve.Goals as goal

pub returns-then-is_err-clause-again : goal.returns-then-is_err-clause-again
returns-then-is_err-clause-again c h =
    let own = counted c.self.inside.runs.items c.self.invariant.apart in
    let seen = ap (λ l. run_count (set_of l.items)) c.self.view_is in
    let room = ap (λ l. l.room) c.self.view_is in
    let len : vec_len c.self.inside.runs ≡ length c.self.inside.runs.items = search rules in
    let ok = c.reserve.ensures.succeeds (omega (arith, h, own, seen, room, len)) in
    grind (arith, common_steps, ok)

pub returns-clause-made : goal.returns-clause-made
returns-clause-made c =
    let own = counted c.self.inside.runs.items c.self.invariant.apart in
    let same = ap (λ rs. run_count (set_of rs)) c.reserve.ensures.items in
    let room : vec_len c.reserve.new.self + c.args.more ≤ vec_capacity c.reserve.new.self = search rules in
    let len : vec_len c.self.inside.runs ≡ length c.self.inside.runs.items = search rules in
    omega (arith, own, same, room, len, c.reserve.ensures.len)
