use Rattle.std.proofs.Common.{true, lit<, refl, sym, ap, subst, ◌∙◌, arith}
use Rattle.std.specs.FinMap as map
use Rattle.live_cells.specs.LiveLists.{holding}
use Rattle.live_cells.specs.declared.live_dot.LiveDot.{LiveDot}
use Rattle.member_orset.proofs.TakenCells.{Taken, next_agrees, taken_all, taken_more, taken_none}
use Rattle.member_orset.proofs.Taking.{len_met, met_agrees, taken_met}
use Rattle.member_orset.proofs.joining.join_live.Goals as goal

pub loop-dot-init : goal.loop-dot-init
loop-dot-init c =
    let there = c.args.others.now.live in
    record {
      taken = subst (Taken (λ q. true) c.args.cells.now c.args.cells.now there) (sym (c.into_iter-dot-iterator.ensures.into_iter_gives ∙ c.iter-dot-items.ensures))
          (taken_none (λ q. true) c.args.cells.now there (let room = c.requires.room in let n = map.len-entries there in omega arith));
      few = omega arith;
      room = omega arith;
    }

pub join_fields-guess-requires : goal.join_fields-guess-requires
join_fields-guess-requires c =
    let cell : LiveDot = record { dot = c.in-Some.dot; member = c.in-Some.cell.member.now; fields = c.in-Some.cell.fields.now } in (
      lit< tt,
      met_agrees (map.get c.loop-dot.cells.live c.in-Some.dot) (holding cell)
          (next_agrees (λ q. true) c.args.cells.now c.loop-dot.cells c.loop-dot.cells c.args.others.now.live c.loop-dot.dot-iterator c.next.new.self cell c.loop-dot.invariant.taken c.in-Some.ensures.steps c.requires.agree),
    )

pub loop-dot-preserved : goal.loop-dot-preserved
loop-dot-preserved c =
    let cell : LiveDot = record { dot = c.in-Some.dot; member = c.in-Some.cell.member.now; fields = c.in-Some.cell.fields.now } in
    let few = c.loop-dot.invariant.few in
    let room = c.loop-dot.invariant.room in
    record {
      taken = taken_more (λ q. true) c.args.cells.now c.loop-dot.cells c.join_fields-guess.new.self c.args.others.now.live c.loop-dot.dot-iterator c.next.new.self cell c.loop-dot.invariant.taken c.in-Some.ensures.steps
          (taken_met (λ q. true) c.loop-dot.cells c.join_fields-guess.new.self cell (λ none. refl) c.join_fields-guess.ensures.live c.join_fields-guess.ensures.ids c.join_fields-guess.ensures.spent c.join_fields-guess.ensures.room);
      few = omega (arith, few, ap map.len c.join_fields-guess.ensures.live, len_met c.loop-dot.cells.live cell.dot cell.fields);
      room = omega (arith, room, c.join_fields-guess.ensures.room);
    }

pub returns-clause-met : goal.returns-clause-met
returns-clause-met c = taken_all (λ q. true) c.args.cells.now c.loop-dot.cells c.args.others.now.live c.loop-dot.dot-iterator c.in-None.ensures.steps.0 c.loop-dot.invariant.taken
