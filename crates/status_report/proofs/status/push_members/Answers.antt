use Rattle.std.proofs.Common.{◌+◌, ◌++◌, length, drop, map as each, ap, arith, sym, ◌∙◌}
use Rattle.std.specs.List.{concat}
use Rattle.std.proofs.lemmas.List.{drop_all}
use Rattle.operations.specs.Views.{listed_row_view}
use Rattle.status_report.specs.Status.{member_blocks}
use Rattle.status_report.proofs.BlockLemmas.{next_element, hidden_first, shown_text, shown_count, shown_few, none_text, none_count}
use Rattle.status_report.proofs.status.push_members.Goals as goal
use Rattle.status_report.proofs.status.push_members.Goals.{then-is_member_wanted+in_ok-push_member, else-is_member_wanted}

-- a member that is shown has its block, and one that is left out has none
pub loop-interface-preserved : goal.loop-interface-preserved
loop-interface-preserved c =
    let request = c.args.request.now in
    let name = c.args.name.now in
    let row = listed_row_view c.loop-interface-item.result in
    let next = next_element listed_row_view c.args.rows.now c.loop-interface.interface-index c.loop-interface-item.result c.loop-interface-test.true c.loop-interface-item.is in
    elim c.if-is_member_wanted.branch [
      | then-is_member_wanted+in_ok-push_member w ↦
          let wanted = sym c.is_member_wanted.ensures ∙ w.if-is_member_wanted.true in
          let written = ap (λ o. o.items) w.out-is ∙ w.in_ok-push_member.ensures request.action_id name (w.deref.ensures.value ∙ c.in_ok-front.ensures) in
          record {
            text = shown_text request name row _ _ next c.loop-interface.out.items c.if-is_member_wanted.out.items wanted written ∙ c.loop-interface.invariant.text;
            count = ap (λ n. n + length (member_blocks request name (each listed_row_view (drop (c.loop-interface.interface-index + 1) c.args.rows.now)))) w.members-is ∙ shown_count request name row _ _ next c.loop-interface.members wanted ∙ c.loop-interface.invariant.count;
            few = let few = shown_few request name row _ _ next c.loop-interface.out.items c.if-is_member_wanted.out.items c.loop-interface.members (length c.args.out.now.items) written c.loop-interface.invariant.few in omega (arith, few, w.members-is);
          }
      | else-is_member_wanted w ↦
          let same = hidden_first request name row _ _ next (sym c.is_member_wanted.ensures ∙ w.if-is_member_wanted.false) in
          record {
            text = (λ i. (w.out-is i).items ++ concat (sym same i)) ∙ c.loop-interface.invariant.text;
            count = (λ i. w.members-is i + length (sym same i)) ∙ c.loop-interface.invariant.count;
            few = let e = ap (λ o. length o.items) w.out-is in omega (arith, e, w.members-is, c.loop-interface.invariant.few);
          }
    ]

pub returns : goal.returns
returns c =
    let none = ap (each listed_row_view) (drop_all c.loop-interface.interface-index c.args.rows.now c.loop-interface-test.false) in
    record {
      text = none_text c.args.request.now c.args.name.now _ _ _ none c.loop-interface.invariant.text;
      count = none_count c.args.request.now c.args.name.now _ _ _ none c.loop-interface.invariant.count;
      few = c.loop-interface.invariant.few;
    }
