use Rattle.std.proofs.Common.{◌≤◌, refl, sym, ap, ◌∙◌, arith, true≢false}
use Rattle.std.specs.FinMap as map
use Rattle.dots.specs.declared.limits.TheConstants.{MOST_LIVE}
use Rattle.member_orset.specs.Members.{SetsAgree, Members, cells_joined}
use Rattle.member_orset.proofs.Asserting.{on_ok_both}
use Rattle.member_orset.proofs.Preparing.{prepared_for}
use Rattle.member_orset.proofs.member_set.MemberSet.prepare.Goals as goal

pub returns-then-not-agrees-clause-refusals : goal.returns-then-not-agrees-clause-refusals
returns-then-not-agrees-clause-refusals c =
    let no : SetsAgree c.args.self.now c.args.other.now → ⊥ = λ agree. true≢false (sym (c.agrees.ensures.agree.1 agree) ∙ c.if-not-agrees.true) in
    record {
      conflict = (λ _. c.agrees.ensures.conflict.0 c.if-not-agrees.true, λ _. refl);
      cells_full = (λ e. absurd (cc e), λ h. absurd (no h.0));
      runs_full = (λ e. absurd (cc e), λ h. absurd (no h.0));
    }

pub returns-clause-ready : goal.returns-clause-ready
returns-clause-ready c =
    let s = c.args.self.now in
    let t = c.args.other.now in
    let there = c.other.view_is in
    let known = c.make_room.ensures.same_dots ∙ ap (λ (x : Members). x.known) c.self.view_is in
    let live = c.make_room.ensures.same_live ∙ ap (λ (x : Members). x.live) c.self.view_is in
    let few : cells_joined s t ≤ MOST_LIVE = let value = c.joined_cells.ensures in omega arith in
    on_ok_both c.make_room.result _ _ _ (λ room runs. prepared_for s _ t known live (c.agrees.ensures.agree.0 c.if-not-agrees.false) few
    c.make_room.new.context c.other.inside.context.dots refl refl (ap (λ (x : Members). x.known) there) runs (let len = c.len.ensures.value in let same = ap (λ (x : Members). map.len x.live) there in omega arith))
    c.make_room.ensures.room c.make_room.ensures.runs
