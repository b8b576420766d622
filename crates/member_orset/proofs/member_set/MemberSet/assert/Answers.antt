use Rattle.std.proofs.Common.{◌≤◌, refl, sym, ap, subst, ◌∙◌, arith}
use Rattle.std.specs.FinMap as map
use Rattle.std.specs.FinSet as set
use Rattle.dots.specs.declared.limits.TheConstants.{MOST_LIVE, MOST_RUNS}
use Rattle.operations.specs.Conditions.{Live}
use Rattle.dots.specs.DotSets.{run_count}
use Rattle.live_cells.specs.CellIds.{IdsFollow}
use Rattle.live_cells.specs.LiveStates.{fields_joined_at}
use Rattle.member_orset.specs.Members.{HasField, IsSet, Members, cells_with, condition_at, joined_at, live_with}
use Rattle.member_orset.proofs.Asserting.{brought_conditions, either, known_already, len_one_more, met_conditions, on_err, on_err_both, on_ok_both, refused_conflict, refused_none, unknown_not_live}
use Rattle.live_cells.proofs.IdSteps.{follow_same}
use Rattle.member_orset.proofs.KeptSets.{set_brought, set_met, set_same}
use Rattle.member_orset.proofs.member_set.MemberSet.assert.Goals as goal
use Rattle.member_orset.specs.Joining.{HoldingsAgree, HoldingsInConflict}
use Rattle.live_cells.specs.Holdings.{Holding}

pub returns-then-not-can_hold-clause-refusals : goal.returns-then-not-can_hold-clause-refusals
returns-then-not-can_hold-clause-refusals c =
    let limit = c.runs.ensures.limit in
    let value = c.runs.ensures.value in
    let few : run_count c.self.inside.context.dots ≤ MOST_RUNS = omega arith in
    refused_conflict c.args.self.now c.args.dot c.args.member.now c.args.fields.now
    (subst (λ (t : Members). HoldingsInConflict (map.get t.live c.args.dot) (c.args.member.now, c.args.fields.now)) c.self.view_is (subst (λ o. HoldingsInConflict o (c.args.member.now, c.args.fields.now)) c.get.ensures (c.can_hold.ensures.conflict.0 c.if-not-can_hold.true)))
    (λ h e. ap (λ (t : Members). set.contains t.known c.args.dot) (sym c.self.view_is) ∙ c.self.invariant.kept.heard c.args.dot h (ap (λ (t : Members). map.get t.live c.args.dot) c.self.view_is ∙ e))
    (subst (λ (t : Members). run_count t.known ≤ MOST_RUNS) c.self.view_is few)

pub invariant_of-self : goal.invariant_of-self
invariant_of-self c =
    let s = c.self.inside in
    set_same s.context.dots s.context.dots (fields_joined_at s.cells.live c.args.dot c.args.fields.now) c.join_fields.new.self.live s.cells.spent c.join_fields.new.self.spent refl c.join_fields.ensures.live c.join_fields.ensures.spent
    (set_met s.context.dots s.cells.live s.cells.spent c.args.dot c.args.fields.now c.self.invariant)

pub returns-then-contains-clause-known : goal.returns-then-contains-clause-known
returns-then-contains-clause-known c =
    known_already c.self.inside.context.dots c.args.dot (sym c.contains.ensures ∙ c.if-contains.true) ∙ ap (λ (t : Members). set.insert t.known c.args.dot) c.self.view_is

pub returns-then-contains-clause-conditions : goal.returns-then-contains-clause-conditions
returns-then-contains-clause-conditions c q =
    let s = c.self.inside in
    ap (λ m. condition_at (map.get m q) (set.contains s.context.dots q)) c.join_fields.ensures.live
    ∙ met_conditions s.cells.live s.context.dots c.args.dot c.args.member.now c.args.fields.now q (sym c.contains.ensures ∙ c.if-contains.true)
    ∙ (λ i. joined_at (c.self.view_is i) c.args.dot (Live c.args.member.now c.args.fields.now) q)

pub returns-then-contains-clause-refusals : goal.returns-then-contains-clause-refusals
returns-then-contains-clause-refusals c =
    let limit = c.runs.ensures.limit in
    let value = c.runs.ensures.value in
    let few : run_count c.self.inside.context.dots ≤ MOST_RUNS = omega arith in
    refused_none c.args.self.now c.args.dot c.args.member.now c.args.fields.now
    (subst (λ (t : Members). HoldingsAgree (map.get t.live c.args.dot) (c.args.member.now, c.args.fields.now)) c.self.view_is (subst (λ o. HoldingsAgree o (c.args.member.now, c.args.fields.now)) c.get.ensures (c.can_hold.ensures.agree.0 c.if-not-can_hold.false)))
    (ap (λ (t : Members). set.contains t.known c.args.dot) (sym c.self.view_is) ∙ sym c.contains.ensures ∙ c.if-contains.true)
    (subst (λ (t : Members). cells_with t c.args.dot ≤ MOST_LIVE) c.self.view_is (c.has_place.ensures.there.0 c.if-not-has_place.false))
    (subst (λ (t : Members). run_count t.known ≤ MOST_RUNS) c.self.view_is few)

pub invariant_of-self-2 : goal.invariant_of-self-2
invariant_of-self-2 c =
    let s = c.self.inside in
    let d = c.args.dot in
    let x : Holding = (c.copy.result, c.copy-2.result) in
    let unknown = sym c.contains.ensures ∙ c.if-contains.false in
    let one_more = len_one_more s.cells.live d x (unknown_not_live s.context.dots s.cells.live d c.self.invariant.kept unknown) in
    let most = subst (λ b. live_with (map.len s.cells.live) b ≤ MOST_LIVE) unknown (c.has_place.ensures.there.0 c.if-not-has_place.false) in
    let few : map.len (map.insert s.cells.live d x) ≤ MOST_LIVE = omega (arith, one_more, most) in
    let new = c.bring.new in
    either c.bring.result (IsSet new.context.dots new.cells.live new.cells.spent)
    (on_ok_both c.bring.result _ _ _ (λ k l. set_same (set.insert s.context.dots d) new.context.dots (map.insert s.cells.live d x) new.cells.live s.cells.spent new.cells.spent k l c.bring.ensures.spent
    (set_brought s.context.dots s.cells.live s.cells.spent d x unknown (subst HasField (sym c.copy-2.ensures) c.requires) few c.self.invariant))
    c.bring.ensures.known c.bring.ensures.live)
    (on_err_both c.bring.result _ _ _ (λ k l. set_same s.context.dots new.context.dots s.cells.live new.cells.live s.cells.spent new.cells.spent k l c.bring.ensures.spent c.self.invariant)
    c.bring.ensures.err_known c.bring.ensures.err_live)

pub returns-clause-conditions : goal.returns-clause-conditions
returns-clause-conditions c =
    let s = c.self.inside in
    let d = c.args.dot in
    let x : Holding = (c.copy.result, c.copy-2.result) in
    let unknown = sym c.contains.ensures ∙ c.if-contains.false in
    let none = unknown_not_live s.context.dots s.cells.live d c.self.invariant.kept unknown in
    on_ok_both c.bring.result _ _ _ (λ k l q.
    (λ i. condition_at (map.get (l i) q) (set.contains (k i) q)) ∙ brought_conditions s.cells.live s.context.dots d x q none unknown
    ∙ (λ i. joined_at (c.self.view_is i) d (Live (c.copy.ensures i) (c.copy-2.ensures i)) q)) c.bring.ensures.known c.bring.ensures.live

pub returns-clause-ids : goal.returns-clause-ids
returns-clause-ids c =
    let s = c.self.inside.cells in
    subst (λ (t : Members). IdsFollow t.ids t.spent c.bring.new.cells.ids c.bring.new.cells.spent) c.self.view_is
    (either c.bring.result (IdsFollow s.ids s.spent c.bring.new.cells.ids c.bring.new.cells.spent) c.bring.ensures.ids
    (on_err c.bring.result _ _ (λ i. follow_same s.ids c.bring.new.cells.ids s.spent c.bring.new.cells.spent i c.bring.ensures.spent) c.bring.ensures.err_ids))
