use Rattle.std.proofs.Common.{[], append-nil, refl, slice_get, sym, ap, subst, ◌∙◌}
use Rattle.replica.specs.Steps.{after_frame, cut}
use Rattle.sites_world.specs.declared.outcome.Outcome.TheVariants.{NoEntry}
use Rattle.sites_world.specs.SiteOutcomes.{HasHappenedAt}
use Rattle.sites_world.specs.Worlds.{happens_at, site_of, taken}
use Rattle.sites_world.specs.WorldStates.{IsFrameOf}
use Rattle.sites_world.proofs.Happenings.{framed_happened, missing_happened, taken_happened}
use Rattle.sites_world.proofs.Lists.{correspond_get, correspond_none_get}
use Rattle.sites_world.specs.Conditions.{ComesAt, ComesOfEntry, GrowsBy}
use Rattle.sites_world.proofs.run.happen_at.Goals as goal

pub returns-in-Cut-clause-meaning : goal.returns-in-Cut-clause-meaning
returns-in-Cut-clause-meaning c = λ s entries stands at corresponds may.
    let new = c.cut_site.new.replica in
    let old = c.args.pool.now.items in
    let pool = c.cut_site.new.pool.items in
    subst (λ e. HasHappenedAt new s old pool entries (happens_at c.args.replica.now.names entries s e) c.cut_site.result) (sym c.in-Cut.is)
    (framed_happened new s old pool entries c.in-Cut.field-0 (cut s s.buffer) c.cut_site.result (c.cut_site.ensures.site ∙ at ∙ ap site_of c.in-Cut.is) corresponds
    (c.cut_site.ensures.meaning s stands))

pub returns-in-Whole-clause-meaning : goal.returns-in-Whole-clause-meaning
returns-in-Whole-clause-meaning c = λ s entries stands at corresponds may.
    let new = c.whole_site.new.replica in
    let old = c.args.pool.now.items in
    let pool = c.whole_site.new.pool.items in
    subst (λ e. HasHappenedAt new s old pool entries (happens_at c.args.replica.now.names entries s e) c.whole_site.result) (sym c.in-Whole.is)
    (framed_happened new s old pool entries c.in-Whole.field-0 (after_frame s s.known s.buffer) c.whole_site.result (c.whole_site.ensures.site ∙ at ∙ ap site_of c.in-Whole.is) corresponds
    (c.whole_site.ensures.meaning s stands))

-- the entry of the frame is in the pool
pub returns-in-Some-clause-meaning : goal.returns-in-Some-clause-meaning
returns-in-Some-clause-meaning c = λ s entries stands at corresponds may.
    let new = c.take_site.new.replica in
    let old = c.args.pool.now.items in
    let found = correspond_get IsFrameOf old entries corresponds c.in-Take.entry c.in-Some.frame.now (ap (λ fs. slice_get fs c.in-Take.entry) (sym c.as_slice.ensures.value) ∙ sym c.in-Some.ensures) in
    subst (λ e. HasHappenedAt new s old old entries (happens_at c.args.replica.now.names entries s e) c.take_site.result) (sym c.in-Take.is)
    (subst (λ x. HasHappenedAt new s old old entries (taken s x) c.take_site.result) (sym found.1)
    (taken_happened new s old entries found.0 c.take_site.result corresponds
    (c.take_site.ensures.meaning s found.0.carried stands found.2.delta (may c.in-Take.entry found.0 found.1))))

-- there is no such entry
pub returns-in-None-clause-meaning : goal.returns-in-None-clause-meaning
returns-in-None-clause-meaning c = λ s entries stands at corresponds may.
    let old = c.args.pool.now.items in
    let none = correspond_none_get IsFrameOf old entries corresponds c.in-Take.entry (ap (λ fs. slice_get fs c.in-Take.entry) (sym c.as_slice.ensures.value) ∙ sym c.in-None.ensures) in
    subst (λ e. HasHappenedAt c.args.replica.now s old old entries (happens_at c.args.replica.now.names entries s e) NoEntry) (sym c.in-Take.is)
    (subst (λ x. HasHappenedAt c.args.replica.now s old old entries (taken s x) NoEntry) (sym none)
    (missing_happened c.args.replica.now s old entries corresponds stands))

-- ---- the outcome by conditions

pub returns-in-Ask-clause-conditions : goal.returns-in-Ask-clause-conditions
returns-in-Ask-clause-conditions c = λ entries corresponds may.
    let old = c.args.pool.now.items in
    subst (λ e. GrowsBy (ComesAt old c.args.replica.now e c.ask_site.result c.ask_site.new.replica) old old) (sym c.in-Ask.is)
    (record { added = []; comes = (c.ask_site.ensures.conditions, refl); is = sym (append-nil old) })

pub returns-in-Cut-clause-conditions : goal.returns-in-Cut-clause-conditions
returns-in-Cut-clause-conditions c = λ entries corresponds may.
    subst (λ e. GrowsBy (ComesAt c.args.pool.now.items c.args.replica.now e c.cut_site.result c.cut_site.new.replica) c.args.pool.now.items c.cut_site.new.pool.items) (sym c.in-Cut.is)
    c.cut_site.ensures.conditions

pub returns-in-Whole-clause-conditions : goal.returns-in-Whole-clause-conditions
returns-in-Whole-clause-conditions c = λ entries corresponds may.
    subst (λ e. GrowsBy (ComesAt c.args.pool.now.items c.args.replica.now e c.whole_site.result c.whole_site.new.replica) c.args.pool.now.items c.whole_site.new.pool.items) (sym c.in-Whole.is)
    c.whole_site.ensures.conditions

pub returns-in-Some-clause-conditions : goal.returns-in-Some-clause-conditions
returns-in-Some-clause-conditions c = λ entries corresponds may.
    let old = c.args.pool.now.items in
    let frame = c.in-Some.frame.now in
    let at = ap (λ fs. slice_get fs c.in-Take.entry) (sym c.as_slice.ensures.value) ∙ sym c.in-Some.ensures in
    let found = correspond_get IsFrameOf old entries corresponds c.in-Take.entry frame at in
    subst (λ e. GrowsBy (ComesAt old c.args.replica.now e c.take_site.result c.take_site.new.replica) old old) (sym c.in-Take.is)
    (record {
      added = [];
      comes = (
        subst (λ x. ComesOfEntry x c.args.replica.now c.take_site.result c.take_site.new.replica) (sym at)
            (c.take_site.ensures.conditions found.0.carried found.2.delta (may c.in-Take.entry found.0 found.1)),
        refl,
      );
      is = sym (append-nil old);
    })

pub returns-in-None-clause-conditions : goal.returns-in-None-clause-conditions
returns-in-None-clause-conditions c = λ entries corresponds may.
    let old = c.args.pool.now.items in
    let none = ap (λ fs. slice_get fs c.in-Take.entry) (sym c.as_slice.ensures.value) ∙ sym c.in-None.ensures in
    subst (λ e. GrowsBy (ComesAt old c.args.replica.now e NoEntry c.args.replica.now) old old) (sym c.in-Take.is)
    (record { added = []; comes = (subst (λ x. ComesOfEntry x c.args.replica.now NoEntry c.args.replica.now) (sym none) (refl, refl), refl); is = sym (append-nil old) })
