use Rattle.std.proofs.Common.{◌≡◌, ◌<◌, ap, sym, subst, ◌∙◌}
use Rattle.std.specs.FinMap as map
use Rattle.std.proofs.lemmas.Result.{IfOk-weaker}
use Rattle.dots.specs.declared.limits.TheConstants.{MOST_RUNS}
use Rattle.dots.specs.DotSets.{run_count}
use Rattle.member_orset.specs.LiveDots.{dead_dots, dead_dots_of}
use Rattle.live_cells.specs.PlacedLists.{is_placed}
use Rattle.member_orset.proofs.member_set.MemberSet.dead_of.Goals as goal

pub returns-clause-ok : goal.returns-clause-ok
returns-clause-ok c =
    let live = c.self.inside.cells.live in
    let same : dead_dots c.self.inside.context.dots (is_placed c.placed.result.list.now) c.args.site ≡ dead_dots_of c.args.self.now c.args.site =
    ap (λ f. dead_dots c.self.inside.context.dots f c.args.site) (λ i q. c.placed.ensures.dots q i)
    ∙ (λ i. dead_dots (c.self.view_is i).known (map.contains_key (c.self.view_is i).live) c.args.site) in
    IfOk-weaker c.gather_dead.result _ _ (λ dead h. h ∙ same) c.gather_dead.ensures.ok

pub returns-clause-full : goal.returns-clause-full
returns-clause-full c =
    let same : dead_dots c.self.inside.context.dots (is_placed c.placed.result.list.now) c.args.site ≡ dead_dots_of c.args.self.now c.args.site =
    ap (λ f. dead_dots c.self.inside.context.dots f c.args.site) (λ i q. c.placed.ensures.dots q i)
    ∙ (λ i. dead_dots (c.self.view_is i).known (map.contains_key (c.self.view_is i).live) c.args.site) in
    (λ h. subst (λ s. MOST_RUNS < run_count s) same (c.gather_dead.ensures.full.0 h), λ h. c.gather_dead.ensures.full.1 (subst (λ s. MOST_RUNS < run_count s) (sym same) h))
