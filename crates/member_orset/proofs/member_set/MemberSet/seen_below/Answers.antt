use Rattle.std.proofs.Common.{◌≡◌, ◌<◌, sym, subst, ◌∙◌}
use Rattle.std.specs.FinMap as map
use Rattle.std.proofs.lemmas.Result.{IfOk-weaker}
use Rattle.dots.specs.declared.limits.TheConstants.{MOST_RUNS}
use Rattle.dots.specs.DotSets.{run_count}
use Rattle.member_orset.specs.Reads.{dots_seen_below, seen_dots}
use Rattle.live_cells.specs.PlacedLists.{is_placed}
use Rattle.member_orset.proofs.member_set.MemberSet.seen_below.Goals as goal

pub returns-clause-ok : goal.returns-clause-ok
returns-clause-ok c =
    let live = c.self.inside.cells.live in
    let same : seen_dots c.self.inside.context.dots (is_placed c.placed.result.list.now) c.of.result.list.now ≡ dots_seen_below c.args.self.now c.args.given.now =
    (λ i. seen_dots c.self.inside.context.dots (λ q. c.placed.ensures.dots q i) (c.of.ensures i))
    ∙ (λ i. seen_dots (c.self.view_is i).known (map.contains_key (c.self.view_is i).live) c.args.given.now) in
    IfOk-weaker c.gather.result _ _ (λ seen h. h ∙ same) c.gather.ensures.ok

pub returns-clause-full : goal.returns-clause-full
returns-clause-full c =
    let same : seen_dots c.self.inside.context.dots (is_placed c.placed.result.list.now) c.of.result.list.now ≡ dots_seen_below c.args.self.now c.args.given.now =
    (λ i. seen_dots c.self.inside.context.dots (λ q. c.placed.ensures.dots q i) (c.of.ensures i))
    ∙ (λ i. seen_dots (c.self.view_is i).known (map.contains_key (c.self.view_is i).live) c.args.given.now) in
    (λ h. subst (λ s. MOST_RUNS < run_count s) same (c.gather.ensures.full.0 h), λ h. c.gather.ensures.full.1 (subst (λ s. MOST_RUNS < run_count s) (sym same) h))
