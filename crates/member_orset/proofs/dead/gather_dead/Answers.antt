use Rattle.std.proofs.Common.{◌+◌, ap, sym, subst, ◌∙◌, arith}
use Rattle.member_orset.specs.LiveDots.{dead_dots}
use Rattle.live_cells.specs.PlacedLists.{is_placed}
use Rattle.member_orset.specs.Gathering.{AreToName, IsGathered, part_before}
use Rattle.member_orset.proofs.DeadDots.{all_before_next, dead_to_name, none_earlier}
use Rattle.member_orset.proofs.dead.gather_dead.Goals as goal

pub gather_site-requires : goal.gather_site-requires
gather_site-requires c = let none = c.none-gathered.ensures.runs in omega arith

pub returns-clause-ok : goal.returns-clause-ok
returns-clause-ok c =
    let dots = c.args.context.now.dots in
    let live = is_placed c.args.dots.list.now in
    let site = c.in-Some.ensures.value.0 in
    let count = c.in-Some.ensures.value.1 in
    let dead = dead_dots dots live c.args.site in
    let named = subst (λ (X : Type 0). X) (λ i. AreToName dots live (sym c.of.ensures i) (sym site i) c.in-Some.last.count dead) (dead_to_name dots live c.args.site c.of-runs.result.list.now c.in-Some.last.count c.of-runs.ensures.value c.of-runs.ensures.limits (omega arith)) in
    c.finish-2.ensures.ok dead (subst (IsGathered c.gather_site.new.gathered) (ap (λ s. part_before dead (s + 1) 0) site ∙ all_before_next dots live c.args.site)
    (c.gather_site.ensures.gathered dots dead c.of-runs.ensures.value named
    (subst (IsGathered c.none-gathered.result) (sym (ap (λ s. part_before dead s 0) site ∙ none_earlier dots live c.args.site)) c.none-gathered.ensures.none)))

pub returns-clause-full : goal.returns-clause-full
returns-clause-full c =
    let dots = c.args.context.now.dots in
    let live = is_placed c.args.dots.list.now in
    let site = c.in-Some.ensures.value.0 in
    let count = c.in-Some.ensures.value.1 in
    let dead = dead_dots dots live c.args.site in
    let named = subst (λ (X : Type 0). X) (λ i. AreToName dots live (sym c.of.ensures i) (sym site i) c.in-Some.last.count dead) (dead_to_name dots live c.args.site c.of-runs.result.list.now c.in-Some.last.count c.of-runs.ensures.value c.of-runs.ensures.limits (omega arith)) in
    c.finish-2.ensures.full dead (subst (IsGathered c.gather_site.new.gathered) (ap (λ s. part_before dead (s + 1) 0) site ∙ all_before_next dots live c.args.site)
    (c.gather_site.ensures.gathered dots dead c.of-runs.ensures.value named
    (subst (IsGathered c.none-gathered.result) (sym (ap (λ s. part_before dead s 0) site ∙ none_earlier dots live c.args.site)) c.none-gathered.ensures.none)))
