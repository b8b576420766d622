use Rattle.std.proofs.Common.{◌≡◌, ◌+◌, ◌≤◌, ◌<◌, inl, inr, ap, sym, subst, ◌∙◌, arith}
use Rattle.std.proofs.lemmas.Bool.{cases_lt}
use Rattle.live_cells.specs.PlacedLists.{is_placed}
use Rattle.member_orset.specs.Reads.{seen_dots}
use Rattle.member_orset.specs.Gathering.{AreToName, IsGathered, IsGreatest, part_before}
use Rattle.member_orset.proofs.SeenDots.{known_zero, no_part, none_of_site, seen_sites, seen_to_name, whole_part}
use Rattle.member_orset.proofs.seen.gather.Goals as goal

pub loop-number-init : goal.loop-number-init
loop-number-init c =
    let none = c.none-gathered.ensures.runs in
    let seen = seen_dots c.args.context.now.dots (is_placed c.args.dots.list.now) c.args.given.list.now in
    let first = c.sites_of-first.result.0 in
    record {
      few = omega arith;
      gathered = subst (IsGathered c.none-gathered.result)
          (no_part seen first (seen_sites (λ s. first ≤ s) c.args.context.now.dots (is_placed c.args.dots.list.now) c.args.given.list.now c.sites_of-first.ensures.first))
          c.none-gathered.ensures.none;
    }

pub gather_site-requires : goal.gather_site-requires
gather_site-requires c =
    let few = c.loop-number.invariant.few in
    let site = c.in-Some.ensures.value in
    let last = c.in-Some-new.ensures.value.0 in
    omega arith

-- a site without a given dot adds nothing
pub loop-number-preserved-in_default-new : goal.loop-number-preserved-in_default-new
loop-number-preserved-in_default-new c =
    let known = c.args.context.now.dots in
    let live = is_placed c.args.dots.list.now in
    let given = c.args.given.list.now in
    let few = c.loop-number.invariant.few in
    let site = c.in-Some.ensures.value in
    let is = c.of-runs.ensures.value in
    let greatest = c.greatest.result in
    let limit = c.greatest.ensures.limit in
    let zero : greatest ≡ 0 = elim (cases_lt 0 greatest) [
      | inl l ↦ absurd (let some = c.in_default-new.ensures.within.1 (omega arith, limit) in cc)
      | inr m ↦ omega arith
    ] in
    let none = subst (IsGreatest given c.in-Some.site) zero c.greatest.ensures.greatest in
    let named = seen_to_name known live given c.in-Some.site 0 none (known_zero c.of-runs.result.list.now known c.in-Some.site is c.of-runs.ensures.limits) in
    record {
      few = omega arith;
      gathered = subst (IsGathered c.loop-number.gathered)
          (ap (λ n. part_before (seen_dots known live given) n 0) (sym site)
          ∙ none_of_site known live given c.in-Some.site (seen_dots known live given) named
          ∙ ap (λ n. part_before (seen_dots known live given) (n + 1) 0) site)
          c.loop-number.invariant.gathered;
    }

pub loop-number-preserved : goal.loop-number-preserved
loop-number-preserved c =
    let known = c.args.context.now.dots in
    let live = is_placed c.args.dots.list.now in
    let given = c.args.given.list.now in
    let seen = seen_dots known live given in
    let few = c.gather_site.ensures.few in
    let site = c.in-Some.ensures.value in
    let last = c.in-Some-new.ensures.value in
    let is = c.of-runs.ensures.value in
    let named = subst (λ (X : Type 0). X) (λ i. AreToName known live given (sym last.0 i) (sym last.1 i) seen)
    (seen_to_name known live given c.in-Some.site c.greatest.result c.greatest.ensures.greatest (known_zero c.of-runs.result.list.now known c.in-Some.site is c.of-runs.ensures.limits)) in
    record {
      few = let same = last.0 in omega arith;
      gathered = subst (λ n. IsGathered c.gather_site.new.gathered (part_before seen (n + 1) 0)) (last.0 ∙ site)
          (c.gather_site.ensures.gathered known seen is named
          (subst (λ n. IsGathered c.loop-number.gathered (part_before seen n 0)) (sym (last.0 ∙ site)) c.loop-number.invariant.gathered));
    }

pub returns-clause-ok : goal.returns-clause-ok
returns-clause-ok c =
    let seen = seen_dots c.args.context.now.dots (is_placed c.args.dots.list.now) c.args.given.list.now in
    let past : c.sites_of-first.result.1 ≤ c.loop-number.number = omega arith in
    c.finish-2.ensures.ok seen (subst (IsGathered c.loop-number.gathered)
    (whole_part seen c.loop-number.number (λ q t.
    let below : q.site < c.sites_of-first.result.1 = seen_sites (λ s. s < c.sites_of-first.result.1) c.args.context.now.dots (is_placed c.args.dots.list.now) c.args.given.list.now c.sites_of-first.ensures.end q t in
    omega arith))
    c.loop-number.invariant.gathered)

pub returns-clause-full : goal.returns-clause-full
returns-clause-full c =
    let seen = seen_dots c.args.context.now.dots (is_placed c.args.dots.list.now) c.args.given.list.now in
    let past : c.sites_of-first.result.1 ≤ c.loop-number.number = omega arith in
    c.finish-2.ensures.full seen (subst (IsGathered c.loop-number.gathered)
    (whole_part seen c.loop-number.number (λ q t.
    let below : q.site < c.sites_of-first.result.1 = seen_sites (λ s. s < c.sites_of-first.result.1) c.args.context.now.dots (is_placed c.args.dots.list.now) c.args.given.list.now c.sites_of-first.ensures.end q t in
    omega arith))
    c.loop-number.invariant.gathered)
