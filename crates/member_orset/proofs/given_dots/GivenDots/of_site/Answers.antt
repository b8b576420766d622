use Rattle.std.proofs.Common.{◌≤◌, rules, of_calls, arith}
use Rattle.std.specs.Prelude.{nat_le, nat_lt}
use Rattle.std.proofs.lemmas.Fn.{always_returns_same}
use Rattle.member_orset.proofs.GivenDots.{parted_by_site, parted_upto_site, site_found, site_in_order}
use Rattle.member_orset.proofs.given_dots.GivenDots.of_site.Goals as goal

pub slice_bounds-result-count : goal.slice_bounds-result-count
slice_bounds-result-count c =
    let list = c.args.self.list.now in
    let site = c.args.site in
    let rise = c.args.self.order c.if-not-self.false in
    let first = c.partition_point-start.ensures.partitioned (λ d. nat_lt d.site site) (always_returns_same _ _ _ (λ a r f k. search (rules, of_calls))) (parted_by_site list rise site) in
    let last = c.partition_point-end.ensures.partitioned (λ d. nat_le d.site site) (always_returns_same _ _ _ (λ a r f k. search (rules, of_calls))) (parted_upto_site list rise site) in
    site_in_order list rise site c.partition_point-start.result c.partition_point-end.result c.partition_point-end.ensures.bound first.0 first.1 last.0 last.1 c.partition_point-start.ensures.bound

pub slice_bounds-result-start : goal.slice_bounds-result-start
slice_bounds-result-start c =
    let rise : c.partition_point-start.result ≤ c.partition_point-end.result = slice_bounds-result-count c in
    omega arith

pub returns : goal.returns
returns c =
    let list = c.args.self.list.now in
    let site = c.args.site in
    let rise = c.args.self.order c.if-not-self.false in
    let first = c.partition_point-start.ensures.partitioned (λ d. nat_lt d.site site) (always_returns_same _ _ _ (λ a r f k. search (rules, of_calls))) (parted_by_site list rise site) in
    let last = c.partition_point-end.ensures.partitioned (λ d. nat_le d.site site) (always_returns_same _ _ _ (λ a r f k. search (rules, of_calls))) (parted_upto_site list rise site) in
    site_found list rise site c.partition_point-start.result c.partition_point-end.result c.partition_point-end.ensures.bound first.0 first.1 last.0 last.1
