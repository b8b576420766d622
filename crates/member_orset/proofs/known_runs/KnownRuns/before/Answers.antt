use Rattle.std.proofs.Common.{◌≡◌, true, false, length, rules, of_calls, subst}
use Rattle.std.specs.List.{AllWithin}
use Rattle.std.proofs.lemmas.Fn.{always_returns_same}
use Rattle.dots.specs.Values.{Dot}
use Rattle.causal_context.specs.RunLists.{is_below}
use Rattle.causal_context.proofs.Places.{partitioned}
use Rattle.member_orset.proofs.known_runs.KnownRuns.before.Goals as goal

pub returns-clause-before : goal.returns-clause-before
returns-clause-before c =
    let runs = c.args.self.list.now in
    let d : Dot = record { site = c.site-site.result; count = c.count-count.result } in
    let same : d ≡ c.args.dot = λ i. record { site = c.site-site.ensures.value i; count = c.count-count.ensures.value i } in
    subst (λ (q : Dot). AllWithin (λ r. is_below q r ≡ true) runs 0 c.partition_point.result) same
    (c.partition_point.ensures.partitioned (is_below d) (always_returns_same _ _ _ (λ a r f k. search (rules, of_calls))) (partitioned d runs c.args.self.apart)).0

pub returns-clause-after : goal.returns-clause-after
returns-clause-after c =
    let runs = c.args.self.list.now in
    let d : Dot = record { site = c.site-site.result; count = c.count-count.result } in
    let same : d ≡ c.args.dot = λ i. record { site = c.site-site.ensures.value i; count = c.count-count.ensures.value i } in
    subst (λ (q : Dot). AllWithin (λ r. is_below q r ≡ false) runs c.partition_point.result (length runs)) same
    (c.partition_point.ensures.partitioned (is_below d) (always_returns_same _ _ _ (λ a r f k. search (rules, of_calls))) (partitioned d runs c.args.self.apart)).1
