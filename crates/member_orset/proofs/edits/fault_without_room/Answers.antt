use Rattle.std.proofs.Common.{◌≡◌, ℕ, ◌<◌, ◌≤◌, refl, subst, sym, ◌∙◌, arith}
use Rattle.std.specs.FinSet as set
use Rattle.dots.specs.declared.limits.TheConstants.{MOST_RUNS}
use Rattle.dots.specs.Values.{Dot}
use Rattle.dots.specs.Orders.{dot_cmp}
use Rattle.dots.specs.DotSets.{run_count}
use Rattle.dots.proofs.DotOrder.{dots_total, dots_exact}
use Rattle.std.proofs.Math.Bool.{or_self}
use Rattle.member_orset.proofs.edits.fault_without_room.Goals as goal

-- a dot that a set and itself have with one more
union_self : (known : set.FinSet dot_cmp) → set.union known known ≡ known
union_self known = set.same_set dots_total dots_exact _ _ (λ q. set.contains-union dots_total known known q ∙ or_self (set.contains known q))

runs_with_self : (known : set.FinSet dot_cmp) (d : Dot) (site count : ℕ) → site ≡ d.site → count ≡ d.count → run_count (set.insert (set.union known known) (record { site = site; count = count })) ≡ run_count (set.insert known d)
runs_with_self known d site count s n = λ i. run_count (set.insert (union_self known i) (record { site = s i; count = n i }))

pub returns-then-runs_with-clause-full : goal.returns-then-runs_with-clause-full
returns-then-runs_with-clause-full c =
    let e : c.runs_with.result ≡ run_count (set.insert c.args.context.now.dots c.args.dot) = c.runs_with.ensures ∙ runs_with_self c.args.context.now.dots c.args.dot c.site.result c.count.result c.site.ensures.value c.count.ensures.value in
    (λ h. subst (λ n. MOST_RUNS < n) e c.if-runs_with.true, λ h. refl)

pub returns-clause-full : goal.returns-clause-full
returns-clause-full c =
    let e : c.runs_with.result ≡ run_count (set.insert c.args.context.now.dots c.args.dot) = c.runs_with.ensures ∙ runs_with_self c.args.context.now.dots c.args.dot c.site.result c.count.result c.site.ensures.value c.count.ensures.value in
    (λ h. absurd (cc), λ h. absurd (let few : c.runs_with.result ≤ MOST_RUNS = c.if-runs_with.false in let more = subst (λ n. MOST_RUNS < n) (sym e) h in omega arith))
