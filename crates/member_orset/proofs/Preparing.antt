-- When nothing is left that could refuse a join.
use Rattle.std.proofs.Common.{◌≡◌, ◌+◌, ◌≤◌, ap, sym, subst, arith}
use Rattle.std.specs.FinMap as map
use Rattle.std.specs.FinSet as set
use Rattle.dots.specs.declared.limits.TheConstants.{MOST_LIVE}
use Rattle.dots.specs.Orders.{dot_cmp}
use Rattle.dots.specs.DotSets.{run_count}
use Rattle.operations.specs.Conditions.{ConditionsAgree, condition_joined}
use Rattle.causal_context.specs.Contexts as contexts
use Rattle.causal_context.specs.Contexts.{Known}
use Rattle.member_orset.specs.Members.{SetsAgree, IsPrepared, Members, cells_joined, condition_at, condition_of, is_live, joined_dots, runs_joined}

-- what the room is doesn't count
pub same_joined : (s r t : Members) → r.known ≡ s.known → r.live ≡ s.live → cells_joined r t ≡ cells_joined s t
unfolding joined_dots
same_joined s r t k l = λ i. set.len (set.retain (set.union (k i) t.known) (λ d. is_live (condition_joined (condition_at (map.get (l i) d) (set.contains (k i) d)) (condition_of t d))))

same_agree : (s r t : Members) → r.known ≡ s.known → r.live ≡ s.live → SetsAgree s t → SetsAgree r t
same_agree s r t k l h q = subst (λ (X : Type 0). X) (λ i. ConditionsAgree (condition_at (map.get (sym l i) q) (set.contains (sym k i) q)) (condition_of t q)) (h q)

-- where another set agrees, the join is small enough, and there is room
pub prepared_for : (s r t : Members) → r.known ≡ s.known → r.live ≡ s.live → SetsAgree s t → cells_joined s t ≤ MOST_LIVE
    → (k : Known) (more : set.FinSet dot_cmp) → k.dots ≡ r.known → k.room ≡ r.run_room → more ≡ t.known → contexts.IsPrepared k more → map.len r.live + map.len t.live ≤ r.cell_room → IsPrepared r t
prepared_for s r t k l agree few context more d room m ready cells =
    let joined = same_joined s r t k l in
    let runs : run_count (set.union context.dots more) ≡ runs_joined r t = λ i. run_count (set.union (d i) (m i)) in
    let ours = ap run_count d in
    let theirs = ap run_count m in
    record {
      agree = same_agree s r t k l agree;
      cells = omega (arith, few, joined);
      runs = let few = ready.few in omega arith;
      cell_room = cells;
      run_room = let all = ready.room in omega arith;
    }
