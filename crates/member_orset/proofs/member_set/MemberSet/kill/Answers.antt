use Rattle.std.proofs.Common.{◌≡◌, Bool, true, false, cond, ◌||◌, Option, Some, None, refl, sym, subst, ◌∙◌}
use Rattle.std.specs.Prelude.{if◌then◌else◌}
use Rattle.std.specs.FinMap as map
use Rattle.std.specs.FinSet as set
use Rattle.std.specs.Ordering.{eq_by_cmp}
use Rattle.dots.specs.Values.{Dot}
use Rattle.dots.specs.Orders.{dot_cmp}
use Rattle.dots.proofs.DotOrder.{dots_total}
use Rattle.operations.specs.Conditions.{Condition, Live, Dead, condition_joined}
use Rattle.live_cells.specs.Holdings.{Holding}
use Rattle.live_cells.specs.CellIds.{IdMap, IdSet, IdsFollow}
use Rattle.live_cells.specs.LiveStates.{spent_with}
use Rattle.member_orset.specs.Members.{Members, condition_at, joined_at}
use Rattle.live_cells.proofs.IdSteps.{follow_remove}
use Rattle.member_orset.proofs.KeptSets.{set_killed, set_same}
use Rattle.member_orset.proofs.member_set.MemberSet.kill.Goals as goal

dead_second : (x : Option Condition) → Some Dead ≡ condition_joined x (Some Dead)
dead_second None = refl
dead_second (Some Dead) = refl
dead_second (Some (Live m f)) = refl

-- the conditions after one dot is dead
killed : (live : map.FinMap dot_cmp Holding) (known : set.FinSet dot_cmp) (d q : Dot)
    → condition_at (map.get (map.remove live d) q) (set.contains (set.insert known d) q) ≡ (if eq_by_cmp dot_cmp q d then condition_joined (condition_at (map.get live q) (set.contains known q)) (Some Dead) else condition_at (map.get live q) (set.contains known q))
killed live known d q = (λ i. condition_at (map.get-remove dots_total live d q i) (set.contains-insert dots_total known d q i)) ∙ split (eq_by_cmp dot_cmp q d)
  where
    split : (b : Bool) → condition_at (cond b None (map.get live q)) (b || set.contains known q) ≡ (if b then condition_joined (condition_at (map.get live q) (set.contains known q)) (Some Dead) else condition_at (map.get live q) (set.contains known q))
    split true = dead_second (condition_at (map.get live q) (set.contains known q))
    split false = refl

pub invariant_of-self-2 : goal.invariant_of-self-2
invariant_of-self-2 c =
    let s = c.self.inside in
    let d = c.args.dot in
    set_same (set.insert s.context.dots d) c.learn.new.context.dots (map.remove s.cells.live d) c.remove.new.self.live (spent_with (map.get s.cells.ids d) s.cells.spent) c.remove.new.self.spent
    c.in_ok-learn.ensures.ok c.remove.ensures.live c.remove.ensures.spent (set_killed s.context.dots s.cells d c.len.ensures.limits.named c.self.invariant)

pub returns-clause-conditions : goal.returns-clause-conditions
returns-clause-conditions c q =
    let s = c.self.inside in
    let d = c.args.dot in
    (λ i. condition_at (map.get (c.remove.ensures.live i) q) (set.contains (c.in_ok-learn.ensures.ok i) q))
    ∙ killed s.cells.live s.context.dots d q
    ∙ (λ i. joined_at (c.self.view_is i) d Dead q)

pub returns-clause-ids : goal.returns-clause-ids
returns-clause-ids c =
    let s = c.self.inside.cells in
    let d = c.args.dot in
    let follow = follow_remove s.ids s.spent d in
    let after = subst (λ (m : IdMap). IdsFollow s.ids s.spent m (spent_with (map.get s.ids d) s.spent)) (sym c.remove.ensures.ids) follow in
    let spent = subst (λ (x : IdSet). IdsFollow s.ids s.spent c.remove.new.self.ids x) (sym c.remove.ensures.spent) after in
    subst (λ (t : Members). IdsFollow t.ids t.spent c.remove.new.self.ids c.remove.new.self.spent) c.self.view_is spent
