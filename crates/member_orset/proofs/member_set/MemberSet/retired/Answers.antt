use Rattle.std.proofs.Common.{ℕ, ◌≤◌, ◌+◌, ◌*◌, sym, subst, arith}
use Rattle.std.specs.FinMap as map
use Rattle.std.specs.FinSet as set
use Rattle.live_cells.specs.CellIds.{retired_of}
use Rattle.member_orset.specs.Members.{Members, most_retired, dead_among}
use Rattle.live_cells.specs.declared.places.TheConstants.{LAST_GENERATION}
use Rattle.member_orset.proofs.KeptSets.{set_rested}
use Rattle.member_orset.proofs.member_set.MemberSet.retired.Goals as goal

pub returns-clause-limit : goal.returns-clause-limit
returns-clause-limit c = subst (λ n. n ≤ most_retired) (sym c.retired.ensures) (set_rested c.self.inside.context c.self.inside.cells c.runs.ensures.dots c.len.ensures.limits c.self.invariant)

-- each of the places spent an id in each generation, and no more ids are spent than dots are dead
pub returns-clause-dead : goal.returns-clause-dead
returns-clause-dead c =
    let cells = c.self.inside.cells in
    let spent = c.len.ensures.limits.worn in
    let dead = c.self.invariant.dead in
    subst (λ (s : Members). c.retired.result * 4294967296 ≤ set.len (dead_among s.known (map.contains_key s.live))) c.self.view_is
    (subst (λ n. n * 4294967296 ≤ set.len (dead_among c.self.inside.context.dots (map.contains_key cells.live))) (sym c.retired.ensures)
    (enough (retired_of LAST_GENERATION cells.spent) (set.len cells.spent) _ spent dead))
  where
    enough : (places spent dead : ℕ) → places * (LAST_GENERATION + 1) ≤ spent → spent ≤ dead → places * 4294967296 ≤ dead
    enough places spent dead worn few = omega (arith, worn, few)
