use Rattle.std.proofs.Common.{◌≤◌, ◌*◌, length, sym, subst}
use Rattle.std.specs.FinSet as set
use Rattle.delta.proofs.StandingDeltas.{own_cells}
use Rattle.sites_world.specs.Promises.{visible_members}
use Rattle.sites_world.proofs.Held.{few_known}
use Rattle.sites_world.proofs.laws.visible_dots_are_at_most_members_times_sites.Goals as goal

pub returns : goal.returns
returns c = record {
  visible = few_known;
  live = λ names sites w k x reached ik is. subst (λ n. n ≤ set.len (visible_members k) * length w.sites) (sym (own_cells x k is)) (few_known names sites w k reached ik);
}
