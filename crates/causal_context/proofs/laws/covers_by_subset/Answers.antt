use Rattle.causal_context.proofs.Unions.{subset_members, subset_refl, subset_antisymm, subset_trans, subset_union, union_subset}
use Rattle.causal_context.proofs.laws.covers_by_subset.Goals as goal

pub returns : goal.returns
returns c = record {
  members = subset_members;
  reflexive = subset_refl;
  antisymmetric = subset_antisymm;
  transitive = subset_trans;
  by_union = λ a b. (subset_union a b, union_subset a b);
}
