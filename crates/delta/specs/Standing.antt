-- What a delta stands for.
use Rattle.std.specs.Prelude.{ℕ, ◌≡◌}
use Rattle.dots.specs.declared.calls.Calls.{Calls}
use Rattle.operations.specs.Conditions.{Represents}
use Rattle.operations.specs.Counts.{site_total}
use Rattle.operations.specs.Knowledge.{Knowledge}
use Rattle.operations.specs.Rows.{ShowAlike, dot_view}
use Rattle.operations.specs.Totals.{totals_of}
use Rattle.site_totals.specs.Raising.{number_of}
use Rattle.member_orset.specs.Members.{condition_of, dot_view_of}
use Rattle.delta.specs.DeltaStates.{DeltaState}

-- `d` is a delta of knowledge `k`: it has the conditions, the known dots and the totals of that
abbrev pub IsDeltaOf : DeltaState → Knowledge → Type 0
IsDeltaOf d k = Represents (condition_of d.members) d.members.known d.totals.entries k

-- delta `d` shows the same as knowledge `k`: the same dots, each with the same member and fields, and the same totals
pub record IsReadAs (d : DeltaState) (k : Knowledge) : Type 0 where
  pub dots : ShowAlike (dot_view_of d.members) (dot_view k)
  pub totals : (site queue : ℕ) (calls : Calls) → number_of calls (totals_of d.totals.entries site queue) ≡ site_total k site queue calls
