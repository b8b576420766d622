-- What is read of a replica is what is read of the knowledge that it stands for.
use Rattle.std.proofs.Common.{◌≡◌, ℕ, ap}
use Rattle.dots.specs.declared.calls.Calls.TheVariants.{Completed, Abandoned}
use Rattle.dots.specs.declared.limits.TheConstants.{SITES}
use Rattle.dots.specs.declared.member.Member.{Member}
use Rattle.operations.specs.Counts.{queue_total}
use Rattle.operations.specs.Rows.{dot_view, row_of, rows_of}
use Rattle.operations.specs.Totals.{sum_below}
use Rattle.operations.proofs.AlikeViews.{same_row, same_rows}
use Rattle.member_orset.specs.Members.{dot_view_of}
use Rattle.delta.specs.Standing.{IsReadAs}
use Rattle.delta.proofs.ShownDeltas.{read_as}
use Rattle.replica.specs.Site.{SiteState, sums_of}
use Rattle.replica.specs.Standing.{StandsFor}
use Rattle.replica.specs.Steps.{SiteKnowledge}

-- a state is read as its knowledge
pub known_as : (state : SiteState) (s : SiteKnowledge) → StandsFor state s → IsReadAs state.state s.known
known_as state s stands = read_as state.state s.known stands.known

-- a member has the same row at a state and its knowledge
pub row_shown : (state : SiteState) (s : SiteKnowledge) → StandsFor state s → (member : Member)
    → row_of (dot_view_of state.state.members) member ≡ row_of (dot_view s.known) member
row_shown state s stands = same_row (dot_view_of state.state.members) (dot_view s.known) (known_as state s stands).dots

-- a queue has the same rows
pub rows_shown : (state : SiteState) (s : SiteKnowledge) → StandsFor state s → (queue : ℕ)
    → rows_of (dot_view_of state.state.members) queue ≡ rows_of (dot_view s.known) queue
rows_shown state s stands = same_rows (dot_view_of state.state.members) (dot_view s.known) (known_as state s stands).dots

-- a queue has the same totals at a state and its knowledge
pub completed_shown : (state : SiteState) (s : SiteKnowledge) → StandsFor state s → (queue : ℕ) → (sums_of state queue).completed ≡ queue_total s.known queue Completed
completed_shown state s stands queue = ap (sum_below SITES) (λ i site. (known_as state s stands).totals site queue Completed i)

pub abandoned_shown : (state : SiteState) (s : SiteKnowledge) → StandsFor state s → (queue : ℕ) → (sums_of state queue).abandoned ≡ queue_total s.known queue Abandoned
abandoned_shown state s stands queue = ap (sum_below SITES) (λ i site. (known_as state s stands).totals site queue Abandoned i)
