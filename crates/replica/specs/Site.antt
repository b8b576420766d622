-- What contracts see of a replica: the site and its queues, its state and its buffer, each a delta, and the last numbers that it
-- used.
use Rattle.std.specs.Prelude.{ℕ, ◌≡◌, List, refl}
use Rattle.std.specs.Coded.{Coded, code_by, coded×, coded_ℕ, coded_list}
use Rattle.dots.specs.declared.call_totals.CallTotals.{CallTotals}
use Rattle.operations.specs.Rows.{MemberRow, rows_of as rows_read}
use Rattle.operations.specs.Totals.{sum_of, totals_of}
use Rattle.member_orset.specs.Members.{dot_view_of}
use Rattle.site_totals.specs.Raising.{number_of as number_of_calls}
use Rattle.delta.specs.DeltaStates as deltas
use Rattle.delta.specs.DeltaStates.{DeltaState, delta_code}
use Rattle.replica.specs.Changes.{Change, Meaning, meaning}
use Rattle.replica.specs.SiteViews.{SiteView}

-- A site: its number, the names of its queues, its state, its buffer, the count of its last add, the time of its last add or write,
-- and the number of its last frame, each 0 before the first.
pub record SiteState : Type 0 where
  pub site : ℕ
  pub names : List (List ℕ)
  pub state : DeltaState
  pub pending : DeltaState
  pub last_count : ℕ
  pub last_time : ℕ
  pub frames : ℕ

-- a site is stored as its fields
abbrev pub site_code : Coded SiteState
site_code =
    code_by (ℕ × (List (List ℕ) × (DeltaState × (DeltaState × (ℕ × (ℕ × ℕ))))))
    (coded× coded_ℕ (coded× (coded_list (coded_list coded_ℕ)) (coded× delta_code (coded× delta_code (coded× coded_ℕ (coded× coded_ℕ coded_ℕ))))))
    (λ s. (s.site, (s.names, (s.state, (s.pending, (s.last_count, (s.last_time, s.frames)))))))
    (λ p. record { site = p.0; names = p.1.0; state = p.1.1.0; pending = p.1.1.1.0; last_count = p.1.1.1.1.0; last_time = p.1.1.1.1.1.0; frames = p.1.1.1.1.1.1 })
    (λ _. refl)

-- the site view of a delta, with the site's last numbers
abbrev pub view_of : SiteState → DeltaState → SiteView
view_of s d = record {
  dots = dot_view_of d.members;
  known = d.members.known;
  totals = λ site queue calls. number_of_calls calls (totals_of d.totals.entries site queue);
  last_count = s.last_count;
  last_time = s.last_time;
}

-- the meaning of a change at a site, by the views of its deltas
abbrev pub meaning_at : SiteState → Change → Meaning
meaning_at s change = meaning s.site s.names (view_of s s.state) (view_of s s.pending) change

-- the members of the queue of this number with their rows, by their interfaces' bytes
abbrev pub rows_of : SiteState → ℕ → List (List ℕ × MemberRow)
rows_of s queue = rows_read (dot_view_of s.state.members) queue

-- the totals of the queue of this number: the sums over the sites
abbrev pub sums_of : SiteState → ℕ → CallTotals
sums_of s queue = sum_of s.state.totals.entries queue

-- a site says the same as before; the room of its deltas may differ
pub record IsUnchanged (old new : SiteState) : Type 0 where
  pub site : new.site ≡ old.site
  pub names : new.names ≡ old.names
  pub state : deltas.IsUnchanged old.state new.state
  pub pending : deltas.IsUnchanged old.pending new.pending
  pub last_count : new.last_count ≡ old.last_count
  pub last_time : new.last_time ≡ old.last_time
  pub frames : new.frames ≡ old.frames

-- two sites say the same: of members and totals, and in number, queues and last numbers
pub record IsSameSite (s t : SiteState) : Type 0 where
  pub site : t.site ≡ s.site
  pub names : t.names ≡ s.names
  pub state : deltas.IsSame s.state t.state
  pub pending : deltas.IsSame s.pending t.pending
  pub last_count : t.last_count ≡ s.last_count
  pub last_time : t.last_time ≡ s.last_time
  pub frames : t.frames ≡ s.frames
