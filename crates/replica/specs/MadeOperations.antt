-- The operations that a site may make: its dots, times and totals go on from its own, and what it writes and removes is visible to
-- it (RR-8083: a remove names the tags that were observed).
use Rattle.std.specs.Prelude.{ℕ, suc, ◌≡◌, ◌<◌, ◌&&◌, true, List, [], ◌∷◌, Some, Contains, length, map as each}
use Rattle.std.specs.FinSet as set
use Rattle.dots.specs.declared.calls.Calls.{Calls}
use Rattle.dots.specs.declared.member.Member.{Member}
use Rattle.dots.specs.Values.{Dot, Stamp}
use Rattle.dots.specs.Orders.{dot_cmp}
use Rattle.dots.specs.DotSets.{is_older}
use Rattle.operations.specs.Operations.{Operation, Add, Write, Remove, Count}
use Rattle.operations.specs.Knowledge.{Knowledge, is_named, member_of, visible_dots}
use Rattle.operations.specs.Counts.{site_total}
use Rattle.replica.specs.SiteViews.{count_used, greatest, time_used}

-- An add that a site of this number, with these queues, may make of what it knows: its next dot and its next time, a member of a queue in the list that isn't
-- there, and the dead dots of the site with lesser counts.
pub record IsAddAt (site : ℕ) (names : List (List ℕ)) (k : Knowledge) (dot : Dot) (member : Member) (stamp : Stamp) (older : set.FinSet dot_cmp) : Type 0 where
  pub dot_is : dot ≡ record { site = site; count = suc (greatest (count_used site) k) }
  pub stamp_is : stamp ≡ record { time = suc (greatest (time_used site) k); site = site }
  pub queue : member.queue < length names
  pub absent : (d : Dot) → set.contains (visible_dots k) d ≡ true → member_of k d ≡ Some member → ⊥
  pub older_are : (d : Dot) → set.contains older d ≡ (is_named k d && is_older (dot ∷ []) d)

-- A write that a site of this number may make: on dots that it sees with these members, and with each member all of them that it
-- sees; at a time of its own after all that it has used, and the dead dots of their sites with lesser counts.
pub record IsWriteAt (site : ℕ) (k : Knowledge) (dots : List (Dot × Member)) (stamp : Stamp) (older : set.FinSet dot_cmp) : Type 0 where
  pub seen : (d : Dot) (m : Member) → Contains dots (d, m) → (set.contains (visible_dots k) d ≡ true) × (member_of k d ≡ Some m)
  pub all : (d other : Dot) (m : Member) → Contains dots (d, m) → set.contains (visible_dots k) other ≡ true → member_of k other ≡ Some m → Contains dots (other, m)
  pub site_is : stamp.site ≡ site
  pub later : greatest (time_used site) k < stamp.time
  pub older_are : (d : Dot) → set.contains older d ≡ (is_named k d && is_older (each (λ p. p.0) dots) d)

-- a remove that a site may make: of all dots of one member that it sees, and of no others
pub record IsRemoveAt (k : Knowledge) (dots : set.FinSet dot_cmp) : Type 0 where
  pub member : Member
  pub seen : (d : Dot) → set.contains dots d ≡ true → set.contains (visible_dots k) d ≡ true
  pub only : (d : Dot) → set.contains dots d ≡ true → member_of k d ≡ Some member
  pub all : (d : Dot) → set.contains (visible_dots k) d ≡ true → member_of k d ≡ Some member → set.contains dots d ≡ true

-- a count that a site may make: its own, of a queue in the list, and one more than it has counted
pub record IsCountAt (site : ℕ) (names : List (List ℕ)) (k : Knowledge) (s queue : ℕ) (calls : Calls) (total : ℕ) : Type 0 where
  pub site_is : s ≡ site
  pub queue_is : queue < length names
  pub total_is : total ≡ suc (site_total k site queue calls)

-- an operation that a site of this number, with these queues, may make of what it knows
abbrev pub IsMadeAt : ℕ → List (List ℕ) → Knowledge → Operation → Type 0
IsMadeAt site names k (Add dot member stamp penalty pause label older) = IsAddAt site names k dot member stamp older
IsMadeAt site names k (Write dots setting stamp older) = IsWriteAt site k dots stamp older
IsMadeAt site names k (Remove dots) = IsRemoveAt k dots
IsMadeAt site names k (Count s queue calls total) = IsCountAt site names k s queue calls total
