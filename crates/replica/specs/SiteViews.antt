-- The site view: what a site reads of its knowledge before it does a command. The meaning of commands depends on this view alone,
-- so it is the same for the knowledge of a site and for a state that stands for it.
use Rattle.std.specs.Prelude.{ℕ, max, Bool, not, ◌&&◌, ◌||◌, nat_lt, nat_eq, List, [], ◌∷◌, Option, Some, None, map as each, bytes_eq, if◌then◌else◌}
use Rattle.std.specs.Option.{option_and_then}
use Rattle.std.specs.List.{filter_map}
use Rattle.std.specs.FinSet as set
use Rattle.dots.specs.declared.limits.TheConstants.{MOST_LIVE, MOST_RUNS}
use Rattle.dots.specs.declared.member.Member.{Member}
use Rattle.dots.specs.Values.{Dot, Stamp}
use Rattle.dots.specs.Orders.{dot_cmp}
use Rattle.dots.specs.DotSets.{is_older, run_count}
use Rattle.dots.specs.declared.calls.Calls.{Calls}
use Rattle.operations.specs.Operations.{Operation, Add, Write, Remove, Count}
use Rattle.operations.specs.Knowledge.{Knowledge, known_dots, asserted_dots, names}
use Rattle.general_lemmas.specs.SetItems.{in_order}
use Rattle.operations.specs.Rows.{DotView, dot_view, dots_of}
use Rattle.operations.specs.Counts.{site_total}

-- a site view: the visible dots and the known ones, the totals of each site, queue and kind of calls, and the greatest count and
-- time that the site has used for an operation of its own; 0 if it has used none
pub record SiteView : Type 0 where
  pub dots : DotView
  pub known : set.FinSet dot_cmp
  pub totals : ℕ → ℕ → Calls → ℕ
  pub last_count : ℕ
  pub last_time : ℕ

-- the count that a site has used for an operation
abbrev pub count_used : ℕ → Operation → ℕ
count_used site (Add dot member stamp penalty pause label older) = if nat_eq dot.site site then dot.count else 0
count_used site (Write dots setting stamp older) = 0
count_used site (Remove dots) = 0
count_used site (Count s queue calls total) = 0

-- the time of a stamp of a site
abbrev pub own_time : ℕ → Stamp → ℕ
own_time site stamp = if nat_eq stamp.site site then stamp.time else 0

-- the time that a site has used for an operation
abbrev pub time_used : ℕ → Operation → ℕ
time_used site (Add dot member stamp penalty pause label older) = own_time site stamp
time_used site (Write dots setting stamp older) = own_time site stamp
time_used site (Remove dots) = 0
time_used site (Count s queue calls total) = 0

-- the greatest number of a list's elements; 0 where there is none
abbrev pub greatest : {X : Type 0} → (X → ℕ) → List X → ℕ
greatest f [] = 0
greatest f (x ∷ xs) = max (f x) (greatest f xs)

-- the site view of a knowledge
abbrev pub site_view : ℕ → Knowledge → SiteView
site_view site k = record {
  dots = dot_view k;
  known = known_dots k;
  totals = site_total k;
  last_count = greatest (count_used site) k;
  last_time = greatest (time_used site) k;
}

-- whether a dot is known and isn't visible: an operation has named it
abbrev pub is_dead : SiteView → Dot → Bool
is_dead r dot = set.contains r.known dot && not (set.contains r.dots.visible dot)

-- the dead dots of the sites of these dots, with lesser counts: an add and a write of these dots also name them
unfoldable pub older_dots : SiteView → List Dot → set.FinSet dot_cmp
older_dots r dots = set.retain r.known (λ dot. is_dead r dot && is_older dots dot)

-- a dot with its member, where that has this interface
abbrev pub with_interface : DotView → List ℕ → Dot → Option (Dot × Member)
with_interface r interface dot = option_and_then (λ member. if bytes_eq member.interface interface then Some (dot, member) else None) (r.member dot)

-- the visible dots of a member, or, without a queue, of the members of this interface in every queue, each with its member
abbrev pub dots_seen : DotView → Option ℕ → List ℕ → List (Dot × Member)
dots_seen r None interface = filter_map (with_interface r interface) (in_order r.visible)
dots_seen r (Some queue) interface =
    let member : Member = record { queue = queue; interface = interface } in each (λ dot. (dot, member)) (dots_of r member)

-- the dots that are visible once there is one operation more
unfoldable pub visible_with : SiteView → Operation → set.FinSet dot_cmp
visible_with r o = set.retain (set.union r.dots.visible (asserted_dots (o ∷ []))) (λ dot. not (is_dead r dot || names dot o))

-- the dots that are known once there is one operation more
unfoldable pub known_with : SiteView → Operation → set.FinSet dot_cmp
known_with r o = set.union r.known (known_dots (o ∷ []))

-- whether there are more visible dots, or more runs of known ones, than a site may have
abbrev pub is_past_limits : set.FinSet dot_cmp → set.FinSet dot_cmp → Bool
is_past_limits visible known = nat_lt MOST_LIVE (set.len visible) || nat_lt MOST_RUNS (run_count known)
