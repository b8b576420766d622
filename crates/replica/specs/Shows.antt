-- The effect of a command that is done: on the row of the member that it is for, or on the total that it counts; everything else is
-- shown as before.
use Rattle.std.specs.Prelude.{ℕ, suc, ◌≡◌, ◌≢◌, ◌⊎◌, Bool, true, List, [], Option, Some, None, IsSome}
use Rattle.std.specs.Option.{option_map}
use Rattle.dots.specs.declared.calls.Calls.{Calls}
use Rattle.dots.specs.declared.calls.Calls.TheVariants.{Completed, Abandoned}
use Rattle.dots.specs.declared.label.Label.{Label}
use Rattle.dots.specs.declared.member.Member.{Member}
use Rattle.dots.specs.Values.{IsSite}
use Rattle.operations.specs.Counts.{queue_total, site_total}
use Rattle.operations.specs.Knowledge.{Knowledge, known_dots}
use Rattle.operations.specs.Operations.{Setting, SetPenalty, SetPause, SetLabel, SetRing}
use Rattle.operations.specs.Rows.{MemberRow, dot_view, row_of}
use Rattle.replica.specs.declared.command.Command.{Command}
use Rattle.replica.specs.declared.command.Command.TheVariants as command
use Rattle.replica.specs.Queues.{number_of}
use Rattle.replica.specs.SiteViews.{count_used, greatest}
use Rattle.replica.specs.Taking.{HasDotPast}

-- ---- rows

-- the row of a member that knowledge `k` shows; `None` where the member isn't there
abbrev pub row_in : Knowledge → Member → Option MemberRow
row_in k member = row_of (dot_view k) member

-- the row of a member that was added with these values: it has no reason, and rings in use
abbrev pub row_added : ℕ → Bool → Label → MemberRow
row_added penalty paused label = record { penalty = penalty; paused = paused; reason = []; name = label.name; state = label.state; ring = true }

-- a row with the value of a setting, and all else as it was
abbrev pub row_with : Setting → MemberRow → MemberRow
row_with (SetPenalty penalty) row = record row { penalty = penalty }
row_with (SetPause pause) row = record row { paused = pause.paused; reason = pause.reason }
row_with (SetLabel label) row = record row { name = label.name; state = label.state }
row_with (SetRing ring) row = record row { ring = ring }

-- ---- members

-- the member of an interface in the queue of this number
abbrev pub member_at : ℕ → List ℕ → Member
member_at queue interface = record { queue = queue; interface = interface }

-- a member is one that a change is for: of this interface, in the queue of this name, or in any where none is named
abbrev pub IsSetOn : List (List ℕ) → Option (List ℕ) → List ℕ → Member → Type 0
IsSetOn names None interface member = member.interface ≡ interface
IsSetOn names (Some queue) interface member = (number_of names queue ≡ Some member.queue) × (member.interface ≡ interface)

-- ---- the effects of commands, by the knowledges before and after them

-- every total of calls is what it was
abbrev pub KeepsTotals : Knowledge → Knowledge → Type 0
KeepsTotals old new = (site queue : ℕ) (calls : Calls) → site_total new site queue calls ≡ site_total old site queue calls

-- An add, to the queue of this name: its member wasn't there, and has the row of what was added; each other member has the row that it had.
pub record ShowsAdd (names : List (List ℕ)) (old new : Knowledge) (queue interface : List ℕ) (penalty : ℕ) (paused : Bool) (label : Label) : Type 0 where
  pub number : ℕ
  pub in_list : number_of names queue ≡ Some number
  pub was_absent : row_in old (member_at number interface) ≡ None
  pub row : row_in new (member_at number interface) ≡ Some (row_added penalty paused label)
  pub others : (other : Member) → other ≢ member_at number interface → row_in new other ≡ row_in old other
  pub totals : KeepsTotals old new

-- A remove, from the queue of this name: its member was there, and isn't any more; each other member has the row that it had.
pub record ShowsRemove (names : List (List ℕ)) (old new : Knowledge) (queue interface : List ℕ) : Type 0 where
  pub number : ℕ
  pub in_list : number_of names queue ≡ Some number
  pub was_there : IsSome (row_in old (member_at number interface))
  pub is_gone : row_in new (member_at number interface) ≡ None
  pub others : (other : Member) → other ≢ member_at number interface → row_in new other ≡ row_in old other
  pub totals : KeepsTotals old new

-- A setting, in one queue or in every one: some member that it is for was there; each of them that was has the row that it had with the value of the setting, and each
-- that wasn't still isn't; each other member has the row that it had.
pub record ShowsSetting (names : List (List ℕ)) (old new : Knowledge) (queue : Option (List ℕ)) (interface : List ℕ) (setting : Setting) : Type 0 where
  pub was_there : (member : Member) × IsSetOn names queue interface member × IsSome (row_in old member)
  pub rows : (member : Member) → IsSetOn names queue interface member → row_in new member ≡ option_map (row_with setting) (row_in old member)
  pub others : (other : Member) → (IsSetOn names queue interface other → ⊥) → row_in new other ≡ row_in old other
  pub totals : KeepsTotals old new

-- A call that is counted at a site, in the queue of this name: the site's total of these calls is one more there, and so is the
-- queue's; each other total, of another site, in another queue or of other calls, is what it was, and so is each row.
pub record ShowsCount (site : ℕ) (names : List (List ℕ)) (old new : Knowledge) (queue : List ℕ) (calls : Calls) : Type 0 where
  pub number : ℕ
  pub in_list : number_of names queue ≡ Some number
  pub site_total_is : site_total new site number calls ≡ suc (site_total old site number calls)
  pub queue_total_is : IsSite site → queue_total new number calls ≡ suc (queue_total old number calls)
  pub other_totals : (s q : ℕ) (c : Calls) → (s ≢ site) ⊎ (q ≢ number) ⊎ (c ≢ calls) → site_total new s q c ≡ site_total old s q c
  pub rows : (member : Member) → row_in new member ≡ row_in old member

-- the effect of each command
abbrev pub Shows : ℕ → List (List ℕ) → Command → Knowledge → Knowledge → Type 0
Shows site names (command.Add queue interface penalty paused label) old new = ShowsAdd names old new queue interface penalty paused label
Shows site names (command.Remove queue interface) old new = ShowsRemove names old new queue interface
Shows site names (command.Pause queue interface pause) old new = ShowsSetting names old new queue interface (SetPause pause)
Shows site names (command.Penalty queue interface penalty) old new = ShowsSetting names old new queue interface (SetPenalty penalty)
Shows site names (command.RingInUse queue interface ring) old new = ShowsSetting names old new queue interface (SetRing ring)
Shows site names (command.Completed queue) old new = ShowsCount site names old new queue Completed
Shows site names (command.Abandoned queue) old new = ShowsCount site names old new queue Abandoned

-- ---- what a site knows of its own dots

-- A site knows none of its own dots past the last that it made, so that no operation knows the dot of its next add yet. This holds
-- of what each replica stands for, and of each site of a world that events lead to.
abbrev pub KnowsNonePast : ℕ → Knowledge → Type 0
KnowsNonePast site k = HasDotPast site (greatest (count_used site) k) (known_dots k) → ⊥
