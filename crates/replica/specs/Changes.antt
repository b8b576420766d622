-- The meaning of a command (Asterisk's queue actions; the refusals and their order are this project's own): a refusal, or an
-- operation to make. Counts and times are plain numbers here, so that a site is full before its numbers are used up.
use Rattle.std.specs.Prelude.{ℕ, suc, max, Bool, false, ◌||◌, nat_lt, List, [], ◌∷◌, Option, Some, None, map as each, if◌then◌else◌}
use Rattle.std.specs.FinSet as set
use Rattle.dots.specs.declared.limits.TheConstants.{MOST_CALLS, MOST_COUNT, MOST_RUNS}
use Rattle.dots.specs.declared.label.Label.{Label}
use Rattle.dots.specs.declared.member.Member.{Member}
use Rattle.dots.specs.Values.{Dot}
use Rattle.operations.specs.Registers.{Entry}
use Rattle.dots.specs.declared.calls.Calls.{Calls}
use Rattle.dots.specs.declared.calls.Calls.TheVariants.{Completed, Abandoned}
use Rattle.operations.specs.Conditions.{DotFields}
use Rattle.operations.specs.Operations.{Operation, Setting, Add, Write, Remove, Count, SetPenalty, SetPause, SetLabel, SetRing}
use Rattle.operations.specs.Knowledge.{known_dots}
use Rattle.dots.specs.DotSets.{run_count}
use Rattle.operations.specs.Rows.{DotView}
use Rattle.replica.specs.declared.command.Command.{Command}
use Rattle.replica.specs.declared.command.Command.TheVariants as command
use Rattle.replica.specs.declared.refusal.Refusal.{Refusal}
use Rattle.replica.specs.declared.refusal.Refusal.TheVariants.{NoSuchQueue, AlreadyThere, NotThere, MembersFull, Exhausted, TotalFull}
use Rattle.replica.specs.Queues.{number_of}
use Rattle.replica.specs.SiteViews.{SiteView, greatest, older_dots, dots_seen, visible_with, known_with, is_past_limits}

-- A change that is asked of a site: to add an interface to a queue, to remove it from there, to set one field of it in one
-- queue or in every one that it is a member of, and to count a call of a queue.
pub data Change : Type 0 where
  AddMember : (queue interface : List ℕ) (penalty : ℕ) (paused : Bool) (label : Label) → Change
  RemoveMember : (queue interface : List ℕ) → Change
  SetField : (queue : Option (List ℕ)) (interface : List ℕ) (setting : Setting) → Change
  CountCall : (queue : List ℕ) (calls : Calls) → Change

-- the change that a command asks
abbrev pub change_of : Command → Change
change_of (command.Add queue interface penalty paused label) = AddMember queue interface penalty paused label
change_of (command.Remove queue interface) = RemoveMember queue interface
change_of (command.Pause queue interface pause) = SetField queue interface (SetPause pause)
change_of (command.Penalty queue interface penalty) = SetField queue interface (SetPenalty penalty)
change_of (command.RingInUse queue interface ring) = SetField queue interface (SetRing ring)
change_of (command.Completed queue) = CountCall queue Completed
change_of (command.Abandoned queue) = CountCall queue Abandoned

-- the meaning of a command: it is refused, or makes an operation
pub data Meaning : Type 0 where
  Refused : (refusal : Refusal) → Meaning
  Makes : (operation : Operation) → Meaning

-- the time of a setting; 0 where nothing is set
abbrev pub time_of : {T : Type 0} → Option (Entry T) → ℕ
time_of None = 0
time_of (Some entry) = entry.stamp.time

-- the time of what a setting replaces in fields: that of the same field; 0 where it isn't set
abbrev pub time_in : Setting → DotFields → ℕ
time_in (SetPenalty penalty) fields = time_of fields.penalty
time_in (SetPause pause) fields = time_of fields.pause
time_in (SetLabel label) fields = time_of fields.label
time_in (SetRing ring) fields = time_of fields.ring

-- the time of what a setting replaces on a dot: the latest setting of the same field
abbrev pub time_replaced : DotView → Setting → Dot → ℕ
time_replaced r setting dot = time_in setting (r.fields dot)

-- an add: the site's next count and time, and an empty reason
abbrev pub add_at : ℕ → SiteView → Member → ℕ → Bool → Label → Operation
add_at site r member penalty paused label =
    let dot : Dot = record { site = site; count = suc r.last_count } in
    Add dot member (record { time = suc r.last_time; site = site }) penalty (record { paused = paused; reason = [] }) label (older_dots r (dot ∷ []))

-- a write of one field on dots: later than all that the site has written itself, and than all that it replaces
abbrev pub write_at : ℕ → SiteView → Setting → List (Dot × Member) → Operation
write_at site r setting dots =
    Write dots setting (record { time = suc (max r.last_time (greatest (λ d. time_replaced r.dots setting d.0) dots)); site = site })
    (older_dots r (each (λ d. d.0) dots))

-- a remove of dots
abbrev pub remove_of : List (Dot × Member) → Operation
remove_of dots = Remove (set.from_list (each (λ d. d.0) dots))

-- one call more than the site has counted
abbrev pub count_at : ℕ → SiteView → ℕ → Calls → Operation
count_at site r queue calls = Count site queue calls (suc (r.totals site queue calls))

-- whether a site view is too full for one operation more: the visible dots or the runs of the known ones would be too many
abbrev pub is_full : SiteView → Operation → Bool
is_full r o = is_past_limits (visible_with r o) (known_with r o)

-- whether an operation alone has too many runs
abbrev pub is_too_long : Operation → Bool
is_too_long o = nat_lt MOST_RUNS (run_count (known_dots (o ∷ [])))

-- whether a number is past the greatest count and time
abbrev pub is_used_up : ℕ → Bool
is_used_up n = nat_lt MOST_COUNT n

-- whether an operation needs a count or a time past the greatest
abbrev pub is_exhausted : Operation → Bool
is_exhausted (Add dot member stamp penalty pause label older) = is_used_up dot.count || is_used_up stamp.time
is_exhausted (Write dots setting stamp older) = is_used_up stamp.time
is_exhausted (Remove dots) = false
is_exhausted (Count site queue calls total) = false

-- whether an operation needs a total past the greatest
abbrev pub is_past_total : Operation → Bool
is_past_total (Add dot member stamp penalty pause label older) = false
is_past_total (Write dots setting stamp older) = false
is_past_total (Remove dots) = false
is_past_total (Count site queue calls total) = nat_lt MOST_CALLS total

-- the meaning of an operation at the views of the knowledge and of the buffer: it is made if it is within the limits; the refusals
-- are in order
abbrev pub within_limits : SiteView → SiteView → Operation → Meaning
within_limits r buffer o =
    if is_full r o || (is_full buffer o || is_too_long o) then Refused MembersFull
    else if is_exhausted o then Refused Exhausted else if is_past_total o then Refused TotalFull else Makes o

-- the meaning in the queue of this number; `NoSuchQueue` if there is none
abbrev pub in_queue : Option ℕ → (ℕ → Meaning) → Meaning
in_queue None go = Refused NoSuchQueue
in_queue (Some queue) go = go queue

-- the meaning of an add if no dot of its member is seen; else `AlreadyThere`
abbrev pub where_absent : List (Dot × Member) → Meaning → Meaning
where_absent [] made = made
where_absent (d ∷ ds) made = Refused AlreadyThere

-- the meaning of a change if some dot is seen; else `NotThere`
abbrev pub where_present : List (Dot × Member) → Meaning → Meaning
where_present [] made = Refused NotThere
where_present (d ∷ ds) made = made

-- the meaning of a setting on the dots that are seen
abbrev pub meaning_of_setting : ℕ → SiteView → SiteView → Setting → List (Dot × Member) → Meaning
meaning_of_setting site r buffer setting dots = where_present dots (within_limits r buffer (write_at site r setting dots))

-- the meaning of a change at a site with these queues, with these views of its knowledge and of its buffer
abbrev pub meaning : ℕ → List (List ℕ) → SiteView → SiteView → Change → Meaning
meaning site names r buffer (AddMember queue interface penalty paused label) = in_queue (number_of names queue) (λ q.
    where_absent (dots_seen r.dots (Some q) interface)
    (within_limits r buffer (add_at site r (record { queue = q; interface = interface }) penalty paused label)))
meaning site names r buffer (RemoveMember queue interface) = in_queue (number_of names queue) (λ q.
    where_present (dots_seen r.dots (Some q) interface) (within_limits r buffer (remove_of (dots_seen r.dots (Some q) interface))))
meaning site names r buffer (SetField None interface setting) = meaning_of_setting site r buffer setting (dots_seen r.dots None interface)
meaning site names r buffer (SetField (Some queue) interface setting) = in_queue (number_of names queue) (λ q.
    meaning_of_setting site r buffer setting (dots_seen r.dots (Some q) interface))
meaning site names r buffer (CountCall queue calls) = in_queue (number_of names queue) (λ q. within_limits r buffer (count_at site r q calls))
