-- The report that answers QueueStatus, block by block (Asterisk's QueueStatus; which fields there are, and their
-- order, are this project's own).
use Rattle.std.specs.Prelude.{ℕ, ◌+◌, Bool, true, if◌then◌else◌, ◌||◌, List, [], ◌∷◌, ◌++◌, length, map as each, filter, Option, None, Some, codes, decimal, bytes_eq}
use Rattle.std.specs.List.{concat}
use Rattle.dots.specs.declared.call_totals.CallTotals.{CallTotals}
use Rattle.operations.specs.Rows.{MemberRow}
use Rattle.replica.specs.Site.{SiteState, rows_of, sums_of}
use Rattle.status_report.specs.declared.request.StatusRequest.{StatusRequest}
use Rattle.ami_text.specs.WrittenLines.{field, action_id_line}

-- an interface with its row
abbrev pub Row : Type 0
Row = List ℕ × MemberRow

-- a text of a member as it is shown: the interface where it is empty
abbrev pub text_shown : List ℕ → List ℕ → List ℕ
text_shown [] interface = interface
text_shown (x ∷ xs) interface = x ∷ xs

-- whether the request selects this queue: it has no filter, or that is the queue's name
abbrev pub is_queue_wanted : Option (List ℕ) → List ℕ → Bool
is_queue_wanted None name = true
is_queue_wanted (Some wanted) name = bytes_eq wanted name

-- whether the request selects this member: it has no filter, or that is its interface or its name as it is shown
abbrev pub is_member_wanted : Option (List ℕ) → Row → Bool
is_member_wanted None row = true
is_member_wanted (Some wanted) row = bytes_eq wanted row.0 || bytes_eq wanted (text_shown row.1.name row.0)

-- the lines that begin an event: its name, and the ActionID
abbrev pub event_lines : List ℕ → List ℕ → List ℕ
event_lines action_id name = field (codes "Event") name ++ action_id_line action_id

-- the end of a block: an empty line
abbrev pub end : List ℕ
end = codes "\r\n"

-- the block that opens the report
abbrev pub opening : List ℕ → List ℕ
opening action_id =
    field (codes "Response") (codes "Success")
    ++ (action_id_line action_id
    ++ (field (codes "EventList") (codes "start")
    ++ (field (codes "Message") (codes "Queue status will follow")
    ++ end)))

-- the block of a queue
abbrev pub queue_block : List ℕ → List ℕ → CallTotals → List ℕ
queue_block action_id name totals =
    event_lines action_id (codes "QueueParams")
    ++ (field (codes "Queue") name
    ++ (field (codes "Completed") (decimal totals.completed)
    ++ (field (codes "Abandoned") (decimal totals.abandoned)
    ++ end)))

-- the block of a member
abbrev pub member_block : List ℕ → List ℕ → Row → List ℕ
member_block action_id name row =
    event_lines action_id (codes "QueueMember")
    ++ (field (codes "Queue") name
    ++ (field (codes "Name") (text_shown row.1.name row.0)
    ++ (field (codes "Location") row.0
    ++ (field (codes "StateInterface") (text_shown row.1.state row.0)
    ++ (field (codes "Membership") (codes "dynamic")
    ++ (field (codes "Penalty") (decimal row.1.penalty)
    ++ (field (codes "Paused") (decimal (if row.1.paused then 1 else 0))
    ++ (field (codes "PausedReason") row.1.reason
    ++ (field (codes "RingInUse") (decimal (if row.1.ring then 1 else 0))
    ++ end)))))))))

-- the block that closes the report, with the number of blocks between
abbrev pub closing : List ℕ → ℕ → List ℕ
closing action_id items =
    event_lines action_id (codes "QueueStatusComplete")
    ++ (field (codes "EventList") (codes "Complete")
    ++ (field (codes "ListItems") (decimal items)
    ++ end))

-- the blocks of a queue's members that the request selects
abbrev pub member_blocks : StatusRequest → List ℕ → List Row → List (List ℕ)
member_blocks request name rows = each (member_block request.action_id name) (filter (is_member_wanted request.member) rows)

-- the blocks of a queue: its own and its members', none if the request doesn't select it
abbrev pub queue_blocks : StatusRequest → List ℕ → CallTotals → List Row → List (List ℕ)
queue_blocks request name totals rows =
    if is_queue_wanted request.queue name then queue_block request.action_id name totals ∷ member_blocks request name rows else []

-- the blocks of the queues of these names, the first of which has this number
abbrev pub blocks : StatusRequest → (ℕ → CallTotals) → (ℕ → List Row) → ℕ → List (List ℕ) → List (List ℕ)
blocks request totals rows number [] = []
blocks request totals rows number (name ∷ names) = queue_blocks request name (totals number) (rows number) ++ blocks request totals rows (number + 1) names

-- the report of the queues of these names, with each one's totals and rows by its number
abbrev pub status_text : List (List ℕ) → (ℕ → CallTotals) → (ℕ → List Row) → StatusRequest → List ℕ
status_text names totals rows request =
    opening request.action_id
    ++ (concat (blocks request totals rows 0 names)
    ++ closing request.action_id (length (blocks request totals rows 0 names)))

-- the report of a site: of its queues, with the totals and the rows that its state shows
abbrev pub report_of : SiteState → StatusRequest → List ℕ
report_of site request = status_text site.names (sums_of site) (rows_of site) request

-- the blocks of the queue of this number and name, none where there is no such name
abbrev pub blocks_named : StatusRequest → (ℕ → CallTotals) → (ℕ → List Row) → ℕ → Option (List ℕ) → List (List ℕ)
blocks_named request totals rows number None = []
blocks_named request totals rows number (Some name) = queue_blocks request name (totals number) (rows number)
