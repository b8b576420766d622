-- The line of each kind of row.
use Rattle.std.specs.Prelude.{ℕ, ◌++◌, Bool, List, [], Option, Some, None, length, codes, decimal, if◌then◌else◌}
use Rattle.std.specs.FinMap as map
use Rattle.std.specs.FinSet as set
use Rattle.std.specs.List.{enumerate_from, flat_map}
use Rattle.delta.specs.declared.frame.Frame.{Frame}
use Rattle.dots.specs.declared.label.Label.{Label}
use Rattle.dots.specs.Values.{PauseState}
use Rattle.hex.specs.Hex.{encode_lower}
use Rattle.replica.specs.declared.command.Command.{Command}
use Rattle.replica.specs.declared.command.Command.TheVariants.{Add, Remove, Pause, Penalty, RingInUse, Completed, Abandoned}
use Rattle.replica.specs.Site.{SiteState, rows_of}
use Rattle.stored_steps.specs.declared.base.StoredBase.{StoredBase}
use Rattle.store_listing.specs.declared.frames.FrameSummary.{FrameSummary}
use Rattle.store_listing.specs.Texts.{field, word, yes_or_no}

-- ---- a command

-- the queue of a command: `*` stands for every queue
abbrev pub queue_word : Option (List ℕ) → List ℕ
queue_word None = codes " *"
queue_word (Some queue) = word queue

-- the penalty
abbrev pub penalty_words : ℕ → List ℕ
penalty_words penalty = codes " penalty " ++ decimal penalty

-- whether the member is paused
abbrev pub paused_words : Bool → List ℕ
paused_words paused = codes " paused " ++ yes_or_no paused

-- the member name and the state interface, each if it has a byte
abbrev pub label_words : Label → List ℕ
label_words label = field (codes "name") label.name ++ field (codes "state") label.state

-- whether the member is paused, and the reason if it has a byte
abbrev pub pause_words : PauseState → List ℕ
pause_words pause = paused_words pause.paused ++ field (codes "reason") pause.reason

-- whether the member is rung while its device is in use
abbrev pub ring_words : Bool → List ℕ
ring_words ring = codes " ring " ++ yes_or_no ring

-- a command: its action, its queue, the interface, and every other field
abbrev pub command_words : Command → List ℕ
command_words (Add queue interface penalty paused label) =
    codes "QueueAdd" ++ (word queue ++ (word interface ++ (penalty_words penalty ++ (paused_words paused ++ label_words label))))
command_words (Remove queue interface) = codes "QueueRemove" ++ (word queue ++ word interface)
command_words (Pause queue interface pause) = codes "QueuePause" ++ (queue_word queue ++ (word interface ++ pause_words pause))
command_words (Penalty queue interface penalty) = codes "QueuePenalty" ++ (queue_word queue ++ (word interface ++ penalty_words penalty))
command_words (RingInUse queue interface ring) = codes "QueueMemberRingInUse" ++ (queue_word queue ++ (word interface ++ ring_words ring))
command_words (Completed queue) = codes "Completed" ++ word queue
command_words (Abandoned queue) = codes "Abandoned" ++ word queue

-- ---- a base

-- a queue with its number, and how many members it has
abbrev pub queue_members : SiteState → ℕ × List ℕ → List ℕ
queue_members site queue = word queue.1 ++ (codes " " ++ decimal (length (rows_of site queue.0)))

-- the queues of a site, each with how many members it has
abbrev pub all_members : SiteState → List ℕ
all_members site = flat_map (queue_members site) (enumerate_from 0 site.names)

-- the site of a base, and the name of its store
abbrev pub store_words : StoredBase → List ℕ
store_words base = codes "base: site " ++ (decimal base.replica.site ++ (codes ", store " ++ encode_lower base.name))

-- a base: site, name of the store, how often the site was started over it before, and members
abbrev pub base_words : StoredBase → List ℕ
base_words base = store_words base ++ (codes ", started " ++ (decimal base.starts ++ (codes " times, members" ++ all_members base.replica)))

-- ---- a frame

-- what is shown of a frame: all dots that it knows, and those of them that are live, are counted
abbrev pub summary_of : Frame → FrameSummary
summary_of frame = record {
  maker = frame.maker;
  number = frame.number;
  dots = set.len frame.delta.members.known;
  live = map.len frame.delta.members.live;
}

-- the number of a frame, and its maker
abbrev pub heading_words : FrameSummary → List ℕ
heading_words summary = codes "frame " ++ (decimal summary.number ++ (codes " of site " ++ decimal summary.maker))

-- how many dots a frame knows, and how many of them are live
abbrev pub count_words : FrameSummary → List ℕ
count_words summary = decimal summary.dots ++ (codes " dots (" ++ (decimal summary.live ++ codes " live)"))

-- a frame of this size in bytes
abbrev pub frame_words : FrameSummary → ℕ → List ℕ
frame_words summary size = heading_words summary ++ (codes ", " ++ (count_words summary ++ (codes ", " ++ (decimal size ++ codes " bytes"))))

-- ---- lines

-- the line of the row of a position, with these words
abbrev pub line_of : ℕ → List ℕ → List ℕ
line_of position words = decimal position ++ (codes " " ++ (words ++ codes "\n"))

-- the line of a start
abbrev pub start_line : ℕ → List ℕ
start_line position = line_of position (codes "start")

-- the line of a base
abbrev pub base_line : ℕ → StoredBase → List ℕ
base_line position base = line_of position (base_words base)

-- what stands before the words of a step: the position of its row, and its pass
abbrev pub step_front : ℕ → ℕ → List ℕ
step_front position pass = decimal position ++ (codes " pass " ++ (decimal pass ++ codes ": "))

-- the line of a step of this pass, with these words
abbrev pub step_line : ℕ → ℕ → List ℕ → List ℕ
step_line position pass words = step_front position pass ++ (words ++ codes "\n")

-- the line of a command that is done
abbrev pub ask_line : ℕ → ℕ → Command → List ℕ
ask_line position pass command = step_line position pass (command_words command ++ codes ": done")

-- the line of the bytes of a frame, where frames are shown
abbrev pub bytes_line : Bool → List ℕ → List ℕ
bytes_line with_frames bytes = if with_frames then encode_lower bytes ++ codes "\n" else []

-- the line of a frame that was moved as this word says, and the line of its bytes
abbrev pub frame_lines : Bool → ℕ → ℕ → List ℕ → Frame → List ℕ → List ℕ
frame_lines with_frames position pass moved frame bytes =
    step_line position pass (moved ++ (codes ": " ++ frame_words (summary_of frame) (length bytes))) ++ bytes_line with_frames bytes
