-- What waits for a peer (this project's own).
use Rattle.std.specs.Prelude.{ℕ, ◌≡◌, ◌≢◌, ◌⊎◌, ◌↔◌, ◌+◌, ◌<◌, ◌≤◌, Bool, IsTrue, List, Option, None, Some, [], ◌∷◌, ◌++◌, drop, false, length, true}
use Rattle.sha2.specs.Sha256.{sha256}
use Rattle.peer_box.specs.Boxes.{BoxState, bytes_waiting, emptied}

-- a queue: its box of frames, the whole that waits before them, whether a whole is asked for, whether one is being made for it, the
-- digest of what the last one says, and whether memory was refused that is still lacking
pub record QueueState : Type 0 where
  pub box : BoxState
  pub whole : Option (List ℕ)
  pub asked : Bool
  pub making : Bool
  pub last : Option (List ℕ)
  pub lacking : Bool

-- the queue of a peer that isn't connected
abbrev pub new_queue : ℕ → QueueState
new_queue limit = record { box = record { limit = limit; is_open = false; whole_due = false; frames = [] }; whole = None; asked = false; making = false; last = None; lacking = false }

-- a queue whose peer has just connected
abbrev pub opened : QueueState → QueueState
opened queue = record { box = record queue.box { is_open = true; whole_due = true; frames = [] }; whole = None; asked = false; making = false; last = None; lacking = false }

-- a queue whose peer isn't connected any more
abbrev pub closed : QueueState → QueueState
closed queue = record { box = record queue.box { is_open = false; whole_due = false; frames = [] }; whole = None; asked = false; making = false; last = None; lacking = false }

-- the digest of what a frame says: of its bytes after its heading
abbrev pub content_digest : List ℕ → List ℕ
content_digest frame = sha256 (drop 16 frame)

-- a whole is to be made for the peer: it is connected, and a whole is due, asked for, or being made
abbrev pub WantsWhole : QueueState → Type 0
WantsWhole queue = (queue.box.is_open ≡ true) × ((queue.box.whole_due ≡ true) ⊎ (queue.asked ≡ true) ⊎ (queue.making ≡ true))

-- a queue whose whole is being made, which answers each ask so far
abbrev pub begun : QueueState → QueueState
begun queue = record queue { asked = false; making = true }

-- a whole begins to be made for a queue exactly if it wants one
pub record IsBegun (old : QueueState) (wants : Bool) (new : QueueState) : Type 0 where
  pub says : IsTrue wants ↔ WantsWhole old
  pub wanted : WantsWhole old → new ≡ begun old
  pub unwanted : (WantsWhole old → ⊥) → new ≡ old

-- a whole with this digest is news: a whole is due, or the last one says something else
abbrev pub IsNews : QueueState → List ℕ → Type 0
IsNews queue digest = (queue.box.whole_due ≡ true) ⊎ (queue.last ≢ Some digest)

-- a queue after a frame more
abbrev pub with_frame : QueueState → List ℕ → QueueState
with_frame queue frame = record queue { box = record queue.box { frames = queue.box.frames ++ frame ∷ [] } }

-- a queue that has given up its frames, so that a whole is due
abbrev pub without_frames : QueueState → QueueState
without_frames queue = record queue { box = emptied queue.box }

-- a queue that was given a whole, which waits alone
abbrev pub with_whole : QueueState → List ℕ → QueueState
with_whole queue whole = record queue {
  box = record queue.box { whole_due = false; frames = [] };
  whole = Some whole;
  making = false;
  last = Some (content_digest whole);
  lacking = false;
}

-- a queue to which memory was refused
abbrev pub out_of_memory : QueueState → QueueState
out_of_memory queue = record queue { lacking = true }

-- a whole that waits stands before the frames
abbrev pub before_frames : Option (List ℕ) → List (List ℕ) → List (List ℕ)
before_frames None frames = frames
before_frames (Some whole) frames = whole ∷ frames

-- what waits, in the order in which it is sent
abbrev pub waiting : QueueState → List (List ℕ)
waiting queue = before_frames queue.whole queue.box.frames

-- a frame was put into a queue: it waits last if it has room, unless memory is lacking; without room or memory all frames are given up, and a whole is due
pub record IsPut (old : QueueState) (frame : List ℕ) (new : QueueState) : Type 0 where
  pub ignored : (old.box.is_open ≡ false) ⊎ (old.box.whole_due ≡ true) → new ≡ old
  pub full : old.box.is_open ≡ true → old.box.whole_due ≡ false → old.box.limit < bytes_waiting old.box.frames + length frame → new ≡ without_frames old
  pub kept : old.box.is_open ≡ true → old.box.whole_due ≡ false → bytes_waiting old.box.frames + length frame ≤ old.box.limit
      → (new ≡ with_frame old frame) ⊎ (new ≡ out_of_memory (without_frames old))

-- a queue was given a whole: it waits if it was made for the queue and is news, unless memory is lacking
pub record IsGiven (old : QueueState) (whole : List ℕ) (new : QueueState) : Type 0 where
  pub earlier : old.making ≡ false → new ≡ old
  pub same : old.making ≡ true → (IsNews old (content_digest whole) → ⊥) → new ≡ record old { making = false }
  pub given : old.making ≡ true → IsNews old (content_digest whole) → (new ≡ with_whole old whole) ⊎ (new ≡ out_of_memory old)

-- what has waited longest was taken from a queue
pub record IsTakenFrom (old : QueueState) (item : List ℕ) (new : QueueState) : Type 0 where
  pub first : waiting old ≡ item ∷ waiting new
  pub stays_open : new.box.is_open ≡ old.box.is_open
  pub stays_due : new.box.whole_due ≡ old.box.whole_due

-- what happens to a queue between two wholes: a frame is put, or what has waited longest is taken
pub data QueueEvent : Type 0 where
  Put : (frame : List ℕ) → QueueEvent
  Taken : (item : List ℕ) → QueueEvent

-- the frames that are put
abbrev pub all_put : List QueueEvent → List (List ℕ)
all_put [] = []
all_put (Put frame ∷ events) = frame ∷ all_put events
all_put (Taken item ∷ events) = all_put events

-- what is taken
abbrev pub all_taken : List QueueEvent → List (List ℕ)
all_taken [] = []
all_taken (Put frame ∷ events) = all_taken events
all_taken (Taken item ∷ events) = item ∷ all_taken events

-- these events lead a queue from one state to another
abbrev pub HaveHappened : QueueState → List QueueEvent → QueueState → Type 0
HaveHappened old [] new = new ≡ old
HaveHappened old (Put frame ∷ events) new = (between : QueueState) × IsPut old frame between × HaveHappened between events new
HaveHappened old (Taken item ∷ events) new = (between : QueueState) × IsTakenFrom old item between × HaveHappened between events new
