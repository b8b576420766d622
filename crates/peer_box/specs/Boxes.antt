-- What a peer's box is seen as (this project's own).
use Rattle.std.specs.Prelude.{ℕ, ◌≡◌, ◌+◌, Bool, List, [], ◌∷◌, false, length, true}
use Rattle.peer_box.specs.declared.peer_box.Due.{Due}
use Rattle.peer_box.specs.declared.peer_box.Due.TheVariants.{Frame, Nothing, Whole}

-- a box: how many bytes may wait, whether its peer is connected, whether a whole is due, and the frames that wait
pub record BoxState : Type 0 where
  pub limit : ℕ
  pub is_open : Bool
  pub whole_due : Bool
  pub frames : List (List ℕ)

-- how many bytes frames have together
abbrev pub bytes_waiting : List (List ℕ) → ℕ
bytes_waiting [] = 0
bytes_waiting (frame ∷ frames) = length frame + bytes_waiting frames

-- a box that has given up its frames, and in which a whole is due
abbrev pub emptied : BoxState → BoxState
emptied box = record box { whole_due = true; frames = [] }

-- what is due was taken: a whole first, which then is due no more, else the first of the frames, else nothing
abbrev pub IsTakenBy : BoxState → Due → BoxState → Type 0
IsTakenBy old Whole new = (old.whole_due ≡ true) × (new ≡ record old { whole_due = false })
IsTakenBy old (Frame bytes) new =
    (old.whole_due ≡ false) × (old.frames ≡ bytes ∷ new.frames) × (new ≡ record old { frames = new.frames })
IsTakenBy old Nothing new = (old.whole_due ≡ false) × (old.frames ≡ []) × (new ≡ old)
