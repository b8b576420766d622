-- What a plan makes of the frames that are cut.
use Rattle.std.specs.Prelude.{ℕ, ◌+◌, ◌%◌, List, [], ◌∷◌, ◌++◌, length, slice_index_or}
use Rattle.site_pumps.specs.declared.deed.Deed.{Deed}
use Rattle.site_pumps.specs.declared.deed.Deed.TheVariants.{Deliver, Lose, Twice, Hold}

-- the deed for the frame of this number: the deeds are used in turn, after the last the first; where there are none, each frame is delivered
abbrev pub deed_at : List Deed → ℕ → Deed
deed_at [] number = Deliver
deed_at (deed ∷ deeds) number = slice_index_or (deed ∷ deeds) (number % length (deed ∷ deeds)) Deliver

-- what is sent for a frame, where these frames are held
abbrev pub sent_for : Deed → List (List ℕ) → List ℕ → List (List ℕ)
sent_for Deliver held frame = frame ∷ held
sent_for Lose held frame = held
sent_for Twice held frame = frame ∷ frame ∷ held
sent_for Hold held frame = []

-- the frames that are held after a frame of this deed, where these were held before
abbrev pub held_after : Deed → List (List ℕ) → List ℕ → List (List ℕ)
held_after Deliver held frame = []
held_after Lose held frame = []
held_after Twice held frame = []
held_after Hold held frame = held ++ frame ∷ []

-- what is sent for frames as they are cut, from this number on, where these are held before
abbrev pub sent_from : List Deed → ℕ → List (List ℕ) → List (List ℕ) → List (List ℕ)
sent_from plan number held [] = []
sent_from plan number held (frame ∷ frames) = sent_for (deed_at plan number) held frame ++ sent_from plan (number + 1) (held_after (deed_at plan number) held frame) frames

-- the frames that are held after frames are cut, from this number on, where these were held before
abbrev pub held_from : List Deed → ℕ → List (List ℕ) → List (List ℕ) → List (List ℕ)
held_from plan number held [] = held
held_from plan number held (frame ∷ frames) = held_from plan (number + 1) (held_after (deed_at plan number) held frame) frames

-- what is sent for all frames that are cut, then those that are still held, and the whole states after them
abbrev pub planned : List Deed → List (List ℕ) → List (List ℕ) → List (List ℕ)
planned plan frames wholes = sent_from plan 0 [] frames ++ held_from plan 0 [] frames ++ wholes
