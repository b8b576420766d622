-- The mark: how many steps of a site's history are saved, by one keeper who raises it and by claims of others (this project's own).
use Rattle.std.specs.Prelude.{ℕ, ◌≡◌, ◌≤◌, true, false, cond, List, [], slice_index}
use mathlib.Core.Option.{some}
use lib.ListN.{get_elem?}
use Rattle.atomic_table.specs.Seated.{TableId}
use Rattle.stored_desk.specs.declared.mark.MarkView.{MarkView}

-- the keeper, which knows that the mark is `saved`
abbrev pub keeper_at : ℕ → MarkView
keeper_at saved = record { keeps = true; saved = saved; least = 0 }

-- a claim that the mark is at least `least`
abbrev pub claim_of : ℕ → MarkView
claim_of least = record { keeps = false; saved = 0; least = least }

-- the keeper `keeper`, with a claim `claim` to compare
abbrev pub beside : MarkView → MarkView → MarkView
beside keeper claim = record { keeps = keeper.keeps; saved = keeper.saved; least = claim.least }

-- what a pass of the number `pass` may know where the mark is `mark`, and the keeper's number is `seat`
pub record FitsMark (mark seat pass : ℕ) (v : MarkView) : Type 0 where
  pub keeper : v.keeps ≡ true → (pass ≡ seat) × (v.saved ≡ mark)
  pub claim : v.least ≤ mark

-- one pass at most is the keeper, which knows the mark, and no pass claims more than it
abbrev pub IsMarked : List ℕ → List MarkView → Type 0
IsMarked words views = (seat : ℕ) × ((pass : ℕ) (v : MarkView) → get_elem? views pass ≡ some v → FitsMark (slice_index words 0) seat pass v)

-- how many steps a pass knows to be saved
abbrev pub known_saved : MarkView → ℕ
known_saved v = cond v.keeps v.saved v.least

-- the keeper has set the mark, and what it had taken in claimed no more than the mark before
abbrev pub Raised : MarkView → List ℕ → List ℕ → MarkView → Type 0
Raised old before after new = (new ≡ keeper_at (slice_index after 0)) × (old.least ≤ old.saved)

-- the name of no table, which stands where a call picks none
abbrev pub no_table : TableId
no_table = record { words = 0; slots = 0; views_name = 0; atom = 0; block = 0; offset = 0; slot_names = [] }
