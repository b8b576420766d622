-- The history of a site's steps, of which each thread has seen a prefix (this project's own).
use Rattle.std.specs.Prelude.{ℕ, ◌≡◌, ◌==◌, true, List, [], ◌∷◌, ◌++◌, length, MatchBool}
use Rattle.logbook.specs.Pages.{Book, Cell, Named, Step as Move, View}
use Rattle.site_journal.specs.declared.step.Step.{Step}

-- the first word of the book is the length of the history `log`; the second isn't used
pub record IsCounted (cells : List Cell) (log : List Step) : Type 0 where
  pub words : cells ≡ (length log, true) ∷ (0, true) ∷ []

-- the word that has the length of the history of `book`
abbrev pub length_word : Book → Named
length_word book = record { tracked = true; key = 0; book = book }

-- a step was added behind all that had been seen, where the history had the length that was expected
abbrev pub Appends : Move Step → View Step ℕ → ℕ → View Step ℕ → Type 0
Appends move old found new = MatchBool (found == move.old) (new.0 ≡ old.0 ++ move.ask ∷ []) (length new.0 ≡ found)

-- the name of no book, which stands where a call picks none
abbrev pub no_book : Book
no_book = record { number = 0; log_name = 0; cells_name = 0 }
