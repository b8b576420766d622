-- The comments before the script of an audit.
use Rattle.std.specs.Prelude.{ℕ, ◌++◌, List, ◌∷◌, length, map, codes, decimal}
use Rattle.hex.specs.Hex.{encode_lower}
use Rattle.site_audit.specs.Runs.{names_in}
use Rattle.store_audit.specs.declared.store_journal.StoreJournal.{StoreJournal}
use Rattle.store_audit.specs.Stores.{journals_of, site_number}

-- the line that says how many sites there are
abbrev pub sites_line : ℕ → List ℕ
sites_line sites = codes "# sites: " ++ decimal sites

-- the line of a queue
abbrev pub queue_line : List ℕ → List ℕ
queue_line name = codes "# queue: " ++ name

-- the numbers of the line of a store: how often its site was started, and how many steps it has
abbrev pub numbers_text : ℕ → ℕ → List ℕ
numbers_text starts steps = codes ", starts: " ++ (decimal starts ++ (codes ", steps: " ++ decimal steps))

-- the line of a store: its site, its name in hexadecimal and its numbers
abbrev pub store_line : StoreJournal → List ℕ
store_line store =
    codes "# site " ++ (decimal (site_number store) ++ (codes ": store " ++ (encode_lower store.name ++ numbers_text store.starts (length store.journal.steps))))

-- the heading of stores: how many there are, the queues of the first, and a line for each
abbrev pub heading_lines : List StoreJournal → List (List ℕ)
heading_lines stores = sites_line (length stores) ∷ (map queue_line (names_in (journals_of stores)) ++ map store_line stores)
