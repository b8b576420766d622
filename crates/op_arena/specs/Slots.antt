-- The values and the spent ids of an arena's cells. Only this crate's own clauses cite this module.
use Rattle.std.specs.Prelude.{◌≡◌, ℕ, zero, suc, ◌+◌, ◌≤◌, ◌^◌, Bool, true, false, cond, nat_eq, List, [], ◌∷◌, ◌++◌, length, slice_get, is_some, Option, Some, None}
use Rattle.std.specs.FinMap as map
use Rattle.std.specs.FinSet as set
use Rattle.op_arena.specs.Ids.{Id, id_of, id_cmp}
use Rattle.op_arena.specs.declared.slot.Slot.{Slot}
use Rattle.op_arena.specs.declared.slot.State.{State}
use Rattle.op_arena.specs.declared.slot.State.TheVariants.{Free, Held, Retired}

-- the ids of the cell of index `i` in the generations before a given one
abbrev pub ids_before : ℕ → ℕ → List Id
ids_before i zero = []
ids_before i (suc g) = id_of i g ∷ ids_before i g

-- how many items of a list pass the test `p`
abbrev pub count : {X : Type 0} → (X → Bool) → List X → ℕ
count p [] = 0
count p (x ∷ xs) = cond (p x) 1 0 + count p xs

module _ {T : Type 0} where
  -- a cell of generation `g` in the state `s`
  abbrev pub slot : ℕ → State T → Slot T
  slot g s = record { generation = g; state = s }

  -- the value of a cell in a given state, if it holds one
  abbrev pub value_of : State T → Option T
  value_of (Free next) = None
  value_of (Held value) = Some value
  value_of Retired = None

  -- a state is that of a free cell, whichever is the next free one
  abbrev pub IsFree : State T → Type 0
  IsFree s = (next : Option ℕ) × (s ≡ Free next)

  -- whether cell `s` holds a value
  abbrev pub is_held : Slot T → Bool
  is_held s = is_some (value_of s.state)

  -- whether a state is that of a retired cell, which isn't used again
  abbrev pub state_retired : State T → Bool
  state_retired (Free next) = false
  state_retired (Held value) = false
  state_retired Retired = true

  -- whether cell `s` is retired, so not used again
  abbrev pub is_retired : Slot T → Bool
  is_retired s = state_retired s.state

  -- a cell of generation `g` after its value was taken: free in its next generation, before `next`,
  -- or retired if `g` is the `last` one
  abbrev pub emptied : ℕ → ℕ → Option ℕ → Slot T
  emptied last g next = cond (nat_eq g last) (slot g Retired) (slot (g + 1) (Free next))

  -- how many generations of a cell in generation `g` are spent: those before it, and where the cell
  -- is retired also this one
  abbrev pub spent_at : ℕ → State T → ℕ
  spent_at g (Free next) = g
  spent_at g (Held value) = g
  spent_at g Retired = suc g

  -- the entry of `id` before `entries`, if it has a value
  abbrev pub with_value : Id → Option T → List (Id × T) → List (Id × T)
  with_value id None entries = entries
  with_value id (Some value) entries = (id, value) ∷ entries

  -- the values of a list of cells with their ids, where the first cell has the index `i`
  abbrev pub entries_from : ℕ → List (Slot T) → List (Id × T)
  entries_from i [] = []
  entries_from i (s ∷ slots) = with_value (id_of i s.generation) (value_of s.state) (entries_from (suc i) slots)

  -- the spent ids of a list of cells, where the first cell has the index `i`
  abbrev pub spent_from : ℕ → List (Slot T) → List Id
  spent_from i [] = []
  spent_from i (s ∷ slots) = ids_before i (spent_at s.generation s.state) ++ spent_from (suc i) slots

  -- the values that the cells `slots` hold, by their ids
  unfoldable pub held_in : List (Slot T) → map.FinMap id_cmp T
  held_in slots = map.from_entries (entries_from 0 slots)

  -- the spent ids of the cells `slots`
  unfoldable pub spent_in : List (Slot T) → set.FinSet id_cmp
  spent_in slots = set.from_list (spent_from 0 slots)

  -- as many free cells as the number says are linked, beginning with `first`: each names the next,
  -- and the last names none
  abbrev pub IsFreeList : List (Slot T) → ℕ → Option ℕ → Type 0
  IsFreeList slots zero first = first ≡ None
  IsFreeList slots (suc n) first = (i : ℕ) × (g : ℕ) × (next : Option ℕ) × (first ≡ Some i) × (slice_get slots i ≡ Some (slot g (Free next))) × IsFreeList slots n next

  -- a cell in generation `g` isn't past the generation `last`, and is retired only in just that one
  abbrev pub KeepsLast : ℕ → ℕ → State T → Type 0
  KeepsLast last g (Free next) = g ≤ last
  KeepsLast last g (Held value) = g ≤ last
  KeepsLast last g Retired = g ≡ last

  -- the cells of an arena: `held` hold a value, `retired` are retired, and the others are linked as free from `first` on;
  -- `capacity`, at most 2^20, is enough for all of them, and no generation is past `last`
  pub record IsArena (last : ℕ) (slots : List (Slot T)) (capacity : ℕ) (first : Option ℕ) (held retired : ℕ) : Type 0 where
    pub counts_held : held ≡ count is_held slots
    pub counts_retired : retired ≡ count is_retired slots
    pub keeps : (i : ℕ) (s : Slot T) → slice_get slots i ≡ Some s → KeepsLast last s.generation s.state
    pub free : ℕ
    pub total : free + (held + retired) ≡ length slots
    pub linked : IsFreeList slots free first
    pub within : length slots ≤ capacity
    pub limit : capacity ≤ 2 ^ 20
