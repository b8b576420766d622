-- The ids of live dots: which exist after a change, and which are spent and never used again.
use Rattle.std.specs.Prelude.{ℕ, ◌≡◌, ◌≢◌, ◌<◌, ◌⊎◌, true, false, nat_eq, Some, None}
use Rattle.std.specs.FinMap as map
use Rattle.std.specs.FinSet as set
use Rattle.dots.specs.Values.{Dot}
use Rattle.dots.specs.Orders.{dot_cmp}
use Rattle.op_arena.specs.Ids.{Id, id_cmp, id_of}

-- the ids of live dots
abbrev pub IdMap : Type 0
IdMap = map.FinMap dot_cmp Id

-- the ids of removed dots
abbrev pub IdSet : Type 0
IdSet = set.FinSet id_cmp

-- the number of retired places: that many ids of the last generation are spent
abbrev pub retired_of : ℕ → IdSet → ℕ
retired_of last spent = set.len (set.retain spent (λ id. nat_eq id.generation last))

-- no two dots have one id, and none that is spent
pub record AreIdsApart (ids : IdMap) (spent : IdSet) : Type 0 where
  pub one : (dot other : Dot) (id : Id) → map.get ids dot ≡ Some id → map.get ids other ≡ Some id → dot ≡ other
  pub unspent : (dot : Dot) (id : Id) → map.get ids dot ≡ Some id → set.contains spent id ≡ false

-- an id that no dot had before, of which the lesser generations are spent now
pub record IsNew (ids : IdMap) (spent after : IdSet) (id : Id) : Type 0 where
  pub free : (dot : Dot) → map.get ids dot ≢ Some id
  pub unspent : set.contains spent id ≡ false
  pub lesser : (generation : ℕ) → generation < id.generation → set.contains after (id_of id.index generation) ≡ true

-- a dot had an id, and was removed
pub record HadId (ids after : IdMap) (id : Id) : Type 0 where
  pub dot : Dot
  pub had : map.get ids dot ≡ Some id
  pub gone : map.get after dot ≡ None

-- The ids after a change: a live dot keeps its id, a new live dot has an id that no dot had before, and the ids of removed
-- dots are spent, in addition to those that were spent before.
pub record IdsFollow (ids : IdMap) (spent : IdSet) (after : IdMap) (now : IdSet) : Type 0 where
  pub kept : (dot : Dot) (id : Id) → map.get ids dot ≡ Some id → (map.get after dot ≡ Some id) ⊎ (map.get after dot ≡ None)
  pub new : (dot : Dot) (id : Id) → map.get ids dot ≡ None → map.get after dot ≡ Some id → IsNew ids spent now id
  pub spent_before : (id : Id) → set.contains spent id ≡ true → set.contains now id ≡ true
  pub spent_now : (id : Id) → HadId ids after id → set.contains now id ≡ true
  pub spent_alone : (id : Id) → set.contains now id ≡ true → (set.contains spent id ≡ true) ⊎ HadId ids after id
