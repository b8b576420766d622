-- Operations: the changes that sites make, each of which is made once (RR-7506). An add makes a new dot, and a remove
-- names the dots that its site sees (RR-8083's observed-remove set).
use Rattle.std.specs.Prelude.{ℕ, Bool, List, [], ◌∷◌, Option, Some, None}
use Rattle.std.specs.FinSet as set
use Rattle.dots.specs.declared.calls.Calls.{Calls}
use Rattle.dots.specs.declared.label.Label.{Label}
use Rattle.dots.specs.declared.member.Member.{Member}
use Rattle.dots.specs.Values.{Dot, Stamp, PauseState}
use Rattle.dots.specs.Orders.{dot_cmp}
use Rattle.operations.specs.Registers.{Entry}

-- a value for one field of a member; a field more is a constructor more
pub data Setting : Type 0 where
  SetPenalty : ℕ → Setting
  SetPause : PauseState → Setting
  SetLabel : Label → Setting
  SetRing : Bool → Setting

-- An Add makes a dot of a member and sets its penalty, pause and label under one stamp. A Write sets one field on dots that its
-- site sees. Both also name older dots that are dead at their site. A Remove names the dots that its site sees. A Count says
-- how many calls a site has counted in a queue so far.
pub data Operation : Type 0 where
  Add : (dot : Dot) (member : Member) (stamp : Stamp) (penalty : ℕ) (pause : PauseState) (label : Label) (older : set.FinSet dot_cmp) → Operation
  Write : (dots : List (Dot × Member)) (setting : Setting) (stamp : Stamp) (older : set.FinSet dot_cmp) → Operation
  Remove : (dots : set.FinSet dot_cmp) → Operation
  Count : (site queue : ℕ) (calls : Calls) (total : ℕ) → Operation

-- the dots that an operation asserts, each with its member: the one that an add makes, or those
-- that a write sets a field of
abbrev pub asserted_by : Operation → List (Dot × Member)
asserted_by (Add dot member stamp penalty pause label older) = (dot, member) ∷ []
asserted_by (Write dots setting stamp older) = dots
asserted_by (Remove dots) = []
asserted_by (Count site queue calls total) = []

-- the dots that an operation names, so that they are dead from then on: those that a remove
-- removes, and the older dots of an add or a write
abbrev pub named_by : Operation → set.FinSet dot_cmp
named_by (Add dot member stamp penalty pause label older) = older
named_by (Write dots setting stamp older) = older
named_by (Remove dots) = dots
named_by (Count site queue calls total) = set.empty

-- a field, as what an operation sets of it on the dots that it asserts: a value with its stamp, or
-- nothing
abbrev pub Field : Type 0 → Type 0
Field T = Operation → Option (Entry T)

-- the penalty that a setting sets; `None` where it sets another field
abbrev pub set_penalty : Setting → Option ℕ
set_penalty (SetPenalty n) = Some n
set_penalty (SetPause p) = None
set_penalty (SetLabel l) = None
set_penalty (SetRing r) = None

-- the pause that a setting sets; `None` where it sets another field
abbrev pub set_pause : Setting → Option PauseState
set_pause (SetPenalty n) = None
set_pause (SetPause p) = Some p
set_pause (SetLabel l) = None
set_pause (SetRing r) = None

-- the label that a setting sets; `None` where it sets another field
abbrev pub set_label : Setting → Option Label
set_label (SetPenalty n) = None
set_label (SetPause p) = None
set_label (SetLabel l) = Some l
set_label (SetRing r) = None

-- the ring that a setting sets; `None` where it sets another field
abbrev pub set_ring : Setting → Option Bool
set_ring (SetPenalty n) = None
set_ring (SetPause p) = None
set_ring (SetLabel l) = None
set_ring (SetRing r) = Some r

-- a value, where there is one, as the entry of a register under `stamp`
abbrev pub entry_under : {T : Type 0} → Stamp → Option T → Option (Entry T)
entry_under stamp None = None
entry_under stamp (Some value) = Some (record { stamp = stamp; value = value })

-- the field penalty: the one that an operation sets, under its stamp; `None` where it sets no penalty
abbrev pub penalty_field : Field ℕ
penalty_field (Add dot member stamp penalty pause label older) = entry_under stamp (Some penalty)
penalty_field (Write dots setting stamp older) = entry_under stamp (set_penalty setting)
penalty_field (Remove dots) = None
penalty_field (Count site queue calls total) = None

-- the field pause: the one that an operation sets, under its stamp; `None` where it sets no pause
abbrev pub pause_field : Field PauseState
pause_field (Add dot member stamp penalty pause label older) = entry_under stamp (Some pause)
pause_field (Write dots setting stamp older) = entry_under stamp (set_pause setting)
pause_field (Remove dots) = None
pause_field (Count site queue calls total) = None

-- the field label: the one that an operation sets, under its stamp; `None` where it sets no label
abbrev pub label_field : Field Label
label_field (Add dot member stamp penalty pause label older) = entry_under stamp (Some label)
label_field (Write dots setting stamp older) = entry_under stamp (set_label setting)
label_field (Remove dots) = None
label_field (Count site queue calls total) = None

-- the field ring: the one that an operation sets, under its stamp; `None` where it sets no ring, as no
-- add does
abbrev pub ring_field : Field Bool
ring_field (Add dot member stamp penalty pause label older) = None
ring_field (Write dots setting stamp older) = entry_under stamp (set_ring setting)
ring_field (Remove dots) = None
ring_field (Count site queue calls total) = None
