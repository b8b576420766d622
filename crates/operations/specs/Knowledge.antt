-- A knowledge is a set of operations: all that a site has made or taken. It is written as a list. What is read of a consistent one
-- depends only on the operations in it, not on their order or repetition.
use Rattle.std.specs.Prelude.{◌≡◌, ◌≢◌, ◌↔◌, Bool, not, List, [], ◌∷◌, Option, Some, None, map, Contains, if◌then◌else◌}
use Rattle.std.specs.List.{list_any, flat_map, filter_map, find}
use Rattle.std.specs.Option.{option_map}
use Rattle.std.specs.FinSet as set
use Rattle.std.specs.Ordering.{eq_by_cmp}
use Rattle.std.specs.declared.cmp.Ordering.TheVariants.{Less}
use Rattle.dots.specs.declared.member.Member.{Member}
use Rattle.dots.specs.Values.{Dot}
use Rattle.dots.specs.Orders.{dot_cmp, stamp_cmp}
use Rattle.operations.specs.Registers.{Entry, join_of}
use Rattle.operations.specs.Operations.{Operation, Field, asserted_by, named_by, penalty_field, pause_field, label_field, ring_field}

-- what a replica knows: the operations that it has made or taken; where they are consistent, their order makes no difference
abbrev pub Knowledge : Type 0
Knowledge = List Operation

-- whether two dots are one: of the same site and the same count
abbrev pub is_dot : Dot → Dot → Bool
is_dot = eq_by_cmp dot_cmp

-- whether operation `o` asserts `dot`: it is the add that makes the dot, or a write that sets a
-- field on it
abbrev pub asserts : Dot → Operation → Bool
asserts dot o = list_any (λ p. is_dot dot p.0) (asserted_by o)

-- whether operation `o` names `dot`, which is dead from then on (RR-8083)
abbrev pub names : Dot → Operation → Bool
names dot o = set.contains (named_by o) dot

-- whether some operation of knowledge `k` asserts `dot`
abbrev pub is_asserted : Knowledge → Dot → Bool
is_asserted k dot = list_any (asserts dot) k

-- whether some operation of knowledge `k` names `dot`, so that the dot is dead
abbrev pub is_named : Knowledge → Dot → Bool
is_named k dot = list_any (names dot) k

-- all dots that operations of knowledge `k` assert, each with its member, operation by operation
abbrev pub all_asserted : Knowledge → List (Dot × Member)
all_asserted k = flat_map asserted_by k

-- the set of the dots that some operation of knowledge `k` asserts
unfoldable pub asserted_dots : Knowledge → set.FinSet dot_cmp
asserted_dots k = set.from_list (map (λ p. p.0) (all_asserted k))

-- the set of the dots that some operation of a knowledge names
unfoldable pub named_dots : Knowledge → set.FinSet dot_cmp
named_dots [] = set.empty
named_dots (o ∷ k) = set.union (named_by o) (named_dots k)

-- the visible dots of knowledge `k`: some operation asserts them, and none names them (RR-8083)
unfoldable pub visible_dots : Knowledge → set.FinSet dot_cmp
visible_dots k = set.retain (asserted_dots k) (λ dot. not (is_named k dot))

-- the known dots of knowledge `k`: some operation asserts or names them
unfoldable pub known_dots : Knowledge → set.FinSet dot_cmp
known_dots k = set.union (asserted_dots k) (named_dots k)

-- the member of `dot` in knowledge `k`: the one of the first operation that asserts the dot; `None` if none does
abbrev pub member_of : Knowledge → Dot → Option Member
member_of k dot = option_map (λ p. p.1) (find (λ p. is_dot dot p.0) (all_asserted k))

-- the entries that operations of knowledge `k` which assert `dot` set of `field`, in the order of
-- the operations
abbrev pub settings_of : {T : Type 0} → Field T → Knowledge → Dot → List (Entry T)
settings_of field k dot = filter_map (λ o. if asserts dot o then field o else None) k

-- `entry` is the field of `dot` in knowledge `k`: an operation that asserts the dot sets it, and no
-- such operation sets one under a greater stamp (RR-7506's last-writer register)
pub record IsFieldOf {T : Type 0} (field : Field T) (k : Knowledge) (dot : Dot) (entry : Entry T) : Type 0 where
  pub given : Contains (settings_of field k dot) entry
  pub latest : (e : Entry T) → Contains (settings_of field k dot) e → stamp_cmp entry.stamp e.stamp ≢ Less

-- the entry of the greatest stamp in a list of entries, for equal stamps the first; `None` where the list is empty
abbrev pub latest_of : {T : Type 0} → List (Entry T) → Option (Entry T)
latest_of [] = None
latest_of (e ∷ es) = join_of (Some e) (latest_of es)

-- the field of `dot` in knowledge `k`, computed: of the entries that operations which assert the dot set, the one of the greatest
-- stamp, for equal stamps the first
abbrev pub field_of : {T : Type 0} → Field T → Knowledge → Dot → Option (Entry T)
field_of field k dot = latest_of (settings_of field k dot)

-- knowledges `k` and `l` have the same operations, in whatever order and however often
abbrev pub SameOperations : Knowledge → Knowledge → Type 0
SameOperations k l = (o : Operation) → (Contains k o ↔ Contains l o)

-- in knowledge `k` each stamp gives `field` of a dot one value
abbrev pub OneValue : {T : Type 0} → Field T → Knowledge → Type 0
OneValue {T} field k = (dot : Dot) (a b : Entry T) → Contains (settings_of field k dot) a → Contains (settings_of field k dot) b → a.stamp ≡ b.stamp → a.value ≡ b.value

-- in knowledge `k` each dot has one member, and each stamp gives a field of a dot one value
pub record IsConsistent (k : Knowledge) : Type 0 where
  pub members : (dot : Dot) (m n : Member) → Contains (all_asserted k) (dot, m) → Contains (all_asserted k) (dot, n) → m ≡ n
  pub penalties : OneValue penalty_field k
  pub pauses : OneValue pause_field k
  pub labels : OneValue label_field k
  pub rings : OneValue ring_field k
