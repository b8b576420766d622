-- What holds of every world that events lead to: all that any site knows is part of one history, the operations that were ever made.
use Rattle.std.specs.Prelude.{ℕ, ◌≡◌, ◌<◌, true, List, Option, Some, None, Contains, length, slice_get}
use Rattle.std.specs.FinSet as set
use Rattle.dots.specs.declared.calls.Calls.{Calls}
use Rattle.dots.specs.declared.member.Member.{Member}
use Rattle.dots.specs.Values.{Dot, Stamp}
use Rattle.operations.specs.Operations.{Operation, Add, Write, Remove, Count, asserted_by}
use Rattle.operations.specs.Knowledge.{Knowledge, all_asserted, known_dots, names}
use Rattle.replica.specs.Steps.{SiteKnowledge}
use Rattle.sites_world.specs.Worlds.{Entry, World}

-- each operation of knowledge `k` is one of knowledge `h`
abbrev pub IsPartOf : Knowledge → Knowledge → Type 0
IsPartOf k h = (o : Operation) → Contains k o → Contains h o

-- the stamp of an operation that has one: an add or a write
abbrev pub stamp_of : Operation → Option Stamp
stamp_of (Add dot member stamp penalty pause label older) = Some stamp
stamp_of (Write dots setting stamp older) = Some stamp
stamp_of (Remove dots) = None
stamp_of (Count site queue calls total) = None

-- an operation shows that `site` made it: by its stamp, or by the site whose calls it counts; a remove shows no site
abbrev pub IsOf : ℕ → Operation → Type 0
IsOf site (Add dot member stamp penalty pause label older) = stamp.site ≡ site
IsOf site (Write dots setting stamp older) = stamp.site ≡ site
IsOf site (Remove dots) = ⊥
IsOf site (Count s queue calls total) = s ≡ site

-- an operation is the add that makes `dot`
abbrev pub Makes : Dot → Operation → Type 0
Makes dot (Add made member stamp penalty pause label older) = made ≡ dot
Makes dot (Write dots setting stamp older) = ⊥
Makes dot (Remove dots) = ⊥
Makes dot (Count site queue calls total) = ⊥

-- an add of knowledge `h` made `dot`, at the dot's site
pub record WasMade (h : Knowledge) (dot : Dot) : Type 0 where
  pub add : Operation
  pub is : Contains h add
  pub makes : Makes dot add
  pub at_site : IsOf dot.site add

-- the operations `h` are a history, made at `sites` sites with the queues of these names
pub record IsHistory (names_of_queues : List (List ℕ)) (sites : ℕ) (h : Knowledge) : Type 0 where
  -- a stamp belongs to one operation
  pub stamps : (o p : Operation) (stamp : Stamp) → Contains h o → Contains h p → stamp_of o ≡ Some stamp → stamp_of p ≡ Some stamp → o ≡ p
  -- each dot is of one member
  pub members : (dot : Dot) (m n : Member) → Contains (all_asserted h) (dot, m) → Contains (all_asserted h) (dot, n) → m ≡ n
  -- each dot that is asserted or named was made by an add at its site
  pub made : (dot : Dot) → set.contains (known_dots h) dot ≡ true → WasMade h dot
  -- each dot was made by one add alone
  pub adds : (o p : Operation) (dot : Dot) → Contains h o → Contains h p → Makes dot o → Makes dot p → o ≡ p
  -- each dot that is asserted or named is of one of the sites
  pub sites_are : (dot : Dot) → set.contains (known_dots h) dot ≡ true → dot.site < sites
  -- members are of queues in the list
  pub queues : (dot : Dot) (m : Member) → Contains (all_asserted h) (dot, m) → m.queue < length names_of_queues
  -- calls that are counted are of queues in the list
  pub counts : (site queue : ℕ) (calls : Calls) (total : ℕ) → Contains h (Count site queue calls total) → queue < length names_of_queues
  -- an operation that asserts a dot names all earlier dots of the dot's site that are of the same member
  pub older : (o : Operation) (dot earlier : Dot) (m : Member) → Contains h o → Contains (asserted_by o) (dot, m)
      → Contains (all_asserted h) (earlier, m) → earlier.site ≡ dot.site → earlier.count < dot.count → names earlier o ≡ true

-- `site`, which has the knowledge `s`, knows a part of history `h`, with every add, write and count
-- of its own, and its buffer is a part of what it knows
pub record IsSiteIn (h : Knowledge) (site : ℕ) (s : SiteKnowledge) : Type 0 where
  pub known : IsPartOf s.known h
  pub buffer : IsPartOf s.buffer s.known
  pub own : (o : Operation) → Contains h o → IsOf site o → Contains s.known o

-- some site of world `w` knows operation `o`
pub record IsKnown (w : World) (o : Operation) : Type 0 where
  pub site : ℕ
  pub knows : SiteKnowledge
  pub is : slice_get w.sites site ≡ Some knows
  pub known : Contains knows.known o

-- `h` is the history of world `w`, which is all that any site knows: each site knows a part of it,
-- with every add, write and count of its own, and each frame carries a part
pub record IsHistoryOf (names_of_queues : List (List ℕ)) (w : World) (h : Knowledge) : Type 0 where
  pub history : IsHistory names_of_queues (length w.sites) h
  pub sites : (site : ℕ) (s : SiteKnowledge) → slice_get w.sites site ≡ Some s → IsSiteIn h site s
  pub pool : (entry : Entry) → Contains w.pool entry → IsPartOf entry.carried h
  pub known : (o : Operation) → Contains h o → IsKnown w o

-- world `w` has a history: operations of which each is known to some site, each site knows a part
-- and each frame carries a part
pub record HasHistory (names_of_queues : List (List ℕ)) (w : World) : Type 0 where
  pub made : Knowledge
  pub is : IsHistoryOf names_of_queues w made

-- ---- the knowledges of a world

-- knowledge `k` is in world `w`: a site knows it, or has it in its buffer, or a frame carries it
pub data IsIn (w : World) (k : Knowledge) : Type 0 where
  Known : (site : ℕ) (s : SiteKnowledge) → slice_get w.sites site ≡ Some s → k ≡ s.known → IsIn w k
  Buffered : (site : ℕ) (s : SiteKnowledge) → slice_get w.sites site ≡ Some s → k ≡ s.buffer → IsIn w k
  Carried : (entry : Entry) → Contains w.pool entry → k ≡ entry.carried → IsIn w k
