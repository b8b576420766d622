-- Changes that a site may make: they are new to what it knows, and of its own last numbers.
use Rattle.std.specs.Prelude.{ℕ, suc, ◌≡◌, ◌⊎◌, ◌≤◌, true, Option, Some, None, length}
use Rattle.std.specs.FinSet as set
use Rattle.std.specs.declared.cmp.Ordering.TheVariants.{Less}
use Rattle.dots.specs.declared.limits.TheConstants.{MOST_COUNT}
use Rattle.dots.specs.declared.member.Member.{Member}
use Rattle.dots.specs.Values.{Dot}
use Rattle.operations.specs.Conditions.{Condition, DotFields, Live}
use Rattle.dots.specs.Orders.{stamp_cmp}
use Rattle.operations.specs.Registers.{Entry}
use Rattle.member_orset.specs.Members.{condition_of}
use Rattle.delta.specs.DeltaStates.{DeltaState}
use Rattle.replica.specs.Keeping.{AreInQueues, HasOwnStamps}
use Rattle.replica.specs.Site.{SiteState}

-- a register is newer than another: where both hold an entry, its stamp is greater, which `newer` has second
pub record IsNewer {T : Type 0} (older newer : Option (Entry T)) : Type 0 where
  pub less : (a b : Entry T) → older ≡ Some a → newer ≡ Some b → stamp_cmp a.stamp b.stamp ≡ Less

-- fields are newer than others, register by register
pub record FieldsNewer (older newer : DotFields) : Type 0 where
  pub penalty : IsNewer older.penalty newer.penalty
  pub pause : IsNewer older.pause newer.pause
  pub label : IsNewer older.label newer.label
  pub ring : IsNewer older.ring newer.ring

-- a condition is that of a dot that is live with this member, and with older fields
pub record IsOlder (condition : Option Condition) (m : Member) (f : DotFields) : Type 0 where
  pub fields : DotFields
  pub is : condition ≡ Some (Live m fields)
  pub newer : FieldsNewer fields f

-- a condition leaves room for another: where that is live, it is none, or live with the same member and older fields
abbrev pub LeavesRoom : Option Condition → Option Condition → Type 0
LeavesRoom c y = (m : Member) (f : DotFields) → y ≡ Some (Live m f) → (c ≡ None) ⊎ IsOlder c m f

-- a delta is new to another: that one doesn't have its live dots, or has them live with the same members and older fields
pub record IsNewTo (e x : DeltaState) : Type 0 where
  pub room : (dot : Dot) → LeavesRoom (condition_of e.members dot) (condition_of x.members dot)

-- the known dots of a site are of counts up to this one
pub record KnowsUpTo (site last : ℕ) (x : DeltaState) : Type 0 where
  pub counts : (count : ℕ) → 1 ≤ count → set.contains x.members.known (record { site = site; count = count }) ≡ true → count ≤ last

-- what is known of a site goes up to the last count, which stays, or to the next one, which is known and the last one then
abbrev pub KnowsNext : ℕ → ℕ → ℕ → DeltaState → Type 0
KnowsNext site last count x =
    ((count ≡ last) × KnowsUpTo site last x)
    ⊎ ((count ≡ suc last) × ((set.contains x.members.known (record { site = site; count = suc last }) ≡ true) × KnowsUpTo site (suc last) x))

-- A change of a site: it is new to the state and of queues in the list, what the site wrote in it is of times up to a new last one, and the site's own dots in it
-- are of counts up to a new last one.
pub record IsChangeOf (s : SiteState) (count time : ℕ) (x : DeltaState) : Type 0 where
  pub is_new : IsNewTo s.state x
  pub queues : AreInQueues (length s.names) x
  pub stamps : HasOwnStamps s.site time x
  pub later : s.last_time ≤ time
  pub times : time ≤ MOST_COUNT
  pub counts : count ≤ MOST_COUNT
  pub dots : KnowsNext s.site s.last_count count x
