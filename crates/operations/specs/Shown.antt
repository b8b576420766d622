-- Properties of what a knowledge shows, in statements that name no computation.
use Rattle.std.specs.Prelude.{ℕ, ◌≡◌, ◌≢◌, ◌≤◌, ◌↔◌, ◌⊎◌, true, false, Some, None, IsSome, Contains}
use Rattle.std.specs.FinSet as set
use Rattle.std.specs.declared.cmp.Ordering.TheVariants.{Less}
use Rattle.dots.specs.declared.calls.Calls.{Calls}
use Rattle.dots.specs.declared.member.Member.{Member}
use Rattle.dots.specs.Values.{Dot}
use Rattle.dots.specs.Orders.{dot_cmp, stamp_cmp}
use Rattle.operations.specs.Registers.{Entry}
use Rattle.operations.specs.Operations.{Operation, Field, penalty_field, pause_field, label_field, ring_field}
use Rattle.operations.specs.Knowledge.{Knowledge, IsFieldOf, asserts, names, settings_of, field_of, visible_dots, member_of}
use Rattle.operations.specs.Rows.{MemberRow, dot_view, dots_of, member_field, rows_of, value_or, not_paused, no_label}
use Rattle.operations.specs.Counts.{count_in, site_total, queue_total}

-- some operation of knowledge `k` asserts `dot`, and none names it (RR-8083)
pub record IsVisible (k : Knowledge) (dot : Dot) : Type 0 where
  pub asserted : (o : Operation) × Contains k o × (asserts dot o ≡ true)
  pub unnamed : (o : Operation) → Contains k o → names dot o ≡ false

-- the field of `dot` that is computed from knowledge `k` is the latest setting, and there is one
-- exactly where some operation that asserts the dot sets the field
pub record IsComputed {T : Type 0} (field : Field T) (k : Knowledge) (dot : Dot) : Type 0 where
  pub latest : (entry : Entry T) → field_of field k dot ≡ Some entry → IsFieldOf field k dot entry
  pub there : IsSome (field_of field k dot) ↔ ((entry : Entry T) × Contains (settings_of field k dot) entry)

-- a dot of `member` is visible in knowledge `k`
pub record HasVisibleDot (k : Knowledge) (member : Member) : Type 0 where
  pub dot : Dot
  pub visible : set.contains (visible_dots k) dot ≡ true
  pub of_member : member_of k dot ≡ Some member

-- knowledge `k` shows `entry` as a field of `member`: one of its visible dots has it, none of these has one under a greater stamp,
-- and none that is a lesser dot has one under the same stamp
pub record IsShown {T : Type 0} (field : Field T) (k : Knowledge) (member : Member) (entry : Entry T) : Type 0 where
  pub dot : Dot
  pub is_own : Contains (dots_of (dot_view k) member) dot
  pub is_its_field : field_of field k dot ≡ Some entry
  pub none_later : (d : Dot) (e : Entry T) → Contains (dots_of (dot_view k) member) d → field_of field k d ≡ Some e → stamp_cmp entry.stamp e.stamp ≢ Less
  pub none_lesser : (d : Dot) (e : Entry T) → Contains (dots_of (dot_view k) member) d → field_of field k d ≡ Some e → e.stamp ≡ entry.stamp → dot_cmp d dot ≢ Less

-- a field of `member` that is computed from knowledge `k` is what `k` shows of it, and is `None`
-- exactly where no visible dot of the member has the field
pub record ShowsField {T : Type 0} (field : Field T) (k : Knowledge) (member : Member) : Type 0 where
  pub shown : (entry : Entry T) → member_field (field_of field k) (dot_view k) member ≡ Some entry → IsShown field k member entry
  pub unset : (member_field (field_of field k) (dot_view k) member ≡ None) ↔ ((d : Dot) → Contains (dots_of (dot_view k) member) d → field_of field k d ≡ None)

-- each value of `row` is what is computed of that field of `member` from knowledge `k`, or the
-- field's default where none of the member's visible dots has it
pub record HasValues (k : Knowledge) (member : Member) (row : MemberRow) : Type 0 where
  pub penalty : row.penalty ≡ value_or 0 (member_field (field_of penalty_field k) (dot_view k) member)
  pub paused : row.paused ≡ (value_or not_paused (member_field (field_of pause_field k) (dot_view k) member)).paused
  pub reason : row.reason ≡ (value_or not_paused (member_field (field_of pause_field k) (dot_view k) member)).reason
  pub name : row.name ≡ (value_or no_label (member_field (field_of label_field k) (dot_view k) member)).name
  pub state : row.state ≡ (value_or no_label (member_field (field_of label_field k) (dot_view k) member)).state
  pub ring : row.ring ≡ value_or true (member_field (field_of ring_field k) (dot_view k) member)

-- `total` is the greatest number of the calls `calls` that an operation of knowledge `k` says that
-- `site` has counted in `queue`, or 0
pub record IsGreatestCount (k : Knowledge) (site queue : ℕ) (calls : Calls) (total : ℕ) : Type 0 where
  pub is_one : (total ≡ 0) ⊎ ((o : Operation) × Contains k o × (count_in site queue calls o ≡ total))
  pub at_least : (o : Operation) → Contains k o → count_in site queue calls o ≤ total

-- the field of `member` that knowledge `k` shows, if any, is that of one of its visible dots, and
-- none of these has one under a greater stamp
abbrev pub ShowsLatest : {T : Type 0} → Field T → Knowledge → Member → Type 0
ShowsLatest {T} field k member = (entry : Entry T) → member_field (field_of field k) (dot_view k) member ≡ Some entry
    → ((dot : Dot) × Contains (dots_of (dot_view k) member) dot × IsFieldOf field k dot entry)
    × ((dot : Dot) (e : Entry T) → Contains (dots_of (dot_view k) member) dot → IsFieldOf field k dot e → stamp_cmp entry.stamp e.stamp ≢ Less)

-- knowledges `k` and `l` show the same rows of each queue, and the same totals of each site and of
-- each queue
pub record ShowTheSame (k l : Knowledge) : Type 0 where
  pub rows : (queue : ℕ) → rows_of (dot_view k) queue ≡ rows_of (dot_view l) queue
  pub site_totals : (site queue : ℕ) (calls : Calls) → site_total k site queue calls ≡ site_total l site queue calls
  pub queue_totals : (queue : ℕ) (calls : Calls) → queue_total k queue calls ≡ queue_total l queue calls
