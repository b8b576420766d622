-- What a queue shows of its members.
use Rattle.std.specs.Prelude.{ℕ, ◌≡◌, Bool, true, false, nat_eq, List, [], ◌∷◌, Option, Some, None, filter, if◌then◌else◌}
use Rattle.std.specs.Option.{option_map, option_map_or, option_and_then}
use Rattle.std.specs.List.{filter_map}
use Rattle.std.specs.FinSet as set
use Rattle.std.specs.Ordering.{eq_by_cmp}
use Rattle.dots.specs.declared.label.Label.{Label}
use Rattle.dots.specs.declared.member.Member.{Member}
use Rattle.dots.specs.Values.{Dot, PauseState}
use Rattle.dots.specs.Orders.{dot_cmp, member_cmp, text_cmp}
use Rattle.operations.specs.Registers.{Entry}
use Rattle.operations.specs.Knowledge.{Knowledge, visible_dots, member_of, latest_of}
use Rattle.operations.specs.Conditions.{DotFields, fields_in}
use Rattle.general_lemmas.specs.SetItems.{in_order}

-- what a queue shows of a member: penalty, whether it is paused and why, member name, state
-- interface and ring in use, each as it was set last
pub record MemberRow : Type 0 where
  pub penalty : ℕ
  pub paused : Bool
  pub reason : List ℕ
  pub name : List ℕ
  pub state : List ℕ
  pub ring : Bool

-- a dot view, of a knowledge or of a state that stands for one: the visible dots, and the member and fields of each
pub record DotView : Type 0 where
  pub visible : set.FinSet dot_cmp
  pub member : Dot → Option Member
  pub fields : Dot → DotFields

-- the dot view of knowledge `k`: its visible dots, and the member and fields of a dot by its operations
abbrev pub dot_view : Knowledge → DotView
dot_view k = record { visible = visible_dots k; member = member_of k; fields = fields_in k }

-- views `r` and `s` show alike: they have the same visible dots, with the same member and fields each; values for other dots may
-- differ
pub record ShowAlike (r s : DotView) : Type 0 where
  pub visible : r.visible ≡ s.visible
  pub member : (dot : Dot) → set.contains r.visible dot ≡ true → r.member dot ≡ s.member dot
  pub fields : (dot : Dot) → set.contains r.visible dot ≡ true → r.fields dot ≡ s.fields dot

-- whether view `r` gives `dot` the member `member`
abbrev pub is_of : DotView → Member → Dot → Bool
is_of r member dot = option_map_or (eq_by_cmp member_cmp member) (r.member dot) false

-- the visible dots of `member` in view `r`, in the order of dots: by site, then by count
abbrev pub dots_of : DotView → Member → List Dot
dots_of r member = filter (is_of r member) (in_order r.visible)

-- a field of `member` in view `r`: the entry of the greatest stamp over its visible dots, for equal stamps that of the least dot
abbrev pub member_field : {T : Type 0} → (Dot → Option (Entry T)) → DotView → Member → Option (Entry T)
member_field field r member = latest_of (filter_map field (dots_of r member))

-- the fields of `member` in view `r`: of each the entry of the greatest stamp over its visible dots
abbrev pub member_fields : DotView → Member → DotFields
member_fields r member = record {
  penalty = member_field (λ dot. (r.fields dot).penalty) r member;
  pause = member_field (λ dot. (r.fields dot).pause) r member;
  label = member_field (λ dot. (r.fields dot).label) r member;
  ring = member_field (λ dot. (r.fields dot).ring) r member;
}

-- the value of a register's entry, or `default` where the register is empty
abbrev pub value_or : {T : Type 0} → T → Option (Entry T) → T
value_or default None = default
value_or default (Some entry) = entry.value

-- the pause of a member of which none was set: it isn't paused, and has no reason
abbrev pub not_paused : PauseState
not_paused = record { paused = false; reason = [] }

-- the label of a member of which none was set: no member name, no state interface
abbrev pub no_label : Label
no_label = record { name = []; state = [] }

-- the row that fields show; a field that was never set has its default: penalty 0, not paused, no reason, no name, no state
-- interface, ring in use
abbrev pub row_of_fields : DotFields → MemberRow
row_of_fields fields =
    let p = value_or not_paused fields.pause in let l = value_or no_label fields.label in
    record { penalty = value_or 0 fields.penalty; paused = p.paused; reason = p.reason; name = l.name; state = l.state; ring = value_or true fields.ring }

-- `row` as the row of a member that has dots; `None` where the list of its dots is empty
abbrev pub row_if : List Dot → MemberRow → Option MemberRow
row_if [] row = None
row_if (dot ∷ dots) row = Some row

-- the row of `member` in view `r`, from the latest of each field; `None` where no dot of the member
-- is visible
abbrev pub row_of : DotView → Member → Option MemberRow
row_of r member = row_if (dots_of r member) (row_of_fields (member_fields r member))

-- the interface of `member`, where that is a member of `queue`
abbrev pub interface_in : ℕ → Member → Option (List ℕ)
interface_in queue member = if nat_eq queue member.queue then Some member.interface else None

-- the interfaces of the members of `queue` that have a visible dot in view `r`
unfoldable pub interfaces_of : DotView → ℕ → set.FinSet text_cmp
interfaces_of r queue = set.from_list (filter_map (λ dot. option_and_then (interface_in queue) (r.member dot)) (in_order r.visible))

-- the rows of `queue` in view `r`, each with its interface, in the order of the interfaces' bytes
abbrev pub rows_of : DotView → ℕ → List (List ℕ × MemberRow)
rows_of r queue = filter_map (λ interface. option_map (λ row. (interface, row)) (row_of r (record { queue = queue; interface = interface }))) (in_order (interfaces_of r queue))
