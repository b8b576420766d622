-- Rows: they depend on what a knowledge contains alone, and show the latest setting over a member's visible dots.
use Rattle.std.proofs.Common.{◌≡◌, ◌≢◌, true, false, List, [], ◌∷◌, Contains, Option, Some, None, IsSome, refl, sym, ap, subst, ◌∙◌, true≢false, is_some, arith}
use Rattle.std.specs.List.{filter_map}
use Rattle.std.specs.FinSet as set
use Rattle.std.specs.Option.{option_map_or}
use Rattle.std.specs.Ordering.{eq_by_cmp, is_eq}
use Rattle.std.specs.declared.cmp.Ordering.TheVariants.{Less}
use Rattle.std.proofs.lemmas.Cmp.{tied_itself}
use Rattle.dots.specs.declared.member.Member.{Member}
use Rattle.dots.specs.Values.{Dot}
use Rattle.dots.specs.Orders.{dot_cmp, member_cmp, stamp_cmp}
use Rattle.operations.specs.Registers.{Entry}
use Rattle.operations.specs.Operations.{Field}
use Rattle.operations.specs.Knowledge.{Knowledge, SameOperations, IsConsistent, IsFieldOf, visible_dots, member_of, field_of, settings_of}
use Rattle.operations.specs.Rows.{MemberRow, dot_view, is_of, dots_of, row_if, row_of, rows_of}
use Rattle.operations.specs.Shown.{ShowsLatest, ShowTheSame}
use Rattle.general_lemmas.specs.SetItems.{in_order}
use Rattle.dots.proofs.DotOrder.{dots_total, dots_exact}
use Rattle.dots.proofs.MemberOrder.{members_total}
use Rattle.general_lemmas.proofs.ItemOrder.{in_order_has}
use Rattle.general_lemmas.proofs.Membership.{some_in, in_some, in_any}
use Rattle.general_lemmas.proofs.Filters.{filter_has}
use Rattle.operations.proofs.VisibleLaws.{same_visible}
use Rattle.operations.proofs.FieldLaws.{latest_in, latest_some, latest_greatest, field_is, same_fields, same_member, same_stamp}
use Rattle.operations.proofs.CountLaws.{same_total, same_queue_total}
use Rattle.general_lemmas.proofs.TruthTables.{equal_of}

pub same_view : (k l : Knowledge) → IsConsistent k → SameOperations k l → dot_view k ≡ dot_view l
same_view k l ok same = λ i. record {
  visible = same_visible k l same i;
  member = λ dot. same_member k l dot same ok.members i;
  fields = λ dot. same_fields k l dot same ok i;
}

pub show_the_same : (k l : Knowledge) → IsConsistent k → SameOperations k l → ShowTheSame k l
show_the_same k l ok same = record {
  rows = λ queue. ap (λ r. rows_of r queue) (same_view k l ok same);
  site_totals = same_total k l same;
  queue_totals = same_queue_total k l same;
}

-- a visible dot is among the items of its set
item_has : (k : Knowledge) (dot : Dot) → set.contains (visible_dots k) dot ≡ true → Contains (in_order (visible_dots k)) dot
item_has k dot h =
    let one = in_any (eq_by_cmp dot_cmp dot) (in_order (visible_dots k)) (in_order_has dots_total (visible_dots k) dot ∙ h) in
    subst (Contains (in_order (visible_dots k))) (sym (dots_exact dot one.0 (equal_of (dot_cmp dot one.0) one.2))) one.1

-- a visible dot of a member is among its dots
pub dot_of : (k : Knowledge) (member : Member) (dot : Dot) → set.contains (visible_dots k) dot ≡ true → member_of k dot ≡ Some member → Contains (dots_of (dot_view k) member) dot
dot_of k member dot visible is =
    filter_has (is_of (dot_view k) member) (in_order (visible_dots k)) dot (item_has k dot visible)
    (ap (λ o. option_map_or (eq_by_cmp member_cmp member) o false) is ∙ ap is_eq (tied_itself members_total member))

row_some : (dots : List Dot) (row : MemberRow) (dot : Dot) → Contains dots dot → IsSome (row_if dots row)
row_some [] row dot h = absurd (omega (arith, h.1))
row_some (d ∷ ds) row dot h = refl

-- a member with a visible dot has a row
pub has_row : (k : Knowledge) (member : Member) (dot : Dot) → set.contains (visible_dots k) dot ≡ true → member_of k dot ≡ Some member → IsSome (row_of (dot_view k) member)
has_row k member dot visible is = row_some (dots_of (dot_view k) member) _ dot (dot_of k member dot visible is)

-- the field that is shown of a member is the latest of its visible dots
pub shows_latest : {T : Type 0} (field : Field T) (k : Knowledge) (member : Member) → ShowsLatest field k member
shows_latest {T} field k member entry h =
    let all = filter_map (field_of field k) (dots_of (dot_view k) member) in
    let source = in_some (field_of field k) (dots_of (dot_view k) member) entry (latest_in all entry h) in
    ((source.0, source.1, field_is field k source.0 entry source.2), λ dot e here is. by dot e here is (field_of field k dot) refl (latest_some (settings_of field k dot) e is.given))
  where
    by : (dot : Dot) (e : Entry T) → Contains (dots_of (dot_view k) member) dot → IsFieldOf field k dot e → (o : Option (Entry T)) → field_of field k dot ≡ o → IsSome (field_of field k dot) → stamp_cmp entry.stamp e.stamp ≢ Less
    by dot e here is None q some = absurd (true≢false (sym some ∙ ap is_some q))
    by dot e here is (Some f) q some =
        let computed = field_is field k dot f q in
        let stamps = same_stamp f.stamp e.stamp (computed.latest e is.given) (is.latest f computed.given) in
        subst (λ s. stamp_cmp entry.stamp s ≢ Less) stamps
        (latest_greatest (filter_map (field_of field k) (dots_of (dot_view k) member)) entry f h (some_in (field_of field k) (dots_of (dot_view k) member) dot f here q))
